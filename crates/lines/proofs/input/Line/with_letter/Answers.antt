use Rattle.lines.specs.Input.{with_letter_lem}
use Rattle.std.proofs.lemmas.Bool.Decides.{nat_tests}
use native.Mathlib.Omega.{arith}
use Rattle.lines.proofs.Laws.{past_end}
use Rattle.words.proofs.Laws.{missing}
use borrow.Author.Rules.{rules}
use Rattle.lines.proofs.input.Line.with_letter.Goals as goal

pub returns-then-name-n : goal.returns-then-name-n
unfolding with_letter_lem
returns-then-name-n c = (search missing, search past_end)

pub returns : goal.returns
unfolding with_letter_lem
returns c = (grind (arith, nat_tests), search rules)
