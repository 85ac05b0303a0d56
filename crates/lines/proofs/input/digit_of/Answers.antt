use Rattle.std.proofs.lemmas.Bool.Decides.{nat_tests}
use native.Mathlib.Omega.{arith}
use Rattle.lines.specs.Input.{digit_of_lem}
use Rattle.lines.proofs.input.digit_of.Goals as goal

pub returns-then-is_ascii_digit : goal.returns-then-is_ascii_digit
unfolding digit_of_lem
returns-then-is_ascii_digit c = grind (arith, nat_tests)

pub returns-else-is_ascii_digit : goal.returns-else-is_ascii_digit
unfolding digit_of_lem
returns-else-is_ascii_digit c = grind (arith, nat_tests)
