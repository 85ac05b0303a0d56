use mathlib.Core.Bool.{true}
use native.Mathlib.Omega.{arith}
use Rattle.words.proofs.Layouts.{slot_fits, none_fits}
use borrow.Author.Rules.{rules}
use Rattle.test_limits.proofs.before.Goals as goal

pub returns-then-k-eq0 : goal.returns-then-k-eq0
returns-then-k-eq0 c = none_fits true

pub returns-else-k-eq0 : goal.returns-else-k-eq0
returns-else-k-eq0 c = slot_fits true _ (omega arith)
