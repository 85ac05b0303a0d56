use mathlib.Core.Bool.{true}
use native.Mathlib.Omega.{arith}
use Rattle.words.proofs.Layouts.{slot_fits, none_fits}
use borrow.Author.Rules.{rules}
use Rattle.test_limits.proofs.next_of.Goals as goal

pub returns-then-n-k-lt2 : goal.returns-then-n-k-lt2
returns-then-n-k-lt2 c = none_fits true

pub returns-else-n-k-lt2 : goal.returns-else-n-k-lt2
returns-else-n-k-lt2 c = slot_fits true _ (omega arith)
