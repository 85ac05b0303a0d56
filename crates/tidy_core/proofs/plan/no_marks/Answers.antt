use mathlib.Core.Path.{sym, refl}
use Prim.Native.Nat.{ℕ}
use lib.ListN.{length-replicate}
use Rattle.tidy_core.proofs.plan.no_marks.Goals as goal

pub returns : goal.returns
returns c = (refl, sym (length-replicate {A = ℕ} 8192 0))
