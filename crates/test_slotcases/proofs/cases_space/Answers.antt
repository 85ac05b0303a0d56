use mathlib.Core.Path.{sym}
use Prim.Native.Nat.{ℕ}
use lib.ListN.{length-replicate}
use Rattle.test_slotcases.proofs.cases_space.Goals as goal

pub returns : goal.returns
returns c = sym (length-replicate {A = ℕ} 131072 0)
