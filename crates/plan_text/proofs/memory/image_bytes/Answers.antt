use mathlib.Core.Path.{sym, refl}
use Prim.Native.Nat.{ℕ}
use lib.ListN.{length-replicate}
use Rattle.plan_text.proofs.memory.image_bytes.Goals as goal

pub returns : goal.returns
returns c = (refl, sym (length-replicate {A = ℕ} 2367497 0))
