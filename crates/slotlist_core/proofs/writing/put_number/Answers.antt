use Prim.Native.Nat.{◌^◌, ◌<◌}
use native.Mathlib.Omega.{arith}
use Rattle.slotlist_core.proofs.Pages.{number_put}
use Rattle.slotlist_core.proofs.writing.put_number.Goals as goal

pub returns : goal.returns
returns c = let h : c.args.n < 10 ^ 20 = omega arith in search number_put
