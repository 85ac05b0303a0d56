use Prim.Native.Nat.{◌^◌, ◌<◌}
use native.Mathlib.Omega.{arith}
use Rattle.lines.proofs.Numbers.{number_is}
use Rattle.lines.proofs.output.put_number.Goals as goal

pub returns : goal.returns
returns c = let h : c.args.x < 10 ^ 20 = omega arith in search number_is
