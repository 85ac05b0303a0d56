use native.Mathlib.Omega.{arith}
use Rattle.image.proofs.Layouts.{laid_long}
use Rattle.image.proofs.layout.root_in.Goals as goal

pub u32_at-requires : goal.u32_at-requires
u32_at-requires c = omega (arith, laid_long)
