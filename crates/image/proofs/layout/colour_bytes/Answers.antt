use native.Mathlib.Omega.{arith}
use mathlib.Core.Path.{refl}
use Rattle.bitvec.specs.Calls.{bytes_for}
use Rattle.image.proofs.layout.colour_bytes.Goals as goal

pub returns : goal.returns
unfolding bytes_for
returns c = (refl, omega arith)
