use native.Mathlib.Omega.{arith}
use lib.ListN.{length-take}
use borrow.Author.Rules.{rules}
use Rattle.imagetext.proofs.print.Goals as goal

pub slice_bounds-put_image-end : goal.slice_bounds-put_image-end
slice_bounds-put_image-end c = simp length-take (omega arith)
