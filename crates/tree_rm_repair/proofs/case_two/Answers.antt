use mathlib.Core.Path.{refl}
use Rattle.tree_rm_repair.proofs.case_two.Goals as goal

pub returns : goal.returns
returns c = (rw (c.rotate_two-top.ensures.0, c.rotate_two-top.ensures.1, c.set_black.ensures, c.set_red.ensures), refl)
