use Rattle.tree_in.proofs.repair.recolour.Goals as goal

pub returns : goal.returns
returns c = rw (c.set_red.ensures, c.set_black-2.ensures, c.set_black.ensures)
