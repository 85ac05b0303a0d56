use Rattle.audit.proofs.is_fit.Goals as goal

pub returns : goal.returns
returns c = rw (c.is_coloured.ensures, c.is_hulled-hull.ensures, c.is_ordered-order.ensures)
