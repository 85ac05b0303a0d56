use Rattle.image.proofs.judge.join.Goals as goal

pub returns : goal.returns
returns c = rw (c.combine.ensures, c.extend-hull.ensures, c.extend.ensures)
