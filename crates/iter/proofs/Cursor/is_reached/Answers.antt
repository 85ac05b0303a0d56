use Rattle.iter.proofs.Cursor.is_reached.Goals as goal

pub returns : goal.returns
returns c = rw (← c.from_level.ensures, ← c.is_way.ensures)
