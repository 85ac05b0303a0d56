use Rattle.image.proofs.stored.entry_in.Goals as goal

pub returns : goal.returns
returns c = rw (← c.u64_at.ensures, ← c.u64_at-2.ensures, ← c.u64_at-3.ensures)
