use Rattle.iter.proofs.limits.Limits.new.Goals as goal

pub returns : goal.returns
returns c = rw (
  c.low_of.ensures,
  c.low_of-2.ensures,
  c.is_below.ensures,
  c.top_of.ensures,
  c.is_above.ensures,
)
