use mathlib.Core.Path.{◌∙◌}
use Rattle.little.proofs.Laws.{stored, eight_digits}
use Rattle.little.proofs.put_u64.Goals as goal

pub returns : goal.returns
returns c = stored _ _ _ 8 _ (c.copy_from_slice.ensures.after ∙ c.to_le_bytes.ensures ∙ eight_digits c.args.v) c.requires
