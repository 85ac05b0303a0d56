use mathlib.Core.Path.{◌∙◌}
use Rattle.little.proofs.Laws.{stored, four_digits}
use Rattle.little.proofs.put_u32.Goals as goal

pub returns : goal.returns
returns c = stored _ _ _ 4 _ (c.copy_from_slice.ensures.after ∙ c.to_le_bytes.ensures ∙ four_digits c.args.v) c.requires
