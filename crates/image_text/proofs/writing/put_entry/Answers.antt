use Rattle.image_text.specs.Text.{entry_text}
use Rattle.image_text.proofs.Pages.{in_four}
use Rattle.image_text.proofs.writing.put_entry.Goals as goal

pub returns : goal.returns
unfolding entry_text
returns c = search in_four
