use Rattle.image_text.specs.Text.{links_text}
use Rattle.image_text.proofs.Pages.{in_three}
use Rattle.image_text.proofs.writing.put_links.Goals as goal

pub returns : goal.returns
unfolding links_text
returns c = search in_three
