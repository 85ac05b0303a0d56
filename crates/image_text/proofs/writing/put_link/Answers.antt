use Rattle.image_text.proofs.Pages.{link_none, link_some}
use Rattle.image_text.proofs.writing.put_link.Goals as goal

pub returns-then-link-eq-U : goal.returns-then-link-eq-U
returns-then-link-eq-U c = search link_none

pub returns-else-link-eq-U : goal.returns-else-link-eq-U
returns-else-link-eq-U c = search link_some
