use Rattle.slotlist_core.proofs.Pages.{byte_fits, byte_full}
use Rattle.slotlist_core.proofs.writing.put_byte.Goals as goal

pub returns-then-at-out : goal.returns-then-at-out
returns-then-at-out c = search byte_fits

pub returns : goal.returns
returns c = search byte_full
