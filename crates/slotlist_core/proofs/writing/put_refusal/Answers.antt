use Rattle.slotlist_core.proofs.Pages.{refusal_is}
use Rattle.slotlist_core.proofs.writing.put_refusal.Goals as goal

pub returns : goal.returns
returns c = search refusal_is
