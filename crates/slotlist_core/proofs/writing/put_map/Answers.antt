use Rattle.slotlist_core.proofs.Pages.{map_short, map_text_lem}
use Rattle.slotlist_core.proofs.writing.put_map.Goals as goal

pub returns-then-min-count : goal.returns-then-min-count
returns-then-min-count c = search map_short

pub returns : goal.returns
returns c = search map_text_lem
