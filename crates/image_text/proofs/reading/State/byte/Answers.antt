use Rattle.image_text.proofs.Arms.{byte_refused, byte_item, byte_more}
use Rattle.image_text.proofs.reading.State.byte.Goals as goal

pub returns-then-b-end_of : goal.returns-then-b-end_of
returns-then-b-end_of c = search byte_item

pub returns-else-b-end_of : goal.returns-else-b-end_of
returns-else-b-end_of c = search byte_more

pub returns-else-is_ok : goal.returns-else-is_ok
returns-else-is_ok c = search byte_refused
