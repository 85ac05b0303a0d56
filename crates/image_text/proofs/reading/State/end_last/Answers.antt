use Rattle.image_text.proofs.Arms.{last_new, last_word}
use Rattle.image_text.proofs.reading.State.end_last.Goals as goal

pub returns-then-not-is_new : goal.returns-then-not-is_new
returns-then-not-is_new c = search last_word

pub returns-else-not-is_new : goal.returns-else-not-is_new
returns-else-not-is_new c = search last_new
