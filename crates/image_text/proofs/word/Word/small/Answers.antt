use Rattle.image_text.proofs.Arms.{small_under, small_over, small_none}
use Rattle.image_text.proofs.word.Word.small.Goals as goal

pub returns-in_err-v : goal.returns-in_err-v
returns-in_err-v c = search (small_none, c.in_err-v.was)

pub returns-then-v-lt-U : goal.returns-then-v-lt-U
returns-then-v-lt-U c = search (small_under, c.in_ok-v.was)

pub returns-else-v-lt-U : goal.returns-else-v-lt-U
returns-else-v-lt-U c = search (small_over, c.in_ok-v.was)
