use Rattle.image_text.specs.Words.{word_byte}
use Rattle.lines.proofs.Laws.{number_found, number_missing}
use Rattle.image_text.proofs.word.Word.byte.Goals as goal

pub returns-in-Some : goal.returns-in-Some
unfolding word_byte
returns-in-Some c = search number_found

pub returns-in-None : goal.returns-in-None
unfolding word_byte
returns-in-None c = search number_missing
