use Rattle.lines.proofs.Laws.{number_found, number_missing}
use Rattle.image_text.proofs.word.longer_number.Goals as goal

pub returns-in-Some : goal.returns-in-Some
returns-in-Some c = search number_found

pub returns-in-None : goal.returns-in-None
returns-in-None c = search number_missing
