use Rattle.image_text.specs.Words.{link_said}
use Rattle.words.proofs.Tests.{picked, passed}
use Rattle.image_text.proofs.word.Word.link.Goals as goal

pub returns-then-is_name : goal.returns-then-is_name
unfolding link_said
returns-then-is_name c = search picked

pub returns-else-is_name : goal.returns-else-is_name
unfolding link_said
returns-else-is_name c = search passed
