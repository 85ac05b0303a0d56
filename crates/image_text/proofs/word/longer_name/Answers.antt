use Rattle.image_text.proofs.Arms.{name_on, name_off}
use Rattle.image_text.proofs.word.longer_name.Goals as goal

pub returns-then-name-lt72057594037927936 : goal.returns-then-name-lt72057594037927936
returns-then-name-lt72057594037927936 c = search name_on

pub returns-else-name-lt72057594037927936 : goal.returns-else-name-lt72057594037927936
returns-else-name-lt72057594037927936 c = search name_off
