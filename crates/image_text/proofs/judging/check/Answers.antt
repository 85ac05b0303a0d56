use Rattle.image_text.proofs.Judged.{number_many, number_few, number_other}
use Rattle.image_text.proofs.judging.check.Goals as goal

pub returns-then-count_in-gt65535 : goal.returns-then-count_in-gt65535
returns-then-count_in-gt65535 c = search number_many

pub returns-else-count_in-gt65535 : goal.returns-else-count_in-gt65535
returns-else-count_in-gt65535 c = search number_few

pub returns-else-has_layout : goal.returns-else-has_layout
returns-else-has_layout c = search number_other
