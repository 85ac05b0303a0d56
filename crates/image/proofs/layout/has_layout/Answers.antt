use Rattle.image.proofs.Layouts.{layout_short, layout_long}
use Rattle.image.proofs.layout.has_layout.Goals as goal

pub returns-then-image-lt44 : goal.returns-then-image-lt44
returns-then-image-lt44 c = search layout_short

pub returns-else-image-lt44 : goal.returns-else-image-lt44
returns-else-image-lt44 c = search layout_long
