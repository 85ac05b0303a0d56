use Rattle.image_text.proofs.Pages.{colour_red, colour_black}
use Rattle.image_text.proofs.writing.put_colour.Goals as goal

pub returns-then-red : goal.returns-then-red
returns-then-red c = search colour_red

pub returns-else-red : goal.returns-else-red
returns-else-red c = search colour_black
