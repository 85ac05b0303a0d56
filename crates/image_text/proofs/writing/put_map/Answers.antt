use Rattle.image.proofs.Layouts.{bodies}
use Rattle.image_text.proofs.Pages.{map_is}
use Rattle.image_text.proofs.writing.put_map.Goals as goal

pub put_rows-requires : goal.put_rows-requires
put_rows-requires c = search bodies

pub returns : goal.returns
returns c = search map_is
