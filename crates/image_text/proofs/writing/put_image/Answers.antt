use Rattle.image_text.proofs.Judged.{number_laid, number_count}
use Rattle.image_text.proofs.Pages.{image_shown, image_refused}
use Rattle.image_text.proofs.writing.put_image.Goals as goal

pub put_map-requires : goal.put_map-requires
put_map-requires c = (search number_laid, search number_count)

pub returns-in-Ok : goal.returns-in-Ok
returns-in-Ok c = search image_shown

pub returns-in-Err : goal.returns-in-Err
returns-in-Err c = search image_refused
