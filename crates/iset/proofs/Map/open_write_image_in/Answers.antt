use Rattle.iset.proofs.Images.{image_written}
use Rattle.iset.proofs.Map.open_write_image_in.Goals as goal

pub returns : goal.returns
returns c = let w = c.in_ok-test_write.ensures in search image_written
