use native.Mathlib.Omega.{arith}
use Rattle.test_images.proofs.Laws.{said}
use Rattle.test_images.proofs.read.Goals as goal

pub count_in-requires : goal.count_in-requires
count_in-requires c = search said

pub judge-requires : goal.judge-requires
judge-requires c = (search said, omega arith)

pub read_and_write-requires : goal.read_and_write-requires
read_and_write-requires c = (search said, (omega arith, omega arith, omega arith), omega arith)
