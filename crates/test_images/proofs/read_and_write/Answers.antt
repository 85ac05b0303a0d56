use native.Mathlib.Omega.{arith}
use Rattle.image_rule.proofs.Fitting.{wide_fit}
use borrow.Author.Rules.{rules}
use Rattle.test_images.proofs.read_and_write.Goals as goal

pub load-requires : goal.load-requires
load-requires c = (search rules, search wide_fit, (omega arith, omega arith, omega arith), omega arith)
