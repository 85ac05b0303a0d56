use borrow.Author.Tests.{le-leb}
use native.Mathlib.Omega.{arith}
use Rattle.iter.specs.Ranges.{last}
use Rattle.iter.proofs.ranges.admits_address.Goals as goal

pub returns : goal.returns
returns c = rw (le-leb c.args.x last (omega arith)) c.admits_start.ensures
