use Rattle.iter.specs.Walk.{enters}
use Rattle.words.proofs.Tests.{picked, passed}
use native.Mathlib.Omega.{arith}
use Rattle.iter.proofs.walk.Place.counted.Goals as goal

pub returns-then-is_in : goal.returns-then-is_in
unfolding enters
returns-then-is_in c = (search picked, omega arith)

pub returns-else-is_in : goal.returns-else-is_in
unfolding enters
returns-else-is_in c = (search passed, omega arith)
