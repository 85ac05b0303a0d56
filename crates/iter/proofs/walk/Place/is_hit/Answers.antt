use Prim.Native.Nat.{◌<◌}
use native.Mathlib.Omega.{arith}
use Rattle.iter.specs.Walk.{hits}
use Rattle.iter.proofs.Laws.{is_live, hit_on, hit_off}
use Rattle.iter.proofs.walk.Place.is_hit.Goals as goal

pub seeks-requires : goal.seeks-requires
unfolding hits
seeks-requires g c = let live : c.args.self.cursor.slot < c.args.count = search is_live in omega arith

pub returns-then-is_in : goal.returns-then-is_in
unfolding hits
returns-then-is_in g c = search hit_on

pub returns-else-is_in : goal.returns-else-is_in
unfolding hits
returns-else-is_in g c = search hit_off
