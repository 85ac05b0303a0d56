use Rattle.words.specs.Layouts.{as_eight}
use Rattle.iter.proofs.Small.{Small, eight_small}
use Rattle.iter.proofs.Plain.{drain_same, filled_same}
use native.Mathlib.Omega.{arith}
use Rattle.iter.proofs.Cursor.drain.Goals as goal

pub returns : goal.returns
returns c = let args = c.args in
    let eight = as_eight args.narrow args.nodes.now in
    let small : Small eight = eight_small args.narrow args.nodes.now (λ i. omega (arith, c.shared_slice_known-1.given i)) in
    (search (drain_same eight small), search (filled_same eight small))
