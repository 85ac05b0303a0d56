use native.Mathlib.Omega.{arith}
use Rattle.words.specs.Layouts.{as_eight}
use Rattle.words.proofs.Laws.{slot_live}
use Rattle.iter.proofs.Small.{Small, eight_small}
use Rattle.fast.proofs.Begins.{has_end, has_start, overlap_none, overlap_void, overlap_done}
use Rattle.fast.proofs.find_overlap.Goals as goal

pub returns-in_default : goal.returns-in_default
returns-in_default c = search overlap_none

pub returns-then-has_no_end-has_no_start : goal.returns-then-has_no_end-has_no_start
returns-then-has_no_end-has_no_start c = let args = c.args in
    let eight = as_eight args.narrow args.nodes.now in
    let small : Small eight = eight_small args.narrow args.nodes.now (λ i. omega (arith, c.shared_slice_known-1.given i)) in
    search (overlap_void eight small)

pub least_end-requires : goal.least_end-requires
least_end-requires c = search has_end

pub last_start-requires : goal.last_start-requires
last_start-requires c = search has_start

pub find_down-requires : goal.find_down-requires
find_down-requires c = (omega arith, search slot_live, (omega arith, omega arith))

pub returns : goal.returns
returns c = let args = c.args in
    let eight = as_eight args.narrow args.nodes.now in
    let small : Small eight = eight_small args.narrow args.nodes.now (λ i. omega (arith, c.shared_slice_known-1.given i)) in
    search (overlap_done eight small)
