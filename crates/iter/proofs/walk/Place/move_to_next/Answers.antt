use native.Mathlib.Nat.{sub-zero}
use Rattle.iter.proofs.Laws.{levelled, state_known}
use Rattle.iter.proofs.Moves.{place_placed, place_known, seek_out, seek_hit, seek_on, seek_none, hit_told, end_told}
use native.Mathlib.Omega.{arith}
use borrow.Author.Rules.{rules}
use Rattle.iter.proofs.walk.Place.move_to_next.Goals as goal

pub loop-init : goal.loop-init
loop-init g c = (rw sub-zero, search rules, search rules, omega arith)

pub returns-then-count-place : goal.returns-then-count-place
returns-then-count-place g c = (search seek_out, search end_told)

pub walk-next-requires : goal.walk-next-requires
walk-next-requires g c = (omega arith, omega arith, search levelled, search state_known)

pub is_hit-requires : goal.is_hit-requires
is_hit-requires g c = (omega arith, search place_known)

pub returns-then-is_hit : goal.returns-then-is_hit
returns-then-is_hit g c = (
  seek_hit _ _ _ _ _ _ _ c.loop.invariant.0 _ _ (omega arith) (omega arith) c.walk-next.ensures c.is_hit.ensures c.if-is_hit.true,
  search hit_told,
)

pub counted-entered-requires : goal.counted-entered-requires
counted-entered-requires g c = search place_known

pub loop-preserved : goal.loop-preserved
loop-preserved g c = (
  seek_on _ _ _ _ _ _ _ c.loop.invariant.0 _ _
      (omega arith) (omega arith) c.walk-next.ensures c.is_hit.ensures _ _ c.if-is_hit.false c.counted-entered.ensures.0 (omega arith),
  place_placed _ _ _ _ (omega arith) (c.loop.invariant.1 (omega arith)) _ c.walk-next.ensures,
  place_known _ _ _ _ _ c.walk-next.ensures,
  omega arith,
)

pub returns : goal.returns
returns g c = (seek_none _ _ _ _ _ _ _ c.loop.invariant.0 (omega arith), search end_told)
