use mathlib.Core.Path.{refl}
use lib.ListN.{length-set}
use Rattle.iter.proofs.Moves.{step_placed}
use Rattle.iter.proofs.Totals.{drain_total}
use Rattle.iter.proofs.Fills.{drain_begin, drain_fits, stop_summary, stop_filled, drain_on, drop_on, full_summary, full_filled}
use native.Mathlib.Omega.{arith}
use borrow.Author.Rules.{rules}
use Rattle.iter.proofs.Cursor.drain_by.Goals as goal

pub loop-hits-init : goal.loop-hits-init
loop-hits-init c = (search drain_begin, search rules, omega arith, refl, refl)

pub step-step-requires : goal.step-step-requires
step-step-requires c = (omega arith, omega arith, search rules)

pub overflow_add-entered : goal.overflow_add-entered
overflow_add-entered c = search (drain_fits, drain_total)

pub returns-in_default : goal.returns-in_default
returns-in_default c = (search stop_summary, search stop_filled)

pub loop-hits-preserved : goal.loop-hits-preserved
loop-hits-preserved c = (
  drain_on _ _ _ _ _ _ _ _ _ c.loop-hits.invariant.0 _ (omega arith)
      c.step-step.ensures.0 c.step-step.ensures.1 _ c.entered-entered.ensures _ _ c.in-Hit.is (omega arith),
  search step_placed,
  omega arith,
  search drop_on,
  simp length-set (omega arith),
)

pub returns : goal.returns
returns c = (search full_summary, search full_filled)
