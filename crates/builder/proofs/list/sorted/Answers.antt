use native.Mathlib.Omega.{arith}
use Rattle.builder.proofs.Tests.{sorted_start, every_on, every_not, every_end}
use Rattle.builder.proofs.list.sorted.Goals as goal

pub loop-k-init : goal.loop-k-init
loop-k-init c = search sorted_start

pub loop-k-preserved : goal.loop-k-preserved
loop-k-preserved c = every_on _ _ _ _ _ c.loop-k.invariant (omega arith) c.in_order.ensures c.if-not-in_order.false

pub returns-then-not-in_order : goal.returns-then-not-in_order
returns-then-not-in_order c = every_not _ _ _ _ _ c.loop-k.invariant (omega arith) c.in_order.ensures c.if-not-in_order.true

pub returns : goal.returns
returns c = every_end _ _ _ _ c.loop-k.invariant (omega arith)
