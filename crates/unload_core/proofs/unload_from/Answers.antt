use mathlib.Core.Path.{◌≡◌}
use native.Mathlib.Omega.{arith}
use borrow.Author.Rules.{rules}
use Prim.Native.Nat.{◌+◌, ◌-◌}
use Rattle.unload_rule.specs.Unload.{unload_rule_lem}
use Rattle.unload_core.proofs.Laws.{over_store, over_count, none_store, none_count, one_store, one_count}
use Rattle.unload_core.proofs.unload_from.Goals as goal

pub loop-gone-init : goal.loop-gone-init
unfolding unload_rule_lem
loop-gone-init c = search rules

pub returns-then-left-slot : goal.returns-then-left-slot
unfolding unload_rule_lem
returns-then-left-slot c = (search none_store, search none_count)

pub loop-gone-preserved : goal.loop-gone-preserved
unfolding unload_rule_lem
loop-gone-preserved c =
    let n = c.args.count in
    let i = c.loop-gone.gone in
    let e : n - (i + 1) ≡ n - i - 1 = omega arith in (
      rw e (one_store _ _ _ _ _ _ c.first_met-slot.ensures c.if-left-slot.false _ _ _ c.without-at.ensures _ c.loop-gone.invariant.0),
      rw e (one_count _ _ _ _ _ _ c.first_met-slot.ensures c.if-left-slot.false _ _ _ c.without-at.ensures _ c.loop-gone.invariant.1),
      omega arith,
      omega arith,
    )

pub returns : goal.returns
unfolding unload_rule_lem
returns c = (search (rules, over_store), search (rules, over_count))
