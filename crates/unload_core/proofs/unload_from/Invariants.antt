use mathlib.Core.Path.{◌≡◌}
use Prim.Native.Nat.{◌-◌}
use lib.ListN.{length}
use Rattle.words.specs.Layouts.{as_eight}
use Rattle.tree_edit.specs.Store.{store}
use Rattle.unload_rule.specs.Sweep.{sweep}
use Rattle.unload_rule.specs.Unload.{unload_rule_lem}
use Rattle.first_rule.specs.First.{first_in}
use Rattle.unload_core.proofs.unload_from.Given as goal

abbrev pub invariant-loop-gone : goal.invariant-loop-gone
invariant-loop-gone l =
    ((unload_rule_lem (as_eight l.narrow l.initial.nodes) l.initial.colours l.count l.root l.range).store ≡ (sweep (first_in l.range) (l.count - l.gone) (store (as_eight l.narrow l.nodes) l.colours l.at) (l.count - l.gone)).store)
    × ((unload_rule_lem (as_eight l.narrow l.initial.nodes) l.initial.colours l.count l.root l.range).count ≡ (sweep (first_in l.range) (l.count - l.gone) (store (as_eight l.narrow l.nodes) l.colours l.at) (l.count - l.gone)).count)
    × (length l.nodes ≡ length l.initial.nodes) × (length l.colours ≡ length l.initial.colours)
