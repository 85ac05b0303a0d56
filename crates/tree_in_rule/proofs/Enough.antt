-- A greater number of links down than the rule's 32 comes to the same; `loop_more` and `fix_up_more`
-- of tree_edit say it of the rounds and of the hulls.
use mathlib.Core.Path.{◌≡◌, refl}
use mathlib.Core.List.{List}
use Prim.Native.Nat.{ℕ, zero, suc, ◌≤◌}
use native.Mathlib.Omega.{arith}
use Rattle.words.specs.Ix.{U}
use Rattle.words.specs.Nodes.{kid}
use Rattle.words.specs.declared.interval.Interval.{Interval}
use Rattle.tree.proofs.Cases.{compare}
use Rattle.tree_edit.proofs.Links.{on_slot, on_none}
use Rattle.tree_in_rule.specs.Descent.{goes_left_lem, descend}
use Rattle.tree_in_rule.proofs.Ways.{no_link}

-- the way down, where it ended at a slot with nothing on the side to go to
pub descend_more : (W : List ℕ) (x : Interval) (n : ℕ) → n ≤ 65535 → (levels m s : ℕ) → levels ≤ m
    → kid W (goes_left_lem W x (descend n levels W x s)) (descend n levels W x s) ≡ U → descend n m W x s ≡ descend n levels W x s
unfolding descend
descend_more W x n small zero m s h u = no_link W x n small s u m
descend_more W x n small (suc levels) zero s h u = absurd (omega arith)
descend_more W x n small (suc levels) (suc m) s h u =
    let k : ℕ = kid W (goes_left_lem W x s) s in
    compare n k
    (λ q. rw (on_none n k q, on_none n k q) refl)
    (λ q. let e = on_slot n k q (λ a. descend n levels W x a) s in
    rw (on_slot n k q, on_slot n k q) (descend_more W x n small levels m k (omega arith) (rw e at u)))
