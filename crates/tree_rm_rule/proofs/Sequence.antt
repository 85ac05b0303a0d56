-- Removals one after the other: the store passes after each, and what lies from the first count up
-- stays.
use mathlib.Core.Path.{◌≡◌, refl}
use mathlib.Core.List.{List, [], ◌∷◌}
use Prim.Native.Nat.{ℕ, suc, ◌-◌, ◌≤◌}
use native.Mathlib.Omega.{arith}
use lib.ListN.{length}
use Rattle.tree.specs.Passes.{Passes}
use Rattle.tree_edit.specs.Store.{Store}
use Rattle.tree_rm_rule.specs.Remove.{remove_rule}
use Rattle.tree_edit.specs.Inside.{Inside}
use Rattle.tree_rm_rule.specs.Sequence.{after, Within}
use Rattle.tree_rm_rule.proofs.Inside.{removed_inside}
use Rattle.tree_rm_rule.proofs.Removal.{removed}
use Rattle.tree_edit.proofs.Inside.{inside_trans}
use Rattle.words.specs.Nodes.{Holds, HoldsBits}

pub after_inside : (l : List ℕ) (S : Store) (n : ℕ) → Within n l → Inside n S.words S.colours (after S n l)
after_inside [] S n w = record { words_length = refl; colours_length = refl; words_kept = λ f a u. refl; colours_kept = λ a u. refl }
after_inside (s ∷ l) S n w =
    let T : Store = (remove_rule S.words S.colours n S.root s).store in
    inside_trans n (n - 1) S T (after T (n - 1) l) (omega arith)
    (removed_inside S.words S.colours n S.root s w.0) (after_inside l T (n - 1) w.1)

pub after_passes : (l : List ℕ) (S : Store) (n : ℕ) → n ≤ 65535 → Holds S.words n → HoldsBits S.colours n
    → Passes S.words S.colours n S.root → Within n l
    → Passes (after S n l).words (after S n l).colours (n - length l) (after S n l).root
after_passes [] S n small fit bits h w = let e : n - 0 ≡ n = omega arith in rw e h
after_passes (s ∷ l) S n small fit bits h w =
    let T : Store = (remove_rule S.words S.colours n S.root s).store in
    let i : Inside n S.words S.colours T = removed_inside S.words S.colours n S.root s w.0 in
    let p : Passes T.words T.colours (n - 1) T.root = (removed S.words S.colours n S.root s small fit bits w.0 h).passes in
    let o = after_passes l T (n - 1) (omega arith) (rw i.words_length (omega arith)) (rw i.colours_length (omega arith)) p w.1 in
    let e : n - 1 - length l ≡ n - suc (length l) = omega arith in
    rw e at o
