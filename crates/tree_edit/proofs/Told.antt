-- A store is its words, its colours and its root.
use mathlib.Core.Path.{◌≡◌, sym, ap, ◌∙◌}
use mathlib.Core.List.{List}
use Prim.Native.Nat.{ℕ}
use Rattle.tree_edit.specs.Store.{Store, store}

pub store_told : (S : Store) (W X C D : List ℕ) (r q : ℕ) → store W C r ≡ S → store X D q ≡ S → (r ≡ q) × (W ≡ X) × (C ≡ D)
store_told S W X C D r q a b =
    let e = a ∙ sym b in
    (ap (λ (t : Store). t.root) e, ap (λ (t : Store). t.words) e, ap (λ (t : Store). t.colours) e)
