-- A tree whose slots get other numbers, with the data that they had.
use mathlib.Core.Path.{◌≡◌, refl, sym, ap, ◌∙◌}
use mathlib.Core.Logic.{◌≢◌}
use mathlib.Core.Bool.{Bool, true, false}
use mathlib.Core.List.{List, [], ◌∷◌, map, map-append}
use Prim.Native.Nat.{ℕ, ◌<◌}
use native.Mathlib.Omega.{arith}
use Rattle.tree.specs.Tree.{Tree, slots, occ, leaf, node}
use Rattle.tree.specs.Zipper.{bin, Frame, plug, occs, frame}
use Rattle.tree.specs.View.{datum, view}
use Rattle.tree.proofs.Slots.{hit_same, hit_zero}
use Rattle.tree_rm_rule.specs.Pairs.{moved_to}
use Rattle.tree_rm_rule.proofs.Rows.{moved_to_here, moved_to_other}

abbrev pub rename : (ℕ → ℕ) → Tree → Tree
rename f leaf = leaf
rename f (node l s r) = node (rename f l) (f s) (rename f r)

pub slots_rename : (f : ℕ → ℕ) (t : Tree) → slots (rename f t) ≡ map f (slots t)
slots_rename f leaf = refl
slots_rename f (node l s r) = rw (slots_rename f l, slots_rename f r) (sym (map-append f (slots l) (s ∷ slots r)))

-- nothing is seen of it
pub view_rename : (W : List ℕ) (K : ℕ → Bool) (X : List ℕ) (L : ℕ → Bool) (f : ℕ → ℕ) (t : Tree)
    → ((a : ℕ) → 0 < occ a t → datum X L (f a) ≡ datum W K a) → view X L (rename f t) ≡ view W K t
view_rename W K X L f leaf h = refl
view_rename W K X L f (node l s r) h =
    rw (
      view_rename W K X L f l (λ a o. h a (omega arith)),
      h s (omega (arith, hit_same s)),
      view_rename W K X L f r (λ a o. h a (omega arith)),
    )

-- one slot z gets the number v
module _ (z v : ℕ) where
  pub rename_away : (t : Tree) → occ z t ≡ 0 → rename (moved_to z v) t ≡ t
  rename_away leaf o = refl
  rename_away (node l s r) o =
      let d : z ≢ s = hit_zero z s (omega arith) in
      rw (rename_away l (omega arith), rename_away r (omega arith), moved_to_other z v s (λ e. d (sym e)))

  rename_plug : (c : List Frame) (t : Tree) → occs z c ≡ 0 → rename (moved_to z v) (plug c t) ≡ plug c (rename (moved_to z v) t)
  rename_plug [] t o = refl
  rename_plug (frame b s far ∷ c) t o = rename_plug c (bin b t s far) (omega arith) ∙ ap (λ (u : Tree). plug c u) (go b)
    where
      d : z ≢ s
      d = hit_zero z s (omega arith)

      go : (b : Bool) → rename (moved_to z v) (bin b t s far) ≡ bin b (rename (moved_to z v) t) s far
      go true = rw (rename_away far (omega arith), moved_to_other z v s (λ e. d (sym e)))
      go false = rw (rename_away far (omega arith), moved_to_other z v s (λ e. d (sym e)))

  pub rename_at : (c : List Frame) (l r : Tree) → occs z c ≡ 0 → occ z l ≡ 0 → occ z r ≡ 0
      → rename (moved_to z v) (plug c (node l z r)) ≡ plug c (node l v r)
  rename_at c l r o p q = rename_plug c (node l z r) o ∙ rw (rename_away l p, rename_away r q, moved_to_here z v)
