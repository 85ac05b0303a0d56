-- "unloading two accepted ranges in either order leaves the same entries in the same tree order ..
-- and the two removed totals are equal. In both orders the entries left are exactly those that
-- intersect neither." The test g says which entries go by the one, and g' by the other.
use mathlib.Core.Path.{◌≡◌, sym, ap, ◌∙◌}
use mathlib.Core.Bool.{Bool, ◌||◌}
use mathlib.Core.List.{List, map}
use Prim.Native.Nat.{ℕ, ◌+◌}
use native.Mathlib.Omega.{arith}
use lib.ListN.{length}
use Rattle.words.specs.Nodes.{entry}
use Rattle.words.specs.declared.node.Entry.{Entry}
use Rattle.tree.specs.Tree.{slots}
use Rattle.tree.specs.Passes.{Passes}
use Rattle.unload_rule.specs.Sweep.{Sweep}
use Rattle.unload_rule.specs.Swept.{stay, going, Swept}
use Rattle.unload_rule.proofs.Lists.{stay_going, stay_stay, stay_same, or_swap}

pub either_same : (g g' : Entry → Bool) (l : List Entry) → stay (λ e. g e || g' e) l ≡ stay (λ e. g' e || g e) l
either_same g g' l = stay_same (λ e. g e || g' e) (λ e. g' e || g e) l (λ e. or_swap (g e) (g' e))

-- one after the other
module _ (W C : List ℕ) (n r : ℕ) (P : Passes W C n r) (g g' : Entry → Bool) (R R' : Sweep) (a : Swept W C n r g P R)
    (b : Swept R.store.words R.store.colours R.count R.store.root g' a.passes R') where
  abbrev E : List Entry
  E = map (entry W) (slots P.tree)

  -- exactly those that go by neither are left
  pub neither : map (entry R'.store.words) (slots b.passes.tree) ≡ stay (λ e. g e || g' e) (map (entry W) (slots P.tree))
  neither = b.entries ∙ ap (stay g') a.entries ∙ stay_stay g g' E

  pub total : R.gone + R'.gone + length (stay (λ e. g e || g' e) E) ≡ length E
  total =
      let i : R.gone ≡ going g E = a.gone_is in
      let j : R'.gone ≡ going g' (stay g E) = b.gone_is ∙ ap (going g') a.entries in
      let c : length (stay (λ e. g e || g' e) E) ≡ length (stay g' (stay g E)) = ap (λ (l : List Entry). length l) (sym (stay_stay g g' E)) in
      omega (arith, i, j, c, stay_going g E, stay_going g' (stay g E))

-- and in the other order: the same entries are left, in the same tree order, and as many went
module _ (W C : List ℕ) (n r : ℕ) (P : Passes W C n r) (g g' : Entry → Bool) (R R' : Sweep) (a : Swept W C n r g P R)
    (b : Swept R.store.words R.store.colours R.count R.store.root g' a.passes R')
    (Q Q' : Sweep) (c : Swept W C n r g' P Q)
    (d : Swept Q.store.words Q.store.colours Q.count Q.store.root g c.passes Q') where
  pub either_entries : map (entry R'.store.words) (slots b.passes.tree) ≡ map (entry Q'.store.words) (slots d.passes.tree)
  either_entries = neither W C n r P g g' R R' a b ∙ either_same g g' (map (entry W) (slots P.tree)) ∙ sym (neither W C n r P g' g Q Q' c d)

  pub either_total : R.gone + R'.gone ≡ Q.gone + Q'.gone
  either_total =
      omega (
        arith,
        total W C n r P g g' R R' a b,
        total W C n r P g' g Q Q' c d,
        ap (λ (l : List Entry). length l) (either_same g g' (map (entry W) (slots P.tree))),
      )
