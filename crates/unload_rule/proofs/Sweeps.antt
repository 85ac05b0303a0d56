-- The sweep leaves exactly the entries that do not go, in their order.
use mathlib.Core.Path.{◌≡◌, refl, sym, ap, ◌∙◌}
use mathlib.Core.Bool.{Bool, true, false, cond}
use mathlib.Core.List.{List, [], ◌∷◌, map}
use Prim.Native.Nat.{ℕ, zero, suc, ◌+◌, ◌-◌, ◌*◌, ◌<◌, ◌≤◌}
use native.Mathlib.Omega.{arith}
use lib.ListN.{length}
use lib.Dec.{ltb}
use borrow.Author.Tests.{ltb-true, ltb-false}
use Rattle.words.specs.Ix.{U}
use Rattle.words.specs.Lists.{filter}
use Rattle.words.specs.Nodes.{entry, Holds, HoldsBits}
use Rattle.words.specs.declared.node.Entry.{Entry}
use Rattle.tree.specs.Tree.{slots, times}
use Rattle.tree.specs.Passes.{Passes}
use Rattle.tree.proofs.Slots.{times_slots}
use Rattle.tree.proofs.Checked.{slot_live, slot_once}
use Rattle.tree_edit.specs.Store.{Store, store}
use Rattle.tree_rm_rule.specs.Remove.{remove_rule}
use Rattle.tree_edit.specs.Inside.{Inside}
use Rattle.tree_rm_rule.specs.RemovalGuarantee.{RemovalGuarantee}
use Rattle.tree_rm_rule.proofs.Inside.{removed_inside}
use Rattle.tree_rm_rule.proofs.Removal.{removed}
use Rattle.tree_edit.proofs.Inside.{inside_trans}
use Rattle.iter.specs.Lists.{first_or}
use Rattle.unload_rule.specs.Sweep.{Sweep, still, one_more_lem, sweep}
use Rattle.unload_rule.specs.Swept.{stay, going, Swept}
use Rattle.unload_rule.proofs.Lists.{first_out, none_out, no_first}

-- a search names the first entry that goes, on every store that passes
abbrev pub Finds : (List ℕ → ℕ → ℕ → ℕ) → (Entry → Bool) → Type 0
Finds find g = (W C : List ℕ) (n r : ℕ) → n ≤ 65535 → (P : Passes W C n r) → find W n r ≡ first_or U (filter (λ s. g (entry W s)) (slots P.tree))

module _ (find : List ℕ → ℕ → ℕ → ℕ) (g : Entry → Bool) (finds : Finds find g) where
  module _ (W C : List ℕ) (n r : ℕ) (small : n ≤ 65535) (P : Passes W C n r) where
    abbrev l : List ℕ
    l = slots P.tree

    abbrev S : Store
    S = store W C r

    live : (a : ℕ) → 0 < times a l → a < n
    live a o = slot_live W C n r P a (rw times_slots at o)

    once : (a : ℕ) → times a l ≤ 1
    once a = omega (arith, times_slots a P.tree, slot_once W C n r P a)

    -- none is left
    stays : n ≤ find W n r → Swept W C n r g P (still S n)
    stays h =
        let z : filter (λ s. g (entry W s)) l ≡ [] = no_first (λ s. g (entry W s)) n l live (rw (finds W C n r small P) at h) in
        let x = none_out (entry W) g l z in
        record {
          passes = P;
          count_is = omega arith;
          entries = sym x.0;
          gone_is = sym x.1;
          inside = record { words_length = refl; colours_length = refl; words_kept = λ f a u. refl; colours_kept = λ a u. refl };
        }

    -- one goes, and then the others
    module _ (fit : Holds W n) (bits : HoldsBits C n) (h : find W n r < n) where
      abbrev s : ℕ
      s = find W n r

      abbrev T : Store
      T = (remove_rule W C n r s).store

      one : RemovalGuarantee W C n r s P (remove_rule W C n r s)
      one = removed W C n r s small fit bits h P

      kept : Inside n W C T
      kept = removed_inside W C n r s h

      more : (R : Sweep) → Swept T.words T.colours (n - 1) T.root g one.passes R → Swept W C n r g P (one_more_lem R)
      more R w =
          let x = first_out (entry W) g l s (finds W C n r small P) (omega (arith, times_slots s P.tree, P.once s h)) (λ a o. omega (arith, live a o)) once in
          record {
            passes = w.passes;
            count_is = omega (arith, w.count_is);
            entries = w.entries ∙ ap (stay g) one.entries ∙ x.0;
            gone_is = ap (λ (k : ℕ). k + 1) (w.gone_is ∙ ap (going g) one.entries) ∙ x.1;
            inside = inside_trans n (n - 1) S T R.store (omega arith) kept w.inside;
          }

  pub swept : (turns : ℕ) (W C : List ℕ) (n r : ℕ) → n ≤ turns → (small : n ≤ 65535) → Holds W n → HoldsBits C n → (P : Passes W C n r)
      → Swept W C n r g P (sweep find turns (store W C r) n)
  unfolding sweep one
  swept zero W C n r q small fit bits P = stays W C n r small P (omega arith)
  swept (suc turns) W C n r q small fit bits P =
      go (ltb (find W n r) n) refl (λ h.
      let T : Store = (remove_rule W C n r (find W n r)).store in
      let k : Inside n W C T = removed_inside W C n r (find W n r) h in
      swept turns T.words T.colours (n - 1) T.root (omega arith) (omega arith) (rw k.words_length (omega arith)) (rw k.colours_length (omega arith))
      (removed W C n r (find W n r) small fit bits h P).passes)
    where
      T : Store
      T = (remove_rule W C n r (find W n r)).store

      go : (b : Bool) → ltb (find W n r) n ≡ b
          → ((h : find W n r < n) → Swept T.words T.colours (n - 1) T.root g (removed W C n r (find W n r) small fit bits h P).passes (sweep find turns T (n - 1)))
          → Swept W C n r g P (cond b (one_more_lem (sweep find turns T (n - 1))) (still (store W C r) n))
      go true e rec =
          let h : find W n r < n = ltb-true (find W n r) n e in
          more W C n r small P fit bits h (sweep find turns T (n - 1)) (rec h)
      go false e rec = stays W C n r small P (ltb-false (find W n r) n e)
