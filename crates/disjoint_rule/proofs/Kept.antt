-- Removal keeps the rule, and so does the insertion of an entry that intersects none.
use mathlib.Core.Path.{◌≡◌, refl, sym, ap, ◌∙◌}
use mathlib.Core.Bool.{Bool, true, false, cond, not}
use mathlib.Core.List.{List, ◌∷◌, ◌++◌, map, map-append, map-map}
use Prim.Native.Nat.{ℕ, ◌+◌, ◌-◌, ◌<◌, ◌≤◌}
use native.Mathlib.Omega.{arith}
use borrow.Author.Tests.{not-true}
use Rattle.words.specs.Intervals.{le, intersects}
use Rattle.words.specs.Lists.{filter}
use Rattle.words.specs.Nodes.{start, stop, interval, entry, Holds, HoldsBits}
use Rattle.words.specs.declared.node.Entry.{Entry}
use Rattle.tree.specs.Tree.{slots, times, without}
use Rattle.tree.specs.Order.{NotAfter}
use Rattle.tree.specs.Passes.{Passes}
use Rattle.tree.proofs.Slots.{hit_same, times_append, times_slots}
use Rattle.tree.proofs.Orders.{le_sound, le_not}
use Rattle.tree.proofs.Checked.{slot_live}
use Rattle.tree_edit.specs.Store.{Store}
use Rattle.tree_rm_rule.specs.Remove.{remove_rule}
use Rattle.tree_rm_rule.specs.RemovalGuarantee.{RemovalGuarantee}
use Rattle.tree_rm_rule.proofs.Removal.{removed}
use Rattle.tree_rm_rule.proofs.Rows.{split, without_at}
use Rattle.tree_in_rule.specs.Insert.{own, insert_rule}
use Rattle.tree_in_rule.specs.InsertionGuarantee.{not_greater, greater, InsertionGuarantee}
use Rattle.tree_in_rule.proofs.Insertion.{inserted}
use Rattle.iter_laws.proofs.Trees.{times_filter}
use Rattle.disjoint_rule.specs.Disjoint.{range_of, Disjoint, Chain, ChainAt}
use Rattle.disjoint_rule.proofs.Chains.{chain_join, chain_drop, chain_left, chain_right, chain_disjoint, disjoint_chain, before_apart, after_apart}

-- the intervals of entries
spans : (X : List ℕ) (l : List ℕ) → map own (map (entry X) l) ≡ map (interval X) l
spans X l = map-map own (entry X) l

-- the same entries in other slots
chain_entries : (W X : List ℕ) (l m : List ℕ) → map (entry X) m ≡ map (entry W) l → ChainAt W l → ChainAt X m
chain_entries W X l m e h =
    let q : map (interval X) m ≡ map (interval W) l = sym (spans X m) ∙ ap (λ (k : List Entry). map own k) e ∙ spans W l in
    rw q h

-- the map of no entries
pub empty_disjoint : (W : List ℕ) → Disjoint W 0
empty_disjoint W a b h = absurd (omega arith)

-- "Removal keeps the rule."
module _ (W C : List ℕ) (n r s : ℕ) (small : n ≤ 65535) (fit : Holds W n) (bits : HoldsBits C n) (ls : s < n) (P : Passes W C n r) where
  abbrev R : Store
  R = (remove_rule W C n r s).store

  gone : RemovalGuarantee W C n r s P (remove_rule W C n r s)
  gone = removed W C n r s small fit bits ls P

  kept_chain : ChainAt W (slots P.tree) → ChainAt W (without s (slots P.tree))
  kept_chain h =
      split s (slots P.tree) (omega (arith, times_slots s P.tree, P.once s ls)) (λ A B e.
      let c : times s (A ++ (s ∷ B)) ≡ 1 = rw (← e) (times_slots s P.tree ∙ P.once s ls) in
      let c' = times_append s A (s ∷ B) in
      let g : Chain (map (interval W) A ++ (interval W s ∷ map (interval W) B)) = rw map-append at (rw e at h) in
      rw (e, without_at s A B (omega (arith, hit_same s)) (omega (arith, hit_same s)), map-append)
      (chain_drop (map (interval W) A) (interval W s) (map (interval W) B) (P.proper s ls) g))

  pub removal_keeps : Disjoint W n → Disjoint (remove_rule W C n r s).store.words (n - 1)
  removal_keeps d =
      chain_disjoint R.words R.colours (n - 1) R.root gone.passes
      (chain_entries W R.words (without s (slots P.tree)) (slots gone.passes.tree) gone.entries
      (kept_chain (disjoint_chain W C n r P d)))

-- what a test picked passed it
picked : (p : ℕ → Bool) (l : List ℕ) (a : ℕ) → 0 < times a (filter p l) → p a ≡ true
picked p l a o = go (p a) (times_filter p a l)
  where
    go : (t : Bool) → times a (filter p l) ≡ cond t (times a l) 0 → t ≡ true
    go true e = refl
    go false e = absurd (omega (arith, o))

module _ (W C : List ℕ) (n r : ℕ) (e : Entry) (small : n + 1 ≤ 65535) (fit : Holds W (n + 1)) (bits : HoldsBits C (n + 1))
    (proper : e.start < e.end) (P : Passes W C n r) where
  abbrev S : Store
  S = insert_rule W C n r e

  new : InsertionGuarantee W C n r e P (insert_rule W C n r e)
  new = inserted W C n r e small fit bits proper P

  abbrev A : List ℕ
  A = not_greater W (own e) (slots P.tree)

  abbrev B : List ℕ
  B = greater W (own e) (slots P.tree)

  live : (a : ℕ) → 0 < times a (A ++ B) → a < n
  live a o = slot_live W C n r P a (rw (← new.slots_were, times_slots) at o)

  module _ (d : Disjoint W n) (free : (a : ℕ) → a < n → intersects (range_of (own e)) (interval W a) ≡ false) where
    old : ChainAt W (A ++ B)
    old = rw new.slots_were at (disjoint_chain W C n r P d)

    before : (a : ℕ) → 0 < times a A → stop W a ≤ e.start
    before a o =
        let l : NotAfter (interval W a) (own e) = le_sound (interval W a) (own e) (picked (λ b. le (interval W b) (own e)) (slots P.tree) a o) in
        before_apart W (own e) a (omega (arith, l.starts)) (free a (live a (omega (arith, times_append a A B))))

    behind : (b : ℕ) → 0 < times b B → e.end ≤ start W b
    behind b o =
        let l : b < n = live b (omega (arith, times_append b A B)) in
        let z : le (interval W b) (own e) ≡ false = not-true (le (interval W b) (own e)) (picked (λ c. not (le (interval W c) (own e))) (slots P.tree) b o) in
        let g : NotAfter (own e) (interval W b) = le_not (interval W b) (own e) z in
        after_apart W (own e) b (omega (arith, g.starts, P.proper b l)) (free b l)

    intervals : map (interval S.words) (slots new.passes.tree) ≡ map (interval W) A ++ (own e ∷ map (interval W) B)
    intervals =
        sym (spans S.words (slots new.passes.tree)) ∙ ap (λ (k : List Entry). map own k) new.entries
        ∙ map-append own (map (entry W) A) (e ∷ map (entry W) B) ∙ rw (spans W A, spans W B) refl

    -- the insertion of an entry that intersects none
    pub insertion_keeps : Disjoint (insert_rule W C n r e).words (n + 1)
    insertion_keeps =
        chain_disjoint S.words S.colours (n + 1) S.root new.passes
        (rw intervals (chain_join W A (own e) B (chain_left W A B old) (chain_right W A B old) before behind))
