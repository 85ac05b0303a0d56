-- What an insertion guarantees: it is refused exactly as document 02's item 10 says; with 13 it
-- names the first entry in tree order that intersects the new one; and what it leaves is disjoint.
use mathlib.Core.Path.{◌≡◌, refl, sym, ap, ◌∙◌}
use mathlib.Core.Bool.{Bool, true, false, cond, true≢false}
use mathlib.Core.List.{List}
use Prim.Native.Nat.{ℕ, ◌+◌, ◌<◌, ◌≤◌}
use native.Mathlib.Omega.{arith}
use lib.ListN.{length}
use lib.Dec.{ltb}
use borrow.Author.Tests.{eq-eqb, ne_eqb, ltb-true, ltb-false}
use Rattle.words.specs.Ix.{U}
use Rattle.words.specs.Nodes.{capacity}
use Rattle.words.specs.declared.node.Entry.{Entry}
use Rattle.tree.specs.Tree.{height}
use Rattle.tree.specs.Passes.{Passes}
use Rattle.tree_in_rule.specs.Insert.{own}
use Rattle.first_rule.specs.First.{first_nodes}
use Rattle.first_rule.proofs.Firsts.{first_low}
use Rattle.disjoint_rule.specs.Disjoint.{range_of, Disjoint}
use Rattle.disjoint_rule.proofs.Overlaps.{overlap_first, overlap_some, overlap_none}
use Rattle.disjoint_rule.proofs.Kept.{insertion_keeps}
use Rattle.iset.specs.Effects.{Effect, effect}
use Rattle.iset.specs.Check.{first}
use Rattle.iset.specs.Insert.{full_number, open_insert_number, insert_number, InsertAnswer, insert_call}
use Rattle.iset.specs.Refusals.{accept, refuse, Exactly, BadInterval}
use Rattle.iset.specs.declared.Map.{Map}
use Rattle.iset.proofs.Checks.{both_zero}
use Rattle.iset.proofs.Insertions as insertions
use Rattle.iset.proofs.Refusals.{passed_row, failed_row, number_is, kept}
use Rattle.disjoint.specs.Check.{disjoint_rule_lem}
use Rattle.disjoint.specs.Place.{met, meet_number, trial_number, open_place_number, place_number, named, refused_placement, place_call}
use Rattle.disjoint.specs.Demands.{Met, place_rows, first_meeting}
use Rattle.disjoint.proofs.Checks.{few, checked, counted, disjoint_zero, one_disjoint}

module _ (m : Map) (W C : List ℕ) (e : Entry) where
  abbrev n : ℕ
  n = m.count

  abbrev held : ℕ
  held = capacity (length W) (length C)

  -- the slot that the search names
  abbrev here : ℕ
  here = met W n m.root e.start e.end

  pub place_no : (place_call m W C e).answer.no ≡ place_number m W C e
  unfolding place_call
  place_no = number_is (λ (a : Effect InsertAnswer). a.answer.no) (place_number m W C e) _ _ refl refl

  -- the check comes first
  pub place_check : (disjoint_rule_lem m W C ≡ 0 → ⊥) → place_number m W C e ≡ disjoint_rule_lem m W C
  unfolding place_number
  place_check d = rw (ne_eqb (disjoint_rule_lem m W C) 0 d)

  -- a store that the check refuses nothing of
  module _ (z : disjoint_rule_lem m W C ≡ 0) where
    tree : Passes W C n m.root
    tree = (disjoint_zero m W C z).1

    small : n ≤ 65535
    small = few m W C (checked m W C z)

    -- 5, 13, 1
    pub place_order : place_number m W C e ≡ cond (ltb e.start e.end) (cond (ltb here n) 13 (cond (ltb n held) 0 1)) 5
    unfolding place_number open_place_number trial_number meet_number open_insert_number full_number
    place_order = rw (z, counted m W C z) (go (ltb e.start e.end) (ltb here n) (ltb n held))
      where
        go : (a b c : Bool) → first (cond a (cond b 13 0) 5) (first (cond c 0 1) (cond a 0 5)) ≡ cond a (cond b 13 (cond c 0 1)) 5
        go true true c = refl
        go true false true = refl
        go true false false = refl
        go false b c = refl

    full_row : Exactly (refuse 1 (held ≤ n) accept) (cond (ltb n held) 0 1)
    full_row = passed_row 1 (held ≤ n) accept 0 (ltb n held) (omega arith) (λ t p. omega (arith, ltb-true n held t)) (ltb-false n held) (λ t. refl)

    no_meeting : ltb here n ≡ false → Met m W e → ⊥
    no_meeting u p = true≢false (sym p.2 ∙ overlap_none W C n m.root small tree (own e) (ltb-false here n u) p.0 p.1)

    met_row : Exactly (refuse 13 (Met m W e) (refuse 1 (held ≤ n) accept)) (cond (ltb here n) 13 (cond (ltb n held) 0 1))
    met_row =
        failed_row 13 (Met m W e) (refuse 1 (held ≤ n) accept) (cond (ltb n held) 0 1) (ltb here n) (omega arith)
        (λ u. (here, ltb-true here n u, overlap_some W C n m.root small tree (own e) (ltb-true here n u)))
        no_meeting (λ u. full_row)

    place_rows_lem : Exactly (place_rows m W C e) (place_number m W C e)
    place_rows_lem =
        rw place_order
        (passed_row 5 (BadInterval e.start e.end) (refuse 13 (Met m W e) (refuse 1 (held ≤ n) accept))
        (cond (ltb here n) 13 (cond (ltb n held) 0 1)) (ltb e.start e.end) (omega arith)
        (λ t p. omega (arith, ltb-true e.start e.end t)) (ltb-false e.start e.end) (λ t. met_row))

    pub place_refusals : Exactly (place_rows m W C e) (place_call m W C e).answer.no
    place_refusals = rw place_no place_rows_lem

    -- 5 exactly if the interval holds no address; 13 exactly if it holds one, and a stored entry
    -- intersects it; 1 exactly if none does, and the store is full; and else 0
    pub place_bad : e.end ≤ e.start → place_number m W C e ≡ 5
    place_bad = place_rows_lem.0.1

    pub place_overlap : e.start < e.end → Met m W e → place_number m W C e ≡ 13
    place_overlap h = (place_rows_lem.1 (λ b. omega (arith, h))).0.1

    pub place_full : e.start < e.end → (Met m W e → ⊥) → held ≤ n → place_number m W C e ≡ 1
    place_full h f = ((place_rows_lem.1 (λ b. omega (arith, h))).1 f).0.1

    pub place_accepted : e.start < e.end → (Met m W e → ⊥) → n < held → place_number m W C e ≡ 0
    place_accepted h f r = ((place_rows_lem.1 (λ b. omega (arith, h))).1 f).1 (λ b. omega (arith, r))

    -- the search visits at most as many nodes as the tree is high
    pub place_low : (P : Passes W C n m.root) → length (first_nodes (range_of (own e)) W n m.root) ≤ height P.tree
    place_low P = first_low W C n m.root small P (range_of (own e))

  -- 13 names the first entry in tree order that intersects the new one
  module _ (h : place_number m W C e ≡ 13) where
    within : n ≤ held
    within = go (ltb held n) refl
      where
        go : (b : Bool) → ltb held n ≡ b → n ≤ held
        go true p =
            let d : disjoint_rule_lem m W C ≡ 1 = one_disjoint m W C (ltb-true held n p) in
            absurd (omega (arith, h, d, place_check (λ z. omega (arith, d))))
        go false p = ltb-false held n p

    pub place_names : (P : Passes W C n m.root) → place_call m W C e ≡ effect (refused_placement m 13 (first_meeting W P.tree e)) W C
    unfolding place_call
    place_names P =
        rw h
        (ap (λ (s : ℕ). effect (refused_placement m 13 s) W C) (overlap_first W C n m.root (omega (arith, within)) P (own e)))

  -- any other refusal has slot U
  pub place_refused : ((place_call m W C e).answer.no ≡ 0 → ⊥) → ((place_call m W C e).answer.no ≡ 13 → ⊥)
      → place_call m W C e ≡ effect (refused_placement m (place_call m W C e).answer.no U) W C
  unfolding place_call
  place_refused d f =
      rw place_no
      (kept (place_number m W C e) _ _ (λ z. d (place_no ∙ z))
      ∙ ap (λ (s : ℕ). effect (refused_placement m (place_number m W C e) s) W C) (other (place_number m W C e) (λ z. f (place_no ∙ z))))
    where
      other : (k : ℕ) → (k ≡ 13 → ⊥) → named k here ≡ U
      other k g = rw (ne_eqb k 13 g)

  -- one that is not refused
  module _ (z : place_number m W C e ≡ 0) where
    sound : disjoint_rule_lem m W C ≡ 0
    unfolding place_number
    sound = (both_zero (disjoint_rule_lem m W C) (open_place_number m W C e) z).0

    pub accepts : (e.start < e.end) × (n ≤ here) × (n < held)
    accepts = go (ltb e.start e.end) (ltb here n) (ltb n held) refl refl refl (sym (place_order sound) ∙ z)
      where
        go : (a b c : Bool) → ltb e.start e.end ≡ a → ltb here n ≡ b → ltb n held ≡ c
            → ◌≡◌ {A = ℕ} (cond a (cond b 13 (cond c 0 1)) 5) 0 → (e.start < e.end) × (n ≤ here) × (n < held)
        go true false true p q r y = (ltb-true e.start e.end p, ltb-false here n q, ltb-true n held r)
        go true true c p q r y = absurd (omega arith)
        go true false false p q r y = absurd (omega arith)
        go false b c p q r y = absurd (omega arith)

    -- it answers and leaves what `Map::insert` does
    pub as_inserted : place_call m W C e ≡ insert_call m W C e
    unfolding place_call insert_call
    as_inserted =
        rw (eq-eqb (place_number m W C e) 0 z, eq-eqb (insert_number m W C e) 0 (insertions.accepted m W C e accepts.2 (checked m W C sound) accepts.0))
        refl

    -- and the store is disjoint with one entry more
    pub place_keeps : Disjoint (place_call m W C e).words (n + 1)
    unfolding place_call
    place_keeps =
        let D = disjoint_zero m W C sound in
        let r : n < held = accepts.2 in
        rw (eq-eqb (place_number m W C e) 0 z)
        (insertion_keeps W C n m.root e (omega (arith, r)) (omega (arith, r)) (omega (arith, r)) accepts.0 D.1 D.2
        (overlap_none W C n m.root (small sound) D.1 (own e) accepts.1))

    pub places : (place_call m W C e ≡ insert_call m W C e) × Disjoint (place_call m W C e).words (n + 1)
    places = (as_inserted, place_keeps)
