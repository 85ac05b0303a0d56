-- Document 02, item 13, in a disjoint map: `Map::unload` keeps the rule.
use mathlib.Core.Path.{◌≡◌, refl, ap, ◌∙◌}
use mathlib.Core.List.{List, [], ◌∷◌}
use Prim.Native.Nat.{ℕ, zero, suc, ◌-◌, ◌<◌, ◌≤◌}
use native.Mathlib.Omega.{arith}
use lib.ListN.{length}
use Rattle.words.specs.Nodes.{capacity, Holds, HoldsBits}
use Rattle.words.specs.declared.interval.Span.{Span}
use Rattle.tree.specs.Passes.{Passes}
use Rattle.tree_edit.specs.Store.{Store, store}
use Rattle.tree_edit.specs.Inside.{Inside}
use Rattle.tree_rm_rule.proofs.Inside.{removed_inside}
use Rattle.tree_rm_rule.proofs.Removal.{removed}
use Rattle.iter.specs.Ranges.{by_rule_lem}
use Rattle.first_rule.specs.First.{first_in}
use Rattle.disjoint_rule.specs.Disjoint.{Disjoint}
use Rattle.disjoint_rule.proofs.Kept.{removal_keeps}
use Rattle.unload_rule.specs.Sweep.{less}
use Rattle.unload_rule.specs.Unload.{unload_rule_lem}
use Rattle.unload_rule.proofs.Turns.{sweep_keeps}
use Rattle.iset.specs.Sequence.{State, unload, unloaded}
use Rattle.iset.specs.Effects.{Effect}
use Rattle.iset.specs.Unload.{unload_number, UnloadAnswer, unload_call}
use Rattle.iset.specs.declared.Map.{Map}
use Rattle.iset.proofs.Checks.{check_zero}
use Rattle.iset.proofs.Refusals.{unload_no, unload_leaves}
use Rattle.iset.proofs.Sequence.{calls_sound}
use Rattle.iset.proofs.Unloadings.{unload_call_lem}
use Rattle.disjoint.specs.Check.{disjoint_rule_lem}
use Rattle.disjoint.proofs.Checks.{checked, disjoint_zero, zero_disjoint}

-- a disjoint store of n entries, in slices with places for them, and the same after one removal
pub record Fine (S : Store) (n : ℕ) : Type 0 where
  pub small : n ≤ 65535
  pub words : Holds S.words n
  pub bits : HoldsBits S.colours n
  pub passes : Passes S.words S.colours n S.root
  pub apart : Disjoint S.words n

one_less : (S : Store) (n s : ℕ) → s < n → Fine S n → Fine (less S n s) (n - 1)
one_less S n s l h =
    let i : Inside n S.words S.colours (less S n s) = removed_inside S.words S.colours n S.root s l in
    record {
      small = omega (arith, h.small);
      words = rw i.words_length (omega (arith, h.words));
      bits = rw i.colours_length (omega (arith, h.bits));
      passes = (removed S.words S.colours n S.root s h.small h.words h.bits l h.passes).passes;
      apart = removal_keeps S.words S.colours n S.root s h.small h.words h.bits l h.passes h.apart;
    }

module _ (m : Map) (W C : List ℕ) (k : ℕ) (q : Span) (h : disjoint_rule_lem m W C ≡ 0) where
  abbrev D : State
  D = unloaded (unload_call m W C k q)

  abbrev number : State → ℕ
  number S = disjoint_rule_lem S.map S.words S.colours

  apart : unload_number m W C k q ≡ 0 → Disjoint D.words D.map.count
  unfolding unload_rule_lem
  apart e =
      let z = disjoint_zero m W C h in
      let r : m.count ≤ capacity (length W) (length C) = z.0 in
      rw (unload_call_lem m W C k q e)
      (sweep_keeps (first_in (by_rule_lem k q)) Fine one_less m.count (store W C m.root) m.count
      (record { small = omega arith; words = omega arith; bits = omega arith; passes = z.1; apart = z.2 })).apart

  -- a disjoint store stays one
  pub unload_keeps : disjoint_rule_lem (unload_call m W C k q).answer.map (unload_call m W C k q).words (unload_call m W C k q).colours ≡ 0
  unload_keeps = go (unload_number m W C k q) refl
    where
      go : (i : ℕ) → unload_number m W C k q ≡ i → number D ≡ 0
      go zero e =
          let c = check_zero D.map D.words D.colours (calls_sound (unload k q ∷ []) (record { map = m; words = W; colours = C }) (checked m W C h)) in
          zero_disjoint D.map D.words D.colours c.0 c.1 (apart e)
      go (suc i) e =
          ap (λ (c : Effect UnloadAnswer). number (unloaded c)) (unload_leaves m W C k q (λ z. omega (arith, z, e, unload_no m W C k q))) ∙ h
