-- What the tests of the public calls leave: what the code that follows them asks for.
use Rattle.std.proofs.Common.{◌≡◌, ℕ, ◌+◌, ◌-◌, ◌*◌, ◌/◌, ◌%◌, ◌<◌, ◌≤◌, Bool, true, false, cond, eqb, ltb, List, length, sym, refl, arith, ltb-false}
use Rattle.words.specs.Nodes.{capacity, HasBit, HoldsBits}
use Rattle.words.specs.Layouts.{as_eight, HoldsIn, HasIn}
use Rattle.words.specs.declared.interval.Span.{Span}
use Rattle.words.specs.declared.node.Entry.{Entry}
use Rattle.builder.specs.Input.{all_proper_lem, sorted}
use Rattle.tree_edit.specs.Store.{store}
use Rattle.iter.specs.Ranges.{by_rule_lem}
use Rattle.unload_rule.specs.Unload.{unload_rule_lem}
use Rattle.unload_rule.proofs.Ranges.{unload_sum}
use Rattle.unload_core.specs.declared.Left.{Left}
use Rattle.iset.specs.Effects.{Effect, effect}
use Rattle.iset.specs.Maps.{map_at, raised_by}
use Rattle.iset.specs.Remove.{open_remove_number}
use Rattle.iset.specs.declared.Map.{Map}
use Rattle.iset.specs.Build.{build_number}
use Rattle.iset.specs.Insert.{open_insert_number}
use Rattle.iset.specs.Unload.{UnloadAnswer, unload_range_lem}
use Rattle.iset.proofs.Layouts.{held_in}
use Rattle.iset.proofs.Removals.{open_accepts}
use Rattle.iset.proofs.Insertions as insertions

-- what a build's tests leave: lists of triples that the slices hold
module _ (narrow : Bool) (N C S : List ℕ) (e : 0 ≡ build_number (length (as_eight narrow N)) (length C) S) where
  abbrev words : ℕ
  words = length (as_eight narrow N)

  built_room : length S / 3 ≤ capacity words (length C)
  unfolding build_number
  built_room = go (eqb (length S % 3) 0) (ltb (capacity words (length C)) (length S / 3)) refl (sym e)
    where
      go : (a b : Bool) → ltb (capacity words (length C)) (length S / 3) ≡ b
          → ◌≡◌ {A = ℕ} (cond a (cond b 1 (cond (all_proper_lem S) (cond (sorted S) 0 6) 5)) 8) 0 → length S / 3 ≤ capacity words (length C)
      go true true p z = absurd (omega arith)
      go true false p z = ltb-false (capacity words (length C)) (length S / 3) p
      go false b p z = absurd (omega arith)

  pub built : (length S / 3 * 3 ≤ length S) × HoldsIn narrow N (length S / 3) × HoldsBits C (length S / 3)
  built = (omega arith, held_in narrow N (length C) (length S / 3) built_room, omega (arith, built_room))

-- what the tests of a removal leave: a slot that is there, in slices with places
pub removable : (m : Map) (narrow : Bool) (N C : List ℕ) (s : ℕ) → 0 ≡ open_remove_number m (as_eight narrow N) C s
    → HoldsIn narrow N m.count × HoldsBits C m.count × (s < m.count)
removable m narrow N C s e =
    let h = open_accepts m (as_eight narrow N) C s (sym e) in
    (held_in narrow N (length C) m.count h.0, omega (arith, h.0), h.1)

-- what the tests of an insertion leave: slices with places for one entry more
pub insertable : (m : Map) (narrow : Bool) (N C : List ℕ) (e : Entry) → 0 ≡ open_insert_number m (as_eight narrow N) C e
    → HasIn narrow N m.count × HasBit C m.count
insertable m narrow N C e f =
    let h : m.count + 1 ≤ capacity (length (as_eight narrow N)) (length C) = omega (arith, (insertions.open_accepts m (as_eight narrow N) C e (sym f)).0) in
    (held_in narrow N (length C) (m.count + 1) h, omega (arith, h))

-- what the unloading's code answers and leaves; w is the range by its rule
module _ (m : Map) (W C : List ℕ) (w : Span) (a : Left) (f : a.count ≡ (unload_rule_lem W C m.count m.root w).count) where
  pub left_fewer : a.count ≤ m.count
  left_fewer = omega (arith, f, unload_sum W C m.count m.root w)

  module _ (k : ℕ) (q : Span) (i : w ≡ by_rule_lem k q) (X K : List ℕ) (e : store X K a.root ≡ (unload_rule_lem W C m.count m.root w).store)
      (g v : ℕ) (j : g ≡ m.count - a.count) (z : v ≡ raised_by m.version g) where
    gone_is : g ≡ (unload_rule_lem W C m.count m.root w).gone
    gone_is = omega (arith, j, f, unload_sum W C m.count m.root w)

    pub unloaded-range :
        ◌≡◌ {A = Effect UnloadAnswer} (effect (record { no = 0; gone = g; map = map_at a.count a.root v }) X K) (unload_range_lem m W C k q)
    unloaded-range =
        rw (← i, z)
        (λ t. effect (record { no = 0; gone = gone_is t; map = map_at (f t) (e t).root (raised_by m.version (gone_is t)) }) (e t).words (e t).colours)
