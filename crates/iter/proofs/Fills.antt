-- The code of the drain against its rule. D is what the drain answers; the hits so far are the
-- first i words of the output.
use mathlib.Core.Path.{◌≡◌, refl, sym, ap, ◌∙◌}
use mathlib.Core.Bool.{Bool, true, false, cond}
use mathlib.Core.List.{List, [], ◌∷◌, ◌++◌, append_assoc, append-nil}
use Prim.Native.Nat.{ℕ, zero, suc, ◌+◌, ◌-◌, ◌<◌, ◌≤◌}
use native.Mathlib.Omega.{arith}
use native.Mathlib.Nat.{zero-add, add_assoc, add-zero, sub-zero}
use native.Mathlib.Numerals.{add-one}
use lib.ListN.{length, take, drop, set, take-append-drop}
use lib.Seq.{length-take-le, drop-drop, drop-set-lt, take-suc-set}
use lib.Dec.{ltb}
use Rattle.iter.specs.Walk.{Rules, step}
use Rattle.iter.specs.Cursors.{ended}
use Rattle.iter.specs.Drains as drains
use Rattle.iter.specs.Drains.{more, drain, filled}
use Rattle.iter.specs.Answers.{answer, is_hit_lem, summary}
use Rattle.iter.specs.declared.Cursor.{Cursor}
use Rattle.iter.specs.declared.seek.Step.{Step}
use Rattle.iter.specs.declared.seek.Step.TheVariants.{Hit, End}
use Rattle.iter.specs.declared.drain.Drained.{Drained}

-- slots and a count before the rest of a drain
abbrev pub before : List ℕ → ℕ → drains.Drained → drains.Drained
before l e d = record { slots = l ++ d.slots; next = d.next; entered = e + d.entered }

before_more : (l : List ℕ) (s a e : ℕ) (d : drains.Drained) → before l a (more s e d) ≡ before (l ++ (s ∷ [])) (a + e) d
before_more l s a e d = rw (append_assoc, add_assoc)

pub drop_on : (out old : List ℕ) (i v : ℕ) → drop i out ≡ drop i old → drop (i + 1) (set out i v) ≡ drop (i + 1) old
drop_on out old i v e =
    drop-set-lt (i + 1) out i v (omega arith) ∙ sym (drop-drop 1 i out) ∙ ap (λ (l : List ℕ). drop 1 l) e ∙ drop-drop 1 i old

-- the answer and the output of a drain that ends with these slots
module _ (D : drains.Drained) (out old : List ℕ) (i x : ℕ) (d : Cursor) (z : D ≡ record { slots = take i out; next = d; entered = x }) (fit : i ≤ length out) where
  summed : ◌≡◌ {A = Drained} (record { hits = i; entered = x; next = d }) (summary D)
  summed = rw (z, length-take-le i out fit)

  filling : drop i out ≡ drop i old → out ≡ filled D.slots old
  unfolding filled
  filling same = rw (z, length-take-le i out fit, ← same) (sym (take-append-drop i out))

module _ (W : List ℕ) (n : ℕ) (Q : Rules) where
  pub drain_begin : (l : ℕ) (c : Cursor) (out : List ℕ) → drain W n Q l c ≡ before (take 0 out) 0 (drain W n Q (l - 0) c)
  drain_begin l c out = rw (sub-zero, zero-add)

  module _ (D : drains.Drained) (out : List ℕ) (l i e : ℕ) (c : Cursor) (s : D ≡ before (take i out) e (drain W n Q (l - i) c)) where
    -- a drain that is at its limit
    module _ (old : List ℕ) (len : length out ≡ length old) (big : l ≤ length old) (most : i ≤ l) (full : l ≤ i) where
      at_limit : D ≡ record { slots = take i out; next = c; entered = e }
      unfolding drain
      at_limit = let u : l - i ≡ 0 = omega arith in s ∙ rw (u, append-nil, add-zero)

      pub full_summary : ◌≡◌ {A = Drained} (record { hits = l; entered = e; next = c }) (summary D)
      full_summary = let u : l ≡ i = omega arith in rw u (summed D out old i e c at_limit (omega arith))

      pub full_filled : drop i out ≡ drop i old → out ≡ filled D.slots old
      full_filled = filling D out old i e c at_limit (omega arith)

    -- one step of a drain that is not
    module _ (r : Step) (room : i < l) (a : answer r ≡ step W n Q c) (t : is_hit_lem r ≡ ltb (answer r).slot n) where
      turn : drain W n Q (l - i) c
          ≡ cond (is_hit_lem r) (more (answer r).slot (answer r).entered (drain W n Q (l - (i + 1)) (answer r).next))
          (record { slots = []; next = (answer r).next; entered = (answer r).entered })
      unfolding drain
      turn = let u : l - (i + 1) ≡ l - i - 1 = omega arith in rw u (go (l - i) (omega arith))
        where
          go : (m : ℕ) → 0 < m → drain W n Q m c
              ≡ cond (is_hit_lem r) (more (answer r).slot (answer r).entered (drain W n Q (m - 1) (answer r).next))
              (record { slots = []; next = (answer r).next; entered = (answer r).entered })
          go zero h = absurd (omega arith)
          go (suc m) h = let u : suc m - 1 ≡ m = omega arith in rw (u, t, a)

      module _ (x : ℕ) (f : x ≡ (answer r).entered) where
        pub drain_fits : D.entered < 18446744073709551616 → e + x < 18446744073709551616
        drain_fits h =
            let m : (answer r).entered ≤ (drain W n Q (l - i) c).entered = rw turn (go (is_hit_lem r)) in
            let k : D.entered ≡ e + (drain W n Q (l - i) c).entered = rw s in
            omega arith
          where
            go : (b : Bool) → (answer r).entered
                ≤ (cond b (more (answer r).slot (answer r).entered (drain W n Q (l - (i + 1)) (answer r).next))
                (record { slots = []; next = (answer r).next; entered = (answer r).entered })).entered
            go true = omega arith
            go false = omega arith

        pub drain_on : (d : Cursor) (y : ℕ) → r ≡ Hit d y → i < length out
            → D ≡ before (take (i + 1) (set out i d.slot)) (e + x) (drain W n Q (l - (i + 1)) d)
        drain_on d y q h =
            let z : x ≡ y = f ∙ ap (λ (k : Step). (answer k).entered) q in
            let m : D ≡ before (take i out) e (more d.slot y (drain W n Q (l - (i + 1)) d)) = s ∙ rw (turn, q) in
            m ∙ before_more (take i out) d.slot e y (drain W n Q (l - (i + 1)) d) ∙ rw (add-one i, take-suc-set out i d.slot h, z)

        module _ (old : List ℕ) (len : length out ≡ length old) (big : l ≤ length old) (y : ℕ) (q : r ≡ End y) where
          at_end : (d : Cursor) → d ≡ ended → D ≡ record { slots = take i out; next = d; entered = e + x }
          at_end d k = s ∙ rw (turn, f, q, append-nil, k)

          pub stop_summary : (d : Cursor) → d ≡ ended → ◌≡◌ {A = Drained} (record { hits = i; entered = e + x; next = d }) (summary D)
          stop_summary d k = summed D out old i (e + x) d (at_end d k) (omega arith)

          pub stop_filled : drop i out ≡ drop i old → out ≡ filled D.slots old
          stop_filled = filling D out old i (e + x) ended (at_end ended refl) (omega arith)
