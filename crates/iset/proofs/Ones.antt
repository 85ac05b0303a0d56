-- A step is a drain of one hit.
use Rattle.std.proofs.Common.{◌≡◌, ℕ, zero, suc, ◌+◌, ◌≤◌, Bool, true, false, cond, ltb, List, [], ◌∷◌, length, sym, refl, ap, ◌∙◌, add-zero, arith, le-ltb, lt-ltb}
use Rattle.words.specs.Ix.{U}
use Rattle.iter.specs.Walk.{Rules, Answer, move, hits, hitting, ending, counts, fuel, seek, step}
use Rattle.iter.specs.Drains as drains
use Rattle.iter.specs.Drains.{drain}
use Rattle.iter.specs.Answers.{summary}
use Rattle.iter.specs.declared.Cursor.{Cursor}
use Rattle.iter.specs.declared.drain.Drained.{Drained}
use Rattle.iter.proofs.Steps.{hits_live}

-- a hit at its cursor's slot, or the end; and what a drain of one hit makes of it
abbrev shaped : Bool → Answer → Answer
shaped b a = cond b (hitting a.next a.entered) (ending a.entered)

abbrev one : Bool → Answer → drains.Drained
one b a =
    cond b
    (record { slots = a.slot ∷ []; next = a.next; entered = a.entered })
    (record { slots = []; next = a.next; entered = a.entered })

-- an answer of either kind, by the drain of one hit
module _ (n : ℕ) (a : Answer) where
  hit_of : (b : Bool) → a ≡ shaped b a → length (one b a).slots ≡ 1 → hitting (one b a).next (one b a).entered ≡ a
  hit_of true s h = sym s
  hit_of false s h = absurd (omega arith)

  live_of : (b : Bool) → ltb a.slot n ≡ b → a ≡ shaped b a → length (one b a).slots ≡ 1 → true ≡ ltb (one b a).next.slot n
  live_of true p s h = sym p ∙ ap (λ (x : Answer). ltb x.slot n) s
  live_of false p s h = absurd (omega arith)

  end_of : (b : Bool) → a ≡ shaped b a → (length (one b a).slots ≡ 1 → ⊥) → ending (one b a).entered ≡ a
  end_of true s h = absurd (h refl)
  end_of false s h = sym s

pub no_slot : (n : ℕ) → n ≤ 65535 → false ≡ ltb U n
no_slot n small = sym (le-ltb U n (omega arith))

module _ (W : List ℕ) (n : ℕ) (Q : Rules) (small : n ≤ 65535) where
  seek_shaped : (f e : ℕ) (c : Cursor) → seek W n Q f e c ≡ shaped (ltb (seek W n Q f e c).slot n) (seek W n Q f e c)
  unfolding seek
  seek_shaped zero e c = rw (← (no_slot n small))
  seek_shaped (suc f) e c =
      let d : Cursor = move W Q c in
      let r : Answer = seek W n Q f (e + counts n d) d in
      let i : r ≡ shaped (ltb r.slot n) r = seek_shaped f (e + counts n d) d in
      go (ltb c.slot n) (hits n Q d) d r refl (no_slot n small) i
    where
      go : (a b : Bool) (d : Cursor) (r : Answer) → hits n Q d ≡ b → false ≡ ltb U n → r ≡ shaped (ltb r.slot n) r
          → cond a (cond b (hitting d e) r) (ending e)
          ≡ shaped (ltb (cond a (cond b (hitting d e) r) (ending e)).slot n) (cond a (cond b (hitting d e) r) (ending e))
      go false b d r q u i = rw (← u)
      go true false d r q u i = i
      go true true d r q u i = rw (lt-ltb d.slot n (hits_live W n Q d q))

  module _ (c : Cursor) where
    step_shaped : step W n Q c ≡ shaped (ltb (step W n Q c).slot n) (step W n Q c)
    unfolding step
    step_shaped = seek_shaped (fuel n) (counts n c) c

    drain_one : drain W n Q 1 c ≡ one (ltb (step W n Q c).slot n) (step W n Q c)
    unfolding drain
    drain_one = rw add-zero refl

    module _ (d : Drained) (e : d ≡ summary (drain W n Q 1 c)) where
      told : d ≡ summary (one (ltb (step W n Q c).slot n) (step W n Q c))
      told = e ∙ ap summary drain_one

      hits_told : length (one (ltb (step W n Q c).slot n) (step W n Q c)).slots ≡ d.hits
      hits_told = sym (ap (λ (x : Drained). x.hits) told)

      pub one_hit_is : d.hits ≡ 1 → hitting d.next d.entered ≡ step W n Q c
      one_hit_is h = rw told (hit_of n (step W n Q c) (ltb (step W n Q c).slot n) step_shaped (hits_told ∙ h))

      pub one_hit_live : d.hits ≡ 1 → true ≡ ltb d.next.slot n
      one_hit_live h = rw told (live_of n (step W n Q c) (ltb (step W n Q c).slot n) refl step_shaped (hits_told ∙ h))

      pub one_end_is : (d.hits ≡ 1 → ⊥) → ending d.entered ≡ step W n Q c
      one_end_is h = rw told (end_of n (step W n Q c) (ltb (step W n Q c).slot n) step_shaped (λ z. h (sym hits_told ∙ z)))
