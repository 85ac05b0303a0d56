-- Drains: what they hand out and count, by the events to come; and a drain is its steps.
use mathlib.Core.Path.{◌≡◌, refl, ap}
use mathlib.Core.Bool.{Bool, true, false, cond}
use mathlib.Core.List.{List, [], ◌∷◌, ◌++◌, append_assoc, append-nil}
use Prim.Native.Nat.{ℕ, zero, suc, ◌+◌, ◌<◌, ◌≤◌}
use native.Mathlib.Omega.{arith}
use native.Mathlib.Nat.{add-zero, zero-add, suc-add, add_assoc}
use lib.ListN.{length, take, length-append}
use lib.Dec.{ltb}
use borrow.Author.Tests.{lt-ltb, ne_eqb}
use Rattle.iter.specs.Cursors.{ended}
use Rattle.iter.specs.Walk.{Rules, Answer, enters, hits, counts, fuel, step}
use Rattle.iter.specs.Drains.{more, joined, drain, calls, limit_of_lem}
use Rattle.iter.specs.declared.Cursor.{Cursor}
use Rattle.iter.proofs.Events.{Event, hit_slots, nodes}
use Rattle.iter.proofs.Steps.{cases, hits_not, hits_live, Plays, first_hits, plays_on, step_is, call_is, step_count, no_slot, step_end, step_stops}

-- "0 means the output's length"; any other limit means itself
pub limit_zero : (places : ℕ) → limit_of_lem 0 places ≡ places
limit_zero places = refl

pub limit_own : (k places : ℕ) → limit_of_lem (suc k) places ≡ suc k
limit_own k places = rw (ne_eqb (suc k) 0 (λ z. omega arith))

module _ (W : List ℕ) (n : ℕ) (Q : Rules) where
  -- no more hits than the limit
  pub drain_limit : (limit : ℕ) (c : Cursor) → length (drain W n Q limit c).slots ≤ limit
  unfolding drain
  drain_limit zero c = omega arith
  drain_limit (suc limit) c = go (drain_limit limit (step W n Q c).next) (ltb (step W n Q c).slot n)
    where
      go : length (drain W n Q limit (step W n Q c).next).slots ≤ limit → (i : Bool)
          → length (cond i (more (step W n Q c).slot (step W n Q c).entered (drain W n Q limit (step W n Q c).next))
          (record { slots = []; next = (step W n Q c).next; entered = (step W n Q c).entered })).slots ≤ suc limit
      go rec true = omega arith
      go rec false = omega arith

  -- the count of a drain is the number of nodes entered in its calls
  pub drain_count : (limit : ℕ) (c : Cursor) → (drain W n Q limit c).entered ≡ length (calls W n Q limit c)
  unfolding drain calls
  drain_count zero c = refl
  drain_count (suc limit) c =
      rw (length-append, ← (step_count W n Q c)) (go (drain_count limit (step W n Q c).next) (ltb (step W n Q c).slot n))
    where
      go : (drain W n Q limit (step W n Q c).next).entered ≡ length (calls W n Q limit (step W n Q c).next) → (i : Bool)
          → (cond i (more (step W n Q c).slot (step W n Q c).entered (drain W n Q limit (step W n Q c).next))
          (record { slots = []; next = (step W n Q c).next; entered = (step W n Q c).entered })).entered
          ≡ (step W n Q c).entered + length (cond i (calls W n Q limit (step W n Q c).next) [])
      go rec true = omega arith
      go rec false = omega arith

  module _ (small : n ≤ 65535) where
    -- a drain whose limit is not reached, with the sum of its steps' counts
    pub drain_all : (limit : ℕ) (c : Cursor) (l : List Event) → Plays W n Q (fuel n) c l → length (hit_slots l) < limit
        → drain W n Q limit c ≡ record { slots = hit_slots l; next = ended; entered = counts n c + length (nodes l) }
    unfolding drain
    drain_all zero c l p h = absurd (omega arith)
    drain_all (suc limit) c l p h =
        cases l (counts n c)
        (λ i j k. rw (step_is W n Q c l p, k, no_slot W n Q small, i, j))
        (λ d m f i j k.
        let x : hits n Q d ≡ true = first_hits W n Q c d l m p f in
        let y : length (hit_slots m) < limit = let z : length (d.slot ∷ hit_slots m) < suc limit = rw i at h in omega arith in
        rw (step_is W n Q c l p, k, lt-ltb d.slot n (hits_live W n Q d x), drain_all limit d m (plays_on W n Q (fuel n) c d l m p f) y, hits_not W n Q d x, i, j, length-append)
        (ap (λ (e : ℕ). record { slots = d.slot ∷ hit_slots m; next = ended; entered = e }) (omega arith)))

    -- the nodes entered in its calls
    pub calls_all : (limit : ℕ) (c : Cursor) (l : List Event) → Plays W n Q (fuel n) c l → length (hit_slots l) < limit
        → calls W n Q limit c ≡ cond (enters n c) (c.slot ∷ []) [] ++ nodes l
    unfolding calls
    calls_all zero c l p h = absurd (omega arith)
    calls_all (suc limit) c l p h =
        cases l (counts n c)
        (λ i j k. rw (step_is W n Q c l p, k, no_slot W n Q small, call_is W n Q (fuel n) c, p (fuel n) (omega arith), j, append-nil))
        (λ d m f i j k.
        let x : hits n Q d ≡ true = first_hits W n Q c d l m p f in
        let y : length (hit_slots m) < limit = let z : length (d.slot ∷ hit_slots m) < suc limit = rw i at h in omega arith in
        rw (step_is W n Q c l p, k, lt-ltb d.slot n (hits_live W n Q d x), calls_all limit d m (plays_on W n Q (fuel n) c d l m p f) y, hits_not W n Q d x, call_is W n Q (fuel n) c, p (fuel n) (omega arith), j, append_assoc))

    -- the hits of any drain
    pub drain_hits : (limit : ℕ) (c : Cursor) (l : List Event) → Plays W n Q (fuel n) c l → (drain W n Q limit c).slots ≡ take limit (hit_slots l)
    unfolding drain
    drain_hits zero c l p = refl
    drain_hits (suc limit) c l p =
        cases l (counts n c)
        (λ i j k. rw (step_is W n Q c l p, k, no_slot W n Q small, i))
        (λ d m f i j k.
        let x : hits n Q d ≡ true = first_hits W n Q c d l m p f in
        rw (step_is W n Q c l p, k, lt-ltb d.slot n (hits_live W n Q d x), drain_hits limit d m (plays_on W n Q (fuel n) c d l m p f), i))

    -- a drain with any limit enters no more
    pub drain_most : (limit : ℕ) (c : Cursor) (l : List Event) → Plays W n Q (fuel n) c l
        → (drain W n Q limit c).entered ≤ counts n c + length (nodes l)
    unfolding drain
    drain_most zero c l p = omega arith
    drain_most (suc limit) c l p =
        cases l (counts n c)
        (λ i j k. rw (step_is W n Q c l p, k, no_slot W n Q small, j) (omega arith))
        (λ d m f i j k.
        let x : hits n Q d ≡ true = first_hits W n Q c d l m p f in
        let y : (drain W n Q limit d).entered ≤ 0 + length (nodes m) = rw (hits_not W n Q d x) at (drain_most limit d m (plays_on W n Q (fuel n) c d l m p f)) in
        rw (step_is W n Q c l p, k, lt-ltb d.slot n (hits_live W n Q d x), j, length-append) (omega arith))

    pub drain_end : (limit : ℕ) → drain W n Q limit ended ≡ record { slots = []; next = ended; entered = 0 }
    unfolding drain
    drain_end zero = refl
    drain_end (suc limit) = rw (step_end W n Q small ended refl, no_slot W n Q small)

    -- a drain in two parts
    pub drain_split : (i j : ℕ) (c : Cursor)
        → drain W n Q (i + j) c ≡ joined (drain W n Q i c) (drain W n Q j (drain W n Q i c).next)
    unfolding drain
    drain_split zero j c = rw (zero-add j, zero-add)
    drain_split (suc i) j c = rw suc-add (go (drain_split i j (step W n Q c).next) (ltb (step W n Q c).slot n) refl)
      where
        a : Answer
        a = step W n Q c

        go : drain W n Q (i + j) a.next ≡ joined (drain W n Q i a.next) (drain W n Q j (drain W n Q i a.next).next)
            → (b : Bool) → ltb a.slot n ≡ b
            → cond b (more a.slot a.entered (drain W n Q (i + j) a.next)) (record { slots = []; next = a.next; entered = a.entered })
            ≡ joined (cond b (more a.slot a.entered (drain W n Q i a.next)) (record { slots = []; next = a.next; entered = a.entered }))
            (drain W n Q j (cond b (more a.slot a.entered (drain W n Q i a.next)) (record { slots = []; next = a.next; entered = a.entered })).next)
        go rec true e = rw (rec, add_assoc)
        go rec false e = rw (step_stops W n Q small c e, drain_end j, add-zero)
