-- Steps, by the events to come.
use mathlib.Core.Path.{◌≡◌, refl, sym, ap, ◌∙◌}
use mathlib.Core.Bool.{Bool, true, false, cond, ◌&&◌, false≢true}
use mathlib.Core.List.{List, [], ◌∷◌, ◌++◌, append-nil}
use Prim.Native.Nat.{ℕ, zero, suc, ◌+◌, ◌<◌, ◌≤◌}
use native.Mathlib.Omega.{arith}
use native.Mathlib.Nat.{add-zero, suc-add}
use native.Mathlib.Numerals.{one-add}
use lib.ListN.{length}
use lib.Dec.{eqb, ltb}
use borrow.Author.Tests.{lt-ltb, le-ltb, ltb-true, ltb-false, eqb-true}
use Rattle.words.specs.Ix.{U}
use Rattle.iter.specs.declared.Cursor.{Cursor}
use Rattle.stack.specs.States.{top}
use Rattle.iter.specs.Cursors.{stack_of, ended}
use Rattle.iter.specs.Walk.{Rules, counts, move, enters, hits, Answer, ending, hitting, seek, fuel, step, call, after}
use Rattle.iter.specs.Lists.{first_or}
use Rattle.iter.proofs.Events.{Event, enter, found, done, told, events, hit_slots, nodes}
use Rattle.iter.proofs.Bools.{and_left, and_right, and_false}

-- what a call answers that has entered e nodes, by the events to come
abbrev pub answer : ℕ → List Event → Answer
answer e [] = ending e
answer e (enter s ∷ l) = answer (e + 1) l
answer e (found c ∷ l) = hitting c e
answer e (done ∷ l) = ending e

-- the nodes entered in a call
abbrev pub ahead : List Event → List ℕ
ahead [] = []
ahead (enter s ∷ l) = s ∷ ahead l
ahead (found c ∷ l) = []
ahead (done ∷ l) = []

-- the first hit is d, and m is to come after it
abbrev pub First : List Event → Cursor → List Event → Type 0
First [] d m = ⊥
First (enter s ∷ l) d m = First l d m
First (found c ∷ l) d m = (c ≡ d) × (l ≡ m)
First (done ∷ l) d m = ⊥

first_one : (l : List Event) (d e : Cursor) (m k : List Event) → First l d m → First l e k → m ≡ k
first_one [] d e m k h i = absurd h
first_one (enter s ∷ l) d e m k h i = first_one l d e m k h i
first_one (found c ∷ l) d e m k h i = sym h.1 ∙ i.1
first_one (done ∷ l) d e m k h i = absurd h

-- events come to the end
abbrev pub Ends : List Event → Type 0
Ends [] = ⊥
Ends (enter s ∷ l) = Ends l
Ends (found c ∷ l) = Ends l
Ends (done ∷ l) = Unit {0}

pub ends_done : (l : List Event) → Ends (l ++ (done ∷ []))
ends_done [] = tt
ends_done (enter s ∷ l) = ends_done l
ends_done (found c ∷ l) = ends_done l
ends_done (done ∷ l) = tt

-- a list of events has a first hit, or none
pub cases : {X : Type 0} (l : List Event) (e : ℕ)
    → (hit_slots l ≡ [] → nodes l ≡ ahead l → answer e l ≡ ending (e + length (ahead l)) → X)
    → ((d : Cursor) (m : List Event) → First l d m → hit_slots l ≡ d.slot ∷ hit_slots m → nodes l ≡ ahead l ++ nodes m
    → answer e l ≡ hitting d (e + length (ahead l)) → X)
    → X
cases [] e x y = x refl refl (ap ending (omega arith))
cases (enter s ∷ l) e x y =
    cases l (e + 1)
    (λ h i j. x h (rw i) (j ∙ ap ending (omega arith)))
    (λ d m f h i j. y d m f h (rw i) (j ∙ ap (hitting d) (omega arith)))
cases (found c ∷ l) e x y = y c l (refl, refl) refl refl (ap (hitting c) (omega arith))
cases (done ∷ l) e x y = x refl refl (ap ending (omega arith))

module _ (W : List ℕ) (n : ℕ) (Q : Rules) where
  enters_not : (c : Cursor) → enters n c ≡ true → hits n Q c ≡ false
  unfolding enters hits
  enters_not c e =
      let t : top (stack_of c) ≡ 0 = eqb-true (top (stack_of c)) 0 (and_right (ltb c.slot n) (eqb (top (stack_of c)) 0) e) in
      rw t (and_false (ltb c.slot n))

  pub hits_not : (c : Cursor) → hits n Q c ≡ true → enters n c ≡ false
  hits_not c e = go (enters n c) refl
    where
      go : (b : Bool) → enters n c ≡ b → b ≡ false
      go false i = refl
      go true i = absurd (false≢true (sym (enters_not c i) ∙ e))

  pub hits_live : (c : Cursor) → hits n Q c ≡ true → c.slot < n
  unfolding hits
  hits_live c e = ltb-true c.slot n (and_left (ltb c.slot n) (eqb (top (stack_of c)) 1 && Q.match c.slot) e)

  -- a state is entered, or a hit, or neither
  pub kinds : {X : Type 0} (c : Cursor)
      → (enters n c ≡ true → hits n Q c ≡ false → told n Q c ≡ enter c.slot ∷ [] → X)
      → (enters n c ≡ false → hits n Q c ≡ true → told n Q c ≡ found c ∷ [] → X)
      → (enters n c ≡ false → hits n Q c ≡ false → told n Q c ≡ [] → X)
      → X
  unfolding told
  kinds {X} c x y z = go (enters n c) (hits n Q c) refl refl x y z
    where
      go : (j k : Bool) → enters n c ≡ j → hits n Q c ≡ k
          → (j ≡ true → k ≡ false → cond j (enter c.slot ∷ []) (cond k (found c ∷ []) []) ≡ enter c.slot ∷ [] → X)
          → (j ≡ false → k ≡ true → cond j (enter c.slot ∷ []) (cond k (found c ∷ []) []) ≡ found c ∷ [] → X)
          → (j ≡ false → k ≡ false → cond j (enter c.slot ∷ []) (cond k (found c ∷ []) []) ≡ [] → X)
          → X
      go true true p q x y z = absurd (false≢true (sym (enters_not c p) ∙ q))
      go true false p q x y z = x refl refl refl
      go false true p q x y z = y refl refl refl
      go false false p q x y z = z refl refl refl

  seek_is : (f e : ℕ) (c : Cursor) → seek W n Q f e c ≡ answer e (events W n Q f c)
  unfolding seek events
  seek_is zero e c = refl
  seek_is (suc f) e c = go (λ (x : ℕ). seek_is f x (move W Q c)) (ltb c.slot n)
    where
      go : ((x : ℕ) → seek W n Q f x (move W Q c) ≡ answer x (events W n Q f (move W Q c))) → (i : Bool)
          → cond i (cond (hits n Q (move W Q c)) (hitting (move W Q c) e) (seek W n Q f (e + counts n (move W Q c)) (move W Q c))) (ending e)
          ≡ answer e (cond i (told n Q (move W Q c) ++ events W n Q f (move W Q c)) (done ∷ []))
      go rec false = refl
      go rec true =
          kinds (move W Q c)
          (λ p q t. rw (p, q, t) (rec (e + 1)))
          (λ p q t. rw (p, q, t))
          (λ p q t. rw (p, q, t, add-zero) (rec e))

  pub call_is : (f : ℕ) (c : Cursor) → call W n Q f c ≡ cond (enters n c) (c.slot ∷ []) [] ++ ahead (events W n Q f c)
  unfolding call events
  call_is zero c = rw append-nil
  call_is (suc f) c = go (call_is f (move W Q c)) (ltb c.slot n)
    where
      go : call W n Q f (move W Q c) ≡ cond (enters n (move W Q c)) ((move W Q c).slot ∷ []) [] ++ ahead (events W n Q f (move W Q c)) → (i : Bool)
          → cond (enters n c) (c.slot ∷ []) [] ++ cond i (cond (hits n Q (move W Q c)) [] (call W n Q f (move W Q c))) []
          ≡ cond (enters n c) (c.slot ∷ []) [] ++ ahead (cond i (told n Q (move W Q c) ++ events W n Q f (move W Q c)) (done ∷ []))
      go rec false = refl
      go rec true =
          kinds (move W Q c)
          (λ p q t. rw (rec, p, q, t))
          (λ p q t. rw (q, t))
          (λ p q t. rw (rec, p, q, t))

  -- each step's count is the number of nodes entered in that call
  pub step_count : (c : Cursor) → (step W n Q c).entered ≡ length (call W n Q (fuel n) c)
  unfolding step
  step_count c =
      rw (seek_is (fuel n) (counts n c) c, call_is (fuel n) c)
      (cases (events W n Q (fuel n) c) (counts n c) (λ h i j. rw j (go (enters n c))) (λ d m f h i j. rw j (go (enters n c))))
    where
      go : (b : Bool) → cond b 1 0 + length (ahead (events W n Q (fuel n) c)) ≡ length (cond b (c.slot ∷ []) [] ++ ahead (events W n Q (fuel n) c))
      go true = omega arith
      go false = omega arith

  -- the walk from the first hit, with any number of moves, is what comes after it
  abbrev Onward : Cursor → Cursor → Type 0
  Onward c d = (hits n Q d ≡ true) × (j : ℕ) × ((g : ℕ) → First (events W n Q (j + g) c) d (events W n Q g d))

  onward : (f : ℕ) (c d : Cursor) (m : List Event) → First (events W n Q f c) d m → Onward c d
  unfolding events
  onward zero c d m h = absurd h
  onward (suc f) c d m h = go (onward f (move W Q c) d m) (ltb c.slot n) refl h
    where
      go : (First (events W n Q f (move W Q c)) d m → Onward (move W Q c) d) → (i : Bool) → ltb c.slot n ≡ i
          → First (cond i (told n Q (move W Q c) ++ events W n Q f (move W Q c)) (done ∷ [])) d m → Onward c d
      go rec false e h = absurd h
      go rec true e h =
          kinds (move W Q c)
          (λ p q t. let (x, j, k) = rec (rw t at h) in (x, suc j, λ g. rw (suc-add, e, t) (k g)))
          (λ p q t. let y : First (found (move W Q c) ∷ events W n Q f (move W Q c)) d m = rw t at h in
          (rw y.0 at q, 1, λ g. rw (one-add, e, t, y.0) (refl, refl)))
          (λ p q t. let (x, j, k) = rec (rw t at h) in (x, suc j, λ g. rw (suc-add, e, t) (k g)))

  -- with any number of moves from m on, the events to come from c are l
  abbrev pub Plays : ℕ → Cursor → List Event → Type 0
  Plays m c l = (f : ℕ) → m ≤ f → events W n Q f c ≡ l

  pub first_hits : (c d : Cursor) (l k : List Event) → Plays (fuel n) c l → First l d k → hits n Q d ≡ true
  first_hits c d l k p h = (onward (fuel n) c d k (rw (p (fuel n) (omega arith)) h)).0

  pub plays_on : (m : ℕ) (c d : Cursor) (l k : List Event) → Plays m c l → First l d k → Plays m d k
  plays_on m c d l k p h f q =
      let (x, j, y) = onward m c d k (rw (p m (omega arith)) h) in
      first_one l d d (events W n Q f d) k (rw (p (j + f) (omega arith)) at (y f)) h

  pub step_is : (c : Cursor) (l : List Event) → Plays (fuel n) c l → step W n Q c ≡ answer (counts n c) l
  unfolding step
  step_is c l p = seek_is (fuel n) (counts n c) c ∙ rw (p (fuel n) (omega arith))

  -- a step answers the first hit
  pub step_slot : (c : Cursor) (l : List Event) → Plays (fuel n) c l → (step W n Q c).slot ≡ first_or U (hit_slots l)
  step_slot c l p =
      cases l (counts n c) (λ i j k. rw (step_is c l p, k, i)) (λ d m f i j k. rw (step_is c l p, k, i))

  -- more moves change no answer
  pub enough : (c : Cursor) (l : List Event) → Plays (fuel n) c l → (f : ℕ) → fuel n ≤ f → seek W n Q f (counts n c) c ≡ step W n Q c
  enough c l p f h = seek_is f (counts n c) c ∙ rw (p f h) (sym (step_is c l p))

  -- where the events come to the end, the walk is at no live slot
  pub ends_after : (f : ℕ) (c : Cursor) → Ends (events W n Q f c) → n ≤ (after W n Q f c).slot
  unfolding events after
  ends_after zero c h = absurd h
  ends_after (suc f) c h = go (ends_after f (move W Q c)) (ltb c.slot n) refl h
    where
      go : (Ends (events W n Q f (move W Q c)) → n ≤ (after W n Q f (move W Q c)).slot) → (i : Bool) → ltb c.slot n ≡ i
          → Ends (cond i (told n Q (move W Q c) ++ events W n Q f (move W Q c)) (done ∷ []))
          → n ≤ (cond i (after W n Q f (move W Q c)) c).slot
      go rec false e h = ltb-false c.slot n e
      go rec true e h = kinds (move W Q c) (λ p q t. rec (rw t at h)) (λ p q t. rec (rw t at h)) (λ p q t. rec (rw t at h))

  module _ (small : n ≤ 65535) where
    pub no_slot : ltb U n ≡ false
    no_slot = le-ltb U n (omega arith)

    -- a cursor at the end answers the end again, with no node entered
    seek_end : (f e : ℕ) (c : Cursor) → c.slot ≡ U → seek W n Q f e c ≡ ending e
    unfolding seek
    seek_end zero e c h = refl
    seek_end (suc f) e c h = rw (h, no_slot)

    enters_end : (c : Cursor) → c.slot ≡ U → enters n c ≡ false
    unfolding enters
    enters_end c h = rw (h, no_slot)

    pub step_end : (c : Cursor) → c.slot ≡ U → step W n Q c ≡ ending 0
    unfolding step
    step_end c h = seek_end (fuel n) (counts n c) c h ∙ rw (enters_end c h)

    -- a step with no hit answers the ended cursor
    pub step_stops : (c : Cursor) → ltb (step W n Q c).slot n ≡ false → (step W n Q c).next ≡ ended
    unfolding step
    step_stops c h =
        cases (events W n Q (fuel n) c) (counts n c)
        (λ i j k. rw (seek_is (fuel n) (counts n c) c, k))
        (λ d m f i j k.
        let x : d.slot < n = hits_live d (onward (fuel n) c d m f).0 in
        let y : ltb d.slot n ≡ false = rw (seek_is (fuel n) (counts n c) c, k) at h in
        absurd (false≢true (sym y ∙ lt-ltb d.slot n x)))
