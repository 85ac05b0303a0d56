-- What an export hands out, in the form that `search` takes.
use mathlib.Core.Path.{◌≡◌, refl, sym, ap, ◌∙◌}
use mathlib.Core.Bool.{Bool, true, false, cond}
use Rattle.std.specs.Prelude.{Option, Some, None, Result, Ok, Err}
use mathlib.Core.List.{List, [], ◌∷◌}
use Prim.Native.Nat.{ℕ, ◌<◌, ◌≤◌}
use native.Mathlib.Omega.{arith}
use lib.ListN.{length}
use borrow.Author.Tests.{lt-ltb, le-ltb, ne_eqb}
use Rattle.words.specs.Ix.{U}
use Rattle.words.specs.Refusals.{refusal_number}
use Rattle.words.specs.declared.refusal.Refusal.{Refusal}
use Rattle.words.proofs.Refusals.{number_pos}
use Rattle.std.specs.declared.ops.Bound.{Bound}
use Rattle.words.specs.declared.interval.Span.{Span}
use Rattle.iter.specs.Cursors.{ended}
use Rattle.iter.specs.Drains.{filled}
use Rattle.iter.specs.declared.Cursor.{Cursor}
use Rattle.iter.specs.declared.rules.Query.{Query}
use Rattle.iter.specs.declared.seek.Step.{Step}
use Rattle.iter.specs.declared.seek.Step.TheVariants.{Hit, End}
use Rattle.iset.specs.Effects.{Effect, effect, Output, output}
use Rattle.plain.specs.declared.Tally.{Tally}
use Rattle.iset.specs.Tallies.{TallyAnswer, tally_answer}
use Rattle.iset.specs.declared.Map.{Map}
use Rattle.iset_c.specs.Replies.{Reply, Exit, exit, number, handed, left, exit_of, answer_exit, effect_exit, output_exit, refusal_of, written, cursor_numbers, fresh_reply, step_numbers, found_numbers, tally_numbers, tally_reply}

-- an answer that is too short, whatever the bounds are
pub short_exit : (b : Bool) (A : List ℕ) (R : Reply) (old new : List (List ℕ)) → length A < length R.numbers → exit 101 A old ≡ exit_of b A R old new
unfolding number handed left
short_exit b A R old new h = rw (lt-ltb (length A) (length R.numbers) h)

-- a range made of two bounds, whose kinds are ones or not: b
made_by : {X : Type 0} (v w : X) (b : Bool) → cond b (Some v) None ≡ Some w → (b ≡ true) × (w ≡ v)
made_by v w true e = (refl, cc)
made_by v w false e = absurd (cc)

unmade : {X : Type 0} (v : X) (b : Bool) → cond b (Some v) None ≡ None → b ≡ false
unmade v true e = absurd (cc)
unmade v false e = refl

-- a range whose bounds have not all a kind
pub unbounded_exit : {X : Type 0} (v : X) (t : Option X) (b : Bool) (A : List ℕ) (R : Reply) (old new : List (List ℕ)) → t ≡ cond b (Some v) None → t ≡ None
    → length R.numbers ≤ length A → exit 102 A old ≡ exit_of b A R old new
unfolding number handed left
unbounded_exit v t b A R old new e q h =
    let f : b ≡ false = unmade v b (sym e ∙ q) in
    rw (f, le-ltb (length A) (length R.numbers) h)

-- a call that was made: its reply R, the slices that it left, and what the export has done with the
-- answer
module _ (A : List ℕ) (R : Reply) (old new : List (List ℕ)) (h : length R.numbers ≤ length A) where
  made_refused : 0 < R.no → exit R.no A new ≡ exit_of true A R old new
  unfolding number handed left
  made_refused p = rw (le-ltb (length A) (length R.numbers) h, ne_eqb R.no 0 (λ f. omega arith))

  made_done : R.no ≡ 0 → exit 0 (filled R.numbers A) new ≡ exit_of true A R old new
  unfolding number handed left
  made_done z = rw (le-ltb (length A) (length R.numbers) h, z)

-- The code's result is t. What it stands for goes by g, what was given: a map or a cursor.
module _ {G T K : Type 0} (stands : G → Result T Refusal → K) (reply : K → Reply) (numbers : T → List ℕ)
    (ok : (g : G) (x : T) → reply (stands g (Ok x)) ≡ record { no = 0; numbers = numbers x })
    (err : (g : G) (y : Refusal) → (reply (stands g (Err y))).no ≡ refusal_number y) (g : G) (A : List ℕ) where
  made : (t : Result T Refusal) (old new : List (List ℕ)) → length (reply (stands g t)).numbers ≤ length A
      → exit (refusal_of t) (written numbers t A) new ≡ exit_of true A (reply (stands g t)) old new
  made (Ok x) old new h =
      rw (ok g x) (made_done A (record { no = 0; numbers = numbers x }) old new (rw (ok g x) at h) refl)
  made (Err y) old new h =
      rw (← err g y) (made_refused A (reply (stands g (Err y))) old new h (rw (err g y) (number_pos y)))

  module _ (t : Result T Refusal) (n : ℕ) (X : List ℕ) (p : n ≡ refusal_of t) (q : X ≡ written numbers t A) where
    -- an export of a call that writes nothing
    pub told_answer : (k : K) → stands g t ≡ k → length (reply k).numbers ≤ length A → exit n X [] ≡ answer_exit true A (reply k)
    told_answer k e h = rw (← e, p, q) (made t [] [] (rw (← e) at h))

    -- of one that writes the store
    pub told_effect : (k : Effect K) (W C Y Z : List ℕ) → effect (stands g t) Y Z ≡ k → length (reply k.answer).numbers ≤ length A
        → exit n X (Y ∷ Z ∷ []) ≡ effect_exit reply A W C k
    told_effect k W C Y Z e h = rw (← e, p, q) (made t (W ∷ C ∷ []) (Y ∷ Z ∷ []) (rw (← e) at h))

    -- of one that writes an output
    pub told_output : (k : Output K) (out Y : List ℕ) → output (stands g t) Y ≡ k → length (reply k.answer).numbers ≤ length A
        → exit n X (Y ∷ []) ≡ output_exit reply true A out k
    told_output k out Y e h = rw (← e, p, q) (made t (out ∷ []) (Y ∷ []) (rw (← e) at h))

-- a lookup that finds all hits at once, by its result t
pub looked_exit : (A : List ℕ) (t : Result Tally Refusal) → 2 ≤ length A → (n : ℕ) (X : List ℕ) → n ≡ refusal_of t
    → X ≡ written (λ (a : Tally). tally_numbers a.hits a.entered) t A → (k : Output TallyAnswer) (out Y : List ℕ) → output (tally_answer t) Y ≡ k
    → exit n X (Y ∷ []) ≡ output_exit tally_reply true A out k
looked_exit A t h n X p q k out Y e =
    told_output (λ (g : ℕ). tally_answer) tally_reply (λ (a : Tally). tally_numbers a.hits a.entered) (λ g x. refl) (λ g y. refl) 0 A t n X p q k out Y e h

-- the one export whose call refuses nothing
pub fresh_told : (c d : Cursor) (A X : List ℕ) → c ≡ d → X ≡ filled (cursor_numbers c) A → 3 ≤ length A → exit 0 X [] ≡ answer_exit true A (fresh_reply d)
fresh_told c d A X e p h = rw (p, e) (made_done A (fresh_reply d) [] [] h refl)

-- A range that a function made, whose bounds have kinds: a step or a lookup that finds all hits at
-- once; and a drain.
-- They serve the public calls and the opened ones.
pub bounded : {T : Type 0} (rule : Bool → List ℕ → Map → List ℕ → List ℕ → Query → T → Exit) (A : List ℕ) (m : Map) (W C : List ℕ) (x : T)
    (made query : Query) (b : Bool) (t : Option Query) → t ≡ cond b (Some query) None → t ≡ Some made → (r : Exit) → r ≡ rule true A m W C made x → r ≡ rule b A m W C query x
bounded rule A m W C x made query b t e f r p = let c = made_by query made b (sym e ∙ f) in rw (c.0, ← c.1) p

pub bounded_drain : (rule : Bool → List ℕ → Map → List ℕ → List ℕ → Query → Cursor → ℕ → List ℕ → Exit) (A : List ℕ) (m : Map) (W C : List ℕ)
    (c : Cursor) (limit : ℕ) (out : List ℕ) (made query : Query) (b : Bool) (t : Option Query) → t ≡ cond b (Some query) None → t ≡ Some made
    → (r : Exit) → r ≡ rule true A m W C made c limit out → r ≡ rule b A m W C query c limit out
bounded_drain rule A m W C c limit out made query b t e f r p = let d = made_by query made b (sym e ∙ f) in rw (d.0, ← d.1) p

-- and an unloading, public or opened
pub bounded_unload : (rule : Bool → List ℕ → Map → List ℕ → List ℕ → ℕ → Span → Exit) (A : List ℕ) (m : Map) (W C : List ℕ)
    (k : ℕ) (made range : Span) (b : Bool) (t : Option Span) → t ≡ cond b (Some range) None → t ≡ Some made
    → (r : Exit) → r ≡ rule true A m W C k made → r ≡ rule b A m W C k range
bounded_unload rule A m W C k made range b t e f r p = let d = made_by range made b (sym e ∙ f) in rw (d.0, ← d.1) p

-- a call whose number is its whole answer
pub number_told : (call : Output ℕ) (k r : ℕ) (X : List ℕ) → output k X ≡ call → r ≡ k → output r X ≡ call
number_told call k r X e p = ap (λ (n : ℕ). output n X) p ∙ e

-- the numbers of a step that is known to be a hit or the end
module _ (s : Step) (A X : List ℕ) (c : Cursor) (e : ℕ) where
  pub hit_put : s ≡ Hit c e → X ≡ filled (step_numbers c.slot c e) A → X ≡ filled (found_numbers s) A
  hit_put q p = rw q p

  pub end_put : s ≡ End e → c ≡ ended → X ≡ filled (step_numbers U c e) A → X ≡ filled (found_numbers s) A
  end_put q d p = rw q (rw d at p)

pub span_made : (l h lo hi : Bound ℕ) → l ≡ lo → h ≡ hi → ◌≡◌ {A = Span} (record { lo = l; hi = h }) (record { lo = lo; hi = hi })
span_made l h lo hi p q = rw (p, q)
