-- What the code's cases say of a rule, in the form that `search` takes.
use Rattle.std.specs.Prelude.{Option, None, Some, Result, Ok, Err, is_ok}
use mathlib.Core.Path.{◌≡◌, refl, sym, ◌∙◌}
use mathlib.Core.Bool.{Bool, true, false}
use mathlib.Core.List.{List}
use Prim.Native.Nat.{ℕ, ◌+◌, ◌<◌, ◌≤◌}
use native.Mathlib.Numerals.{add-one}
use lib.ListN.{length, get_or, set, drop, drop_of_length-le}
use lib.Seq.{drop-cons}
use borrow.Author.Tests.{lt-ltb, le-ltb, lt-leb, le-leb, eq-eqb, ne_eqb}
use Rattle.words.specs.Ix.{U}
use Rattle.plan_text.specs.Line.{byte_rule, new_rule}
use Rattle.plan_text.specs.Reading.{Shelf, shelf, flaw_of, placed, said, next_line_lem, stage, lined, stepped, last_of, first_free_lem}
use Rattle.plan_text.specs.declared.line.Move.{Move}
use Rattle.plan_text.specs.declared.reading.Flaw.{Flaw}
use Rattle.plan_text.specs.declared.reading.Flaw.TheVariants.{Form, High, OldAgain, NewAgain, Missing}
use Rattle.plan_text.specs.declared.reading.State.{State}

-- the flaws of a line
module _ (n s v : ℕ) (P L : List ℕ) (r : Result Unit Flaw) where
  pub old_high : length P ≤ s → r ≡ Err (High n s (length P)) → r ≡ flaw_of n s v P L
  unfolding flaw_of
  old_high h q = rw (le-leb (length P) s h) q

  module _ (h : s < length P) where
    pub new_high : length P ≤ v → r ≡ Err (High n v (length P)) → r ≡ flaw_of n s v P L
    unfolding flaw_of
    new_high k q = rw (lt-leb (length P) s h, le-leb (length P) v k) q

    module _ (k : v < length P) (g : ℕ) (e : g ≡ get_or P s 0) where
      pub old_again : (b : ℕ) → (g ≡ U → ⊥) → b ≡ get_or L g 0 → r ≡ Err (OldAgain n s b) → r ≡ flaw_of n s v P L
      unfolding flaw_of
      old_again b f q p = rw (lt-leb (length P) s h, lt-leb (length P) v k, ← e, ne_eqb g U f, ← q) p

      module _ (f : g ≡ U) (b : ℕ) (q : b ≡ get_or L v 0) where
        pub new_again : (b ≡ 0 → ⊥) → r ≡ Err (NewAgain n v b) → r ≡ flaw_of n s v P L
        unfolding flaw_of
        new_again z p = rw (lt-leb (length P) s h, lt-leb (length P) v k, ← e, eq-eqb g U f, ← q, ne_eqb b 0 z) p

        pub no_flaw : b ≡ 0 → r ≡ Ok tt → r ≡ flaw_of n s v P L
        unfolding flaw_of
        no_flaw z p = rw (lt-leb (length P) s h, lt-leb (length P) v k, ← e, eq-eqb g U f, ← q, eq-eqb b 0 z) p

-- a line that is taken, and one that is not
module _ (n s v : ℕ) (P L : List ℕ) (f : Result Unit Flaw) (e : f ≡ flaw_of n s v P L) where
  pub place_on : (X Y : List ℕ) (x : Unit) → f ≡ Ok x → X ≡ set P s v → Y ≡ set L v n → shelf (Ok tt) X Y ≡ placed n s v P L
  unfolding placed
  place_on X Y x q g h = rw (← e, q) (λ i. shelf (Ok tt) (g i) (h i))

  pub place_off : (y : Flaw) → f ≡ Err y → shelf (Err y) P L ≡ placed n s v P L
  unfolding placed
  place_off y q = rw (← e, q) refl

-- a complete line
module _ (o : Option Move) (n : ℕ) (P L : List ℕ) (h : Shelf) where
  pub said_move : (m : Move) → o ≡ Some m → h ≡ placed n m.old m.new P L → h ≡ said o n P L
  unfolding said
  said_move m e q = rw e q

  pub said_other : o ≡ None → h ≡ shelf (Err (Form n)) P L → h ≡ said o n P L
  unfolding said
  said_other e q = rw e q

module _ (n : ℕ) where
  pub line_next : n < U → n + 1 ≡ next_line_lem n
  unfolding next_line_lem
  line_next h = rw (lt-ltb n U h) refl

  pub line_last : U ≤ n → n ≡ next_line_lem n
  unfolding next_line_lem
  line_last h = rw (le-ltb n U h) refl

-- one byte
module _ (s r : State) (P L : List ℕ) where
  module _ (b : ℕ) (f : Result Unit Flaw) (t : Bool) (e : f ≡ s.checked) (q : t ≡ is_ok f) where
    pub byte_end : (X Y : List ℕ) → t ≡ true → b ≡ 10 → stage r X Y ≡ lined (stage s P L) → stage r X Y ≡ stepped (stage s P L) b
    unfolding stepped
    byte_end X Y y k h = rw (← e, ← q, y, eq-eqb b 10 k) h

    pub byte_more : t ≡ true → (b ≡ 10 → ⊥) → r.line ≡ byte_rule s.line b → r.number ≡ s.number → r.checked ≡ s.checked
        → stage r P L ≡ stepped (stage s P L) b
    unfolding stepped
    byte_more y k l m g =
        let j : r.checked ≡ f = g ∙ sym e in
        rw (← e, ← q, y, ne_eqb b 10 k) (λ i. record { line = l i; number = m i; shelf = shelf (j i) P L })

    pub byte_flawed : t ≡ false → stage s P L ≡ stepped (stage s P L) b
    unfolding stepped
    byte_flawed y = rw (← e, ← q, y) refl

-- the end of the text
module _ (s r : State) (P L : List ℕ) (b : Bool) (e : b ≡ new_rule s.line) where
  pub last_new : b ≡ true → stage s P L ≡ last_of (stage s P L)
  unfolding last_of
  last_new t = rw (← e, t) refl

  pub last_line : (X Y : List ℕ) → b ≡ false → stage r X Y ≡ stepped (stage s P L) 10 → stage r X Y ≡ last_of (stage s P L)
  unfolding last_of
  last_line X Y t q = rw (← e, t) q

-- the search for a slot that no line has named
module _ (P : List ℕ) (i : ℕ) (e : first_free_lem 0 P ≡ first_free_lem i (drop i P)) where
  pub free_found : (r : Result Unit Flaw) → i < length P → get_or P i 0 ≡ U → r ≡ Err (Missing i) → r ≡ first_free_lem 0 P
  unfolding first_free_lem
  free_found r h u q = q ∙ sym (e ∙ rw (drop-cons P i 0 h, eq-eqb (get_or P i 0) U u) refl)

  pub free_on : i < length P → (get_or P i 0 ≡ U → ⊥) → first_free_lem 0 P ≡ first_free_lem (i + 1) (drop (i + 1) P)
  unfolding first_free_lem
  free_on h u = e ∙ rw (drop-cons P i 0 h, ne_eqb (get_or P i 0) U u, add-one i) refl

  pub free_none : (r : Result Unit Flaw) → length P ≤ i → r ≡ Ok tt → r ≡ first_free_lem 0 P
  unfolding first_free_lem
  free_none r h q = q ∙ sym (e ∙ rw (drop_of_length-le P h) refl)
