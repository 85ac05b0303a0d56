-- One equation of what an export returns and leaves determines each part of it.
use mathlib.Core.Path.{◌≡◌, sym, ap, ◌∙◌}
use mathlib.Core.Bool.{Bool}
use mathlib.Core.List.{List, [], ◌∷◌}
use Prim.Native.Nat.{ℕ}
use Rattle.words.specs.Layouts.{as_eight}
use Rattle.words.proofs.Layouts.{eight_injective}
use Rattle.iset.specs.Effects.{Output, output}
use Rattle.iset_c.specs.Replies.{Exit, exit}

abbrev front : List (List ℕ) → List ℕ
front [] = []
front (x ∷ l) = x

abbrev rest : List (List ℕ) → List (List ℕ)
rest [] = []
rest (x ∷ l) = l

-- of a call that writes nothing but its answer; of one that writes the store; of one that writes an
-- output
module _ {n k : ℕ} {A B : List ℕ} {x : Exit} where
  pub same_answer : exit n A [] ≡ x → exit k B [] ≡ x → (n ≡ k) × (A ≡ B)
  same_answer p q =
      let e : exit n A [] ≡ exit k B [] = p ∙ sym q in
      (ap (λ (y : Exit). y.number) e, ap (λ (y : Exit). y.answer) e)

  pub same_effect : {W C X D : List ℕ} → exit n A (W ∷ C ∷ []) ≡ x → exit k B (X ∷ D ∷ []) ≡ x → (n ≡ k) × (A ≡ B) × (W ≡ X) × (C ≡ D)
  same_effect {W = W} {C = C} {X = X} {D = D} p q =
      let e : exit n A (W ∷ C ∷ []) ≡ exit k B (X ∷ D ∷ []) = p ∙ sym q in (
        ap (λ (y : Exit). y.number) e,
        ap (λ (y : Exit). y.answer) e,
        ap (λ (y : Exit). front y.slices) e,
        ap (λ (y : Exit). front (rest y.slices)) e,
      )

  -- of words in either layout, which their eight-word form says all of
  pub same_effect_in : (narrow : Bool) {W C X D : List ℕ} → exit n A (as_eight narrow W ∷ C ∷ []) ≡ x → exit k B (as_eight narrow X ∷ D ∷ []) ≡ x
      → (n ≡ k) × (A ≡ B) × (W ≡ X) × (C ≡ D)
  same_effect_in narrow {W = W} {X = X} p q = let e = same_effect p q in (e.0, e.1, eight_injective narrow W X e.2, e.3)

  pub same_output : {X Y : List ℕ} → exit n A (X ∷ []) ≡ x → exit k B (Y ∷ []) ≡ x → (n ≡ k) × (A ≡ B) × (X ≡ Y)
  same_output {X = X} {Y = Y} p q =
      let e : exit n A (X ∷ []) ≡ exit k B (Y ∷ []) = p ∙ sym q in
      (ap (λ (y : Exit). y.number) e, ap (λ (y : Exit). y.answer) e, ap (λ (y : Exit). front y.slices) e)

-- of a call that writes an output and has no answer but its number
pub same_number : {n k : ℕ} {X Y : List ℕ} {x : Output ℕ} → output n X ≡ x → output k Y ≡ x → (n ≡ k) × (X ≡ Y)
same_number {n = n} {k = k} {X = X} {Y = Y} p q =
    let e : output n X ≡ output k Y = p ∙ sym q in
    (ap (λ (y : Output ℕ). y.answer) e, ap (λ (y : Output ℕ). y.output) e)
