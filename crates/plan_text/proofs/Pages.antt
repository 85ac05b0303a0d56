-- Texts one after the other: a plan's lines, and a flaw in words.
use mathlib.Core.Path.{◌≡◌, refl, sym, ◌∙◌}
use mathlib.Core.List.{List, ◌++◌, foldl-append}
use Prim.Native.Nat.{ℕ, ◌+◌, ◌<◌, ◌≤◌}
use native.Mathlib.Numerals.{add-one}
use lib.ListN.{length, get_or, drop, drop_of_length-le}
use lib.Seq.{drop-cons}
use Rattle.lines.specs.Output.{Page, out_byte, out_text}
use Rattle.image_text.proofs.Pages.{then, in_four}
use Rattle.plan_text.specs.Text.{row, rows}

-- five and six parts
pub in_five : (p q r m n o : Page) (s t u v w : List ℕ) → q ≡ out_text p s → r ≡ out_text q t → m ≡ out_text r u → n ≡ out_text m v
    → o ≡ out_text n w → o ≡ out_text p (s ++ (t ++ (u ++ (v ++ w))))
in_five p q r m n o s t u v w e f g h i = then p q o s (t ++ (u ++ (v ++ w))) e (in_four q r m n o t u v w f g h i)

pub in_six : (p q r m n k o : Page) (s t u v w x : List ℕ) → q ≡ out_text p s → r ≡ out_text q t → m ≡ out_text r u → n ≡ out_text m v
    → k ≡ out_text n w → o ≡ out_text k x → o ≡ out_text p (s ++ (t ++ (u ++ (v ++ (w ++ x)))))
in_six p q r m n k o s t u v w x e f g h i j = then p q o s (t ++ (u ++ (v ++ (w ++ x)))) e (in_five q r m n k o t u v w x f g h i j)

-- the lines of a plan
module _ (P : List ℕ) (i : ℕ) (Q p : Page) (e : Q ≡ out_text p (rows i (drop i P))) where
  pub rows_on : (q : Page) → i < length P → q ≡ out_text p (row i (get_or P i 0)) → Q ≡ out_text q (rows (i + 1) (drop (i + 1) P))
  unfolding rows out_text
  rows_on q h f =
      let g : Q ≡ out_text p (row i (get_or P i 0) ++ rows (i + 1) (drop (i + 1) P)) = rw (add-one i) (rw (drop-cons P i 0 h, add-one i) at e) in
      g ∙ foldl-append out_byte p (row i (get_or P i 0)) (rows (i + 1) (drop (i + 1) P)) ∙ rw f refl

  pub rows_end : length P ≤ i → p ≡ Q
  unfolding rows out_text
  rows_end h = sym (rw (drop_of_length-le P h) at e)
