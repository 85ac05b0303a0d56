-- Texts one after the other, and what is printed of an image.
use Rattle.std.specs.Prelude.{Result, Ok, Err}
use Rattle.words.specs.Refusals.{refusal_number}
use Rattle.words.specs.declared.refusal.Refusal.{Refusal}
use mathlib.Core.Path.{◌≡◌, refl, sym, ◌∙◌}
use mathlib.Core.Bool.{Bool, true, false}
use mathlib.Core.List.{List, [], ◌∷◌, ◌++◌, foldl-append}
use Prim.Native.Nat.{ℕ, suc, ◌+◌, ◌-◌, ◌<◌, ◌≤◌}
use native.Mathlib.Omega.{arith}
use borrow.Author.Tests.{eq-eqb, ne_eqb}
use Rattle.words.specs.Ix.{U}
use Rattle.words.specs.declared.node.Entry.{Entry}
use Rattle.lines.specs.Output.{Page, out_byte, out_text, next}
use Rattle.image_rule.specs.Layout.{count_in_lem, root_in_lem}
use Rattle.image_rule.specs.Stored.{entry_in_lem, link_in, red_in_lem}
use Rattle.image_text.specs.Judging.{image_checked}
use Rattle.image_text.specs.Text.{link_text, entry_text, links_text, colour_text, red_word, black_word, head, row, rows, map_text, refusal_text, image_text_lem}

-- a text, then another
pub then : (p q r : Page) (s t : List ℕ) → q ≡ out_text p s → r ≡ out_text q t → r ≡ out_text p (s ++ t)
unfolding out_text
then p q r s t e f = f ∙ rw e (sym (foldl-append out_byte p s t))

one_byte : (p q : Page) (b : ℕ) → q ≡ out_byte p b → q ≡ out_text p (b ∷ [])
unfolding out_text
one_byte p q b e = e

pub then_end : (p q r : Page) (s : List ℕ) (b : ℕ) → q ≡ out_text p s → r ≡ out_byte q b → r ≡ out_text p (s ++ (b ∷ []))
then_end p q r s b e f = then p q r s (b ∷ []) e (one_byte q r b f)

-- three, four and five parts; the last one may be a byte
pub in_three : (p q r o : Page) (s t u : List ℕ) → q ≡ out_text p s → r ≡ out_text q t → o ≡ out_text r u → o ≡ out_text p (s ++ (t ++ u))
in_three p q r o s t u e f g = then p q o s (t ++ u) e (then q r o t u f g)

pub in_three_end : (p q r o : Page) (s t : List ℕ) (b : ℕ) → q ≡ out_text p s → r ≡ out_text q t → o ≡ out_byte r b
    → o ≡ out_text p (s ++ (t ++ (b ∷ [])))
in_three_end p q r o s t b e f g = then p q o s (t ++ (b ∷ [])) e (then_end q r o t b f g)

pub in_four : (p q r m o : Page) (s t u v : List ℕ) → q ≡ out_text p s → r ≡ out_text q t → m ≡ out_text r u → o ≡ out_text m v
    → o ≡ out_text p (s ++ (t ++ (u ++ v)))
in_four p q r m o s t u v e f g h = then p q o s (t ++ (u ++ v)) e (in_three q r m o t u v f g h)

pub in_five_end : (p q r m n o : Page) (s t u v : List ℕ) (b : ℕ) → q ≡ out_text p s → r ≡ out_text q t → m ≡ out_text r u → n ≡ out_text m v
    → o ≡ out_byte n b → o ≡ out_text p (s ++ (t ++ (u ++ (v ++ (b ∷ [])))))
in_five_end p q r m n o s t u v b e f g h i =
    then p q o s (t ++ (u ++ (v ++ (b ∷ [])))) e (then q r o t (u ++ (v ++ (b ∷ []))) f (in_three_end r m n o u v b g h i))

-- a link, a colour
module _ (p q : Page) (k : ℕ) where
  pub link_none : k ≡ U → q ≡ out_text p (32 ∷ 45 ∷ []) → q ≡ out_text p (link_text k)
  unfolding link_text
  link_none e h = rw (eq-eqb k U e) h

  pub link_some : (k ≡ U → ⊥) → q ≡ out_text p (next k) → q ≡ out_text p (link_text k)
  unfolding link_text
  link_some e h = rw (ne_eqb k U e) h

module _ (p q : Page) (v : Bool) where
  pub colour_red : v ≡ true → q ≡ out_text p red_word → q ≡ out_text p (colour_text v)
  unfolding colour_text
  colour_red e h = rw e h

  pub colour_black : v ≡ false → q ≡ out_text p black_word → q ≡ out_text p (colour_text v)
  unfolding colour_text
  colour_black e h = rw e h

-- the line of a slot, and the lines of all
pub row_is : (I : List ℕ) (n s : ℕ) (e : Entry) (i j k : ℕ) (v : Bool) (p q r o : Page) → e ≡ entry_in_lem I s → i ≡ link_in I n s 0 → j ≡ link_in I n s 1
    → k ≡ link_in I n s 2 → v ≡ red_in_lem I n s → q ≡ out_text p (entry_text s e) → r ≡ out_text q (links_text i j k) → o ≡ out_text r (colour_text v)
    → o ≡ out_text p (row I n s)
unfolding row
row_is I n s e i j k v p q r o a b c d f x y z =
    in_three p q r o (entry_text s e) (links_text i j k) (colour_text v) x y z ∙ rw (a, b, c, d, f) refl

pub rows_start : (I : List ℕ) (n : ℕ) (p : Page) → out_text p (rows I n 0 n) ≡ out_text p (rows I n 0 (n - 0))
rows_start I n p = let d : n - 0 ≡ n = omega arith in rw d refl

module _ (I : List ℕ) (n k : ℕ) (P p : Page) (e : P ≡ out_text p (rows I n k (n - k))) where
  pub rows_on : (q : Page) → k < n → q ≡ out_text p (row I n k) → P ≡ out_text q (rows I n (k + 1) (n - (k + 1)))
  unfolding rows out_text
  rows_on q h f =
      let d : n - k ≡ suc (n - (k + 1)) = omega arith in
      let y : suc k ≡ k + 1 = omega arith in
      let g : P ≡ out_text p (row I n k ++ rows I n (k + 1) (n - (k + 1))) = rw (d, y) at e in
      g ∙ foldl-append out_byte p (row I n k) (rows I n (k + 1) (n - (k + 1))) ∙ rw f refl

  pub rows_end : n ≤ k → p ≡ P
  unfolding rows out_text
  rows_end h = let d : n - k ≡ 0 = omega arith in sym (rw d at e)

pub map_is : (I : List ℕ) (n r : ℕ) (p q o : Page) → n ≡ count_in_lem I → r ≡ root_in_lem I → q ≡ out_text p (head n r) → o ≡ out_text q (rows I n 0 n)
    → o ≡ out_text p (map_text I)
unfolding map_text
map_is I n r p q o a b e f = then p q o (head n r) (rows I n 0 n) e f ∙ rw (a, b) refl

-- an image that is accepted, and one that is not
module _ (I : List ℕ) (c : Result Unit Refusal) (e : c ≡ image_checked I) (p q : Page) where
  pub image_shown : (x : Unit) → c ≡ Ok x → q ≡ out_text p (map_text I) → q ≡ out_text p (image_text_lem I)
  unfolding image_text_lem
  image_shown x z h = rw (← e, z) h

  pub image_refused : (y : Refusal) (m : ℕ) → c ≡ Err y → m ≡ refusal_number y → q ≡ out_text p (refusal_text m) → q ≡ out_text p (image_text_lem I)
  unfolding image_text_lem
  image_refused y m z f h = rw (← e, z, ← f) h
