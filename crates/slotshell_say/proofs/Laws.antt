-- A loop over a text with numbers is the rule of the text.
use mathlib.Core.Path.{◌≡◌, refl, sym, ap, ◌∙◌}
use mathlib.Core.List.{List, ◌∷◌}
use Prim.Native.Nat.{ℕ, ◌+◌, ◌<◌, ◌≤◌}
use native.Mathlib.Numerals.{add-one}
use native.Mathlib.Omega.{arith}
use lib.ListN.{length, get_or, drop, drop_of_length-le}
use lib.Seq.{drop-cons, drop-drop, get_or-drop}
use Rattle.lines.specs.Output.{Page}
use Rattle.slotshell_say.specs.Said.{out_piece, taken, out_said}

-- one byte more
step : (p : Page) (b : ℕ) (s n : List ℕ) → out_said p (b ∷ s) n ≡ out_said (out_piece p b (get_or n 0 0)) s (drop (taken b) n)
unfolding out_said
step p b s n = refl

first : (n : List ℕ) (k : ℕ) → get_or (drop k n) 0 0 ≡ get_or n k 0
first n k = get_or-drop k n 0 0 ∙ ap (λ (j : ℕ). get_or n j 0) (omega arith)

module _ (P p : Page) (s n : List ℕ) (i k : ℕ) (e : P ≡ out_said p (drop i s) (drop k n)) where
  pub said_on : (q : Page) (x m : ℕ) → i < length s → x ≡ get_or n k 0 → q ≡ out_piece p (get_or s i 0) x → m ≡ taken (get_or s i 0)
      → P ≡ out_said q (drop (i + 1) s) (drop (k + m) n)
  said_on q x m h f g t = rw (add-one i, g, f, t) (rw (drop-cons s i 0 h, step, first, drop-drop) at e)

  pub said_end : length s ≤ i → p ≡ P
  unfolding out_said
  said_end h = sym (rw (drop_of_length-le s h) at e)
