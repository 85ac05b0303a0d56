-- A loop over a list is a fold.
use mathlib.Core.Path.{◌≡◌, sym}
use mathlib.Core.List.{List, foldl}
use Prim.Native.Nat.{ℕ, ◌+◌, ◌<◌, ◌≤◌}
use native.Mathlib.Numerals.{add-one}
use lib.ListN.{length, get_or, drop, drop_of_length-le}
use lib.Seq.{drop-cons}

module _ {A : Type 0} (f : A → ℕ → A) (P p : A) (s : List ℕ) (i : ℕ) (e : P ≡ foldl f p (drop i s)) where
  pub fold_on : (q : A) → i < length s → q ≡ f p (get_or s i 0) → P ≡ foldl f q (drop (i + 1) s)
  fold_on q h g = rw (add-one i, g) (rw (drop-cons s i 0 h) at e)

  pub fold_end : length s ≤ i → p ≡ P
  fold_end h = sym (rw (drop_of_length-le s h) at e)
