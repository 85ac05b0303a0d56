-- The tests of the layout, in the form in which the code's proofs ask for them.
use mathlib.Core.Path.{◌≡◌, refl}
use mathlib.Core.Bool.{Bool, true, false, ◌&&◌}
use mathlib.Core.List.{List}
use Prim.Native.Nat.{ℕ, ◌+◌, ◌-◌, ◌*◌, ◌%◌, ◌^◌, ◌<◌, ◌≤◌}
use lib.ListN.{length, get_or}
use lib.Dec.{eqb, ltb}
use borrow.Author.Tests.{eq-eqb, ne_eqb, le-leb, lt-leb}
use Rattle.bitvec.specs.Calls.{bytes_for}
use Rattle.little.specs.Numbers.{number}
use Rattle.image_rule.specs.Layout.{links_at_lem, colours_at_lem, image_length_lem, Bodies, count_in_lem, row, table, spare_clear, laid_out_lem}
use Rattle.image_rule.proofs.Laid.{laid, laid_bodies}

module _ (I : List ℕ) where
  pub row_is : (at kind offset size a b c : ℕ) → (a ≡ number 4 I at) × (a < 4294967296) → (b ≡ number 4 I (at + 4)) × (b < 4294967296)
      → (c ≡ number 4 I (at + 8)) × (c < 4294967296) → (eqb a kind && eqb b offset && eqb c size) ≡ row I at kind offset size
  row_is at kind offset size a b c e f g = rw (e.0, f.0, g.0) refl

  module _ (n : ℕ) where
    pub table_is : (l k b : ℕ) (x y z : Bool) → l ≡ links_at_lem n → k ≡ colours_at_lem n → (b ≡ bytes_for n) × (b < 4294967296)
        → x ≡ row I 8 1 44 (n * 24) → y ≡ row I 20 2 l (n * 12) → z ≡ row I 32 3 k b → (x && y && z) ≡ table I n
    table_is l k b x y z e f g p q r = rw (p, q, r, e, f, g.0) refl

    pub spare_none : n % 8 ≡ 0 → true ≡ spare_clear I n
    spare_none h = rw (eq-eqb (n % 8) 0 h) refl

    pub spare_some : (w : ℕ) → (n % 8 ≡ 0 → ⊥) → w ≡ 2 ^ (n % 8) → ltb (get_or I (length I - 1) 0) w ≡ spare_clear I n
    spare_some w h e = rw (ne_eqb (n % 8) 0 h, e) refl

    pub laid_is : (k : ℕ) (t s : Bool) → k ≡ image_length_lem n → t ≡ table I n → s ≡ spare_clear I n
        → (t && eqb (length I) k && s) ≡ (table I n && eqb (length I) (image_length_lem n) && spare_clear I n)
    laid_is k t s e f g = rw (f, g, e) refl

    pub layout_long : (r : Bool) → 44 ≤ length I → (n ≡ number 4 I 0) × (n < 4294967296)
        → r ≡ (table I n && eqb (length I) (image_length_lem n) && spare_clear I n) → r ≡ laid_out_lem I
    unfolding laid_out_lem
    layout_long r h e q = rw (le-leb 44 (length I) h, ← e.0) q

    -- what `judge` and `load` hand on
    pub bodies : n ≡ count_in_lem I → laid_out_lem I ≡ true → count_in_lem I ≤ 65535 → Bodies I n
    bodies e l h = rw e (laid_bodies I l h)

  pub layout_short : length I < 44 → false ≡ laid_out_lem I
  unfolding laid_out_lem
  layout_short h = rw (lt-leb 44 (length I) h) refl

  pub laid_long : laid_out_lem I ≡ true → 44 ≤ length I
  laid_long e = (laid I e).long
