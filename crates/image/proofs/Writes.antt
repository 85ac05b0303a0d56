-- Bytes written one after the other.
use mathlib.Core.Path.{◌≡◌, refl, sym, ap, ◌∙◌}
use mathlib.Core.Bool.{true, false, cond}
use mathlib.Core.List.{List, [], ◌∷◌, ◌++◌, append-nil, append_assoc}
use Prim.Native.Nat.{ℕ, ◌+◌, ◌*◌, ◌/◌, ◌%◌, ◌^◌, ◌<◌, ◌≤◌}
use native.Mathlib.Omega.{arith}
use native.Mathlib.Numerals.{add-one}
use lib.ListN.{length, get_or, set, take}
use lib.Seq.{sets, take-suc, length-take-le}
use lib.Pow.{pow_pos}
use lib.Dec.{eqb}
use borrow.Author.Tests.{eq-eqb, ne_eqb}
use Rattle.words.specs.Nodes.{kid, par, entry, HoldsBits}
use Rattle.words.specs.declared.node.Entry.{Entry}
use Rattle.bitvec.specs.Calls.{bytes_for}
use Rattle.little.specs.Numbers.{digits}
use Rattle.little.proofs.Numbers.{length_digits, sets_append}
use Rattle.image_rule.specs.Layout.{links_at_lem, colours_at_lem}
use Rattle.image_rule.specs.Written.{fields, header, pieces, entry_bytes, link_bytes, entries, links, shades, image_of}
use Rattle.image_rule.proofs.Reread.{length_fields, length_head, length_entries, length_links}

-- bytes, and others after them
then : (s t u : List ℕ) (i k j : ℕ) (xs ys : List ℕ) → length xs ≡ k → i + k ≡ j → t ≡ sets s i xs → u ≡ sets t j ys → u ≡ sets s i (xs ++ ys)
then s t u i k j xs ys l e f g =
    g ∙ rw (f, ← e, ← l) (sym (sets_append xs ys s i))

-- three numbers of w bytes
three : (w : ℕ) (s t u v : List ℕ) (i j k a b c : ℕ) → i + w ≡ j → j + w ≡ k → t ≡ sets s i (digits w a) → u ≡ sets t j (digits w b)
    → v ≡ sets u k (digits w c) → v ≡ sets s i (fields w (a ∷ b ∷ c ∷ []))
three w s t u v i j k a b c p q e f g =
    let z : v ≡ sets u k (digits w c ++ []) = g ∙ ap (λ (l : List ℕ). sets u k l) (sym (append-nil (digits w c))) in
    then s t v i w j (digits w a) (digits w b ++ (digits w c ++ [])) (length_digits w a) p e
    (then t u v j w k (digits w b) (digits w c ++ []) (length_digits w b) q f z)

module _ (s t u v : List ℕ) (i a b c : ℕ) where
  pub three_fours : t ≡ sets s i (digits 4 a) → u ≡ sets t (i + 4) (digits 4 b) → v ≡ sets u (i + 8) (digits 4 c)
      → v ≡ sets s i (fields 4 (a ∷ b ∷ c ∷ []))
  three_fours e f g = three 4 s t u v i (i + 4) (i + 8) a b c refl (omega arith) e f g

  pub three_eights : t ≡ sets s i (digits 8 a) → u ≡ sets t (i + 8) (digits 8 b) → v ≡ sets u (i + 16) (digits 8 c)
      → v ≡ sets s i (fields 8 (a ∷ b ∷ c ∷ []))
  three_eights e f g = three 8 s t u v i (i + 8) (i + 16) a b c refl (omega arith) e f g

-- lists of numbers, one after the other
fields_append : (w : ℕ) (l m : List ℕ) → fields w (l ++ m) ≡ fields w l ++ fields w m
fields_append w [] m = refl
fields_append w (v ∷ l) m =
    ap (λ (k : List ℕ). digits w v ++ k) (fields_append w l m) ∙ sym (append_assoc (digits w v) (fields w l) (fields w m))

more : (s t u : List ℕ) (i j : ℕ) (l m : List ℕ) → i + length l * 4 ≡ j → t ≡ sets s i (fields 4 l) → u ≡ sets t j (fields 4 m)
    → u ≡ sets s i (fields 4 (l ++ m))
more s t u i j l m p e f =
    then s t u i (length l * 4) j (fields 4 l) (fields 4 m) (length_fields 4 l) p e f ∙ ap (λ (k : List ℕ). sets s i k) (sym (fields_append 4 l m))

-- the table and the header
module _ (s t u v : List ℕ) (n : ℕ) where
  pub table_put : (l k b : ℕ) → l ≡ links_at_lem n → k ≡ colours_at_lem n → (b ≡ bytes_for n) × (b < 4294967296)
      → t ≡ sets s 8 (fields 4 (1 ∷ 44 ∷ (n * 24) ∷ [])) → u ≡ sets t 20 (fields 4 (2 ∷ l ∷ (n * 12) ∷ []))
      → v ≡ sets u 32 (fields 4 (3 ∷ k ∷ b ∷ []))
      → v ≡ sets s 8 (fields 4 (1 ∷ 44 ∷ (n * 24) ∷ 2 ∷ links_at_lem n ∷ (n * 12) ∷ 3 ∷ colours_at_lem n ∷ bytes_for n ∷ []))
  table_put l k b x y z e f g =
      more s u v 8 32 (1 ∷ 44 ∷ (n * 24) ∷ 2 ∷ links_at_lem n ∷ (n * 12) ∷ []) (3 ∷ colours_at_lem n ∷ bytes_for n ∷ []) refl
      (more s t u 8 20 (1 ∷ 44 ∷ (n * 24) ∷ []) (2 ∷ links_at_lem n ∷ (n * 12) ∷ []) refl e
      (f ∙ ap (λ (m : ℕ). sets t 20 (fields 4 (2 ∷ m ∷ (n * 12) ∷ []))) x))
      (g ∙ ap (λ (m : ℕ). sets u 32 (fields 4 (3 ∷ m ∷ b ∷ []))) y ∙ ap (λ (m : ℕ). sets u 32 (fields 4 (3 ∷ colours_at_lem n ∷ m ∷ []))) z.0)

  pub header_put : (r : ℕ) → t ≡ sets s 0 (digits 4 n) → u ≡ sets t 4 (digits 4 r)
      → v ≡ sets u 8 (fields 4 (1 ∷ 44 ∷ (n * 24) ∷ 2 ∷ links_at_lem n ∷ (n * 12) ∷ 3 ∷ colours_at_lem n ∷ bytes_for n ∷ [])) → v ≡ sets s 0 (header n r)
  unfolding header
  header_put r e f g =
      let rest : List ℕ = fields 4 (1 ∷ 44 ∷ (n * 24) ∷ 2 ∷ links_at_lem n ∷ (n * 12) ∷ 3 ∷ colours_at_lem n ∷ bytes_for n ∷ []) in
      then s t v 0 4 4 (digits 4 n) (digits 4 r ++ rest) (length_digits 4 n) refl e
      (then t u v 4 4 8 (digits 4 r) rest (length_digits 4 r) refl f g)

-- the entries and the links
module _ (W s : List ℕ) where
  pub entries_none : s ≡ sets s 44 (entries W 0)
  unfolding pieces
  entries_none = refl

  pub links_none : (n : ℕ) → s ≡ sets s (links_at_lem n) (links W 0)
  unfolding pieces
  links_none n = refl

module _ (W s t : List ℕ) (m : ℕ) where
  pub entries_on : (u : List ℕ) (e : Entry) → t ≡ sets s 44 (entries W m) → e ≡ entry W m
      → u ≡ sets t (44 + m * 24) (fields 8 (e.start ∷ e.end ∷ e.value ∷ [])) → u ≡ sets s 44 (entries W (m + 1))
  unfolding pieces
  entries_on u e f g h =
      rw (add-one m)
      (then s t u 44 (m * 24) (44 + m * 24) (entries W m) (entry_bytes W m) (length_entries W m) refl f
      (h ∙ ap (λ (x : Entry). sets t (44 + m * 24) (fields 8 (x.start ∷ x.end ∷ x.value ∷ []))) g))

  pub entries_end : (n : ℕ) → t ≡ sets s 44 (entries W m) → m ≤ n → n ≤ m → t ≡ sets s 44 (entries W n)
  entries_end n e h k = let q : n ≡ m = omega arith in e ∙ rw q refl

  pub links_on : (u : List ℕ) (n a b c : ℕ) → t ≡ sets s (links_at_lem n) (links W m) → a ≡ kid W true m → b ≡ kid W false m → c ≡ par W m
      → u ≡ sets t (44 + n * 24 + m * 12) (fields 4 (a ∷ b ∷ c ∷ [])) → u ≡ sets s (links_at_lem n) (links W (m + 1))
  unfolding pieces
  links_on u n a b c f x y z h =
      rw (add-one m)
      (then s t u (links_at_lem n) (m * 12) (44 + n * 24 + m * 12) (links W m) (link_bytes W m) (length_links W m) refl f (rw (← x, ← y, ← z) h))

  pub links_end : (n : ℕ) → t ≡ sets s (links_at_lem n) (links W m) → m ≤ n → n ≤ m → t ≡ sets s (links_at_lem n) (links W n)
  links_end n e h k =
      let q : m ≡ n = omega arith in
      let f : links W m ≡ links W n = ap (λ (k : ℕ). links W k) q in
      e ∙ ap (λ (l : List ℕ). sets s (links_at_lem n) l) f

-- the colours: whole bytes, and the bits that are left
module _ (C s t : List ℕ) (i j : ℕ) where
  pub bytes_on : t ≡ sets s i (take j C) → j < length C → set t (i + j) (get_or C j 0) ≡ sets s i (take (j + 1) C)
  bytes_on e h =
      rw (add-one j, take-suc C j 0 h)
      (then s t (set t (i + j) (get_or C j 0)) i j (i + j) (take j C) (get_or C j 0 ∷ []) (length-take-le j C (omega arith)) refl e refl)

  pub bytes_end : (n : ℕ) → t ≡ sets s i (take j C) → j ≤ n → n ≤ j → t ≡ sets s i (take n C)
  bytes_end n e h k = let q : n ≡ j = omega arith in e ∙ rw q refl

pub weight_pos : (w j : ℕ) → w ≡ 2 ^ j → 0 < w
weight_pos w j e = rw e (pow_pos j)

module _ (C s : List ℕ) (n k : ℕ) where
  pub last_none : n % 8 ≡ 0 → s ≡ sets s k (cond (eqb (n % 8) 0) [] (get_or C (n / 8) 0 % 2 ^ (n % 8) ∷ []))
  last_none z = rw (eq-eqb (n % 8) 0 z) refl

  pub last_some : (w : ℕ) → (n % 8 ≡ 0 → ⊥) → w ≡ 2 ^ (n % 8)
      → set s k (get_or C (n / 8) 0 % w) ≡ sets s k (cond (eqb (n % 8) 0) [] (get_or C (n / 8) 0 % 2 ^ (n % 8) ∷ []))
  last_some w z e = rw (ne_eqb (n % 8) 0 z, e) refl

pub colours_put : (C s t u : List ℕ) (n i : ℕ) → HoldsBits C n → i ≡ colours_at_lem n → t ≡ sets s i (take (n / 8) C)
    → u ≡ sets t (i + n / 8) (cond (eqb (n % 8) 0) [] (get_or C (n / 8) 0 % 2 ^ (n % 8) ∷ [])) → u ≡ sets s (colours_at_lem n) (shades C n)
unfolding shades
colours_put C s t u n i room p e f =
    rw (← p)
    (then s t u i (n / 8) (i + n / 8) (take (n / 8) C) (cond (eqb (n % 8) 0) [] (get_or C (n / 8) 0 % 2 ^ (n % 8) ∷ []))
    (length-take-le (n / 8) C (omega arith)) refl e f)

-- all of it
pub image_put : (W C s t u v x : List ℕ) (n r : ℕ) → t ≡ sets s 0 (header n r) → u ≡ sets t 44 (entries W n) → v ≡ sets u (links_at_lem n) (links W n)
    → x ≡ sets v (colours_at_lem n) (shades C n) → x ≡ sets s 0 (image_of n r W C)
unfolding image_of
image_put W C s t u v x n r e f g h =
    then s t x 0 44 44 (header n r) (entries W n ++ (links W n ++ shades C n)) (length_head n r) refl e
    (then t u x 44 (n * 24) (links_at_lem n) (entries W n) (links W n ++ shades C n) (length_entries W n) refl f
    (then u v x (links_at_lem n) (n * 12) (colours_at_lem n) (links W n) (shades C n) (length_links W n) (omega arith) g h))
