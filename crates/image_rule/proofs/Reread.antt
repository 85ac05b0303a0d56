-- What is read of the bytes of a map: its count and root, its entries, links and colours. And they
-- are laid out.
use mathlib.Core.Path.{◌≡◌, refl, ap, ◌∙◌}
use mathlib.Core.Bool.{Bool, true, false, cond}
use mathlib.Core.List.{List, [], ◌∷◌, ◌++◌}
use Prim.Native.Nat.{ℕ, zero, suc, ◌+◌, ◌-◌, ◌*◌, ◌/◌, ◌%◌, ◌^◌, ◌<◌, ◌≤◌}
use native.Mathlib.Omega.{arith}
use native.Mathlib.Nat.{mod-lt, mul-le-mul_right, suc-mul}
use lib.ListN.{length, get_or, take, length-append, get_or-append}
use lib.Seq.{get_or-take, get_or-append-add, length-take-le}
use lib.Pow.{pow_pos}
use lib.Dec.{eqb, ltb}
use borrow.Author.Tests.{eqb-true, eqb-false, eq-eqb, ltb-true, ltb-false, lt-ltb, le-leb}
use Rattle.words.specs.Nodes.{start, stop, value, kid, par, entry, HoldsBits}
use Rattle.bitvec.specs.Bits.{bit, bit_at}
use Rattle.bitvec.specs.Calls.{bytes_for}
use Rattle.little.specs.Numbers.{number, digits}
use Rattle.little.proofs.Numbers.{length_digits, number_left, number_right, number_here}
use Rattle.image_rule.specs.Stored.{entry_in_lem, link_in, child_in_lem, red_in_lem}
use Rattle.image_rule.specs.Layout.{links_at_lem, colours_at_lem, image_length_lem, count_in_lem, root_in_lem, spare_clear, laid_out_lem}
use Rattle.image_rule.specs.Written.{fields, heading, header, pieces, entry_bytes, link_bytes, entries, links, shades, image_of}
use Rattle.image_rule.proofs.Parts.{bit_mod}

-- numbers of w bytes, one after the other
module _ (w : ℕ) where
  -- each of them fits
  abbrev pub Small : List ℕ → Type 0
  Small [] = Unit {0}
  Small (v ∷ l) = (v < 256 ^ w) × Small l

  pub length_fields : (l : List ℕ) → length (fields w l) ≡ length l * w
  length_fields [] = omega arith
  length_fields (v ∷ l) = length-append (digits w v) (fields w l) ∙ omega (arith, length_digits w v, length_fields l, suc-mul (length l) w)

  pub number_fields : (l : List ℕ) (k : ℕ) → Small l → k < length l → number w (fields w l) (k * w) ≡ get_or l k 0
  number_fields [] k h q = absurd (omega arith)
  number_fields (v ∷ l) zero h q = let e : 0 * w ≡ 0 = omega arith in rw e (number_here w v (fields w l) h.0)
  number_fields (v ∷ l) (suc k) h q =
      let e : suc k * w ≡ w + k * w = omega (arith, suc-mul k w) in
      rw e (number_right w (digits w v) (fields w l) w (k * w) (length_digits w v) ∙ number_fields l k h.1 (omega arith))

-- pieces of c bytes each
module _ (f : ℕ → List ℕ) (c : ℕ) (g : (s : ℕ) → length (f s) ≡ c) where
  pub length_pieces : (m : ℕ) → length (pieces f m) ≡ m * c
  unfolding pieces
  length_pieces zero = omega arith
  length_pieces (suc m) = length-append (pieces f m) (f m) ∙ omega (arith, length_pieces m, g m, suc-mul m c)

  pub number_pieces : (w m s o : ℕ) → s < m → o + w ≤ c → number w (pieces f m) (s * c + o) ≡ number w (f s) o
  unfolding pieces
  number_pieces w zero s o h q = absurd (omega arith)
  number_pieces w (suc m) s o h q = go (eqb s m) refl (λ l. number_pieces w m s o l q)
    where
      go : (t : Bool) → eqb s m ≡ t → (s < m → number w (pieces f m) (s * c + o) ≡ number w (f s) o)
          → number w (pieces f m ++ f m) (s * c + o) ≡ number w (f s) o
      go true e i = rw (eqb-true s m e) (number_right w (pieces f m) (f m) (m * c) o (length_pieces m))
      go false e i =
          let l : suc s ≤ m = omega (arith, eqb-false s m e) in
          number_left w (pieces f m) (f m) (s * c + o) (omega (arith, length_pieces m, mul-le-mul_right c l, suc-mul s c)) ∙ i l

-- what fits: so of every store that passes
pub record Fit (W : List ℕ) (n r : ℕ) : Type 0 where
  pub few : n ≤ 65535
  pub root : r < 4294967296
  pub starts : (s : ℕ) → s < n → start W s < 18446744073709551616
  pub stops : (s : ℕ) → s < n → stop W s < 18446744073709551616
  pub values : (s : ℕ) → s < n → value W s < 18446744073709551616
  pub kids : (b : Bool) (s : ℕ) → s < n → kid W b s < 4294967296
  pub pars : (s : ℕ) → s < n → par W s < 4294967296

-- the colours
module _ (C : List ℕ) (n : ℕ) (room : HoldsBits C n) where
  -- the byte of the bits that are left
  abbrev rest : ℕ
  rest = get_or C (n / 8) 0 % 2 ^ (n % 8)

  front : length (take (n / 8) C) ≡ n / 8
  front = length-take-le (n / 8) C (omega arith)

  last : get_or (take (n / 8) C ++ (rest ∷ [])) (n / 8) 0 ≡ rest
  last =
      let z : get_or (take (n / 8) C ++ (rest ∷ [])) (length (take (n / 8) C) + 0) 0 ≡ rest = get_or-append-add (take (n / 8) C) (rest ∷ []) 0 0 in
      let y : length (take (n / 8) C) + 0 ≡ n / 8 = omega (arith, front) in
      rw y at z

  pub length_shades : length (shades C n) ≡ bytes_for n
  unfolding shades bytes_for
  length_shades = go (eqb (n % 8) 0) refl
    where
      go : (t : Bool) → eqb (n % 8) 0 ≡ t → length (take (n / 8) C ++ cond t [] (rest ∷ [])) ≡ (n + 7) / 8
      go true e = length-append (take (n / 8) C) [] ∙ omega (arith, front, eqb-true (n % 8) 0 e)
      go false e = length-append (take (n / 8) C) (rest ∷ []) ∙ omega (arith, front, eqb-false (n % 8) 0 e)

  pub bits_shades : (i : ℕ) → i < n → bit_at (shades C n) i ≡ bit_at C i
  unfolding shades bit_at
  bits_shades i h = go (ltb (i / 8) (n / 8)) (eqb (n % 8) 0) refl refl
    where
      go : (u t : Bool) → ltb (i / 8) (n / 8) ≡ u → eqb (n % 8) 0 ≡ t
          → bit (get_or (take (n / 8) C ++ cond t [] (rest ∷ [])) (i / 8) 0) (i % 8) ≡ bit (get_or C (i / 8) 0) (i % 8)
      go true t e f =
          let q : i / 8 < n / 8 = ltb-true (i / 8) (n / 8) e in
          rw (get_or-append (take (n / 8) C) (cond t [] (rest ∷ [])) 0 (i / 8) (rw front q), get_or-take (n / 8) C (i / 8) 0 q)
      go false true e f = absurd (omega (arith, ltb-false (i / 8) (n / 8) e, eqb-true (n % 8) 0 f))
      go false false e f =
          let q : i / 8 ≡ n / 8 = omega (arith, ltb-false (i / 8) (n / 8) e) in
          rw (q, last) (bit_mod (n % 8) (get_or C (n / 8) 0) (i % 8) (omega arith))

  pub spare_shades : (n % 8 ≡ 0 → ⊥) → get_or (shades C n) (n / 8) 0 < 2 ^ (n % 8)
  unfolding shades
  spare_shades d = go (eqb (n % 8) 0) refl
    where
      go : (t : Bool) → eqb (n % 8) 0 ≡ t → get_or (take (n / 8) C ++ cond t [] (rest ∷ [])) (n / 8) 0 < 2 ^ (n % 8)
      go true e = absurd (d (eqb-true (n % 8) 0 e))
      go false e = rw last (mod-lt (get_or C (n / 8) 0) (pow_pos (n % 8)))

-- the whole
pub length_head : (n r : ℕ) → length (header n r) ≡ 44
unfolding header
length_head n r = length_fields 4 (heading n r)

pub length_entries : (W : List ℕ) (m : ℕ) → length (entries W m) ≡ m * 24
length_entries W m = length_pieces (entry_bytes W) 24 (λ s. length_fields 8 (start W s ∷ stop W s ∷ value W s ∷ [])) m

pub length_links : (W : List ℕ) (m : ℕ) → length (links W m) ≡ m * 12
length_links W m = length_pieces (link_bytes W) 12 (λ s. length_fields 4 (kid W true s ∷ kid W false s ∷ par W s ∷ [])) m

module _ (W C : List ℕ) (n r : ℕ) (room : HoldsBits C n) where
  abbrev I : List ℕ
  I = image_of n r W C

  abbrev body : List ℕ
  body = entries W n ++ (links W n ++ shades C n)

  pub length_image : length I ≡ image_length_lem n
  unfolding image_of
  length_image =
      length-append (header n r) body ∙ ap (λ (k : ℕ). length (header n r) + k) (length-append (entries W n) (links W n ++ shades C n)
      ∙ ap (λ (k : ℕ). length (entries W n) + k) (length-append (links W n) (shades C n)))
      ∙ omega (arith, length_head n r, length_entries W n, length_links W n, length_shades C n room)

  byte_at : (i : ℕ) → get_or I (colours_at_lem n + i) 0 ≡ get_or (shades C n) i 0
  unfolding image_of
  byte_at i =
      let a : colours_at_lem n + i ≡ length (header n r) + (n * 36 + i) = omega (arith, length_head n r) in
      let b : n * 36 + i ≡ length (entries W n) + (n * 12 + i) = omega (arith, length_entries W n) in
      let c : n * 12 + i ≡ length (links W n) + i = omega (arith, length_links W n) in
      ap (λ (k : ℕ). get_or (header n r ++ body) k 0) a ∙ get_or-append-add (header n r) body (n * 36 + i) 0
      ∙ ap (λ (k : ℕ). get_or body k 0) b ∙ get_or-append-add (entries W n) (links W n ++ shades C n) (n * 12 + i) 0
      ∙ ap (λ (k : ℕ). get_or (links W n ++ shades C n) k 0) c ∙ get_or-append-add (links W n) (shades C n) i 0

  pub red_reread : (s : ℕ) → s < n → red_in_lem I n s ≡ bit_at C s
  unfolding bit_at
  red_reread s q =
      let a : (colours_at_lem n * 8 + s) / 8 ≡ colours_at_lem n + s / 8 = omega arith in
      let b : (colours_at_lem n * 8 + s) % 8 ≡ s % 8 = omega arith in
      rw (a, b, byte_at (s / 8)) (bits_shades C n room s q)

  spare_reread : spare_clear I n ≡ true
  unfolding bytes_for
  spare_reread = go (eqb (n % 8) 0) refl
    where
      go : (t : Bool) → eqb (n % 8) 0 ≡ t → cond t true (ltb (get_or I (length I - 1) 0) (2 ^ (n % 8))) ≡ true
      go true e = refl
      go false e =
          let d : n % 8 ≡ 0 → ⊥ = eqb-false (n % 8) 0 e in
          let a : length I - 1 ≡ colours_at_lem n + n / 8 = omega (arith, length_image) in
          rw (a, byte_at (n / 8)) (lt-ltb (get_or (shades C n) (n / 8) 0) (2 ^ (n % 8)) (spare_shades C n room d))

  module _ (fit : Fit W n r) where
    head_small : Small 4 (heading n r)
    unfolding bytes_for
    head_small =
        let few : n ≤ 65535 = fit.few in
        let root : r < 4294967296 = fit.root in
        (omega arith, (omega arith, (omega arith, (omega arith, (omega arith, (omega arith, (omega arith, (omega arith, (omega arith, (omega arith, (omega arith, tt)))))))))))

    heads : (k : ℕ) → k < 11 → number 4 I (k * 4) ≡ get_or (heading n r) k 0
    unfolding image_of header
    heads k q = number_left 4 (header n r) body (k * 4) (omega (arith, length_head n r)) ∙ number_fields 4 (heading n r) k head_small q

    pub count_reread : count_in_lem I ≡ n
    count_reread = heads 0 (omega arith)

    pub root_reread : root_in_lem I ≡ r
    root_reread = heads 1 (omega arith)

    -- number k of an entry
    entry_at : (s k : ℕ) → s < n → k < 3 → number 8 I (44 + s * 24 + k * 8) ≡ get_or (start W s ∷ stop W s ∷ value W s ∷ []) k 0
    unfolding image_of
    entry_at s k q h =
        let e : 44 + s * 24 + k * 8 ≡ 44 + (s * 24 + k * 8) = omega arith in
        rw e
        (number_right 8 (header n r) body 44 (s * 24 + k * 8) (length_head n r)
        ∙ number_left 8 (entries W n) (links W n ++ shades C n) (s * 24 + k * 8) (omega (arith, length_entries W n))
        ∙ number_pieces (entry_bytes W) 24 (λ i. length_fields 8 (start W i ∷ stop W i ∷ value W i ∷ [])) 8 n s (k * 8) q (omega arith)
        ∙ number_fields 8 (start W s ∷ stop W s ∷ value W s ∷ []) k (fit.starts s q, (fit.stops s q, (fit.values s q, tt))) h)

    pub entry_reread : (s : ℕ) → s < n → entry_in_lem I s ≡ entry W s
    entry_reread s q =
        let z : 44 + s * 24 ≡ 44 + s * 24 + 0 = omega arith in
        let a : number 8 I (44 + s * 24) ≡ start W s = ap (λ (k : ℕ). number 8 I k) z ∙ entry_at s 0 q (omega arith) in
        λ t. record { start = a t; end = entry_at s 1 q (omega arith) t; value = entry_at s 2 q (omega arith) t }

    pub link_reread : (s j : ℕ) → s < n → j < 3 → link_in I n s j ≡ get_or (kid W true s ∷ kid W false s ∷ par W s ∷ []) j 0
    unfolding image_of
    link_reread s j q h =
        let e : links_at_lem n + s * 12 + j * 4 ≡ 44 + (n * 24 + (s * 12 + j * 4)) = omega arith in
        rw e
        (number_right 4 (header n r) body 44 (n * 24 + (s * 12 + j * 4)) (length_head n r)
        ∙ number_right 4 (entries W n) (links W n ++ shades C n) (n * 24) (s * 12 + j * 4) (length_entries W n)
        ∙ number_left 4 (links W n) (shades C n) (s * 12 + j * 4) (omega (arith, length_links W n))
        ∙ number_pieces (link_bytes W) 12 (λ i. length_fields 4 (kid W true i ∷ kid W false i ∷ par W i ∷ [])) 4 n s (j * 4) q (omega arith)
        ∙ number_fields 4 (kid W true s ∷ kid W false s ∷ par W s ∷ []) j (fit.kids true s q, (fit.kids false s q, (fit.pars s q, tt))) h)

    pub child_reread : (b : Bool) (s : ℕ) → s < n → child_in_lem I n b s ≡ kid W b s
    child_reread true s q = link_reread s 0 q (omega arith)
    child_reread false s q = link_reread s 1 q (omega arith)

    pub parent_reread : (s : ℕ) → s < n → link_in I n s 2 ≡ par W s
    parent_reread s q = link_reread s 2 q (omega arith)

    -- the image of a map is laid out
    pub laid_out : laid_out_lem I ≡ true
    unfolding laid_out_lem
    laid_out =
        rw (
          count_reread,
          le-leb 44 (length I) (omega (arith, length_image)),
          eq-eqb (number 4 I 8) 1 (heads 2 (omega arith)),
          eq-eqb (number 4 I 12) 44 (heads 3 (omega arith)),
          eq-eqb (number 4 I 16) (n * 24) (heads 4 (omega arith)),
          eq-eqb (number 4 I 20) 2 (heads 5 (omega arith)),
          eq-eqb (number 4 I 24) (links_at_lem n) (heads 6 (omega arith)),
          eq-eqb (number 4 I 28) (n * 12) (heads 7 (omega arith)),
          eq-eqb (number 4 I 32) 3 (heads 8 (omega arith)),
          eq-eqb (number 4 I 36) (colours_at_lem n) (heads 9 (omega arith)),
          eq-eqb (number 4 I 40) (bytes_for n) (heads 10 (omega arith)),
          eq-eqb (length I) (image_length_lem n) length_image,
        ) spare_reread
