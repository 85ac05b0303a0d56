-- "what the reader accepts, the writer turns into the same bytes"
use mathlib.Core.Path.{◌≡◌, refl, sym, ap, ◌∙◌}
use mathlib.Core.Bool.{Bool, true, false, cond}
use mathlib.Core.List.{List, [], ◌∷◌, ◌++◌, append-nil}
use Prim.Native.Nat.{ℕ, zero, suc, ◌+◌, ◌-◌, ◌*◌, ◌/◌, ◌%◌, ◌^◌, ◌<◌, ◌≤◌}
use native.Mathlib.Omega.{arith}
use native.Mathlib.Nat.{mod-lt, suc-mul}
use lib.ListN.{length, get_or, take, drop, set, length-take, length-drop}
use lib.Seq.{take_all, drop-cons, get_or-take, get_or-drop, ext_get_or, get_or-set_same, get_or-set_other, set_out}
use lib.Pow.{pow_pos}
use lib.Dec.{eqb, ltb}
use borrow.Author.Tests.{eqb-true, eqb-false, ltb-true, ltb-false}
use Rattle.words.specs.Nodes.{start, stop, value, kid, par, Holds, HoldsBits}
use Rattle.words.specs.declared.node.Entry.{Entry}
use Rattle.bitvec.specs.Bits.{bit, put, bit_at, set_bit}
use Rattle.bitvec.specs.Calls.{bytes_for}
use Rattle.bitvec.proofs.Numbers.{put_small}
use Rattle.little.specs.Numbers.{number, digits, Bytes}
use Rattle.little.proofs.Numbers.{digits_number}
use Rattle.image_rule.specs.Stored.{red_in_lem, painted, loaded_words, loaded_colours}
use Rattle.image_rule.specs.Layout.{links_at_lem, colours_at_lem, image_length_lem, count_in_lem, root_in_lem, spare_clear, laid_out_lem}
use Rattle.image_rule.specs.Written.{fields, heading, header, pieces, entry_bytes, link_bytes, entries, links, shades, image_of}
use Rattle.image_rule.proofs.Parts.{part, part_join, bit_mod, bits_same}
use Rattle.image_rule.proofs.Laid.{Laid, laid}
use Rattle.image_rule.proofs.Stores.{FromImage, loaded_holds, length_painted, painted_bits}

module _ (I : List ℕ) (bytes : Bytes I) where
  -- the numbers of w bytes each, from byte i on, are those of a list
  abbrev Reads : ℕ → ℕ → List ℕ → Type 0
  Reads w i [] = Unit {0}
  Reads w i (v ∷ l) = (number w I i ≡ v) × Reads w (i + w) l

  fields_read : (w i : ℕ) (l : List ℕ) → i + length l * w ≤ length I → Reads w i l → fields w l ≡ part i (length l * w) I
  fields_read w i [] h f = let e : 0 * w ≡ 0 = omega arith in rw e refl
  fields_read w i (v ∷ l) h f =
      let e : suc (length l) * w ≡ w + length l * w = omega (arith, suc-mul (length l) w) in
      let a : digits w v ≡ part i w I = ap (λ (x : ℕ). digits w x) (sym f.0) ∙ digits_number w I i bytes (omega arith) in
      rw (a, fields_read w (i + w) l (omega arith) f.1, e) (part_join i w (length l * w) I)

  -- pieces of c bytes that are the image's
  pieces_read : (f : ℕ → List ℕ) (c i m : ℕ) → ((s : ℕ) → s < m → f s ≡ part (i + s * c) c I) → pieces f m ≡ part i (m * c) I
  unfolding pieces
  pieces_read f c i zero g = let e : 0 * c ≡ 0 = omega arith in rw e refl
  pieces_read f c i (suc m) g =
      let e : suc m * c ≡ m * c + c = omega (arith, suc-mul m c) in
      rw (pieces_read f c i m (λ s h. g s (omega arith)), g m (omega arith), e) (part_join i (m * c) c I)

  module _ (X : List ℕ) (n : ℕ) (long : colours_at_lem n ≤ length I) (f : (s : ℕ) → s < n → FromImage I n X s) where
    entries_read : entries X n ≡ part 44 (n * 24) I
    entries_read = pieces_read (entry_bytes X) 24 44 n (λ s h.
        let x : FromImage I n X s = f s h in
        let o : 44 + s * 24 + 8 + 8 ≡ 44 + s * 24 + 16 = omega arith in
        fields_read 8 (44 + s * 24) (start X s ∷ stop X s ∷ value X s ∷ []) (omega arith) (
          sym (ap (λ (e : Entry). e.start) x.entry_is),
          (
            sym (ap (λ (e : Entry). e.end) x.entry_is),
            (rw o (sym (ap (λ (e : Entry). e.value) x.entry_is)), tt),
          ),
        ))

    links_read : links X n ≡ part (links_at_lem n) (n * 12) I
    links_read = pieces_read (link_bytes X) 12 (links_at_lem n) n (λ s h.
        let x : FromImage I n X s = f s h in
        let i : links_at_lem n + s * 12 ≡ links_at_lem n + s * 12 + 0 * 4 = omega arith in
        let o : links_at_lem n + s * 12 + 4 + 4 ≡ links_at_lem n + s * 12 + 2 * 4 = omega arith in
        fields_read 4 (links_at_lem n + s * 12) (kid X true s ∷ kid X false s ∷ par X s ∷ []) (omega arith)
        (ap (λ (k : ℕ). number 4 I k) i ∙ sym (x.kid_is true), (sym (x.kid_is false), (rw o (sym x.par_is), tt))))

  header_read : Laid I (count_in_lem I) → header (count_in_lem I) (root_in_lem I) ≡ part 0 44 I
  unfolding header
  header_read l =
      fields_read 4 0 (heading (count_in_lem I) (root_in_lem I)) l.long
      (refl, (refl, (l.kind_1, (l.offset_1, (l.size_1, (l.kind_2, (l.offset_2, (l.size_2, (l.kind_3, (l.offset_3, (l.size_3, tt)))))))))))

-- the colours: the bits of K are the image's
module _ (I K : List ℕ) (n : ℕ) (bytes : Bytes I) (too : Bytes K) (long : length I ≡ image_length_lem n) (room : HoldsBits K n)
    (f : (i : ℕ) → i < n → bit_at K i ≡ red_in_lem I n i) where
  byte_bits : (i j : ℕ) → j < 8 → i * 8 + j < n → bit (get_or K i 0) j ≡ bit (get_or I (colours_at_lem n + i) 0) j
  unfolding bit_at
  byte_bits i j h k =
      let a : (i * 8 + j) / 8 ≡ i = omega arith in
      let b : (i * 8 + j) % 8 ≡ j = omega arith in
      let c : ((colours_at_lem n) * 8 + (i * 8 + j)) / 8 ≡ colours_at_lem n + i = omega arith in
      let d : ((colours_at_lem n) * 8 + (i * 8 + j)) % 8 ≡ j = omega arith in
      rw (a, b, c, d) at (f (i * 8 + j) k)

  whole_bytes : take (n / 8) K ≡ part (colours_at_lem n) (n / 8) I
  unfolding bytes_for
  whole_bytes =
      ext_get_or 0 (take (n / 8) K) (part (colours_at_lem n) (n / 8) I) (simp (length-take, length-drop) (omega arith)) (λ i h.
      let q : i < n / 8 = omega (arith, rw length-take at h) in
      get_or-take (n / 8) K i 0 q
      ∙ bits_same 8 (get_or K i 0) (get_or I (colours_at_lem n + i) 0) (too i) (bytes (colours_at_lem n + i)) (λ j l. byte_bits i j l (omega arith))
      ∙ sym (get_or-take (n / 8) (drop (colours_at_lem n) I) i 0 q ∙ get_or-drop (colours_at_lem n) I i 0))

  shades_read : spare_clear I n ≡ true → shades K n ≡ part (colours_at_lem n) (bytes_for n) I
  unfolding shades bytes_for
  shades_read e = go (eqb (n % 8) 0) refl e
    where
      go : (t : Bool) → eqb (n % 8) 0 ≡ t → cond t true (ltb (get_or I (length I - 1) 0) (2 ^ (n % 8))) ≡ true
          → take (n / 8) K ++ cond t [] (get_or K (n / 8) 0 % 2 ^ (n % 8) ∷ []) ≡ part (colours_at_lem n) ((n + 7) / 8) I
      go true z s = let q : (n + 7) / 8 ≡ n / 8 = omega (arith, eqb-true (n % 8) 0 z) in rw (append-nil, q) whole_bytes
      go false z s =
          let d : n % 8 ≡ 0 → ⊥ = eqb-false (n % 8) 0 z in
          let q : (n + 7) / 8 ≡ n / 8 + 1 = omega arith in
          let at_end : length I - 1 ≡ colours_at_lem n + n / 8 = omega (arith, long) in
          let low : get_or I (colours_at_lem n + n / 8) 0 < 2 ^ (n % 8) = rw at_end at (ltb-true (get_or I (length I - 1) 0) (2 ^ (n % 8)) s) in
          let last : get_or K (n / 8) 0 % 2 ^ (n % 8) ≡ get_or I (colours_at_lem n + n / 8) 0 =
          bits_same (n % 8) (get_or K (n / 8) 0 % 2 ^ (n % 8)) (get_or I (colours_at_lem n + n / 8) 0) (mod-lt (get_or K (n / 8) 0) (pow_pos (n % 8))) low
          (λ i h. bit_mod (n % 8) (get_or K (n / 8) 0) i h ∙ byte_bits (n / 8) i (omega arith) (omega arith)) in
          let one : part (colours_at_lem n + n / 8) 1 I ≡ get_or I (colours_at_lem n + n / 8) 0 ∷ [] =
          rw (drop-cons I (colours_at_lem n + n / 8) 0 (omega (arith, long))) refl in
          rw (whole_bytes, last, ← one, q) (part_join (colours_at_lem n) (n / 8) 1 I)

-- bytes stay bytes
bytes_set : (s : List ℕ) (i v : ℕ) → Bytes s → v < 256 → Bytes (set s i v)
bytes_set s i v b h k = go (eqb k i) (ltb i (length s)) refl refl
  where
    go : (t u : Bool) → eqb k i ≡ t → ltb i (length s) ≡ u → get_or (set s i v) k 0 < 256
    go true true e f = rw (eqb-true k i e, get_or-set_same s i v 0 (ltb-true i (length s) f)) h
    go true false e f = rw (set_out s i v (ltb-false i (length s) f)) (b k)
    go false u e f = rw (get_or-set_other s i k v 0 (eqb-false k i e)) (b k)

painted_bytes : (I : List ℕ) (n m : ℕ) (C : List ℕ) → Bytes C → Bytes (painted I n m C)
unfolding painted set_bit
painted_bytes I n zero C b = b
painted_bytes I n (suc m) C b =
    let c : Bytes (painted I n m C) = painted_bytes I n m C b in
    bytes_set (painted I n m C) (m / 8) (put (get_or (painted I n m C) (m / 8) 0) (m % 8) (red_in_lem I n m)) c
    (put_small (get_or (painted I n m C) (m / 8) 0) (m % 8) (red_in_lem I n m) 8 (c (m / 8)) (omega arith))

-- an image that is laid out, read into any memory with room and written again
module _ (I W C : List ℕ) (bytes : Bytes I) (too : Bytes C) (e : laid_out_lem I ≡ true) (room : Holds W (count_in_lem I)) (bits : HoldsBits C (count_in_lem I)) where
  abbrev n : ℕ
  n = count_in_lem I

  abbrev X : List ℕ
  X = loaded_words I n (root_in_lem I) W

  abbrev K : List ℕ
  K = loaded_colours I n C

  shaded : shades K n ≡ part (colours_at_lem n) (bytes_for n) I
  unfolding loaded_colours
  shaded =
      shades_read I (painted I n n C) n bytes (painted_bytes I n n C too) (laid I e).whole (rw (length_painted I n n C) bits)
      (λ i q. painted_bits I n n C i bits q) (laid I e).spare

  pub written_read : image_of n (root_in_lem I) X K ≡ I
  unfolding image_of
  written_read =
      let l : Laid I n = laid I e in
      let long : colours_at_lem n ≤ length I = omega (arith, l.whole) in
      let held : (s : ℕ) → s < n → FromImage I n X s = λ s q. loaded_holds I n (root_in_lem I) W s room q in
      let p : colours_at_lem n ≡ links_at_lem n + n * 12 = omega arith in
      let q : length I ≡ 44 + (n * 24 + (n * 12 + bytes_for n)) = l.whole ∙ omega arith in
      rw (
        header_read I bytes l,
        entries_read I bytes X n long held,
        links_read I bytes X n long held,
        shaded,
        p,
        part_join (links_at_lem n) (n * 12) (bytes_for n) I,
        part_join 44 (n * 24) (n * 12 + bytes_for n) I,
        part_join 0 44 (n * 24 + (n * 12 + bytes_for n)) I,
      )
      (sym (ap (λ (k : ℕ). take k I) q) ∙ take_all (length I) I (omega arith))
