-- "Slots from count up are not read": two stores that agree below the count have the same image.
use mathlib.Core.Path.{◌≡◌, refl, sym, ◌∙◌}
use mathlib.Core.Bool.{true, false}
use mathlib.Core.List.{List}
use Prim.Native.Nat.{ℕ, zero, suc, ◌+◌, ◌*◌, ◌/◌, ◌%◌, ◌^◌, ◌<◌}
use native.Mathlib.Omega.{arith}
use native.Mathlib.Nat.{mod-lt}
use lib.ListN.{get_or, take, length-take}
use lib.Seq.{get_or-take, ext_get_or}
use lib.Pow.{pow_pos}
use Rattle.words.specs.declared.node.Field.TheVariants.{Start, End, Value, Child, Parent}
use Rattle.bitvec.specs.Bits.{bit, bit_at}
use Rattle.tree.specs.Below.{Agree, SameColours}
use Rattle.little.specs.Numbers.{Bytes}
use Rattle.image_rule.specs.Written.{pieces, entry_bytes, link_bytes, entries, links, shades, image_of}
use Rattle.image_rule.proofs.Parts.{bit_mod, bits_same}

pieces_same : (f g : ℕ → List ℕ) (m : ℕ) → ((s : ℕ) → s < m → f s ≡ g s) → pieces f m ≡ pieces g m
unfolding pieces
pieces_same f g zero h = refl
pieces_same f g (suc m) h = rw (pieces_same f g m (λ s l. h s (omega arith)), h m (omega arith))

-- entries and links
module _ (n : ℕ) (W X : List ℕ) (A : Agree n W X) where
  entries_same : entries W n ≡ entries X n
  entries_same = pieces_same (entry_bytes W) (entry_bytes X) n (λ s l. rw (A.1 Start s l, A.1 End s l, A.1 Value s l))

  links_same : links W n ≡ links X n
  links_same = pieces_same (link_bytes W) (link_bytes X) n (λ s l. rw (A.1 (Child true) s l, A.1 (Child false) s l, A.1 Parent s l))

-- the colours: whole bytes by their eight bits, and the bits that are left
module _ (n : ℕ) (C D : List ℕ) (S : SameColours n C D) (bytes : Bytes C) (too : Bytes D) where
  byte_bits : (i j : ℕ) → j < 8 → i * 8 + j < n → bit (get_or C i 0) j ≡ bit (get_or D i 0) j
  unfolding bit_at
  byte_bits i j h k =
      let a : (i * 8 + j) / 8 ≡ i = omega arith in
      let b : (i * 8 + j) % 8 ≡ j = omega arith in
      rw (a, b) at (S.1 (i * 8 + j) k)

  whole_bytes : take (n / 8) C ≡ take (n / 8) D
  whole_bytes =
      ext_get_or 0 (take (n / 8) C) (take (n / 8) D) (simp length-take (omega (arith, S.0))) (λ i h.
      let q : i < n / 8 = omega (arith, rw length-take at h) in
      get_or-take (n / 8) C i 0 q
      ∙ bits_same 8 (get_or C i 0) (get_or D i 0) (bytes i) (too i) (λ j l. byte_bits i j l (omega arith))
      ∙ sym (get_or-take (n / 8) D i 0 q))

  last_bits : get_or C (n / 8) 0 % 2 ^ (n % 8) ≡ get_or D (n / 8) 0 % 2 ^ (n % 8)
  last_bits =
      bits_same (n % 8) (get_or C (n / 8) 0 % 2 ^ (n % 8)) (get_or D (n / 8) 0 % 2 ^ (n % 8))
      (mod-lt (get_or C (n / 8) 0) (pow_pos (n % 8))) (mod-lt (get_or D (n / 8) 0) (pow_pos (n % 8)))
      (λ i h. bit_mod (n % 8) (get_or C (n / 8) 0) i h ∙ byte_bits (n / 8) i (omega arith) (omega arith) ∙ sym (bit_mod (n % 8) (get_or D (n / 8) 0) i h))

  shades_same : shades C n ≡ shades D n
  unfolding shades
  shades_same = rw (whole_bytes, last_bits)

  pub image_below : (r : ℕ) (W X : List ℕ) → Agree n W X → image_of n r W C ≡ image_of n r X D
  unfolding image_of
  image_below r W X A = rw (entries_same n W X A, links_same n W X A, shades_same)
