-- Bytes of an image that are written into a slice. Bit by bit they agree with the image, and a bit
-- that agrees already goes on to agree.
use mathlib.Core.Path.{◌≡◌, refl, sym, ap, ◌∙◌}
use mathlib.Core.Bool.{Bool, true, false}
use mathlib.Core.List.{List, [], ◌∷◌, ◌++◌}
use Prim.Native.Nat.{ℕ, zero, suc, ◌+◌, ◌-◌, ◌*◌, ◌/◌, ◌%◌, ◌<◌, ◌≤◌}
use native.Mathlib.Omega.{arith}
use native.Mathlib.Nat.{suc-mul}
use lib.ListN.{length, get_or, take, drop, set, length-set}
use lib.Seq.{sets, length-sets, set_out, get_or-set_same, get_or-set_other, get_or-take, get_or-drop, ext_get_or, length-take-le}
use lib.Dec.{eqb, ltb}
use borrow.Author.Tests.{eqb-true, eqb-false, ltb-true, ltb-false}
use Rattle.bitvec.specs.Bits.{bit, put, bit_at, set_bit}
use Rattle.bitvec.proofs.Numbers.{put_small}
use Rattle.bitvec.proofs.Bytes.{length_set_bit, bit_at_same, bit_at_other}
use Rattle.little.specs.Numbers.{number, digits, Bytes}
use Rattle.little.proofs.Numbers.{length_digits, digits_bytes, digits_number, sets_append}
use Rattle.image_rule.specs.Written.{fields}
use Rattle.image_rule.proofs.Parts.{bits_same}

-- a run of stores: the places before it, those after it, and its own
sets_before : (vs l : List ℕ) (i p : ℕ) → p < i → get_or (sets l i vs) p 0 ≡ get_or l p 0
sets_before [] l i p h = refl
sets_before (a ∷ vs) l i p h = sets_before vs (set l i a) (suc i) p (omega arith) ∙ get_or-set_other l i p a 0 (λ e. omega arith)

sets_after : (vs l : List ℕ) (i p : ℕ) → i + length vs ≤ p → get_or (sets l i vs) p 0 ≡ get_or l p 0
sets_after [] l i p h = refl
sets_after (a ∷ vs) l i p h = sets_after vs (set l i a) (suc i) p (omega arith) ∙ get_or-set_other l i p a 0 (λ e. omega arith)

sets_in : (vs l : List ℕ) (i k : ℕ) → k < length vs → i + length vs ≤ length l → get_or (sets l i vs) (i + k) 0 ≡ get_or vs k 0
sets_in [] l i k h r = absurd (omega arith)
sets_in (a ∷ vs) l i zero h r =
    let e : i + 0 ≡ i = omega arith in
    ap (λ (p : ℕ). get_or (sets (set l i a) (suc i) vs) p 0) e ∙ sets_before vs (set l i a) (suc i) i (omega arith)
    ∙ get_or-set_same l i a 0 (omega arith)
sets_in (a ∷ vs) l i (suc k) h r =
    let e : i + suc k ≡ suc i + k = omega arith in
    ap (λ (p : ℕ). get_or (sets (set l i a) (suc i) vs) p 0) e
    ∙ sets_in vs (set l i a) (suc i) k (omega arith) (omega (arith, length-set l i a))

-- bytes stay bytes
pub bytes_set : (s : List ℕ) (i v : ℕ) → Bytes s → v < 256 → Bytes (set s i v)
bytes_set s i v b h k = go (eqb k i) (ltb i (length s)) refl refl
  where
    go : (t u : Bool) → eqb k i ≡ t → ltb i (length s) ≡ u → get_or (set s i v) k 0 < 256
    go true true e f = rw (eqb-true k i e, get_or-set_same s i v 0 (ltb-true i (length s) f)) h
    go true false e f = rw (set_out s i v (ltb-false i (length s) f)) (b k)
    go false u e f = rw (get_or-set_other s i k v 0 (eqb-false k i e)) (b k)

bytes_sets : (vs l : List ℕ) (i : ℕ) → Bytes l → Bytes vs → Bytes (sets l i vs)
bytes_sets [] l i b c = b
bytes_sets (a ∷ vs) l i b c = bytes_sets vs (set l i a) (suc i) (bytes_set l i a b (c 0)) (λ k. c (suc k))

module _ (I : List ℕ) (bytes : Bytes I) where
  abbrev pub Agree : List ℕ → ℕ → Type 0
  Agree X i = bit_at X i ≡ bit_at I i

  -- Y is X with more bits of the image: those from a on and below b
  pub record Gains (X Y : List ℕ) (a b : ℕ) : Type 0 where
    pub same : length Y ≡ length X
    pub small : Bytes X → Bytes Y
    pub keeps : (i : ℕ) → Agree X i → Agree Y i
    pub has : (i : ℕ) → a ≤ i → i < b → Agree Y i

  pub gains_then : (X Y Z : List ℕ) (a b c : ℕ) → Gains X Y a b → Gains Y Z b c → Gains X Z a c
  gains_then X Y Z a b c g h =
      record {
        same = h.same ∙ g.same;
        small = λ s. h.small (g.small s);
        keeps = λ i e. h.keeps i (g.keeps i e);
        has = λ i l u. go i l u (ltb i b) refl;
      }
    where
      go : (i : ℕ) → a ≤ i → i < c → (t : Bool) → ltb i b ≡ t → Agree Z i
      go i l u true e = h.keeps i (g.has i l (ltb-true i b e))
      go i l u false e = h.has i (ltb-false i b e) u

  -- a number of w bytes
  module _ (w at : ℕ) (X : List ℕ) (h : at + w ≤ length I) (r : length I ≤ length X) where
    abbrev own : List ℕ
    own = digits w (number w I at)

    wide : length own ≡ w
    wide = length_digits w (number w I at)

    in_byte_lem : (p : ℕ) → at ≤ p → p < at + w → get_or (sets X at own) p 0 ≡ get_or I p 0
    in_byte_lem p l u =
        let e : at + (p - at) ≡ p = omega arith in
        sym (ap (λ (q : ℕ). get_or (sets X at own) q 0) e) ∙ sets_in own X at (p - at) (omega (arith, wide)) (omega (arith, wide))
        ∙ ap (λ (s : List ℕ). get_or s (p - at) 0) (digits_number w I at bytes h) ∙ get_or-take w (drop at I) (p - at) 0 (omega arith)
        ∙ get_or-drop at I (p - at) 0 ∙ ap (λ (q : ℕ). get_or I q 0) e

    keep : (i : ℕ) → Agree X i → Agree (sets X at own) i
    unfolding bit_at
    keep i e = go (ltb (i / 8) at) (ltb (i / 8) (at + w)) refl refl
      where
        go : (a b : Bool) → ltb (i / 8) at ≡ a → ltb (i / 8) (at + w) ≡ b
            → bit (get_or (sets X at own) (i / 8) 0) (i % 8) ≡ bit (get_or I (i / 8) 0) (i % 8)
        go true b x y = ap (λ (v : ℕ). bit v (i % 8)) (sets_before own X at (i / 8) (ltb-true (i / 8) at x)) ∙ e
        go false true x y = ap (λ (v : ℕ). bit v (i % 8)) (in_byte_lem (i / 8) (ltb-false (i / 8) at x) (ltb-true (i / 8) (at + w) y))
        go false false x y =
            ap (λ (v : ℕ). bit v (i % 8)) (sets_after own X at (i / 8) (omega (arith, wide, ltb-false (i / 8) (at + w) y))) ∙ e

    here : (i : ℕ) → at * 8 ≤ i → i < (at + w) * 8 → Agree (sets X at own) i
    unfolding bit_at
    here i l u = ap (λ (v : ℕ). bit v (i % 8)) (in_byte_lem (i / 8) (omega arith) (omega arith))

    number_own : Gains X (sets X at own) (at * 8) ((at + w) * 8)
    number_own =
        record {
          same = length-sets X at own;
          small = λ b. bytes_sets own X at b (digits_bytes w (number w I at));
          keeps = keep;
          has = here;
        }

  -- a number that the image has at this place
  pub number_gains : (w at v : ℕ) (X : List ℕ) → at + w ≤ length I → length I ≤ length X → number w I at ≡ v
      → Gains X (sets X at (digits w v)) (at * 8) ((at + w) * 8)
  number_gains w at v X h r e =
      let g : Gains X (sets X at (digits w (number w I at))) (at * 8) ((at + w) * 8) = number_own w at X h r in
      rw e at g

  -- several of them
  abbrev pub Reads : ℕ → ℕ → List ℕ → Type 0
  Reads w i [] = Unit {0}
  Reads w i (v ∷ l) = (number w I i ≡ v) × Reads w (i + w) l

  none : (X : List ℕ) (a : ℕ) → Gains X X a a
  none X a = record { same = refl; small = λ b. b; keeps = λ i e. e; has = λ i l u. absurd (omega arith) }

  pub fields_gains : (w : ℕ) (l : List ℕ) (at : ℕ) (X : List ℕ) → at + length l * w ≤ length I → length I ≤ length X → Reads w at l
      → Gains X (sets X at (fields w l)) (at * 8) ((at + length l * w) * 8)
  fields_gains w [] at X h r f = let e : at + 0 * w ≡ at = omega arith in rw e (none X (at * 8))
  fields_gains w (v ∷ l) at X h r f =
      let e : suc (length l) * w ≡ w + length l * w = omega (arith, suc-mul (length l) w) in
      let g : Gains X (sets X at (digits w v)) (at * 8) ((at + w) * 8) = number_gains w at v X (omega arith) r f.0 in
      let k : Gains (sets X at (digits w v)) (sets (sets X at (digits w v)) (at + w) (fields w l)) ((at + w) * 8) ((at + w + length l * w) * 8) =
      fields_gains w l (at + w) (sets X at (digits w v)) (omega arith) (omega (arith, g.same)) f.1 in
      let s : sets X at (digits w v ++ fields w l) ≡ sets (sets X at (digits w v)) (at + w) (fields w l) =
      sets_append (digits w v) (fields w l) X at ∙ ap (λ (i : ℕ). sets (sets X at (digits w v)) (at + i) (fields w l)) (length_digits w v) in
      let b : at + suc (length l) * w ≡ at + w + length l * w = omega arith in
      rw (s, b) (gains_then X (sets X at (digits w v)) (sets (sets X at (digits w v)) (at + w) (fields w l)) (at * 8) ((at + w) * 8) ((at + w + length l * w) * 8) g k)

  -- a bit that the image has at this place
  pub bit_gains : (k : ℕ) (v : Bool) (X : List ℕ) → k / 8 < length X → bit_at I k ≡ v → Gains X (set_bit X k v) k (k + 1)
  unfolding set_bit
  bit_gains k v X r q =
      record {
        same = length_set_bit X k v;
        small = λ b. bytes_set X (k / 8) (put (get_or X (k / 8) 0) (k % 8) v) b (put_small (get_or X (k / 8) 0) (k % 8) v 8 (b (k / 8)) (omega arith));
        keeps = λ i e. go i e (eqb i k) refl;
        has = λ i l u. let e : i ≡ k = omega arith in rw e (bit_at_same X k v r ∙ sym q);
      }
    where
      go : (i : ℕ) → Agree X i → (t : Bool) → eqb i k ≡ t → Agree (set_bit X k v) i
      go i e true x = let y : i ≡ k = eqb-true i k x in rw y (bit_at_same X k v r ∙ sym q)
      go i e false x = bit_at_other X k v i (eqb-false i k x) ∙ e

  -- a slice whose first bits all agree begins with the image
  pub begins : (X : List ℕ) → length I ≤ length X → Bytes X → ((i : ℕ) → i < length I * 8 → Agree X i) → take (length I) X ≡ I
  unfolding bit_at
  begins X r b f = ext_get_or 0 (take (length I) X) I long (λ p h. byte p (omega (arith, long)))
    where
      long : length (take (length I) X) ≡ length I
      long = length-take-le (length I) X r

      byte : (p : ℕ) → p < length I → get_or (take (length I) X) p 0 ≡ get_or I p 0
      byte p h =
          get_or-take (length I) X p 0 h
          ∙ bits_same 8 (get_or X p 0) (get_or I p 0) (b p) (bytes p) (λ j k.
          let x : (p * 8 + j) / 8 ≡ p = omega arith in
          let y : (p * 8 + j) % 8 ≡ j = omega arith in
          let z : bit (get_or X ((p * 8 + j) / 8) 0) ((p * 8 + j) % 8) ≡ bit (get_or I ((p * 8 + j) / 8) 0) ((p * 8 + j) % 8) = f (p * 8 + j) (omega arith) in
          rw (x, y) at z)
