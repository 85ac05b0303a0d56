-- What the code reads of a line is what the line's words say.
use mathlib.Core.Path.{◌≡◌, refl, sym, ap, ◌∙◌}
use mathlib.Core.Bool.{Bool, true, false, cond, ◌&&◌}
use mathlib.Core.List.{List, [], ◌∷◌}
use Prim.Native.Nat.{ℕ, zero, suc, ◌+◌, ◌-◌, ◌*◌, ◌<◌, ◌≤◌}
use native.Mathlib.Omega.{arith}
use native.Mathlib.Numerals.{add-one}
use lib.ListN.{get_or, drop, drop_of_length-le}
use lib.Seq.{drop-cons}
use lib.Dec.{eqb, ltb, leb}
use borrow.Author.Tests.{ltb-true, ltb-false, leb-true, leb-false, eqb-true, lt-ltb, le-ltb, ne_eqb, eq-eqb}
use Rattle.lines.specs.Input.{digit_of_lem, appended, on_some}
use Rattle.std.specs.Prelude.{Some, None}
use Rattle.slotlist_core.specs.Words.{first, others, words, is_digit, digits, value, is_number, same, remove, said}
use Rattle.slotlist_core.specs.Reading.{first_digit_lem, start_byte_lem, name_byte_lem, longer, gap_after_lem, number_byte_lem, byte_rule, end_rule, new_rule}
use Rattle.slotlist_core.specs.declared.reading.Before.{Before}
use Rattle.slotlist_core.specs.declared.reading.Before.TheVariants.{Nothing, One, Two, Removal}
use Rattle.slotlist_core.specs.declared.reading.Line.{Line}
use Rattle.slotlist_core.specs.declared.reading.Line.TheVariants.{Start, Name, Number, Gap, Wrong}
use Rattle.slotlist_core.specs.declared.reading.Said.{Said}
use Rattle.slotlist_core.specs.declared.reading.Said.TheVariants.{Entry, Remove, Other}

-- The words that are left, after what was read before them; the same after one more number.
abbrev lone : Said → List (List ℕ) → Said
lone o [] = o
lone o (w ∷ l) = Other

abbrev rest : List (List ℕ) → Before → Said
rest [] g = Other
rest (w ∷ l) Nothing = cond (is_number w) (rest l (One (value 0 w))) Other
rest (w ∷ l) (One a) = cond (is_number w) (rest l (Two a (value 0 w))) Other
rest (w ∷ l) (Two a b) = cond (is_number w) (lone (Entry a b (value 0 w)) l) Other
rest (w ∷ l) Removal = cond (is_number w) (lone (Remove (value 0 w)) l) Other

abbrev onward : Before → ℕ → List (List ℕ) → Said
onward Nothing v l = rest l (One v)
onward (One a) v l = rest l (Two a v)
onward (Two a b) v l = lone (Entry a b v) l
onward Removal v l = lone (Remove v) l

rest_word : (g : Before) (w : List ℕ) (l : List (List ℕ)) → rest (w ∷ l) g ≡ cond (is_number w) (onward g (value 0 w) l) Other
rest_word Nothing w l = refl
rest_word (One a) w l = refl
rest_word (Two a b) w l = refl
rest_word Removal w l = refl

rest_wrong : (g : Before) (w : List ℕ) (l : List (List ℕ)) → is_number w ≡ false → rest (w ∷ l) g ≡ Other
rest_wrong g w l e = rest_word g w l ∙ ap (λ (t : Bool). cond t (onward g (value 0 w) l) Other) e

either : (t : Bool) → cond t Other Other ≡ Other
either true = refl
either false = refl

-- `remove` is no number
remove_word : (w : List ℕ) → same w remove ≡ true → is_number w ≡ false
remove_word [] e = refl
remove_word (b ∷ s) e = go (eqb b 114) refl e
  where
    go : (t : Bool) → eqb b 114 ≡ t → t && same s (drop 1 remove) ≡ true → is_number (b ∷ s) ≡ false
    go true f z = rw (eqb-true b 114 f)
    go false f z = let y : ◌≡◌ {A = ℕ} 0 1 = cc in absurd (omega arith)

-- by the first word
said_first : (a : List ℕ) (l : List (List ℕ)) → said (a ∷ l) ≡ cond (same a remove) (rest l Removal) (rest (a ∷ l) Nothing)
unfolding said
said_first a [] = go (same a remove) (is_number a)
  where
    go : (s n : Bool) → Other ≡ cond s Other (cond n Other Other)
    go true n = refl
    go false true = refl
    go false false = refl
said_first a (k ∷ []) = go (same a remove) (is_number a) (is_number k)
  where
    go : (s n t : Bool) → cond (s && t) (Remove (value 0 k)) Other ≡ cond s (cond t (Remove (value 0 k)) Other) (cond n (cond t Other Other) Other)
    go true n t = refl
    go false true true = refl
    go false true false = refl
    go false false t = refl
said_first a (b ∷ c ∷ []) = go (same a remove) (is_number a) (is_number b) (is_number c) (remove_word a)
  where
    go : (s n t u : Bool) → (s ≡ true → n ≡ false)
        → cond (n && t && u) (Entry (value 0 a) (value 0 b) (value 0 c)) Other
        ≡ cond s (cond t Other Other) (cond n (cond t (cond u (Entry (value 0 a) (value 0 b) (value 0 c)) Other) Other) Other)
    go true true t u h = let e : true ≡ false = h refl in let y : ◌≡◌ {A = ℕ} 0 1 = cc in absurd (omega arith)
    go true false t u h = sym (either t)
    go false true true u h = refl
    go false true false u h = refl
    go false false t u h = refl
said_first a (b ∷ c ∷ d ∷ l) = go (same a remove) (is_number a) (is_number b) (is_number c)
  where
    go : (s n t u : Bool) → Other ≡ cond s (cond t Other Other) (cond n (cond t (cond u Other Other) Other) Other)
    go true n t u = sym (either t)
    go false true true u = sym (either u)
    go false true false u = refl
    go false false t u = refl

-- A number so far, v, that goes on with a word: each digit is looked at as it comes.
abbrev goes : ℕ → List ℕ → Bool
goes v [] = true
goes v (b ∷ s) = is_digit b && (ltb (v * 10 + (b - 48)) 18446744073709551616 && goes (v * 10 + (b - 48)) s)

grows : (v : ℕ) (s : List ℕ) → v ≤ value v s
grows v [] = omega arith
grows v (b ∷ s) = let h : v * 10 + (b - 48) ≤ value v (b ∷ s) = grows (v * 10 + (b - 48)) s in omega arith

goes_on : (v : ℕ) (s : List ℕ) → v < 18446744073709551616 → goes v s ≡ digits s && ltb (value v s) 18446744073709551616
goes_on v [] h = sym (lt-ltb v 18446744073709551616 h)
goes_on v (b ∷ s) h =
    go (is_digit b) (ltb w 18446744073709551616) refl (λ q. goes_on w s q)
  where
    w : ℕ
    w = v * 10 + (b - 48)

    go : (t u : Bool) → ltb w 18446744073709551616 ≡ u → (w < 18446744073709551616 → goes w s ≡ digits s && ltb (value w s) 18446744073709551616)
        → t && (u && goes w s) ≡ (t && digits s) && ltb (value w s) 18446744073709551616
    go false u e r = refl
    go true true e r = r (ltb-true w 18446744073709551616 e)
    go true false e r =
        rw (le-ltb (value w s) 18446744073709551616 (omega (arith, grows w s, ltb-false w 18446744073709551616 e))) (no_more (digits s))
      where
        no_more : (t : Bool) → false ≡ t && false
        no_more true = refl
        no_more false = refl

-- A byte is a digit, and then neither a space nor the letter r; or it is none.
module _ (b : ℕ) where
  digit_cases : {X : Type 0} → (digit_of_lem b ≡ Some (b - 48) → is_digit b ≡ true → eqb b 32 ≡ false → eqb b 114 ≡ false → b - 48 < 10 → X)
      → (digit_of_lem b ≡ None → is_digit b ≡ false → X) → X
  unfolding digit_of_lem
  digit_cases {X = X} f g = go (leb 48 b) (leb b 57) refl refl
    where
      go : (t u : Bool) → leb 48 b ≡ t → leb b 57 ≡ u → X
      go true true p q =
          let h : 48 ≤ b = leb-true 48 b p in
          let k : b ≤ 57 = leb-true b 57 q in
          f (rw (le-ltb b 48 h, le-ltb 57 b k)) (rw (p, q)) (ne_eqb b 32 (λ e. omega arith)) (ne_eqb b 114 (λ e. omega arith)) (omega arith)
      go true false p q =
          let h : 48 ≤ b = leb-true 48 b p in
          let k : 57 < b = leb-false b 57 q in
          g (rw (le-ltb b 48 h, lt-ltb 57 b k)) (rw (p, q))
      go false u p q =
          let h : b < 48 = leb-false 48 b p in
          g (rw (lt-ltb b 48 h)) (rw p)

  digit_number : (s : List ℕ) → is_digit b ≡ true → b - 48 < 10 → is_number (b ∷ s) ≡ goes (b - 48) s
  digit_number s d h =
      let e : 0 * 10 + (b - 48) ≡ b - 48 = omega arith in
      rw (d, e) (sym (goes_on (b - 48) s (omega arith)))

  no_number : (s : List ℕ) → is_digit b ≡ false → is_number (first (b ∷ s)) ≡ false
  no_number s d = go (eqb b 32)
    where
      go : (t : Bool) → is_number (cond t [] (b ∷ first s)) ≡ false
      go true = refl
      go false = rw d

-- What a line says whose bytes so far led to L and whose other bytes are s.
abbrev pub meaning : Line → List ℕ → Said
meaning Start s = said (words s)
meaning (Name k) s = cond (same (first s) (drop k remove)) (rest (others s) Removal) Other
meaning (Number g v) s = cond (goes v (first s)) (onward g (value v (first s)) (others s)) Other
meaning (Gap g) s = rest (words s) g
meaning Wrong s = Other

pub meaning_end : (L : Line) → meaning L [] ≡ end_rule L
unfolding said
meaning_end Start = refl
meaning_end (Name k) = either (same [] (drop k remove))
meaning_end (Number Nothing v) = refl
meaning_end (Number (One a) v) = refl
meaning_end (Number (Two a b) v) = refl
meaning_end (Number Removal v) = refl
meaning_end (Gap Nothing) = refl
meaning_end (Gap (One a)) = refl
meaning_end (Gap (Two a b)) = refl
meaning_end (Gap Removal) = refl
meaning_end Wrong = refl

-- the letters of `remove` are no spaces
letters : (k : ℕ) → k < 6 → eqb (get_or remove k 0) 32 ≡ false
letters zero h = refl
letters (suc zero) h = refl
letters (suc (suc zero)) h = refl
letters (suc (suc (suc zero))) h = refl
letters (suc (suc (suc (suc zero)))) h = refl
letters (suc (suc (suc (suc (suc zero))))) h = refl
letters (suc (suc (suc (suc (suc (suc k)))))) h = absurd (omega arith)

-- a byte that is no space goes on with the first word
module _ (b : ℕ) (s : List ℕ) where
  word_on : eqb b 32 ≡ false → words (b ∷ s) ≡ (b ∷ first s) ∷ others s
  word_on e = go (eqb b 32) e
    where
      go : (t : Bool) → t ≡ false → cond t [] (b ∷ first s) ∷ cond t (words s) (others s) ≡ (b ∷ first s) ∷ others s
      go t e = rw e

  -- a byte where a number has to begin
  gap_digit : (g : Before) → is_digit b ≡ true → b - 48 < 10 → meaning (Number g (b - 48)) s ≡ rest ((b ∷ first s) ∷ others s) g
  gap_digit g d h =
      let z : b - 48 ≡ 0 * 10 + (b - 48) = omega arith in
      rw (← digit_number b (first s) d h, z) (sym (rest_word g (b ∷ first s) (others s)))

  first_is : (g : Before) (L : Line) → first_digit_lem g b ≡ L → meaning (first_digit_lem g b) s ≡ meaning L s
  first_is g L e = ap (λ (l : Line). meaning l s) e

  gap_byte : (g : Before) → meaning (first_digit_lem g b) s ≡ rest (words (b ∷ s)) g
  unfolding first_digit_lem on_some
  gap_byte g =
      digit_cases b
      (λ e d p r h. first_is g (Number g (b - 48)) (rw e) ∙ gap_digit g d h ∙ ap (λ (l : List (List ℕ)). rest l g) (sym (word_on p)))
      (λ e d. first_is g Wrong (rw e) ∙ sym (rest_wrong g (first (b ∷ s)) (others (b ∷ s)) (no_number b s d)))

  -- the first byte
  no_remove : eqb b 114 ≡ false → same (first (b ∷ s)) remove ≡ false
  no_remove e = go (eqb b 32)
    where
      go : (t : Bool) → same (cond t [] (b ∷ first s)) remove ≡ false
      go true = refl
      go false = rw e

  start_byte_law : meaning (start_byte_lem b) s ≡ said (words (b ∷ s))
  unfolding start_byte_lem
  start_byte_law = go (eqb b 114) refl
    where
      go : (t : Bool) → eqb b 114 ≡ t → meaning (cond t (Name 1) (first_digit_lem Nothing b)) s ≡ said (words (b ∷ s))
      go true f = let e : b ≡ 114 = eqb-true b 114 f in rw e (sym (said_first (114 ∷ first s) (others s)))
      go false f =
          let r : said (words (b ∷ s)) ≡ cond (same (first (b ∷ s)) remove) (rest (others (b ∷ s)) Removal) (rest (words (b ∷ s)) Nothing) =
          said_first (first (b ∷ s)) (others (b ∷ s)) in
          gap_byte Nothing
          ∙ sym (r ∙ ap (λ (t : Bool). cond t (rest (others (b ∷ s)) Removal) (rest (words (b ∷ s)) Nothing)) (no_remove f))

  -- a letter of `remove`, which is no space
  letter : (x k : ℕ) → eqb x 32 ≡ false → drop k remove ≡ x ∷ drop (k + 1) remove
      → meaning (cond (eqb b x) (Name (k + 1)) Wrong) s ≡ meaning (Name k) (b ∷ s)
  letter x k h d = rw d (go (eqb b x) (eqb b 32) refl refl)
    where
      go : (t u : Bool) → eqb b x ≡ t → eqb b 32 ≡ u → meaning (cond t (Name (k + 1)) Wrong) s
          ≡ cond (same (cond u [] (b ∷ first s)) (x ∷ drop (k + 1) remove)) (rest (cond u (words s) (others s)) Removal) Other
      go true true f g =
          let p : b ≡ x = eqb-true b x f in
          let q : b ≡ 32 = eqb-true b 32 g in
          let r : eqb x 32 ≡ true = eq-eqb x 32 (sym p ∙ q) in
          let y : ◌≡◌ {A = ℕ} 0 1 = cc in
          absurd (omega arith)
      go true false f g = rw f
      go false true f g = refl
      go false false f g = rw f

  -- a byte after k letters of it
  name_byte_law : (k : ℕ) → meaning (name_byte_lem k b) s ≡ meaning (Name k) (b ∷ s)
  unfolding name_byte_lem
  name_byte_law k = go (ltb k 6) refl
    where
      past : 6 ≤ k → (t : Bool) → meaning (cond t (Gap Removal) Wrong) s
          ≡ cond (same (cond t [] (b ∷ first s)) (drop k remove)) (rest (cond t (words s) (others s)) Removal) Other
      past h true = rw (drop_of_length-le remove h)
      past h false = rw (drop_of_length-le remove h)

      go : (t : Bool) → ltb k 6 ≡ t
          → meaning (cond t (cond (eqb b (get_or remove k 0)) (Name (k + 1)) Wrong) (cond (eqb b 32) (Gap Removal) Wrong)) s ≡ meaning (Name k) (b ∷ s)
      go true f =
          let h : k < 6 = ltb-true k 6 f in
          letter (get_or remove k 0) k (letters k h) (rw (add-one k) (drop-cons remove k 0 h))
      go false f = past (ltb-false k 6 f) (eqb b 32)

  -- a byte after a number
  number_byte_law : (g : Before) (v : ℕ) → meaning (number_byte_lem g v b) s ≡ meaning (Number g v) (b ∷ s)
  unfolding number_byte_lem on_some longer appended
  number_byte_law g v = digit_cases b digit other
    where
      w : ℕ
      w = v * 10 + (b - 48)

      on : Bool → Said
      on u = cond (goes v (cond u [] (b ∷ first s))) (onward g (value v (cond u [] (b ∷ first s))) (cond u (words s) (others s))) Other

      gap : (f : Before) → meaning (gap_after_lem f v) s ≡ onward f v (words s)
      gap Nothing = refl
      gap (One a) = refl
      gap (Two a c) = refl
      gap Removal = refl

      longer_is : (t : Bool) → meaning (on_some (cond t (Some w) None) (λ x. Number g x) Wrong) s
          ≡ cond (t && goes w (first s)) (onward g (value w (first s)) (others s)) Other
      longer_is true = refl
      longer_is false = refl

      digit : digit_of_lem b ≡ Some (b - 48) → is_digit b ≡ true → eqb b 32 ≡ false → eqb b 114 ≡ false → b - 48 < 10
          → meaning (number_byte_lem g v b) s ≡ meaning (Number g v) (b ∷ s)
      digit e d p r h = rw (e, p, d) (longer_is (ltb w 18446744073709551616))

      other : digit_of_lem b ≡ None → is_digit b ≡ false → meaning (number_byte_lem g v b) s ≡ meaning (Number g v) (b ∷ s)
      other e d = rw e (go (eqb b 32))
        where
          go : (t : Bool) → meaning (cond t (gap_after_lem g v) Wrong) s ≡ on t
          go true = gap g
          go false = rw d

-- one byte more: the state that it leads to means, with the bytes after it, what the state before
-- means with all of them
pub meaning_byte : (L : Line) (b : ℕ) (s : List ℕ) → meaning (byte_rule L b) s ≡ meaning L (b ∷ s)
meaning_byte Start b s = start_byte_law b s
meaning_byte (Name k) b s = name_byte_law b s k
meaning_byte (Number g v) b s = number_byte_law b s g v
meaning_byte (Gap g) b s = gap_byte b s g
meaning_byte Wrong b s = refl

-- after a byte the line is not new
begun_line : (g : Before) (b : ℕ) → new_rule (first_digit_lem g b) ≡ false
unfolding first_digit_lem on_some
begun_line g b = digit_cases b (λ e d p r h. rw e) (λ e d. rw e)

pub not_new : (L : Line) (b : ℕ) → new_rule (byte_rule L b) ≡ false
unfolding start_byte_lem name_byte_lem number_byte_lem on_some longer appended
not_new Start b = go (eqb b 114)
  where
    go : (t : Bool) → new_rule (cond t (Name 1) (first_digit_lem Nothing b)) ≡ false
    go true = refl
    go false = begun_line Nothing b
not_new (Name k) b = go (ltb k 6) (eqb b (get_or remove k 0)) (eqb b 32)
  where
    go : (t u w : Bool) → new_rule (cond t (cond u (Name (k + 1)) Wrong) (cond w (Gap Removal) Wrong)) ≡ false
    go true true w = refl
    go true false w = refl
    go false u true = refl
    go false u false = refl
not_new (Number g v) b = digit_cases b (λ e d p r h. rw e (more (ltb (v * 10 + (b - 48)) 18446744073709551616))) (λ e d. rw e (go g (eqb b 32)))
  where
    more : (t : Bool) → new_rule (on_some (cond t (Some (v * 10 + (b - 48))) None) (λ x. Number g x) Wrong) ≡ false
    more true = refl
    more false = refl

    go : (f : Before) (t : Bool) → new_rule (cond t (gap_after_lem f v) Wrong) ≡ false
    go Nothing true = refl
    go (One a) true = refl
    go (Two a c) true = refl
    go Removal true = refl
    go Nothing false = refl
    go (One a) false = refl
    go (Two a c) false = refl
    go Removal false = refl
not_new (Gap g) b = begun_line g b
not_new Wrong b = refl
