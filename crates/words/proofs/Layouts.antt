-- Six-word nodes are read and written as their eight-word form is.
use mathlib.Core.Path.{◌≡◌, refl, sym, ap, ◌∙◌}
use mathlib.Core.Bool.{Bool, true, false, cond, ◌||◌, ◌&&◌, true≢false}
use mathlib.Core.List.{List, [], ◌∷◌, ◌++◌}
use mathlib.Core.Logic.{◌⊎◌, inl, inr}
use Prim.Native.Nat.{ℕ, zero, suc, ◌+◌, ◌*◌, ◌-◌, ◌/◌, ◌%◌, ◌<◌, ◌≤◌}
use native.Mathlib.Omega.{arith}
use native.Mathlib.Nat.{zero-add}
use lib.Dec.{eqb, ltb, leb}
use lib.ListN.{length, get_or, set, take, drop}
use borrow.Author.Tests.{ltb-true, ltb-false, leb-true, eqb-true, eqb-false, lt-ltb, le-ltb, le-leb}
use Rattle.words.specs.Ix.{U}
use Rattle.words.specs.Nodes.{place, word, put}
use Rattle.words.specs.Layouts.{widened, narrowed, packed_place_lem, field_in, field_put, unpack, as_eight, kid_fits, up_fits_lem, field_fits, node_words_lem, Held, HoldsIn, slots_as}
use Rattle.words.specs.declared.node.Field.{Field}
use Rattle.words.specs.declared.node.Field.TheVariants.{Start, End, Value, HullStart, HullEnd, Child, Parent}

-- a list of six words or more, by its first six
six_cases : (P : List ℕ → Type 0) → ((a b c d e w : ℕ) (N : List ℕ) → P (a ∷ b ∷ c ∷ d ∷ e ∷ w ∷ N)) → (N : List ℕ) → 6 ≤ length N → P N
six_cases P f [] h = absurd (omega arith)
six_cases P f (a ∷ []) h = absurd (omega arith)
six_cases P f (a ∷ b ∷ []) h = absurd (omega arith)
six_cases P f (a ∷ b ∷ c ∷ []) h = absurd (omega arith)
six_cases P f (a ∷ b ∷ c ∷ d ∷ []) h = absurd (omega arith)
six_cases P f (a ∷ b ∷ c ∷ d ∷ e ∷ []) h = absurd (omega arith)
six_cases P f (a ∷ b ∷ c ∷ d ∷ e ∷ w ∷ N) h = f a b c d e w N

-- what fieldFits, as numbers
kid_cases : {X : Type 0} (v : ℕ) → kid_fits true v ≡ true → (v < 65535 → X) → (v ≡ U → X) → X
unfolding kid_fits
kid_cases {X = X} v h f g = go (ltb v 65535) refl (eqb v U) refl h
  where
    go : (t : Bool) → ltb v 65535 ≡ t → (p : Bool) → eqb v U ≡ p → (t || p) ≡ true → X
    go true e p i z = f (ltb-true v 65535 e)
    go false e true i z = g (eqb-true v U i)
    go false e false i z = absurd (true≢false (sym z))

up_cases : {X : Type 0} (v : ℕ) → up_fits_lem true v ≡ true → (v < 65535 → X) → (U ≤ v → v < 8589869056 → X) → X
unfolding up_fits_lem
up_cases {X = X} v h f g = go (ltb v 65535) refl (leb U v) refl (ltb v 8589869056) refl h
  where
    go : (t : Bool) → ltb v 65535 ≡ t → (p : Bool) → leb U v ≡ p → (q : Bool) → ltb v 8589869056 ≡ q → (t || (p && q)) ≡ true → X
    go true e p i q j z = f (ltb-true v 65535 e)
    go false e true i true j z = g (leb-true U v i) (ltb-true v 8589869056 j)
    go false e true i false j z = absurd (true≢false (sym z))
    go false e false i q j z = absurd (true≢false (sym z))

-- a slot fieldFits, and so does U, in either layout
pub slot_fits : (narrow : Bool) (s : ℕ) → s < 65535 → kid_fits narrow s ≡ true
unfolding kid_fits
slot_fits true s h = rw (lt-ltb s 65535 h)
slot_fits false s h = refl

pub none_fits : (narrow : Bool) → kid_fits narrow U ≡ true
unfolding kid_fits
none_fits true = refl
none_fits false = refl

high_up : (v : ℕ) → U ≤ v → v < 8589869056 → up_fits_lem true v ≡ true
unfolding up_fits_lem
high_up v a b = rw (le-ltb v 65535 (omega arith), le-leb U v a, lt-ltb v 8589869056 b)

pub low_up : (v : ℕ) → v < 65535 → up_fits_lem true v ≡ true
unfolding up_fits_lem
low_up v a = rw (lt-ltb v 65535 a)

pub kid_up : (narrow : Bool) (v : ℕ) → kid_fits narrow v ≡ true → up_fits_lem narrow v ≡ true
unfolding up_fits_lem
kid_up true v h = kid_cases v h (λ l. low_up v l) (λ e. high_up v (omega arith) (omega arith))
kid_up false v h = refl

-- a link that was narrowed and widened again
low_back : (v : ℕ) → v < 65535 → widened (narrowed v) ≡ v
unfolding widened narrowed
low_back v h = simp (lt-ltb v 65535 h)

high_back : (v : ℕ) → U ≤ v → widened (narrowed v) ≡ v
unfolding widened narrowed
high_back v h = rw (le-ltb v 65535 (omega arith), le-ltb (v - 4294901760) 65535 (omega arith)) (omega arith)

back : (v : ℕ) → up_fits_lem true v ≡ true → widened (narrowed v) ≡ v
back v h = up_cases v h (λ l. low_back v l) (λ a b. high_back v a)

pub narrow_up : (v : ℕ) → up_fits_lem true v ≡ true → narrowed v < 4294967296
unfolding narrowed
narrow_up v h = up_cases v h (λ l. rw (lt-ltb v 65535 l) (omega arith)) (λ a b. rw (le-ltb v 65535 (omega arith)) (omega arith))

pub narrow_kid : (v : ℕ) → kid_fits true v ≡ true → narrowed v < 65536
unfolding narrowed
narrow_kid v h = kid_cases v h (λ l. rw (lt-ltb v 65535 l) (omega arith)) (λ e. rw (le-ltb v 65535 (omega arith)) (omega arith))

-- what is read fieldFits
low_wide : (k : ℕ) → k < 65535 → widened k ≡ k
unfolding widened
low_wide k h = rw (lt-ltb k 65535 h)

high_wide : (k : ℕ) → 65535 ≤ k → widened k ≡ k + 4294901760
unfolding widened
high_wide k h = rw (le-ltb k 65535 h)

wide_kid : (k : ℕ) → k < 65536 → kid_fits true (widened k) ≡ true
wide_kid k h = go (ltb k 65535) refl
  where
    go : (t : Bool) → ltb k 65535 ≡ t → kid_fits true (widened k) ≡ true
    go true e = rw (low_wide k (ltb-true k 65535 e)) (slot_fits true k (ltb-true k 65535 e))
    go false e =
        let i : k ≡ 65535 = omega (arith, ltb-false k 65535 e) in
        rw (high_wide k (ltb-false k 65535 e), i) (none_fits true)

wide_up : (k : ℕ) → k < 4294967296 → up_fits_lem true (widened k) ≡ true
wide_up k h = go (ltb k 65535) refl
  where
    go : (t : Bool) → ltb k 65535 ≡ t → up_fits_lem true (widened k) ≡ true
    go true e = rw (low_wide k (ltb-true k 65535 e)) (low_up k (ltb-true k 65535 e))
    go false e =
        let i : 65535 ≤ k = ltb-false k 65535 e in
        rw (high_wide k i) (high_up (k + 4294901760) (omega arith) (omega arith))

pub read_fits : (f : Field) (w : ℕ) → w < 18446744073709551616 → field_fits true f (field_in f w) ≡ true
unfolding field_in
read_fits Start w h = refl
read_fits End w h = refl
read_fits Value w h = refl
read_fits HullStart w h = refl
read_fits HullEnd w h = refl
read_fits (Child true) w h = wide_kid (w % 65536) (omega arith)
read_fits (Child false) w h = wide_kid (w / 65536 % 65536) (omega arith)
read_fits Parent w h = wide_up (w / 4294967296) (omega arith)

-- the three links of a word, after one of them is written
module _ (w v : ℕ) (h : kid_fits true v ≡ true) where
  left_left : field_in (Child true) (field_put (Child true) w v) ≡ v
  unfolding field_in field_put
  left_left =
      let k : ℕ = narrowed v in
      let l : k < 65536 = narrow_kid v h in
      let e : (w / 65536 * 65536 + k) % 65536 ≡ k = omega arith in
      rw e (back v (kid_up true v h))

  left_right : field_in (Child false) (field_put (Child true) w v) ≡ field_in (Child false) w
  unfolding field_in field_put
  left_right =
      let k : ℕ = narrowed v in
      let l : k < 65536 = narrow_kid v h in
      let e : (w / 65536 * 65536 + k) / 65536 ≡ w / 65536 = omega arith in
      rw e refl

  left_up : field_in Parent (field_put (Child true) w v) ≡ field_in Parent w
  unfolding field_in field_put
  left_up =
      let k : ℕ = narrowed v in
      let l : k < 65536 = narrow_kid v h in
      let e : (w / 65536 * 65536 + k) / 4294967296 ≡ w / 4294967296 = omega arith in
      rw e refl

  right_left : field_in (Child true) (field_put (Child false) w v) ≡ field_in (Child true) w
  unfolding field_in field_put
  right_left =
      let k : ℕ = narrowed v in
      let e : (w / 4294967296 * 4294967296 + k * 65536 + w % 65536) % 65536 ≡ w % 65536 = omega arith in
      rw e refl

  right_right : field_in (Child false) (field_put (Child false) w v) ≡ v
  unfolding field_in field_put
  right_right =
      let k : ℕ = narrowed v in
      let l : k < 65536 = narrow_kid v h in
      let e : (w / 4294967296 * 4294967296 + k * 65536 + w % 65536) / 65536 % 65536 ≡ k = omega arith in
      rw e (back v (kid_up true v h))

  right_up : field_in Parent (field_put (Child false) w v) ≡ field_in Parent w
  unfolding field_in field_put
  right_up =
      let k : ℕ = narrowed v in
      let l : k < 65536 = narrow_kid v h in
      let e : (w / 4294967296 * 4294967296 + k * 65536 + w % 65536) / 4294967296 ≡ w / 4294967296 = omega arith in
      rw e refl

module _ (w v : ℕ) (h : up_fits_lem true v ≡ true) where
  up_left : field_in (Child true) (field_put Parent w v) ≡ field_in (Child true) w
  unfolding field_in field_put
  up_left =
      let k : ℕ = narrowed v in
      let e : (k * 4294967296 + w % 4294967296) % 65536 ≡ w % 65536 = omega arith in
      rw e refl

  up_right : field_in (Child false) (field_put Parent w v) ≡ field_in (Child false) w
  unfolding field_in field_put
  up_right =
      let k : ℕ = narrowed v in
      let e : (k * 4294967296 + w % 4294967296) / 65536 % 65536 ≡ w / 65536 % 65536 = omega arith in
      rw e refl

  up_up : field_in Parent (field_put Parent w v) ≡ v
  unfolding field_in field_put
  up_up =
      let k : ℕ = narrowed v in
      let e : (k * 4294967296 + w % 4294967296) / 4294967296 ≡ k = omega arith in
      rw e (back v h)

-- the first node
abbrev node : ℕ → ℕ → ℕ → ℕ → ℕ → ℕ → ℕ → ℕ → List ℕ → List ℕ
node a b c d e l r u X = a ∷ b ∷ c ∷ d ∷ e ∷ l ∷ r ∷ u ∷ X

links_same : (a b c d e l l' r r' u u' : ℕ) (X : List ℕ) → l ≡ l' → r ≡ r' → u ≡ u' → node a b c d e l r u X ≡ node a b c d e l' r' u' X
links_same a b c d e l l' r r' u u' X p q o = cc

module _ (a b c d e w v : ℕ) (N : List ℕ) where
  put_first : (f : Field) → field_fits true f v ≡ true
      → unpack (set (a ∷ b ∷ c ∷ d ∷ e ∷ w ∷ N) (packed_place_lem f) (field_put f (get_or (a ∷ b ∷ c ∷ d ∷ e ∷ w ∷ N) (packed_place_lem f) 0) v))
      ≡ set (unpack (a ∷ b ∷ c ∷ d ∷ e ∷ w ∷ N)) (place f) v
  unfolding unpack field_put
  put_first Start h = refl
  put_first End h = refl
  put_first Value h = refl
  put_first HullStart h = refl
  put_first HullEnd h = refl
  put_first (Child true) h = links_same a b c d e _ _ _ _ _ _ (unpack N) (left_left w v h) (left_right w v h) (left_up w v h)
  put_first (Child false) h = links_same a b c d e _ _ _ _ _ _ (unpack N) (right_left w v h) (right_right w v h) (right_up w v h)
  put_first Parent h = links_same a b c d e _ _ _ _ _ _ (unpack N) (up_left w v h) (up_right w v h) (up_up w v h)

  word_first : (f : Field) → get_or (unpack (a ∷ b ∷ c ∷ d ∷ e ∷ w ∷ N)) (place f) 0 ≡ field_in f (get_or (a ∷ b ∷ c ∷ d ∷ e ∷ w ∷ N) (packed_place_lem f) 0)
  unfolding unpack field_in
  word_first Start = refl
  word_first End = refl
  word_first Value = refl
  word_first HullStart = refl
  word_first HullEnd = refl
  word_first (Child true) = refl
  word_first (Child false) = refl
  word_first Parent = refl

-- one node on
six_on : (s p : ℕ) → suc s * 6 + p ≡ suc (suc (suc (suc (suc (suc (s * 6 + p))))))
six_on s p = omega arith

eight_on : (s p : ℕ) → suc s * 8 + p ≡ suc (suc (suc (suc (suc (suc (suc (suc (s * 8 + p))))))))
eight_on s p = omega arith

-- reading the eight-word form is reading the fieldPut word, and writing to it is writing to the
-- fieldPut word
abbrev ReadsAs : Field → ℕ → List ℕ → Type 0
ReadsAs f s N = get_or (unpack N) (s * 8 + place f) 0 ≡ field_in f (get_or N (s * 6 + packed_place_lem f) 0)

abbrev PutsAs : Field → ℕ → ℕ → List ℕ → Type 0
PutsAs f s v N = unpack (set N (s * 6 + packed_place_lem f) (field_put f (get_or N (s * 6 + packed_place_lem f) 0) v)) ≡ set (unpack N) (s * 8 + place f) v

module _ (f : Field) (s a b c d e w : ℕ) (M : List ℕ) where
  reads_on : ReadsAs f s M → ReadsAs f (suc s) (a ∷ b ∷ c ∷ d ∷ e ∷ w ∷ M)
  unfolding unpack
  reads_on r = rw (six_on s (packed_place_lem f), eight_on s (place f)) r

  puts_on : (v : ℕ) → PutsAs f s v M → PutsAs f (suc s) v (a ∷ b ∷ c ∷ d ∷ e ∷ w ∷ M)
  unfolding unpack
  puts_on v r =
      rw (six_on s (packed_place_lem f), eight_on s (place f))
      (ap (λ (X : List ℕ). node a b c d e (field_in (Child true) w) (field_in (Child false) w) (field_in Parent w) X) r)

reads_as : (f : Field) (s : ℕ) (N : List ℕ) → s * 6 + 6 ≤ length N → ReadsAs f s N
reads_as f zero N h =
    six_cases (λ M. ReadsAs f zero M) (λ a b c d e w M. rw (zero-add (place f), zero-add (packed_place_lem f)) (word_first a b c d e w 0 M f)) N (omega arith)
reads_as f (suc s) N h =
    six_cases (λ M. suc s * 6 + 6 ≤ length M → ReadsAs f (suc s) M)
    (λ a b c d e w M i. reads_on f s a b c d e w M (reads_as f s M (omega arith))) N (omega arith) h

puts_as : (f : Field) (s v : ℕ) (N : List ℕ) → field_fits true f v ≡ true → s * 6 + 6 ≤ length N → PutsAs f s v N
puts_as f zero v N q h =
    six_cases (λ M. PutsAs f zero v M) (λ a b c d e w M. rw (zero-add (place f), zero-add (packed_place_lem f)) (put_first a b c d e w v M f q)) N (omega arith)
puts_as f (suc s) v N q h =
    six_cases (λ M. suc s * 6 + 6 ≤ length M → PutsAs f (suc s) v M)
    (λ a b c d e w M i. puts_on f s a b c d e w M v (puts_as f s v M q (omega arith))) N (omega arith) h

module _ (f : Field) (s : ℕ) (N : List ℕ) (h : s * 6 + 6 ≤ length N) where
  pub word_unpack : word (unpack N) f s ≡ field_in f (get_or N (s * 6 + packed_place_lem f) 0)
  unfolding word
  word_unpack = reads_as f s N h

  pub unpack_put : (v : ℕ) → field_fits true f v ≡ true → unpack (set N (s * 6 + packed_place_lem f) (field_put f (get_or N (s * 6 + packed_place_lem f) 0) v)) ≡ put (unpack N) f s v
  unfolding put
  unpack_put v q = puts_as f s v N q h

-- the words that the eight-word form came from, so that it says all of them
unfoldable pub pack : List ℕ → List ℕ
pack [] = []
pack (a ∷ []) = a ∷ []
pack (a ∷ b ∷ []) = a ∷ b ∷ []
pack (a ∷ b ∷ c ∷ []) = a ∷ b ∷ c ∷ []
pack (a ∷ b ∷ c ∷ d ∷ []) = a ∷ b ∷ c ∷ d ∷ []
pack (a ∷ b ∷ c ∷ d ∷ e ∷ []) = a ∷ b ∷ c ∷ d ∷ e ∷ []
pack (a ∷ b ∷ c ∷ d ∷ e ∷ l ∷ []) = a ∷ b ∷ c ∷ d ∷ e ∷ l ∷ []
pack (a ∷ b ∷ c ∷ d ∷ e ∷ l ∷ r ∷ []) = a ∷ b ∷ c ∷ d ∷ e ∷ l ∷ r ∷ []
pack (a ∷ b ∷ c ∷ d ∷ e ∷ l ∷ r ∷ u ∷ W) =
    a ∷ b ∷ c ∷ d ∷ e ∷ (narrowed u * 4294967296 + narrowed r * 65536 + narrowed l) ∷ pack W

low_forth : (k : ℕ) → k < 65535 → narrowed (widened k) ≡ k
unfolding widened narrowed
low_forth k h = simp (lt-ltb k 65535 h)

high_forth : (k : ℕ) → 65535 ≤ k → narrowed (widened k) ≡ k
unfolding widened narrowed
high_forth k h = rw (le-ltb k 65535 h, le-ltb (k + 4294901760) 65535 (omega arith)) (omega arith)

forth : (k : ℕ) → narrowed (widened k) ≡ k
forth k = go (ltb k 65535) refl
  where
    go : (t : Bool) → ltb k 65535 ≡ t → narrowed (widened k) ≡ k
    go true e = low_forth k (ltb-true k 65535 e)
    go false e = high_forth k (ltb-false k 65535 e)

whole : (w : ℕ) → narrowed (field_in Parent w) * 4294967296 + narrowed (field_in (Child false) w) * 65536 + narrowed (field_in (Child true) w) ≡ w
unfolding field_in
whole w = simp forth (omega arith)

pack_on : (a b c d e w : ℕ) (X Y : List ℕ) → X ≡ Y → (x : ℕ) → x ≡ w → ◌≡◌ {A = List ℕ} (a ∷ b ∷ c ∷ d ∷ e ∷ x ∷ X) (a ∷ b ∷ c ∷ d ∷ e ∷ w ∷ Y)
pack_on a b c d e w X Y p x q = cc

pack_unpack : (N : List ℕ) → pack (unpack N) ≡ N
unfolding unpack pack
pack_unpack [] = refl
pack_unpack (a ∷ []) = refl
pack_unpack (a ∷ b ∷ []) = refl
pack_unpack (a ∷ b ∷ c ∷ []) = refl
pack_unpack (a ∷ b ∷ c ∷ d ∷ []) = refl
pack_unpack (a ∷ b ∷ c ∷ d ∷ e ∷ []) = refl
pack_unpack (a ∷ b ∷ c ∷ d ∷ e ∷ w ∷ N) = pack_on a b c d e w _ N (pack_unpack N) _ (whole w)

pub eight_injective : (narrow : Bool) (N M : List ℕ) → as_eight narrow N ≡ as_eight narrow M → N ≡ M
unfolding as_eight
eight_injective true N M e = sym (pack_unpack N) ∙ ap pack e ∙ pack_unpack M
eight_injective false N M e = e

-- how long it is
pub length_unpack : (N : List ℕ) → length (unpack N) ≡ length N + length N / 6 * 2
unfolding unpack
length_unpack [] = refl
length_unpack (a ∷ []) = refl
length_unpack (a ∷ b ∷ []) = refl
length_unpack (a ∷ b ∷ c ∷ []) = refl
length_unpack (a ∷ b ∷ c ∷ d ∷ []) = refl
length_unpack (a ∷ b ∷ c ∷ d ∷ e ∷ []) = refl
length_unpack (a ∷ b ∷ c ∷ d ∷ e ∷ w ∷ N) = omega (arith, length_unpack N)

-- the capacity is that of the eight-word form, and what is held there has its words
pub eight_slots : (narrow : Bool) (N : List ℕ) → length (as_eight narrow N) / 8 ≡ slots_as narrow (length N)
unfolding as_eight
eight_slots true N = omega (arith, length_unpack N)
eight_slots false N = refl

pub eight_holds : (narrow : Bool) (n : ℕ) (N : List ℕ) → HoldsIn narrow N n → n * 8 ≤ length (as_eight narrow N)
unfolding as_eight
eight_holds true n N h = omega (arith, length_unpack N)
eight_holds false n N h = omega arith

-- parts at whole nodes
append_none : (Y : List ℕ) → unpack Y ≡ unpack [] ++ unpack Y
unfolding unpack
append_none Y = refl

append_on : (a b c d e w : ℕ) (M Y : List ℕ) → unpack (M ++ Y) ≡ unpack M ++ unpack Y
    → unpack ((a ∷ b ∷ c ∷ d ∷ e ∷ w ∷ M) ++ Y) ≡ unpack (a ∷ b ∷ c ∷ d ∷ e ∷ w ∷ M) ++ unpack Y
unfolding unpack
append_on a b c d e w M Y r = ap (λ (X : List ℕ). node a b c d e (field_in (Child true) w) (field_in (Child false) w) (field_in Parent w) X) r

pub unpack_append : (k : ℕ) (X Y : List ℕ) → length X ≡ k * 6 → unpack (X ++ Y) ≡ unpack X ++ unpack Y
unpack_append zero [] Y h = append_none Y
unpack_append zero (a ∷ X) Y h = absurd (omega arith)
unpack_append (suc k) X Y h =
    six_cases (λ M. length M ≡ suc k * 6 → unpack (M ++ Y) ≡ unpack M ++ unpack Y)
    (λ a b c d e w M i. append_on a b c d e w M Y (unpack_append k M Y (omega arith))) X (omega arith) h

six_next : (k : ℕ) → suc k * 6 ≡ suc (suc (suc (suc (suc (suc (k * 6))))))
six_next k = omega arith

eight_next : (k : ℕ) → suc k * 8 ≡ suc (suc (suc (suc (suc (suc (suc (suc (k * 8))))))))
eight_next k = omega arith

module _ (k a b c d e w : ℕ) (M : List ℕ) where
  take_on : unpack (take (k * 6) M) ≡ take (k * 8) (unpack M) → unpack (take (suc k * 6) (a ∷ b ∷ c ∷ d ∷ e ∷ w ∷ M)) ≡ take (suc k * 8) (unpack (a ∷ b ∷ c ∷ d ∷ e ∷ w ∷ M))
  unfolding unpack
  take_on r =
      rw (six_next k, eight_next k)
      (ap (λ (X : List ℕ). node a b c d e (field_in (Child true) w) (field_in (Child false) w) (field_in Parent w) X) r)

  drop_on : unpack (drop (k * 6) M) ≡ drop (k * 8) (unpack M) → unpack (drop (suc k * 6) (a ∷ b ∷ c ∷ d ∷ e ∷ w ∷ M)) ≡ drop (suc k * 8) (unpack (a ∷ b ∷ c ∷ d ∷ e ∷ w ∷ M))
  unfolding unpack
  drop_on r = rw (six_next k, eight_next k) r

take_none : (N : List ℕ) → unpack (take (zero * 6) N) ≡ take (zero * 8) (unpack N)
unfolding unpack
take_none N = refl

unpack_take : (k : ℕ) (N : List ℕ) → k * 6 ≤ length N → unpack (take (k * 6) N) ≡ take (k * 8) (unpack N)
unpack_take zero N h = take_none N
unpack_take (suc k) N h =
    six_cases (λ M. suc k * 6 ≤ length M → unpack (take (suc k * 6) M) ≡ take (suc k * 8) (unpack M))
    (λ a b c d e w M i. take_on k a b c d e w M (unpack_take k M (omega arith))) N (omega arith) h

unpack_drop : (k : ℕ) (N : List ℕ) → k * 6 ≤ length N → unpack (drop (k * 6) N) ≡ drop (k * 8) (unpack N)
unpack_drop zero N h = refl
unpack_drop (suc k) N h =
    six_cases (λ M. suc k * 6 ≤ length M → unpack (drop (suc k * 6) M) ≡ drop (suc k * 8) (unpack M))
    (λ a b c d e w M i. drop_on k a b c d e w M (unpack_drop k M (omega arith))) N (omega arith) h

-- so of either layout: the builder lends whole nodes
pub eight_take : (narrow : Bool) (k : ℕ) (N : List ℕ) → k * node_words_lem narrow ≤ length N → as_eight narrow (take (k * node_words_lem narrow) N) ≡ take (k * 8) (as_eight narrow N)
unfolding as_eight
eight_take true k N h = unpack_take k N h
eight_take false k N h = refl

pub eight_drop : (narrow : Bool) (k : ℕ) (N : List ℕ) → k * node_words_lem narrow ≤ length N → as_eight narrow (drop (k * node_words_lem narrow) N) ≡ drop (k * 8) (as_eight narrow N)
unfolding as_eight
eight_drop true k N h = unpack_drop k N h
eight_drop false k N h = refl

pub eight_append : (narrow : Bool) (k : ℕ) (X Y : List ℕ) → length X ≡ k * node_words_lem narrow → as_eight narrow (X ++ Y) ≡ as_eight narrow X ++ as_eight narrow Y
unfolding as_eight
eight_append true k X Y h = unpack_append k X Y h
eight_append false k X Y h = refl

pub eight_length : (narrow : Bool) (d : ℕ) (N : List ℕ) → length N ≡ d * node_words_lem narrow → length (as_eight narrow N) ≡ d * 8
unfolding as_eight
eight_length true d N h = omega (arith, length_unpack N)
eight_length false d N h = h

pub eight_whole : (narrow : Bool) (d : ℕ) (N : List ℕ) → length (as_eight narrow N) ≡ d * 8 → length N ≡ d * node_words_lem narrow
unfolding as_eight
eight_whole true d N h = omega (arith, length_unpack N)
eight_whole false d N h = h

-- "the old last slot gets three undefined links"
pub links_none : (w : ℕ) → field_in (Child true) w ≡ U → field_in (Child false) w ≡ U → field_in Parent w ≡ U → w ≡ 281474976710655
unfolding narrowed
links_none w l r u = sym (whole w) ∙ rw (l, r, u) refl

-- "left in the lowest bits, then right, then parent, top 16 bits 0": where they are 0 the three are
-- the 16-bit numbers, 65535 for U
pub link_plain : (k : ℕ) → k < 65536 → widened k ≡ cond (eqb k 65535) U k
unfolding widened
link_plain k h = go (eqb k 65535) refl
  where
    go : (t : Bool) → eqb k 65535 ≡ t → cond (ltb k 65535) k (k + 4294901760) ≡ cond t U k
    go true e = let i : k ≡ 65535 = eqb-true k 65535 e in rw (le-ltb k 65535 (omega arith)) (omega arith)
    go false e = let i : k ≡ 65535 → ⊥ = eqb-false k 65535 e in rw (lt-ltb k 65535 (omega arith)) refl

-- where one of them is set the parent is above U
pub tops_high : (w : ℕ) → 281474976710656 ≤ w → U < field_in Parent w
unfolding field_in widened
tops_high w h = rw (le-ltb (w / 4294967296) 65535 (omega arith)) (omega arith)

-- What the code of the accessors owes, in the form that `search` takes.
pub low_narrowed : (v : ℕ) → v < 65535 → v ≡ narrowed v
unfolding narrowed
low_narrowed v h = rw (lt-ltb v 65535 h)

pub high_narrowed : (v : ℕ) → 65535 ≤ v → v - 4294901760 ≡ narrowed v
unfolding narrowed
high_narrowed v h = rw (le-ltb v 65535 h)

pub high_enough : (v : ℕ) → up_fits_lem true v ≡ true → 65535 ≤ v → 4294901760 ≤ v
high_enough v q h = up_cases v q (λ l. absurd (omega arith)) (λ a b. omega arith)

pub high_narrow : (v : ℕ) → up_fits_lem true v ≡ true → 65535 ≤ v → v - 4294901760 < 4294967296
high_narrow v q h = up_cases v q (λ l. absurd (omega arith)) (λ a b. omega arith)

pub kid_narrow : (v k : ℕ) → kid_fits true v ≡ true → k ≡ narrowed v → k < 65536
kid_narrow v k q e = rw e (narrow_kid v q)

pub low_widened : (k : ℕ) → k < 65535 → k ≡ widened k
low_widened k h = sym (low_wide k h)

pub high_widened : (k : ℕ) → 65535 ≤ k → k + 4294901760 ≡ widened k
high_widened k h = sym (high_wide k h)

pub widened_fits : (k : ℕ) → 65535 ≤ k → k < 4294967296 → up_fits_lem true (k + 4294901760) ≡ true
widened_fits k h l = high_up (k + 4294901760) (omega arith) (omega arith)

module _ (b : Bool) (r w : ℕ) where
  pub child_left : b ≡ true → r ≡ widened (w % 65536) → r ≡ field_in (Child b) w
  unfolding field_in
  child_left e q = rw e q

  pub child_right : b ≡ false → r ≡ widened (w / 65536 % 65536) → r ≡ field_in (Child b) w
  unfolding field_in
  child_right e q = rw e q

pub left_fits : (w r : ℕ) → r ≡ widened (w % 65536) → kid_fits true r ≡ true
left_fits w r e = rw e (wide_kid (w % 65536) (omega arith))

pub right_fits : (w r : ℕ) → r ≡ widened (w / 65536 % 65536) → kid_fits true r ≡ true
right_fits w r e = rw e (wide_kid (w / 65536 % 65536) (omega arith))

module _ (b : Bool) (w k v : ℕ) (q : k ≡ narrowed v) where
  pub put_left : b ≡ true → w / 65536 * 65536 + k ≡ field_put (Child b) w v
  unfolding field_put
  put_left e = rw (e, q)

  pub put_right : b ≡ false → w / 4294967296 * 4294967296 + k * 65536 + w % 65536 ≡ field_put (Child b) w v
  unfolding field_put
  put_right e = rw (e, q)

module _ (f g : Field) (e : f ≡ g) where
  pub arm_read : (r w : ℕ) → r ≡ field_in g w → r ≡ field_in f w
  arm_read r w q = rw e q

  pub arm_fits : (v : ℕ) → field_fits true g v ≡ true → field_fits true f v ≡ true
  arm_fits v q = rw e q

  pub arm_write : (r w v : ℕ) → r ≡ field_put g w v → r ≡ field_put f w v
  arm_write r w v q = rw e q

-- the fields that have a word of their own
pub own_word : (P : Field → Type 0) (f : Field)
    → (f ≡ Start) ⊎ ((f ≡ End) ⊎ ((f ≡ Value) ⊎ ((f ≡ HullStart) ⊎ (f ≡ HullEnd))))
    → P Start → P End → P Value → P HullStart → P HullEnd → P f
own_word P f (inl e) a b c d h = rw e a
own_word P f (inr (inl e)) a b c d h = rw e b
own_word P f (inr (inr (inl e))) a b c d h = rw e c
own_word P f (inr (inr (inr (inl e)))) a b c d h = rw e d
own_word P f (inr (inr (inr (inr e)))) a b c d h = rw e h

module _ (N : List ℕ) (f : Field) (s k : ℕ) (h : s * 6 + 6 ≤ length N) (e : k ≡ packed_place_lem f) where
  pub packed_read : (r : ℕ) → r ≡ field_in f (get_or N (s * 6 + k) 0) → r ≡ word (unpack N) f s
  packed_read r q = q ∙ ap (λ (i : ℕ). field_in f (get_or N (s * 6 + i) 0)) e ∙ sym (word_unpack f s N h)

  pub packed_write : (x v : ℕ) → field_fits true f v ≡ true → x ≡ field_put f (get_or N (s * 6 + k) 0) v → unpack (set N (s * 6 + k) x) ≡ put (unpack N) f s v
  packed_write x v q i = rw (i, e) (unpack_put f s N h v q)

module _ (narrow : Bool) (e : narrow ≡ true) where
  pub viewed : (N : List ℕ) (f : Field) (s r : ℕ) → r ≡ word (unpack N) f s → r ≡ word (as_eight narrow N) f s
  unfolding as_eight
  viewed N f s r q = rw e q

  pub viewed_fits : (f : Field) (v : ℕ) → field_fits true f v ≡ true → field_fits narrow f v ≡ true
  viewed_fits f v q = rw e q

  pub viewed_put : (N X : List ℕ) (f : Field) (s v : ℕ) → unpack X ≡ put (unpack N) f s v → as_eight narrow X ≡ put (as_eight narrow N) f s v
  unfolding as_eight
  viewed_put N X f s v q = rw e q

any_fits : (f : Field) (v : ℕ) → field_fits false f v ≡ true
unfolding kid_fits up_fits_lem
any_fits Start v = refl
any_fits End v = refl
any_fits Value v = refl
any_fits HullStart v = refl
any_fits HullEnd v = refl
any_fits (Child b) v = refl
any_fits Parent v = refl

module _ (narrow : Bool) (e : narrow ≡ false) where
  pub plain_fits : (f : Field) (v : ℕ) → field_fits narrow f v ≡ true
  plain_fits f v = rw e (any_fits f v)

  pub plain_read : (N : List ℕ) (f : Field) (s k r : ℕ) → k ≡ place f → r ≡ get_or N (s * 8 + k) 0 → r ≡ word (as_eight narrow N) f s
  unfolding word as_eight
  plain_read N f s k r p q = rw (e, ← p) q

  pub plain_put : (N : List ℕ) (f : Field) (s k v : ℕ) → k ≡ place f → as_eight narrow (set N (s * 8 + k) v) ≡ put (as_eight narrow N) f s v
  unfolding put as_eight
  plain_put N f s k v p = rw (e, p)

-- a slot below a count that the words hold fieldFits in every link
pub live_kid : (narrow : Bool) (n len s : ℕ) → Held narrow n len → s < n → kid_fits narrow s ≡ true
live_kid narrow n len s h l = slot_fits narrow s (omega arith)

pub live_up : (narrow : Bool) (n len s : ℕ) → Held narrow n len → s < n → up_fits_lem narrow s ≡ true
live_up narrow n len s h l = kid_up narrow s (live_kid narrow n len s h l)
