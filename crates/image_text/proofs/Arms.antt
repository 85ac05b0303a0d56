-- What the code's cases say of a rule, in the form that `search` takes.
use Rattle.std.specs.Prelude.{Option, None, Some, Result, Ok, Err, is_ok}
use Rattle.words.specs.declared.refusal.Refusal.{Refusal}
use Rattle.words.specs.declared.refusal.Refusal.TheVariants.{BadList}
use Rattle.std.specs.Option.{option_eq}
use mathlib.Core.Path.{◌≡◌, refl, sym, ap, ◌∙◌}
use mathlib.Core.Bool.{Bool, true, false, cond, ◌&&◌, ◌||◌}
use mathlib.Core.List.{List}
use Prim.Native.Nat.{ℕ, ◌+◌, ◌-◌, ◌*◌, ◌/◌, ◌<◌, ◌≤◌}
use native.Mathlib.Omega.{arith}
use lib.ListN.{length, set, take}
use lib.Seq.{sets, length-take-le}
use lib.Dec.{eqb, ltb, leb}
use borrow.Author.Tests.{eq-eqb, ne_eqb, lt-ltb, le-ltb, ltb-false, leb-true}
use Rattle.bitvec.specs.Bits.{set_bit}
use Rattle.little.specs.Numbers.{digits}
use Rattle.image_rule.specs.Layout.{colours_at_lem, image_length_lem}
use Rattle.image_rule.specs.Written.{header}
use Rattle.words.specs.Ix.{U}
use Rattle.bitvec.specs.Calls.{bytes_for}
use Rattle.lines.specs.Input.{on_some}
use Rattle.image_text.specs.Judging.{image_checked}
use Rattle.image_text.specs.Words.{longer_name_lem, is_name_lem, number_in, small_in, link_said, red_name, black_name, is_new_lem}
use Rattle.image_text.specs.Reading.{stage, next_of, refused_of, end_of, room_for, framed, framed_in, counted, rooted}
use Rattle.image_text.specs.Reading.{numbered, entry_field_lem, link_field_lem, colour_field_lem, item, longer, stepped, is_complete, last_of, outcome_of, judged_as}
use Rattle.image_text.specs.declared.word.Word.{Word}
use Rattle.image_text.specs.declared.word.Word.TheVariants.{Name, Wrong}
use Rattle.image_text.specs.declared.reading.State.{State}

-- one more letter of a name
module _ (v b : ℕ) where
  pub name_on : (n : ℕ) → v < 72057594037927936 → n ≡ b → Name (v * 256 + n) ≡ longer_name_lem v b
  unfolding longer_name_lem
  name_on n h e = rw (lt-ltb v 72057594037927936 h, e) refl

  pub name_off : 72057594037927936 ≤ v → Wrong ≡ longer_name_lem v b
  unfolding longer_name_lem
  name_off h = rw (le-ltb v 72057594037927936 h) refl

-- a small number
module _ (w : Word) (r o : Option ℕ) (e : o ≡ number_in w) where
  pub small_under : (v : ℕ) → o ≡ Some v → v < U → r ≡ Some v → r ≡ small_in w
  unfolding small_in
  small_under v f h q = rw (← e, f, lt-ltb v U h) q

  pub small_over : (v : ℕ) → o ≡ Some v → U ≤ v → r ≡ None → r ≡ small_in w
  unfolding small_in
  small_over v f h q = rw (← e, f, le-ltb v U h) q

  pub small_none : o ≡ None → r ≡ None → r ≡ small_in w
  unfolding small_in
  small_none f q = rw (← e, f) q

-- a state and an image
pub staged : (r a : State) (X Y : List ℕ) → r ≡ a → X ≡ Y → stage r X ≡ stage a Y
staged r a X Y e f = λ i. stage (e i) (f i)

-- room for an image
module _ (n len : ℕ) (b : Bool) (e : b ≡ room_for n len) (t : b ≡ true) where
  pub room_few : n ≤ 65535
  unfolding room_for
  room_few = go (ltb 65535 n) refl (sym e ∙ t)
    where
      go : (a : Bool) → ltb 65535 n ≡ a → cond a false (leb (image_length_lem n) len) ≡ true → n ≤ 65535
      go true f z = let y : ◌≡◌ {A = ℕ} 0 1 = cc in absurd (omega arith)
      go false f z = ltb-false 65535 n f

  pub room_fits : image_length_lem n ≤ len
  unfolding room_for
  room_fits = go (ltb 65535 n) (sym e ∙ t)
    where
      go : (a : Bool) → cond a false (leb (image_length_lem n) len) ≡ true → image_length_lem n ≤ len
      go true z = let y : ◌≡◌ {A = ℕ} 0 1 = cc in absurd (omega arith)
      go false z = leb-true (image_length_lem n) len z

  pub room_times : n * 8 < 18446744073709551616
  room_times = omega (arith, room_few)

  pub room_words : 4 + n * 8 < 18446744073709551616
  room_words = omega (arith, room_few)

  pub room_place : (i : ℕ) → (i - 4) / 8 < n → i + 1 < 18446744073709551616
  room_place i h = omega (arith, room_few)

pub room_is : (n k len : ℕ) → n ≤ 65535 → k ≡ image_length_lem n → leb k len ≡ room_for n len
unfolding room_for
room_is n k len h e = rw (le-ltb 65535 n h, e) refl

pub bit_room : (n k len : ℕ) → k < n → image_length_lem n ≤ len → (colours_at_lem n * 8 + k) / 8 < len
unfolding bytes_for
bit_room n k len h r = omega arith

-- the first line
pub framed_is : (I X : List ℕ) (n r k : ℕ) → k ≡ image_length_lem n → X ≡ sets (set I (k - 1) 0) 0 (header n r) → X ≡ framed I n r
unfolding framed
framed_is I X n r k e h = rw (← e) h

module _ (s r : State) (I : List ℕ) (o : Option ℕ) (e : o ≡ link_said s.word) where
  pub rooted_on : (v : ℕ) (X : List ℕ) → o ≡ Some v → stage r X ≡ framed_in s v I → stage r X ≡ rooted s I
  unfolding rooted on_some
  rooted_on v X h q = rw (← e, h) q

  pub rooted_off : o ≡ None → r ≡ refused_of s BadList → stage r I ≡ rooted s I
  unfolding rooted on_some
  rooted_off h q = rw (← e, h) (ap (λ (z : State). stage z I) q)

-- the words of a slot
module _ (s r : State) (k : ℕ) (o : Option ℕ) (e : o ≡ small_in s.word) where
  pub counted_on : (n : ℕ) → o ≡ Some n → r ≡ next_of s n → r ≡ counted s
  unfolding counted on_some
  counted_on n h q = rw (← e, h) q

  pub counted_off : o ≡ None → r ≡ refused_of s BadList → r ≡ counted s
  unfolding counted on_some
  counted_off h q = rw (← e, h) q

  module _ (b : Bool) (f : b ≡ option_eq eqb o (Some k)) where
    pub numbered_on : b ≡ true → r ≡ next_of s s.count → r ≡ numbered s k
    unfolding numbered
    numbered_on t q = rw (← e, ← f, t) q

    pub numbered_off : b ≡ false → r ≡ refused_of s BadList → r ≡ numbered s k
    unfolding numbered
    numbered_off t q = rw (← e, ← f, t) q

module _ (s r : State) (k j : ℕ) (I : List ℕ) (o : Option ℕ) where
  module _ (e : o ≡ number_in s.word) where
    pub entry_on : (v : ℕ) (X : List ℕ) → o ≡ Some v → X ≡ sets I (44 + k * 24 + (j - 1) * 8) (digits 8 v)
        → r ≡ next_of s s.count → stage r X ≡ entry_field_lem s k j I
    unfolding entry_field_lem on_some
    entry_on v X t h q = rw (← e, t) (staged r (next_of s s.count) X _ q h)

    pub entry_off : o ≡ None → r ≡ refused_of s BadList → stage r I ≡ entry_field_lem s k j I
    unfolding entry_field_lem on_some
    entry_off t q = rw (← e, t) (ap (λ (z : State). stage z I) q)

  module _ (e : o ≡ link_said s.word) where
    pub link_on : (v : ℕ) (X : List ℕ) → o ≡ Some v → X ≡ sets I (44 + s.count * 24 + k * 12 + (j - 4) * 4) (digits 4 v)
        → r ≡ next_of s s.count → stage r X ≡ link_field_lem s k j I
    unfolding link_field_lem on_some
    link_on v X t h q = rw (← e, t) (staged r (next_of s s.count) X _ q h)

    pub link_off : o ≡ None → r ≡ refused_of s BadList → stage r I ≡ link_field_lem s k j I
    unfolding link_field_lem on_some
    link_off t q = rw (← e, t) (ap (λ (z : State). stage z I) q)

module _ (s r : State) (k : ℕ) (I : List ℕ) (a b : Bool) (e : a ≡ is_name_lem s.word red_name) (f : b ≡ is_name_lem s.word black_name) where
  pub colour_on : (X : List ℕ) → (a || b) ≡ true → X ≡ set_bit I ((44 + s.count * 36) * 8 + k) a → r ≡ next_of s s.count
      → stage r X ≡ colour_field_lem s k I
  unfolding colour_field_lem
  colour_on X t h q = rw (← e, ← f, t) (staged r (next_of s s.count) X _ q h)

  pub colour_off : (a || b) ≡ false → r ≡ refused_of s BadList → stage r I ≡ colour_field_lem s k I
  unfolding colour_field_lem
  colour_off t q = rw (← e, ← f, t) (ap (λ (z : State). stage z I) q)

-- one byte
module _ (s r : State) (I : List ℕ) (b : ℕ) (t : Bool) (e : t ≡ is_ok s.checked) where
  pub byte_refused : t ≡ false → stage s I ≡ stepped (stage s I) b
  unfolding stepped
  byte_refused z = rw (← e, z) refl

  module _ (k : ℕ) (z : t ≡ true) (f : k ≡ end_of s.place) where
    pub byte_item : (X : List ℕ) → b ≡ k → stage r X ≡ item s I → stage r X ≡ stepped (stage s I) b
    unfolding stepped
    byte_item X h q = rw (← e, z, ← f, eq-eqb b k h) q

    pub byte_more : (b ≡ k → ⊥) → r ≡ longer s b → stage r I ≡ stepped (stage s I) b
    unfolding stepped
    byte_more h q = rw (← e, z, ← f, ne_eqb b k h) (ap (λ (y : State). stage y I) q)

-- the end of the text
module _ (s r : State) (I : List ℕ) (b : Bool) (e : b ≡ is_new_lem s.word) where
  pub last_new : b ≡ true → stage s I ≡ last_of (stage s I)
  unfolding last_of
  last_new t = rw (← e, t) refl

  pub last_word : (X : List ℕ) → b ≡ false → stage r X ≡ stepped (stage s I) 10 → stage r X ≡ last_of (stage s I)
  unfolding last_of
  last_word X t q = rw (← e, t) q

module _ (s : State) (I : List ℕ) (r : Result ℕ Refusal) where
  pub judged_refused : (y : Refusal) → s.checked ≡ Err y → r ≡ Err y → r ≡ outcome_of (stage s I)
  unfolding outcome_of
  judged_refused y h q = rw h q

  module _ (b : Bool) (x : Unit) (z : s.checked ≡ Ok x) (e : b ≡ is_complete s (length I)) where
    pub judged_done : (n : ℕ) → b ≡ true → n ≡ image_length_lem s.count → r ≡ judged_as (take n I) → r ≡ outcome_of (stage s I)
    unfolding outcome_of is_complete
    judged_done n t f q = rw (z, ← e, t, ← f) q

    pub judged_short : b ≡ false → r ≡ Err BadList → r ≡ outcome_of (stage s I)
    unfolding outcome_of is_complete
    judged_short t q = rw (z, ← e, t) q

-- all slots are read
module _ (s : State) (len : ℕ) (b : Bool) where
  pub complete_on : (a : Bool) → b ≡ room_for s.count len → b ≡ true → a ≡ is_new_lem s.word
      → (a && eqb s.place (4 + s.count * 8)) ≡ is_complete s len
  unfolding is_complete
  complete_on a e t f = rw (← e, t, f) refl

  pub complete_off : b ≡ room_for s.count len → b ≡ false → false ≡ is_complete s len
  unfolding is_complete
  complete_off e t = rw (← e, t) refl

  module _ (e : b ≡ is_complete s len) (t : b ≡ true) where
    complete_room : room_for s.count len ≡ true
    unfolding is_complete
    complete_room = go (room_for s.count len) (is_new_lem s.word && eqb s.place (4 + s.count * 8)) (sym e ∙ t)
      where
        go : (a d : Bool) → cond a d false ≡ true → a ≡ true
        go true d z = refl
        go false d z = z

    pub complete_few : s.count < 4294967296
    complete_few = omega (arith, room_few s.count len true (sym complete_room) refl)

    complete_fits : (k : ℕ) → k ≡ image_length_lem s.count → k ≤ len
    complete_fits k f = omega (arith, f, room_fits s.count len true (sym complete_room) refl)

pub complete_taken : (s : State) (I : List ℕ) (b : Bool) (k : ℕ) → b ≡ is_complete s (length I) → b ≡ true → k ≡ image_length_lem s.count
    → k ≡ length (take k I)
complete_taken s I b k e t f = sym (length-take-le k I (complete_fits s (length I) b e t k f))

module _ (I : List ℕ) (c : Result Unit Refusal) (r : Result ℕ Refusal) (e : c ≡ image_checked I) where
  pub judge_done : (x : Unit) → c ≡ Ok x → r ≡ Ok (length I) → r ≡ judged_as I
  unfolding judged_as
  judge_done x z q = rw (← e, z) q

  pub judge_refused : (y : Refusal) → c ≡ Err y → r ≡ Err y → r ≡ judged_as I
  unfolding judged_as
  judge_refused y z q = rw (← e, z) q
