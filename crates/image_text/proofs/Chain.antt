-- The text of an image, read word by word.
use Rattle.std.specs.Prelude.{Some, Ok, is_ok}
use mathlib.Core.Path.{◌≡◌, refl, ap, ◌∙◌}
use mathlib.Core.Bool.{Bool, true, false, cond}
use mathlib.Core.List.{List, [], ◌∷◌, ◌++◌, foldl}
use Prim.Native.Nat.{ℕ, zero, suc, ◌+◌, ◌-◌, ◌*◌, ◌/◌, ◌%◌, ◌<◌, ◌≤◌}
use native.Mathlib.Omega.{arith}
use lib.ListN.{length, drop}
use lib.Seq.{sets}
use lib.Dec.{eqb, ltb}
use borrow.Author.Tests.{eq-eqb, ne_eqb, lt-ltb, le-ltb}
use Rattle.words.specs.Ix.{U}
use Rattle.words.specs.declared.node.Entry.{Entry}
use Rattle.bitvec.specs.Bits.{set_bit}
use Rattle.little.specs.Numbers.{digits}
use Rattle.lines.specs.Input.{on_some}
use Rattle.lines.specs.Output.{decimal, next}
use Rattle.image_rule.specs.Layout.{links_at_lem, colours_at_lem}
use Rattle.image_text.specs.Text.{link_text}
use Rattle.image_text.specs.Words.{small_in, link_said, red_name, black_name}
use Rattle.image_text.specs.Reading.{Stage, stage, next_of, longer, end_of, room_for, item, row_item_lem, field, numbered, entry_field_lem, link_field_lem, colour_field_lem, stepped, fed}
use Rattle.image_text.specs.declared.word.Word.{Word}
use Rattle.image_text.specs.declared.word.Word.TheVariants.{Empty, Number, Name}
use Rattle.image_text.specs.declared.reading.State.{State}
use Rattle.image_text.proofs.Back.{spelled}

-- bytes that end no word
abbrev pub Plain : List ℕ → Type 0
Plain [] = Unit {0}
Plain (b ∷ l) = (32 < b) × Plain l

plain_append : (l m : List ℕ) → Plain l → Plain m → Plain (l ++ m)
plain_append [] m p q = q
plain_append (b ∷ l) m p q = (p.0, plain_append l m p.1 q)

pub plain_decimal : (f n : ℕ) → Plain (decimal f n)
unfolding decimal
plain_decimal zero n = record {}
plain_decimal (suc f) n = go (ltb n 10) (plain_decimal f (n / 10))
  where
    go : (t : Bool) → Plain (decimal f (n / 10)) → Plain (cond t ((48 + n) ∷ []) (decimal f (n / 10) ++ ((48 + n % 10) ∷ [])))
    go true p = (omega arith, record {})
    go false p = plain_append (decimal f (n / 10)) ((48 + n % 10) ∷ []) p (omega arith, record {})

-- a link after its space
abbrev pub spelling : ℕ → List ℕ
spelling k = drop 1 (link_text k)

pub plain_link : (k : ℕ) → Plain (spelling k)
unfolding link_text
plain_link k = go (eqb k U)
  where
    go : (t : Bool) → Plain (drop 1 (cond t (32 ∷ 45 ∷ []) (next k)))
    go true = (omega arith, record {})
    go false = plain_decimal 20 k

pub link_space : (k : ℕ) → link_text k ≡ 32 ∷ spelling k
unfolding link_text
link_space k = go (eqb k U)
  where
    go : (t : Bool) → cond t (32 ∷ 45 ∷ []) (next k) ≡ 32 ∷ drop 1 (cond t (32 ∷ 45 ∷ []) (next k))
    go true = refl
    go false = refl

-- one more byte of a word, and all of a word
abbrev pub with : State → Word → State
with s w = record { word = w; place = s.place; count = s.count; checked = s.checked }

step_plain : (s : State) (X : List ℕ) (b : ℕ) → is_ok s.checked ≡ true → 32 < b → stepped (stage s X) b ≡ stage (longer s b) X
unfolding stepped end_of
step_plain s X b z h = rw (z) (go (eqb (s.place % 8) 3))
  where
    go : (t : Bool) → cond (eqb b (cond t 10 32)) (item s X) (stage (longer s b) X) ≡ stage (longer s b) X
    go true = rw (ne_eqb b 10 (λ e. omega arith)) refl
    go false = rw (ne_eqb b 32 (λ e. omega arith)) refl

pub fed_plain : (l : List ℕ) (s : State) (X : List ℕ) → is_ok s.checked ≡ true → Plain l → fed (stage s X) l ≡ stage (with s (spelled s.word l)) X
unfolding fed
fed_plain [] s X z p = refl
fed_plain (b ∷ l) s X z p = ap (λ (t : Stage). foldl stepped t l) (step_plain s X b z p.0) ∙ fed_plain l (longer s b) X z p.1

-- the end of a word
pub step_end : (s : State) (X : List ℕ) (b : ℕ) → is_ok s.checked ≡ true → b ≡ end_of s.place → stepped (stage s X) b ≡ item s X
unfolding stepped
step_end s X b z e = rw (z, eq-eqb b (end_of s.place) e) refl

-- the end of a word, and then all of the next one
pub turn : (s t : State) (X Y : List ℕ) (l : List ℕ) → is_ok s.checked ≡ true → 32 ≡ end_of s.place → item s X ≡ stage t Y → is_ok t.checked ≡ true → Plain l
    → fed (stage s X) (32 ∷ l) ≡ stage (with t (spelled t.word l)) Y
unfolding fed
turn s t X Y l z e q y p = ap (λ (T : Stage). foldl stepped T l) (step_end s X 32 z e ∙ q) ∙ fed_plain l t Y y p

-- the words of slot k of n
module _ (n k : ℕ) (few : n ≤ 65535) (h : k < n) where
  abbrev pub at : ℕ → Word → State
  at j w = record { word = w; place = 4 + k * 8 + j; count = n; checked = Ok tt }

  pub space_after : (j : ℕ) (w : Word) → j < 7 → 32 ≡ end_of (at j w).place
  unfolding end_of
  space_after j w l = rw (ne_eqb ((4 + k * 8 + j) % 8) 3 (λ e. omega arith)) refl

  pub line_after : (w : Word) → 10 ≡ end_of (at 7 w).place
  unfolding end_of
  line_after w = rw (eq-eqb ((4 + k * 8 + 7) % 8) 3 (omega arith)) refl

  on : (j : ℕ) (w : Word) → next_of (at j w) n ≡ at (suc j) Empty
  on j w = let e : 4 + k * 8 + j + 1 ≡ 4 + k * 8 + suc j = omega arith in λ i. record { word = Empty; place = e i; count = n; checked = Ok tt }

  module _ (X : List ℕ) (room : room_for n (length X) ≡ true) where
    item_at : (j : ℕ) (w : Word) → j < 8 → item (at j w) X ≡ field (at j w) k j X
    unfolding item row_item_lem
    item_at j w l =
        let q : (4 + k * 8 + j - 4) / 8 ≡ k = omega arith in
        let r : (4 + k * 8 + j - 4) % 8 ≡ j = omega arith in
        rw (le-ltb (4 + k * 8 + j) 4 (omega arith), room, q, r, lt-ltb k n h) refl

    pub slot_word_lem : item (at 0 (Number k)) X ≡ stage (at 1 Empty) X
    unfolding field numbered small_in
    slot_word_lem = item_at 0 (Number k) (omega arith) ∙ rw (lt-ltb k U (omega arith), eq-eqb k k refl) (ap (λ (s : State). stage s X) (on 0 (Number k)))

    pub entry_word : (j v : ℕ) → 0 < j → j < 4 → item (at j (Number v)) X ≡ stage (at (suc j) Empty) (sets X (44 + k * 24 + (j - 1) * 8) (digits 8 v))
    unfolding field entry_field_lem on_some
    entry_word j v a b =
        item_at j (Number v) (omega arith)
        ∙ rw (ne_eqb j 0 (λ e. omega arith), lt-ltb j 4 b) (ap (λ (s : State). stage s (sets X (44 + k * 24 + (j - 1) * 8) (digits 8 v))) (on j (Number v)))

    pub link_word : (j v : ℕ) (w : Word) → 4 ≤ j → j < 7 → link_said w ≡ Some v
        → item (at j w) X ≡ stage (at (suc j) Empty) (sets X (links_at_lem n + k * 12 + (j - 4) * 4) (digits 4 v))
    unfolding field link_field_lem on_some
    link_word j v w a b e =
        item_at j w (omega arith)
        ∙ rw (ne_eqb j 0 (λ e. omega arith), le-ltb j 4 a, lt-ltb j 7 b, e)
        (ap (λ (s : State). stage s (sets X (links_at_lem n + k * 12 + (j - 4) * 4) (digits 4 v))) (on j w))

    pub colour_word : (v : Bool) → item (at 7 (Name (cond v red_name black_name))) X ≡ stage (at 8 Empty) (set_bit X (colours_at_lem n * 8 + k) v)
    unfolding field colour_field_lem
    colour_word true = item_at 7 (Name red_name) (omega arith) ∙ ap (λ (s : State). stage s (set_bit X (colours_at_lem n * 8 + k) true)) (on 7 (Name red_name))
    colour_word false = item_at 7 (Name black_name) (omega arith) ∙ ap (λ (s : State). stage s (set_bit X (colours_at_lem n * 8 + k) false)) (on 7 (Name black_name))

    -- the line of the slot: what it leaves in the image, number by number
    module _ (e : Entry) (a b c : ℕ) (v : Bool) where
      abbrev pub X1 : List ℕ
      X1 = sets X (44 + k * 24 + (1 - 1) * 8) (digits 8 e.start)

      abbrev pub X2 : List ℕ
      X2 = sets X1 (44 + k * 24 + (2 - 1) * 8) (digits 8 e.end)

      abbrev pub entered : List ℕ
      entered = sets X2 (44 + k * 24 + (3 - 1) * 8) (digits 8 e.value)

      abbrev pub X4 : List ℕ
      X4 = sets entered (links_at_lem n + k * 12 + (4 - 4) * 4) (digits 4 a)

      abbrev pub X5 : List ℕ
      X5 = sets X4 (links_at_lem n + k * 12 + (5 - 4) * 4) (digits 4 b)

      abbrev pub linked : List ℕ
      linked = sets X5 (links_at_lem n + k * 12 + (6 - 4) * 4) (digits 4 c)

      abbrev pub rowed : List ℕ
      rowed = set_bit linked (colours_at_lem n * 8 + k) v
