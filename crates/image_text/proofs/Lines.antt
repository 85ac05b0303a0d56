-- The lines of a text, one after the other.
use mathlib.Core.Path.{◌≡◌, refl, ap, ◌∙◌}
use mathlib.Core.Bool.{Bool, true, false, cond}
use mathlib.Core.List.{List, [], ◌∷◌, ◌++◌}
use Prim.Native.Nat.{ℕ, suc, ◌+◌, ◌-◌, ◌*◌, ◌<◌, ◌≤◌}
use native.Mathlib.Omega.{arith}
use lib.ListN.{length}
use lib.Seq.{length-sets}
use Rattle.words.specs.declared.node.Entry.{Entry}
use Rattle.bitvec.specs.Bits.{set_bit}
use Rattle.little.specs.Numbers.{digits}
use Rattle.lines.specs.Input.{digit_of_lem, on_some}
use Rattle.lines.specs.Output.{number, next}
use Rattle.image_rule.specs.Layout.{links_at_lem, colours_at_lem}
use Rattle.image_text.specs.Text.{link_text, entry_text, links_text, colour_text}
use Rattle.image_text.specs.Words.{word_byte, longer_name_lem, red_name, black_name}
use Rattle.image_text.specs.Reading.{Stage, stage, room_for, item, fed}
use Rattle.image_text.specs.declared.word.Word.{Word}
use Rattle.image_text.specs.declared.word.Word.TheVariants.{Empty, Number, Name}
use Rattle.image_text.specs.declared.reading.State.{State}
use Rattle.image_text.proofs.Back.{spelled, number_back, link_back}
use Rattle.image_text.proofs.Meaning.{pieces}
use Rattle.image_text.proofs.Chain.{spelling, plain_decimal, plain_link, link_space, fed_plain, step_end, turn, at, space_after, line_after, slot_word_lem, entry_word, link_word, colour_word, X1, X2, entered, X4, X5, linked, rowed}

-- a text, and another after it
pub follow : (t u w : Stage) (s o : List ℕ) → fed t s ≡ u → fed u o ≡ w → fed t (s ++ o) ≡ w
follow t u w s o e f = pieces t s o ∙ ap (λ (T : Stage). fed T o) e ∙ f

red_spelled : spelled Empty (114 ∷ 101 ∷ 100 ∷ []) ≡ Name red_name
unfolding word_byte digit_of_lem on_some longer_name_lem
red_spelled = refl

black_spelled : spelled Empty (98 ∷ 108 ∷ 97 ∷ 99 ∷ 107 ∷ []) ≡ Name black_name
unfolding word_byte digit_of_lem on_some longer_name_lem
black_spelled = refl

module _ (n k : ℕ) (few : n ≤ 65535) (h : k < n) (X : List ℕ) (room : room_for n (length X) ≡ true) (e : Entry) (a b c : ℕ) (v : Bool)
    (es : e.start < 18446744073709551616) (ee : e.end < 18446744073709551616) (ev : e.value < 18446744073709551616)
    (la : a < 4294967296) (lb : b < 4294967296) (lc : c < 4294967296) where
  abbrev S : ℕ → Word → State
  S j w = at n k few h j w

  abbrev Y1 : List ℕ
  Y1 = X1 n k few h X room e a b c v

  abbrev Y2 : List ℕ
  Y2 = X2 n k few h X room e a b c v

  abbrev Y3 : List ℕ
  Y3 = entered n k few h X room e a b c v

  abbrev Y4 : List ℕ
  Y4 = X4 n k few h X room e a b c v

  abbrev Y5 : List ℕ
  Y5 = X5 n k few h X room e a b c v

  abbrev Y6 : List ℕ
  Y6 = linked n k few h X room e a b c v

  room1 : room_for n (length Y1) ≡ true
  room1 = rw (length-sets X (44 + k * 24 + (1 - 1) * 8) (digits 8 e.start)) room

  room2 : room_for n (length Y2) ≡ true
  room2 = rw (length-sets Y1 (44 + k * 24 + (2 - 1) * 8) (digits 8 e.end)) room1

  room3 : room_for n (length Y3) ≡ true
  room3 = rw (length-sets Y2 (44 + k * 24 + (3 - 1) * 8) (digits 8 e.value)) room2

  room4 : room_for n (length Y4) ≡ true
  room4 = rw (length-sets Y3 (links_at_lem n + k * 12 + (4 - 4) * 4) (digits 4 a)) room3

  room5 : room_for n (length Y5) ≡ true
  room5 = rw (length-sets Y4 (links_at_lem n + k * 12 + (5 - 4) * 4) (digits 4 b)) room4

  room6 : room_for n (length Y6) ≡ true
  room6 = rw (length-sets Y5 (links_at_lem n + k * 12 + (6 - 4) * 4) (digits 4 c)) room5

  -- a word that ends, and a number or a link after it
  then_number : (j : ℕ) (w : Word) (Y Z : List ℕ) (x : ℕ) → j < 7 → x < 18446744073709551616 → item (S j w) Y ≡ stage (S (suc j) Empty) Z
      → fed (stage (S j w) Y) (next x) ≡ stage (S (suc j) (Number x)) Z
  then_number j w Y Z x l q i =
      turn (S j w) (S (suc j) Empty) Y Z (number x) refl (space_after n k few h j w l) i refl (plain_decimal 20 x)
      ∙ ap (λ (z : Word). stage (S (suc j) z) Z) (number_back x q)

  then_link : (j : ℕ) (w : Word) (Y Z : List ℕ) (x : ℕ) → j < 7 → item (S j w) Y ≡ stage (S (suc j) Empty) Z
      → fed (stage (S j w) Y) (link_text x) ≡ stage (S (suc j) (spelled Empty (spelling x))) Z
  then_link j w Y Z x l i =
      ap (λ (s : List ℕ). fed (stage (S j w) Y) s) (link_space x)
      ∙ turn (S j w) (S (suc j) Empty) Y Z (spelling x) refl (space_after n k few h j w l) i refl (plain_link x)

  first_word : fed (stage (S 0 Empty) X) (number k) ≡ stage (S 0 (Number k)) X
  first_word =
      fed_plain (number k) (S 0 Empty) X refl (plain_decimal 20 k) ∙ ap (λ (z : Word). stage (S 0 z) X) (number_back k (omega arith))

  entry_fed : fed (stage (S 0 Empty) X) (entry_text k e) ≡ stage (S 3 (Number e.value)) Y2
  unfolding entry_text
  entry_fed =
      follow (stage (S 0 Empty) X) (stage (S 0 (Number k)) X) (stage (S 3 (Number e.value)) Y2) (number k)
      (next e.start ++ (next e.end ++ next e.value)) first_word
      (follow (stage (S 0 (Number k)) X) (stage (S 1 (Number e.start)) X) (stage (S 3 (Number e.value)) Y2) (next e.start)
      (next e.end ++ next e.value) (then_number 0 (Number k) X X e.start (omega arith) es (slot_word_lem n k few h X room))
      (follow (stage (S 1 (Number e.start)) X) (stage (S 2 (Number e.end)) Y1) (stage (S 3 (Number e.value)) Y2) (next e.end)
      (next e.value)
      (then_number 1 (Number e.start) X Y1 e.end (omega arith) ee (entry_word n k few h X room 1 e.start (omega arith) (omega arith)))
      (then_number 2 (Number e.end) Y1 Y2 e.value (omega arith) ev (entry_word n k few h Y1 room1 2 e.end (omega arith) (omega arith)))))

  abbrev L : ℕ → Word
  L x = spelled Empty (spelling x)

  links_fed : fed (stage (S 3 (Number e.value)) Y2) (links_text a b c) ≡ stage (S 6 (L c)) Y5
  unfolding links_text
  links_fed =
      follow (stage (S 3 (Number e.value)) Y2) (stage (S 4 (L a)) Y3) (stage (S 6 (L c)) Y5) (link_text a) (link_text b ++ link_text c)
      (then_link 3 (Number e.value) Y2 Y3 a (omega arith) (entry_word n k few h Y2 room2 3 e.value (omega arith) (omega arith)))
      (follow (stage (S 4 (L a)) Y3) (stage (S 5 (L b)) Y4) (stage (S 6 (L c)) Y5) (link_text b) (link_text c)
      (then_link 4 (L a) Y3 Y4 b (omega arith) (link_word n k few h Y3 room3 4 a (L a) (omega arith) (omega arith) (link_back a la)))
      (then_link 5 (L b) Y4 Y5 c (omega arith) (link_word n k few h Y4 room4 5 b (L b) (omega arith) (omega arith) (link_back b lb))))

  -- the colour and the line's end
  ended : (s : List ℕ) (w : Word) → spelled Empty s ≡ w → fed (stage (S 6 (L c)) Y5) (32 ∷ s) ≡ stage (S 7 (spelled Empty s)) Y6
      → item (S 7 w) Y6 ≡ stage (S 8 Empty) (set_bit Y6 (colours_at_lem n * 8 + k) v)
      → fed (stage (S 6 (L c)) Y5) ((32 ∷ s) ++ (10 ∷ [])) ≡ stage (S 8 Empty) (set_bit Y6 (colours_at_lem n * 8 + k) v)
  unfolding fed
  ended s w q f i =
      follow (stage (S 6 (L c)) Y5) (stage (S 7 w) Y6) (stage (S 8 Empty) (set_bit Y6 (colours_at_lem n * 8 + k) v)) (32 ∷ s) (10 ∷ [])
      (f ∙ ap (λ (z : Word). stage (S 7 z) Y6) q)
      (step_end (S 7 w) Y6 10 refl (line_after n k few h w) ∙ i)

  last_link : item (S 6 (L c)) Y5 ≡ stage (S 7 Empty) Y6
  last_link = link_word n k few h Y5 room5 6 c (L c) (omega arith) (omega arith) (link_back c lc)

  colour_fed : fed (stage (S 6 (L c)) Y5) (colour_text v) ≡ stage (S 8 Empty) (set_bit Y6 (colours_at_lem n * 8 + k) v)
  unfolding colour_text
  colour_fed = go v refl
    where
      go : (u : Bool) → v ≡ u → fed (stage (S 6 (L c)) Y5) (cond u (32 ∷ 114 ∷ 101 ∷ 100 ∷ 10 ∷ []) (32 ∷ 98 ∷ 108 ∷ 97 ∷ 99 ∷ 107 ∷ 10 ∷ []))
          ≡ stage (S 8 Empty) (set_bit Y6 (colours_at_lem n * 8 + k) v)
      go true q =
          ended (114 ∷ 101 ∷ 100 ∷ []) (Name red_name) red_spelled
          (turn (S 6 (L c)) (S 7 Empty) Y5 Y6 (114 ∷ 101 ∷ 100 ∷ []) refl (space_after n k few h 6 (L c) (omega arith)) last_link refl
          (omega arith, (omega arith, (omega arith, record {}))))
          (rw q (colour_word n k few h Y6 room6 true))
      go false q =
          ended (98 ∷ 108 ∷ 97 ∷ 99 ∷ 107 ∷ []) (Name black_name) black_spelled
          (turn (S 6 (L c)) (S 7 Empty) Y5 Y6 (98 ∷ 108 ∷ 97 ∷ 99 ∷ 107 ∷ []) refl (space_after n k few h 6 (L c) (omega arith)) last_link refl
          (omega arith, (omega arith, (omega arith, (omega arith, (omega arith, record {}))))))
          (rw q (colour_word n k few h Y6 room6 false))

  -- the whole line
  pub line_fed : fed (stage (S 0 Empty) X) (entry_text k e ++ (links_text a b c ++ colour_text v)) ≡ stage (S 8 Empty) (rowed n k few h X room e a b c v)
  line_fed =
      follow (stage (S 0 Empty) X) (stage (S 3 (Number e.value)) Y2) (stage (S 8 Empty) (rowed n k few h X room e a b c v)) (entry_text k e)
      (links_text a b c ++ colour_text v) entry_fed
      (follow (stage (S 3 (Number e.value)) Y2) (stage (S 6 (L c)) Y5) (stage (S 8 Empty) (rowed n k few h X room e a b c v)) (links_text a b c)
      (colour_text v) links_fed colour_fed)
