-- The text of an accepted image comes to that image: `imagetext | textimage` gives the same bytes.
use Rattle.std.specs.Prelude.{Some, Ok}
use mathlib.Core.Path.{◌≡◌, refl, sym, ap, ◌∙◌}
use mathlib.Core.Bool.{Bool, true, false, cond}
use mathlib.Core.List.{List, [], ◌∷◌, ◌++◌}
use Prim.Native.Nat.{ℕ, zero, suc, ◌+◌, ◌-◌, ◌*◌, ◌/◌, ◌%◌, ◌^◌, ◌<◌, ◌≤◌}
use native.Mathlib.Omega.{arith}
use native.Mathlib.Nat.{pow-suc}
use lib.ListN.{length, get_or, take, length-set}
use lib.Seq.{sets, get_or-set_same}
use lib.Dec.{eqb, ltb}
use borrow.Author.Tests.{eq-eqb, lt-ltb, le-ltb, le-leb, eqb-true, eqb-false, ltb-true, ltb-false}
use Rattle.words.specs.Ix.{U}
use Rattle.bitvec.specs.Bits.{bit, bit_at}
use Rattle.bitvec.specs.Calls.{bytes_for}
use Rattle.little.specs.Numbers.{number, digits, Bytes}
use Rattle.little.proofs.Numbers.{number_low}
use Rattle.lines.specs.Input.{digit_of_lem, on_some}
use Rattle.lines.specs.Output.{number as decimals}
use Rattle.image_rule.specs.Layout.{links_at_lem, colours_at_lem, image_length_lem, count_in_lem, root_in_lem}
use Rattle.image_rule.specs.Stored.{entry_in_lem, link_in, red_in_lem}
use Rattle.image_rule.specs.Written.{heading, header}
use Rattle.image_rule.proofs.Laid.{Laid, laid}
use Rattle.image_text.specs.Judging.{image_checked}
use Rattle.image_text.specs.Text.{link_text, root_word, head, row, rows, map_text, image_text_lem}
use Rattle.image_text.specs.Words.{word_byte, longer_name_lem, small_in, link_said, count_name, root_name}
use Rattle.image_text.specs.Reading.{Stage, stage, begun, room_for, cleared, framed, framed_in, named, counted, rooted, head_item_lem, item, fed, end_of, last_of, is_complete, judged_as, outcome_of}
use Rattle.image_text.specs.declared.word.Word.{Word}
use Rattle.image_text.specs.declared.word.Word.TheVariants.{Empty, Number, Name}
use Rattle.image_text.specs.declared.reading.State.{State}
use Rattle.image_text.proofs.Judged.{accepted}
use Rattle.image_text.proofs.Back.{spelled, number_back, link_back}
use Rattle.image_text.proofs.Agrees.{Agree, Gains, gains_then, number_gains, fields_gains, bit_gains, begins, bytes_set}
use Rattle.image_text.proofs.Chain.{spelling, plain_decimal, plain_link, link_space, fed_plain, step_end, turn, entered, linked, rowed, X1, X2, X4, X5}
use Rattle.image_text.proofs.Lines.{follow, line_fed}

-- bits above a number
bit_high : (j b m : ℕ) → b < 2 ^ m → m ≤ j → bit b j ≡ false
unfolding bit
bit_high zero b zero h l = let e : b ≡ 0 = omega arith in rw e refl
bit_high zero b (suc m) h l = absurd (omega arith)
bit_high (suc j) b zero h l = bit_high j (b / 2) 0 (omega arith) (omega arith)
bit_high (suc j) b (suc m) h l = let e : 2 ^ suc m ≡ 2 ^ m * 2 = pow-suc 2 m in bit_high j (b / 2) m (omega (arith, e, h)) (omega arith)

-- the first line
abbrev top : ℕ → ℕ → Word → State
top j n w = record { word = w; place = j; count = n; checked = Ok tt }

count_spelled : spelled Empty (99 ∷ 111 ∷ 117 ∷ 110 ∷ 116 ∷ []) ≡ Name count_name
unfolding word_byte digit_of_lem on_some longer_name_lem
count_spelled = refl

root_spelled : spelled Empty (114 ∷ 111 ∷ 111 ∷ 116 ∷ []) ≡ Name root_name
unfolding word_byte digit_of_lem on_some longer_name_lem
root_spelled = refl

module _ (n r : ℕ) (X : List ℕ) (few : n ≤ 65535) (low : r < 4294967296) (room : room_for n (length X) ≡ true) where
  count_item : item (top 0 0 (Name count_name)) X ≡ stage (top 1 0 Empty) X
  unfolding item head_item_lem named
  count_item = refl

  number_item : item (top 1 0 (Number n)) X ≡ stage (top 2 n Empty) X
  unfolding item head_item_lem counted on_some small_in
  number_item = rw (lt-ltb n U (omega arith)) refl

  root_item : item (top 2 n (Name root_name)) X ≡ stage (top 3 n Empty) X
  unfolding item head_item_lem named
  root_item = refl

  link_item : (w : Word) → link_said w ≡ Some r → item (top 3 n w) X ≡ stage (top 4 n Empty) (framed X n r)
  unfolding item head_item_lem rooted on_some framed_in
  link_item w e = rw (e, room) refl

  abbrev count_letters : List ℕ
  count_letters = 99 ∷ 111 ∷ 117 ∷ 110 ∷ 116 ∷ []

  abbrev root_letters : List ℕ
  root_letters = 114 ∷ 111 ∷ 111 ∷ 116 ∷ []

  space : (j : ℕ) → j < 3 → 32 ≡ end_of j
  unfolding end_of
  space zero l = refl
  space (suc zero) l = refl
  space (suc (suc zero)) l = refl
  space (suc (suc (suc j))) l = absurd (omega arith)

  line_end : 10 ≡ end_of 3
  unfolding end_of
  line_end = refl

  head_fed : fed (stage begun X) (head n r) ≡ stage (top 4 n Empty) (framed X n r)
  unfolding head fed
  head_fed =
      follow (stage begun X) (stage (top 0 0 (Name count_name)) X) (stage (top 4 n Empty) (framed X n r)) count_letters
      ((32 ∷ decimals n) ++ (root_word ++ (link_text r ++ (10 ∷ []))))
      (fed_plain count_letters begun X refl (omega arith, (omega arith, (omega arith, (omega arith, (omega arith, record {})))))
      ∙ ap (λ (w : Word). stage (top 0 0 w) X) count_spelled)
      (follow (stage (top 0 0 (Name count_name)) X) (stage (top 1 0 (Number n)) X) (stage (top 4 n Empty) (framed X n r)) (32 ∷ decimals n)
      (root_word ++ (link_text r ++ (10 ∷ [])))
      (turn (top 0 0 (Name count_name)) (top 1 0 Empty) X X (decimals n) refl (space 0 (omega arith)) count_item refl (plain_decimal 20 n)
      ∙ ap (λ (w : Word). stage (top 1 0 w) X) (number_back n (omega arith)))
      (follow (stage (top 1 0 (Number n)) X) (stage (top 2 n (Name root_name)) X) (stage (top 4 n Empty) (framed X n r)) (32 ∷ root_letters)
      (link_text r ++ (10 ∷ []))
      (turn (top 1 0 (Number n)) (top 2 n Empty) X X root_letters refl (space 1 (omega arith)) number_item refl
      (omega arith, (omega arith, (omega arith, (omega arith, record {}))))
      ∙ ap (λ (w : Word). stage (top 2 n w) X) root_spelled)
      (follow (stage (top 2 n (Name root_name)) X) (stage (top 3 n (spelled Empty (spelling r))) X) (stage (top 4 n Empty) (framed X n r)) (link_text r)
      (10 ∷ [])
      (ap (λ (s : List ℕ). fed (stage (top 2 n (Name root_name)) X) s) (link_space r)
      ∙ turn (top 2 n (Name root_name)) (top 3 n Empty) X X (spelling r) refl (space 2 (omega arith)) root_item refl (plain_link r))
      (step_end (top 3 n (spelled Empty (spelling r))) X 10 refl line_end ∙ link_item (spelled Empty (spelling r)) (link_back r low)))))

module _ (I : List ℕ) (bytes : Bytes I) (ok : image_checked I ≡ Ok tt) where
  abbrev n : ℕ
  n = count_in_lem I

  few : n ≤ 65535
  few = (accepted I ok).few

  lay : Laid I n
  lay = laid I (accepted I ok).layout

  four : (i : ℕ) → number 4 I i < 4294967296
  four i = number_low 4 I i bytes

  eight : (i : ℕ) → number 8 I i < 18446744073709551616
  eight i = number_low 8 I i bytes

  -- room for the image
  fits : (X : List ℕ) → length I ≤ length X → room_for n (length X) ≡ true
  unfolding room_for
  fits X r = rw (le-ltb 65535 n few) (le-leb (image_length_lem n) (length X) (omega (arith, lay.whole, r)))

  -- Y is X with the bits of the slots from k on and below j
  record Grows (X Y : List ℕ) (k j : ℕ) : Type 0 where
    same : length Y ≡ length X
    small : Bytes X → Bytes Y
    keeps : (i : ℕ) → Agree I bytes X i → Agree I bytes Y i
    entries : (i : ℕ) → (44 + k * 24) * 8 ≤ i → i < (44 + j * 24) * 8 → Agree I bytes Y i
    links : (i : ℕ) → (links_at_lem n + k * 12) * 8 ≤ i → i < (links_at_lem n + j * 12) * 8 → Agree I bytes Y i
    colours : (i : ℕ) → colours_at_lem n * 8 + k ≤ i → i < colours_at_lem n * 8 + j → Agree I bytes Y i

  grows_then : (X Y Z : List ℕ) (k j m : ℕ) → Grows X Y k j → Grows Y Z j m → Grows X Z k m
  grows_then X Y Z k j m g h =
      record {
        same = h.same ∙ g.same;
        small = λ s. h.small (g.small s);
        keeps = λ i e. h.keeps i (g.keeps i e);
        entries = λ i l u. ent i l u (ltb i ((44 + j * 24) * 8)) refl;
        links = λ i l u. lin i l u (ltb i ((links_at_lem n + j * 12) * 8)) refl;
        colours = λ i l u. col i l u (ltb i (colours_at_lem n * 8 + j)) refl;
      }
    where
      ent : (i : ℕ) → (44 + k * 24) * 8 ≤ i → i < (44 + m * 24) * 8 → (t : Bool) → ltb i ((44 + j * 24) * 8) ≡ t → Agree I bytes Z i
      ent i l u true e = h.keeps i (g.entries i l (ltb-true i ((44 + j * 24) * 8) e))
      ent i l u false e = h.entries i (ltb-false i ((44 + j * 24) * 8) e) u

      lin : (i : ℕ) → (links_at_lem n + k * 12) * 8 ≤ i → i < (links_at_lem n + m * 12) * 8 → (t : Bool) → ltb i ((links_at_lem n + j * 12) * 8) ≡ t → Agree I bytes Z i
      lin i l u true e = h.keeps i (g.links i l (ltb-true i ((links_at_lem n + j * 12) * 8) e))
      lin i l u false e = h.links i (ltb-false i ((links_at_lem n + j * 12) * 8) e) u

      col : (i : ℕ) → colours_at_lem n * 8 + k ≤ i → i < colours_at_lem n * 8 + m → (t : Bool) → ltb i (colours_at_lem n * 8 + j) ≡ t → Agree I bytes Z i
      col i l u true e = h.keeps i (g.colours i l (ltb-true i (colours_at_lem n * 8 + j) e))
      col i l u false e = h.colours i (ltb-false i (colours_at_lem n * 8 + j) e) u

  -- a number at a place, where the next one begins
  put : (w p v a b : ℕ) (X : List ℕ) → p + w ≤ length I → length I ≤ length X → number w I p ≡ v → p * 8 ≡ a → (p + w) * 8 ≡ b
      → Gains I bytes X (sets X p (digits w v)) a b
  put w p v a b X h r e f g =
      let z : Gains I bytes X (sets X p (digits w v)) (p * 8) ((p + w) * 8) = number_gains I bytes w p v X h r e in
      rw (f, g) at z

  module _ (k : ℕ) (h : k < n) (X : List ℕ) (r : length I ≤ length X) where
    abbrev room : room_for n (length X) ≡ true
    room = fits X r

    abbrev E1 : List ℕ
    E1 = X1 n k few h X room (entry_in_lem I k) (link_in I n k 0) (link_in I n k 1) (link_in I n k 2) (red_in_lem I n k)

    abbrev E2 : List ℕ
    E2 = X2 n k few h X room (entry_in_lem I k) (link_in I n k 0) (link_in I n k 1) (link_in I n k 2) (red_in_lem I n k)

    abbrev E3 : List ℕ
    E3 = entered n k few h X room (entry_in_lem I k) (link_in I n k 0) (link_in I n k 1) (link_in I n k 2) (red_in_lem I n k)

    abbrev L1 : List ℕ
    L1 = X4 n k few h X room (entry_in_lem I k) (link_in I n k 0) (link_in I n k 1) (link_in I n k 2) (red_in_lem I n k)

    abbrev L2 : List ℕ
    L2 = X5 n k few h X room (entry_in_lem I k) (link_in I n k 0) (link_in I n k 1) (link_in I n k 2) (red_in_lem I n k)

    abbrev L3 : List ℕ
    L3 = linked n k few h X room (entry_in_lem I k) (link_in I n k 0) (link_in I n k 1) (link_in I n k 2) (red_in_lem I n k)

    abbrev after : List ℕ
    after = rowed n k few h X room (entry_in_lem I k) (link_in I n k 0) (link_in I n k 1) (link_in I n k 2) (red_in_lem I n k)

    g1 : Gains I bytes X E1 ((44 + k * 24) * 8) ((44 + k * 24 + 8) * 8)
    g1 =
        put 8 (44 + k * 24 + (1 - 1) * 8) (entry_in_lem I k).start ((44 + k * 24) * 8) ((44 + k * 24 + 8) * 8) X (omega (arith, lay.whole)) r
        (ap (λ (i : ℕ). number 8 I i) (omega arith)) (omega arith) (omega arith)

    g2 : Gains I bytes E1 E2 ((44 + k * 24 + 8) * 8) ((44 + k * 24 + 16) * 8)
    g2 =
        put 8 (44 + k * 24 + (2 - 1) * 8) (entry_in_lem I k).end ((44 + k * 24 + 8) * 8) ((44 + k * 24 + 16) * 8) E1 (omega (arith, lay.whole))
        (omega (arith, r, g1.same)) (ap (λ (i : ℕ). number 8 I i) (omega arith)) (omega arith) (omega arith)

    g3 : Gains I bytes E2 E3 ((44 + k * 24 + 16) * 8) ((44 + suc k * 24) * 8)
    g3 =
        put 8 (44 + k * 24 + (3 - 1) * 8) (entry_in_lem I k).value ((44 + k * 24 + 16) * 8) ((44 + suc k * 24) * 8) E2 (omega (arith, lay.whole))
        (omega (arith, r, g1.same, g2.same)) (ap (λ (i : ℕ). number 8 I i) (omega arith)) (omega arith) (omega arith)

    long : length I ≤ length E3
    long = omega (arith, r, g1.same, g2.same, g3.same)

    g4 : Gains I bytes E3 L1 ((links_at_lem n + k * 12) * 8) ((links_at_lem n + k * 12 + 4) * 8)
    g4 =
        put 4 (links_at_lem n + k * 12 + (4 - 4) * 4) (link_in I n k 0) ((links_at_lem n + k * 12) * 8) ((links_at_lem n + k * 12 + 4) * 8) E3
        (omega (arith, lay.whole)) long (ap (λ (i : ℕ). number 4 I i) (omega arith)) (omega arith) (omega arith)

    g5 : Gains I bytes L1 L2 ((links_at_lem n + k * 12 + 4) * 8) ((links_at_lem n + k * 12 + 8) * 8)
    g5 =
        put 4 (links_at_lem n + k * 12 + (5 - 4) * 4) (link_in I n k 1) ((links_at_lem n + k * 12 + 4) * 8) ((links_at_lem n + k * 12 + 8) * 8) L1
        (omega (arith, lay.whole)) (omega (arith, long, g4.same)) (ap (λ (i : ℕ). number 4 I i) (omega arith)) (omega arith) (omega arith)

    g6 : Gains I bytes L2 L3 ((links_at_lem n + k * 12 + 8) * 8) ((links_at_lem n + suc k * 12) * 8)
    g6 =
        put 4 (links_at_lem n + k * 12 + (6 - 4) * 4) (link_in I n k 2) ((links_at_lem n + k * 12 + 8) * 8) ((links_at_lem n + suc k * 12) * 8) L2
        (omega (arith, lay.whole)) (omega (arith, long, g4.same, g5.same)) (ap (λ (i : ℕ). number 4 I i) (omega arith)) (omega arith) (omega arith)

    bit_place_lem : (len : ℕ) → length I ≤ len → (colours_at_lem n * 8 + k) / 8 < len
    unfolding bytes_for
    bit_place_lem len q = omega (arith, lay.whole, q)

    g7 : Gains I bytes L3 after (colours_at_lem n * 8 + k) (colours_at_lem n * 8 + k + 1)
    g7 =
        bit_gains I bytes (colours_at_lem n * 8 + k) (red_in_lem I n k) L3 (bit_place_lem (length L3) (omega (arith, long, g4.same, g5.same, g6.same))) refl

    -- one line
    row_grows : Grows X after k (suc k)
    row_grows =
        let a : Gains I bytes X E3 ((44 + k * 24) * 8) ((44 + suc k * 24) * 8) =
        gains_then I bytes X E2 E3 _ _ _ (gains_then I bytes X E1 E2 _ _ _ g1 g2) g3 in
        let b : Gains I bytes E3 L3 ((links_at_lem n + k * 12) * 8) ((links_at_lem n + suc k * 12) * 8) =
        gains_then I bytes E3 L2 L3 _ _ _ (gains_then I bytes E3 L1 L2 _ _ _ g4 g5) g6 in
        record {
          same = g7.same ∙ b.same ∙ a.same;
          small = λ s. g7.small (b.small (a.small s));
          keeps = λ i e. g7.keeps i (b.keeps i (a.keeps i e));
          entries = λ i l u. g7.keeps i (b.keeps i (a.has i l u));
          links = λ i l u. g7.keeps i (b.has i l u);
          colours = λ i l u. g7.has i l (omega arith);
        }

  abbrev slot : ℕ → State
  slot k = record { word = Empty; place = 4 + k * 8; count = n; checked = Ok tt }

  -- what the lines of m slots from k on leave
  record Came (X : List ℕ) (k m : ℕ) : Type 0 where
    image : List ℕ
    came : fed (stage (slot k) X) (rows I n k m) ≡ stage (slot n) image
    grows : Grows X image k n

  rows_come : (m k : ℕ) → k + m ≡ n → (X : List ℕ) → length I ≤ length X → Came X k m
  unfolding rows row fed
  rows_come zero k e X r =
      let q : k ≡ n = omega arith in
      record {
        image = X;
        came = ap (λ (j : ℕ). stage (slot j) X) q;
        grows = record {
          same = refl;
          small = λ b. b;
          keeps = λ i x. x;
          entries = λ i l u. absurd (omega arith);
          links = λ i l u. absurd (omega arith);
          colours = λ i l u. absurd (omega arith);
        };
      }
  rows_come (suc m) k e X r =
      let h : k < n = omega arith in
      let Y : List ℕ = after k h X r in
      let g : Grows X Y k (suc k) = row_grows k h X r in
      let z : Came Y (suc k) m = rows_come m (suc k) (omega arith) Y (omega (arith, r, g.same)) in
      let a : stage (slot k) X ≡ stage (record { word = Empty; place = 4 + k * 8 + 0; count = n; checked = Ok tt }) X =
      (let x : 4 + k * 8 ≡ 4 + k * 8 + 0 = omega arith in λ i. stage (record { word = Empty; place = x i; count = n; checked = Ok tt }) X) in
      let b : stage (record { word = Empty; place = 4 + k * 8 + 8; count = n; checked = Ok tt }) Y ≡ stage (slot (suc k)) Y =
      (let x : 4 + k * 8 + 8 ≡ 4 + suc k * 8 = omega arith in λ i. stage (record { word = Empty; place = x i; count = n; checked = Ok tt }) Y) in
      record {
        image = z.image;
        came =
            follow (stage (slot k) X) (stage (slot (suc k)) Y) (stage (slot n) z.image) (row I n k) (rows I n (suc k) m)
            (ap (λ (t : Stage). fed t (row I n k)) a
            ∙ line_fed n k few h X (fits X r) (entry_in_lem I k) (link_in I n k 0) (link_in I n k 1) (link_in I n k 2) (red_in_lem I n k)
            (eight (44 + k * 24)) (eight (44 + k * 24 + 8)) (eight (44 + k * 24 + 16)) (four (links_at_lem n + k * 12 + 0 * 4)) (four (links_at_lem n + k * 12 + 1 * 4))
            (four (links_at_lem n + k * 12 + 2 * 4)) ∙ b)
            z.came;
        grows = grows_then X Y z.image k (suc k) n g z.grows;
      }

  -- the text in a slice with room
  module _ (X : List ℕ) (r : length I ≤ length X) where
    -- the last byte, cleared
    abbrev Z : List ℕ
    Z = cleared X n

    abbrev F : List ℕ
    F = framed X n (root_in_lem I)

    header_gains : Gains I bytes Z F 0 352
    unfolding framed header
    header_gains =
        fields_gains I bytes 4 (heading n (root_in_lem I)) 0 Z (omega (arith, lay.long)) (omega (arith, r, length-set X (image_length_lem n - 1) 0))
        (refl, (refl, (lay.kind_1, (lay.offset_1, (lay.size_1, (lay.kind_2, (lay.offset_2, (lay.size_2, (lay.kind_3, (lay.offset_3, (lay.size_3, tt)))))))))))

    spare_agree : (i : ℕ) → colours_at_lem n * 8 + n ≤ i → i < length I * 8 → Agree I bytes Z i
    unfolding bit_at bytes_for
    spare_agree i l u = go (eqb (n % 8) 0) refl lay.spare
      where
        last : i / 8 ≡ image_length_lem n - 1
        last = omega (arith, lay.whole)

        go : (t : Bool) → eqb (n % 8) 0 ≡ t → cond t true (ltb (get_or I (length I - 1) 0) (2 ^ (n % 8))) ≡ true
            → bit (get_or Z (i / 8) 0) (i % 8) ≡ bit (get_or I (i / 8) 0) (i % 8)
        go true e s = absurd (omega (arith, lay.whole, eqb-true (n % 8) 0 e))
        go false e s =
            let d : n % 8 ≡ 0 → ⊥ = eqb-false (n % 8) 0 e in
            let p : get_or Z (i / 8) 0 ≡ 0 = ap (λ (q : ℕ). get_or Z q 0) last ∙ get_or-set_same X (image_length_lem n - 1) 0 0 (omega (arith, lay.whole, lay.long)) in
            let q : length I - 1 ≡ i / 8 = omega (arith, lay.whole) in
            let b : get_or I (i / 8) 0 < 2 ^ (n % 8) = rw q at (ltb-true (get_or I (length I - 1) 0) (2 ^ (n % 8)) s) in
            let m : n % 8 ≤ i % 8 = omega (arith, lay.whole, d) in
            ap (λ (v : ℕ). bit v (i % 8)) p ∙ bit_high (i % 8) 0 0 (omega arith) (omega arith) ∙ sym (bit_high (i % 8) (get_or I (i / 8) 0) (n % 8) b m)

    framed_long : length I ≤ length F
    framed_long = omega (arith, r, header_gains.same, length-set X (image_length_lem n - 1) 0)

    abbrev read : Came F 0 n
    read = rows_come n 0 (omega arith) F framed_long

    abbrev Y : List ℕ
    Y = read.image

    map_fed : fed (stage begun X) (map_text I) ≡ stage (slot n) Y
    unfolding map_text
    map_fed =
        follow (stage begun X) (stage (top 4 n Empty) F) (stage (slot n) Y) (head n (root_in_lem I)) (rows I n 0 n)
        (head_fed n (root_in_lem I) X few (four 4) (fits X r)) read.came

    all_agree : (i : ℕ) → i < length I * 8 → Agree I bytes Y i
    unfolding bytes_for
    all_agree i u = go (ltb i 352) (ltb i (links_at_lem n * 8)) (ltb i (colours_at_lem n * 8)) (ltb i (colours_at_lem n * 8 + n)) refl refl refl refl
      where
        grown : Grows F Y 0 n
        grown = read.grows

        go : (a b c d : Bool) → ltb i 352 ≡ a → ltb i (links_at_lem n * 8) ≡ b → ltb i (colours_at_lem n * 8) ≡ c → ltb i (colours_at_lem n * 8 + n) ≡ d → Agree I bytes Y i
        go true b c d x y z w = grown.keeps i (header_gains.has i (omega arith) (ltb-true i 352 x))
        go false true c d x y z w = grown.entries i (omega (arith, ltb-false i 352 x)) (omega (arith, ltb-true i (links_at_lem n * 8) y))
        go false false true d x y z w = grown.links i (omega (arith, ltb-false i (links_at_lem n * 8) y)) (omega (arith, ltb-true i (colours_at_lem n * 8) z))
        go false false false true x y z w = grown.colours i (omega (arith, ltb-false i (colours_at_lem n * 8) z)) (ltb-true i (colours_at_lem n * 8 + n) w)
        go false false false false x y z w = grown.keeps i (header_gains.keeps i (spare_agree i (ltb-false i (colours_at_lem n * 8 + n) w) u))

    back : Bytes X → take (length I) Y ≡ I
    back b =
        begins I bytes Y (omega (arith, framed_long, read.grows.same))
        (read.grows.small (header_gains.small (bytes_set X (image_length_lem n - 1) 0 b (omega arith)))) all_agree

    done : take (length I) Y ≡ I → outcome_of (stage (slot n) Y) ≡ Ok (length I)
    unfolding outcome_of is_complete judged_as
    done q =
        let p : take (image_length_lem n) Y ≡ I = ap (λ (k : ℕ). take k Y) (sym lay.whole) ∙ q in
        rw (fits Y (omega (arith, framed_long, read.grows.same)), eq-eqb (4 + n * 8) (4 + n * 8) refl, p, ok) refl

    -- the stage after the whole text
    abbrev end : Stage
    end = last_of (fed (stage begun X) (image_text_lem I))

    end_is : end ≡ stage (slot n) Y
    unfolding image_text_lem last_of
    end_is = rw (ok, map_fed) refl

-- Of the text of I, read into the slice X: it is accepted, and the image is at the front of X.
pub record ComesBack (I X : List ℕ) : Type 0 where
  pub done : outcome_of (last_of (fed (stage begun X) (image_text_lem I))) ≡ Ok (length I)
  pub image : take (length I) (last_of (fed (stage begun X) (image_text_lem I))).image ≡ I

pub comes_back : (I X : List ℕ) → Bytes I → Bytes X → image_checked I ≡ Ok tt → length I ≤ length X → ComesBack I X
comes_back I X b c ok r =
    record {
      done = ap outcome_of (end_is I b ok X r) ∙ done I b ok X r (back I b ok X r c);
      image = ap (λ (t : Stage). take (length I) t.image) (end_is I b ok X r) ∙ back I b ok X r c;
    }
