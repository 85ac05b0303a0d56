-- The laws of Parts in either layout. The parts of the words w that are lent are cut at L and R
-- words, where a node begins. Of what comes back the eight-word form is what Parts says of eight
-- words.
use mathlib.Core.Path.{◌≡◌, refl, sym, ap, ◌∙◌}
use mathlib.Core.Bool.{Bool, true, false}
use mathlib.Core.List.{List, [], ◌++◌, append-nil}
use Prim.Native.Nat.{ℕ, ◌+◌, ◌-◌, ◌*◌, ◌/◌, ◌<◌, ◌≤◌}
use native.Mathlib.Omega.{arith}
use lib.ListN.{length, take, drop, length-drop, drop_of_length-le}
use lib.Seq.{length-take-le, length_front}
use lib.Dec.{leb}
use borrow.Author.Tests.{leb-false}
use Rattle.words.specs.Ix.{U}
use Rattle.words.specs.Nodes.{put_node_lem}
use Rattle.words.specs.Layouts.{as_eight, kid_fits, up_fits_lem, node_words_lem, Held}
use Rattle.words.specs.declared.interval.Interval.{Interval}
use Rattle.words.proofs.Layouts.{length_unpack, slot_fits, none_fits, kid_up, eight_take, eight_drop, eight_append, eight_whole, eight_holds}
use Rattle.builder.specs.Input.{interval_of_lem, entry_of}
use Rattle.builder.specs.Build.{center, root_of_lem, span_hull, span_words, levels, build_words, Lent}
use Rattle.builder.proofs.Parts.{rest, rest_is, back, back_both, half, span_left, span_right, span_back, words_whole, span_all, words_all}

-- so many whole nodes, and fewer of them
part_in : (narrow : Bool) (m d : ℕ) → m ≤ d → m * node_words_lem narrow ≤ d * node_words_lem narrow
part_in true m d h = omega arith
part_in false m d h = omega arith

whole_held : (narrow : Bool) (n d : ℕ) (w : List ℕ) → length (as_eight narrow w) ≡ d * 8 → n ≤ d → d ≤ 65535 → Held narrow n (length w)
whole_held true n d w e h few = let k : length w ≡ d * 6 = eight_whole true d w e in (omega arith, omega arith, omega arith)
whole_held false n d w e h few = let k : length w ≡ d * 8 = eight_whole false d w e in (omega arith, omega arith, omega arith)

held_in : (narrow : Bool) (n len : ℕ) → Held narrow n len → n * node_words_lem narrow ≤ len
held_in true n len h = h.1
held_in false n len h = omega arith

eight_same : (narrow : Bool) (X Y : List ℕ) → length X ≡ length Y → length (as_eight narrow X) ≡ length (as_eight narrow Y)
unfolding as_eight
eight_same true X Y e = length_unpack X ∙ ap (λ (n : ℕ). n + n / 6 * 2) e ∙ sym (length_unpack Y)
eight_same false X Y e = e

-- nothing comes after the part that is lent to the end
gone : (X : List ℕ) (k : ℕ) → drop (length X - k) (drop k X) ≡ []
gone X k = drop_of_length-le (drop k X) {i = length X - k} (simp length-drop (omega arith))

-- what came back: the words before L nodes as x, those from R on as y
abbrev pub front : List ℕ → ℕ → List ℕ → List ℕ
front w L x = x ++ drop L w

abbrev pub both : List ℕ → ℕ → ℕ → List ℕ → List ℕ → List ℕ
both w L R x y = take R (front w L x) ++ (y ++ drop (length (front w L x) - R) (drop R (front w L x)))

module _ (narrow : Bool) (w : List ℕ) (m L : ℕ) (x : List ℕ) (room : m * node_words_lem narrow ≤ length w) (el : L ≡ m * node_words_lem narrow)
    (kx : length x ≡ length (take L w)) where
  length_part : length (take L w) ≡ L
  length_part = length-take-le L w (rw el room)

  front_eight : as_eight narrow (front w L x) ≡ back (as_eight narrow w) m (as_eight narrow x)
  front_eight =
      let e : as_eight narrow (drop L w) ≡ drop (m * 8) (as_eight narrow w) = rw el (eight_drop narrow m w room) in
      eight_append narrow m x (drop L w) (kx ∙ length_part ∙ el) ∙ ap (λ (X : List ℕ). as_eight narrow x ++ X) e

  part_eight : length (as_eight narrow x) ≡ length (take (m * 8) (as_eight narrow w))
  part_eight =
      let e : as_eight narrow (take L w) ≡ take (m * 8) (as_eight narrow w) = rw el (eight_take narrow m w room) in
      eight_same narrow x (take L w) kx ∙ ap length e

module _ (narrow : Bool) (X : List ℕ) (m R : ℕ) (room : m * node_words_lem narrow ≤ length X) (er : R ≡ m * node_words_lem narrow) where
  rest_eight : as_eight narrow (rest X R) ≡ rest (as_eight narrow X) (m * 8)
  rest_eight =
      let e : as_eight narrow (drop R X) ≡ drop (m * 8) (as_eight narrow X) = rw er (eight_drop narrow m X room) in
      ap (as_eight narrow) (rest_is X R) ∙ e ∙ sym (rest_is (as_eight narrow X) (m * 8))

  both_eight : (y : List ℕ) → as_eight narrow (take R X ++ y) ≡ take (m * 8) (as_eight narrow X) ++ as_eight narrow y
  both_eight y =
      let e : as_eight narrow (take R X) ≡ take (m * 8) (as_eight narrow X) = rw er (eight_take narrow m X room) in
      eight_append narrow m (take R X) y (length-take-le R X (rw er room) ∙ er) ∙ ap (λ (Z : List ℕ). Z ++ as_eight narrow y) e

-- a link to the root of a span
pub root_fits : (narrow : Bool) (a b r : ℕ) → b ≤ 65535 → r ≡ root_of_lem a b → kid_fits narrow r ≡ true
root_fits narrow a b r few e = rw e (go (leb b a) refl)
  where
    go : (t : Bool) → leb b a ≡ t → kid_fits narrow (root_of_lem a b) ≡ true
    go true i = rw i (none_fits narrow)
    go false i = rw i (let h : a < b = leb-false b a i in slot_fits narrow (center a b) (omega arith))

pub center_fits : (narrow : Bool) (a b : ℕ) → a < b → b ≤ 65535 → up_fits_lem narrow (center a b) ≡ true
center_fits narrow a b some few = kid_up narrow (center a b) (slot_fits narrow (center a b) (omega arith))

pub none_up : (narrow : Bool) → up_fits_lem narrow U ≡ true
none_up narrow = kid_up narrow U (none_fits narrow)

pub leaf_held : (narrow : Bool) (S w C : List ℕ) (a f : ℕ) → Lent S (as_eight narrow w) C a (a + 1) f → Held narrow (0 + 1) (length w)
leaf_held narrow S w C a f span = whole_held narrow (0 + 1) 1 w (omega (arith, span.words)) (omega arith) (omega arith)

pub root_held : (narrow : Bool) (w : List ℕ) (a b : ℕ) → length (as_eight narrow w) ≡ (b - a) * 8 → a < b → b ≤ 65535
    → Held narrow (half a b + 1) (length w)
root_held narrow w a b e some few = whole_held narrow (half a b + 1) (b - a) w e (omega arith) (omega arith)

-- a span with a root, whose words are cut at L and at R
module _ (narrow : Bool) (S w C : List ℕ) (a b f : ℕ) (span : Lent S (as_eight narrow w) C a b f) (some : a < b) (L : ℕ)
    (el : L ≡ half a b * node_words_lem narrow) where
  size : length w ≡ (b - a) * node_words_lem narrow
  size = eight_whole narrow (b - a) w span.words

  left_room : half a b * node_words_lem narrow ≤ length w
  left_room = rw size (part_in narrow (half a b) (b - a) (omega arith))

  pub left_in : L ≤ length w
  left_in = rw el left_room

  pub left_size : L ≡ length (take L w)
  left_size = sym (length-take-le L w left_in)

  pub lent_left : (D : List ℕ) → length D ≡ length C → Lent S (as_eight narrow (take L w)) D a (center a b) (f - 1)
  lent_left D k = rw (el, eight_take narrow (half a b) w left_room) (span_left S (as_eight narrow w) C a b f span some D k)

  module _ (R : ℕ) (er : R ≡ (half a b + 1) * node_words_lem narrow) (x : List ℕ) (kx : length x ≡ length (take L w)) where
    front_size : length (front w L x) ≡ length w
    front_size = length_front w x L kx

    right_room : (half a b + 1) * node_words_lem narrow ≤ length (front w L x)
    right_room = rw (front_size, size) (part_in narrow (half a b + 1) (b - a) (omega arith))

    pub right_in : R ≤ length (front w L x)
    right_in = rw er right_room

    eight_front : as_eight narrow (front w L x) ≡ back (as_eight narrow w) (half a b) (as_eight narrow x)
    eight_front = front_eight narrow w (half a b) L x left_room el kx

    kx' : length (as_eight narrow x) ≡ length (take (half a b * 8) (as_eight narrow w))
    kx' = part_eight narrow w (half a b) L x left_room el kx

    eight_rest : as_eight narrow (rest (front w L x) R) ≡ rest (back (as_eight narrow w) (half a b) (as_eight narrow x)) ((half a b + 1) * 8)
    eight_rest =
        rest_eight narrow (front w L x) (half a b + 1) R right_room er
        ∙ ap (λ (X : List ℕ). rest X ((half a b + 1) * 8)) eight_front

    pub lent_right : (D E : List ℕ) → length D ≡ length C → length E ≡ length D
        → Lent S (as_eight narrow (rest (front w L x) R)) E (center a b + 1) b (f - 1)
    lent_right D E j i = rw eight_rest (span_right S (as_eight narrow w) C a b f span some (as_eight narrow x) D E kx' j i)

    module _ (y : List ℕ) (ky : length y ≡ length (rest (front w L x) R)) where
      ky' : length (as_eight narrow y) ≡ length (rest (back (as_eight narrow w) (half a b) (as_eight narrow x)) ((half a b + 1) * 8))
      ky' = eight_same narrow y (rest (front w L x) R) ky ∙ ap length eight_rest

      eight_both : as_eight narrow (both w L R x y) ≡ back_both (as_eight narrow w) (half a b) (as_eight narrow x) (as_eight narrow y)
      eight_both =
          rw (
            gone (front w L x) R,
            append-nil y,
            gone (back (as_eight narrow w) (half a b) (as_eight narrow x)) ((half a b + 1) * 8),
            append-nil (as_eight narrow y),
          )
          (both_eight narrow (front w L x) (half a b + 1) R right_room er y
          ∙ ap (λ (X : List ℕ). take ((half a b + 1) * 8) X ++ as_eight narrow y) eight_front)

      pub both_size : length (as_eight narrow (both w L R x y)) ≡ (b - a) * 8
      both_size =
          ap length eight_both ∙ span_back S (as_eight narrow w) C a b f span some (as_eight narrow x) (as_eight narrow y) kx' ky'

      pub both_kept : length (both w L R x y) ≡ length w
      both_kept = eight_whole narrow (b - a) (both w L R x y) both_size ∙ sym size

      pub words_whole_eight : (p : ℕ) (out : List ℕ) (own left hull : Interval) → own ≡ interval_of_lem S (center a b)
          → left ≡ span_hull S (f - 1) a (center a b) own → as_eight narrow x ≡ span_words S (f - 1) a (center a b) (center a b)
          → hull ≡ span_hull S (f - 1) (center a b + 1) b left → as_eight narrow y ≡ span_words S (f - 1) (center a b + 1) b (center a b)
          → out
          ≡ put_node_lem (as_eight narrow (both w L R x y)) (half a b) (entry_of S (center a b)) hull (root_of_lem a (center a b))
          (root_of_lem (center a b + 1) b) p
          → out ≡ span_words S f a b p
      words_whole_eight p out own left hull eo el ex eh ey ho =
          words_whole S (as_eight narrow w) C a b f span some p (as_eight narrow x) (as_eight narrow y) out own left hull eo el ex eh ey kx' ky'
          (rw eight_both at ho)

-- the whole list
module _ (narrow : Bool) (n f L : ℕ) (S W : List ℕ) (held : Held narrow n (length W)) (el : L ≡ n * node_words_lem narrow) (e : f ≡ levels n) where
  all_room : n * node_words_lem narrow ≤ length W
  all_room = held_in narrow n (length W) held

  pub lent_all : (C : List ℕ) → n * 3 ≤ length S → n ≤ length C * 8 → Lent S (as_eight narrow (take L W)) C 0 n f
  lent_all C triples bits = rw (el, eight_take narrow n W all_room) (span_all n f e S (as_eight narrow W) C held.0 triples (eight_holds narrow n W held) bits)

  pub words_all_eight : (x : List ℕ) → length x ≡ length (take L W) → as_eight narrow x ≡ span_words S f 0 n U
      → as_eight narrow (front W L x) ≡ build_words S n (as_eight narrow W)
  words_all_eight x kx q = front_eight narrow W n L x all_room el kx ∙ words_all n f e S (as_eight narrow W) (as_eight narrow x) q

pub all_in : (narrow : Bool) (n L len : ℕ) → Held narrow n len → L ≡ n * node_words_lem narrow → L ≤ len
all_in narrow n L len held el = rw el (held_in narrow n len held)

pub all_size : (narrow : Bool) (n L : ℕ) (W : List ℕ) → Held narrow n (length W) → L ≡ n * node_words_lem narrow → L ≡ length (take L W)
all_size narrow n L W held el = sym (length-take-le L W (all_in narrow n L (length W) held el))
