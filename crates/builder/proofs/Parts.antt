-- Laws of words whose parts were lent: what came back is the span.
use mathlib.Core.Path.{◌≡◌, refl, sym, ap, ◌∙◌}
use mathlib.Core.List.{List, [], ◌∷◌, ◌++◌, append-nil, append_assoc}
use Prim.Native.Nat.{ℕ, zero, suc, ◌+◌, ◌-◌, ◌*◌, ◌/◌, ◌^◌, ◌<◌, ◌≤◌}
use native.Mathlib.Omega.{arith}
use native.Mathlib.Numerals.{sub-one, towards_suc}
use lib.ListN.{length, take, drop, length-take, length-drop, length-append, drop_of_length-le}
use lib.Seq.{sets, sets-eq, take-append-le, take-take, take_at, drop_at, take_all, length-take-le, length_front}
use lib.Dec.{eqb}
use borrow.Author.Tests.{ne_eqb}
use Rattle.words.specs.Ix.{U}
use Rattle.words.specs.Intervals.{extended}
use Rattle.words.specs.Nodes.{put, put_entry_lem, put_hull_lem, put_node_lem, Has, Holds, HoldsBits}
use Rattle.words.specs.declared.interval.Interval.{Interval}
use Rattle.words.specs.declared.node.Entry.{Entry}
use Rattle.bitvec.specs.Colours.{paint}
use Rattle.builder.specs.Input.{interval_of_lem, entry_of}
use Rattle.builder.specs.Build.{center, root_of_lem, span_hull, root_hull, node_words_lem, span_words, painted, levels, build_words, build_colours, build_root, Lent}
use Rattle.builder.proofs.Spans.{few_left, few_right, root_none, hull_none, hull_some, words_none, words_some, painted_none, painted_some}
use Rattle.builder.proofs.Levels.{levels_few}

-- a node written takes the place of eight words
put_node_is : (W : List ℕ) (s : ℕ) (e : Entry) (h : Interval) (left right up : ℕ) → Has W s
    → put_node_lem W s e h left right up ≡ take (s * 8) W ++ (node_words_lem e h left right up ++ drop (s * 8 + 8) W)
unfolding put put_entry_lem put_hull_lem put_node_lem
put_node_is W s e h left right up room =
    let w : List ℕ = e.start ∷ e.end ∷ e.value ∷ h.start ∷ h.end ∷ left ∷ right ∷ up ∷ [] in
    let q : put_node_lem W s e h left right up ≡ sets W (s * 8) w = simp towards_suc in
    q ∙ sets-eq w W (s * 8) room ∙ append_assoc (take (s * 8) W) w (drop (s * 8 + 8) W)

-- the part of a list from k on, as it is lent
abbrev pub rest : List ℕ → ℕ → List ℕ
rest l k = take (length l - k) (drop k l)

pub rest_is : (l : List ℕ) (k : ℕ) → rest l k ≡ drop k l
rest_is l k = take_all (length l - k) (drop k l) (simp length-drop (omega arith))

length_rest : (l : List ℕ) (k : ℕ) → length (rest l k) ≡ length l - k
length_rest l k = ap length (rest_is l k) ∙ length-drop k l

-- the words w, whose first m slots came back as x; and then those after slot m as y
abbrev pub back : List ℕ → ℕ → List ℕ → List ℕ
back w m x = x ++ drop (m * 8) w

abbrev pub back_both : List ℕ → ℕ → List ℕ → List ℕ → List ℕ
back_both w m x y = take ((m + 1) * 8) (back w m x) ++ (y ++ drop (length (back w m x) - (m + 1) * 8) (drop ((m + 1) * 8) (back w m x)))

module _ (w : List ℕ) (m : ℕ) (x y : List ℕ) (room : Holds w (m + 1)) (kx : length x ≡ length (take (m * 8) w))
    (ky : length y ≡ length (rest (back w m x) ((m + 1) * 8))) where
  length_x : length x ≡ m * 8
  length_x = kx ∙ simp length-take (omega arith)

  length_y : length y ≡ length w - (m + 1) * 8
  length_y = ky ∙ length_rest (back w m x) ((m + 1) * 8) ∙ ap (λ (k : ℕ). k - (m + 1) * 8) (length_front w x (m * 8) kx)

  length_front_part : length (take ((m + 1) * 8) (back w m x)) ≡ (m + 1) * 8
  length_front_part = length-take-le ((m + 1) * 8) (back w m x) (omega (arith, length_front w x (m * 8) kx))

  back_is : back_both w m x y ≡ take ((m + 1) * 8) (back w m x) ++ y
  back_is =
      let none : drop (length (back w m x) - (m + 1) * 8) (drop ((m + 1) * 8) (back w m x)) ≡ [] =
      drop_of_length-le (drop ((m + 1) * 8) (back w m x)) {i = length (back w m x) - (m + 1) * 8} (simp length-drop (omega arith)) in
      rw none (ap (λ (r : List ℕ). take ((m + 1) * 8) (back w m x) ++ r) (append-nil y))

  length_back : length (back_both w m x y) ≡ length w
  length_back = ap length back_is ∙ simp length-append (omega (arith, length_front_part, length_y))

  -- slot m, written last, stands between the two parts
  put_between : (e : Entry) (h : Interval) (left right up : ℕ)
      → put_node_lem (back_both w m x y) m e h left right up ≡ x ++ (node_words_lem e h left right up ++ y)
  put_between e h left right up =
      let F : List ℕ = take ((m + 1) * 8) (back w m x) in
      let t : take (m * 8) (F ++ y) ≡ x =
      take-append-le (m * 8) F y (omega (arith, length_front_part)) ∙ take-take (m * 8) ((m + 1) * 8) (back w m x) (omega arith)
      ∙ take_at x (drop (m * 8) w) (m * 8) length_x in
      let d : drop (m * 8 + 8) (F ++ y) ≡ y = drop_at F y (m * 8 + 8) (omega (arith, length_front_part)) in
      rw back_is (put_node_is (F ++ y) m e h left right up (simp length-append (omega (arith, length_front_part))) ∙ rw (t, d))

empty : (l : List ℕ) → length l ≡ 0 → l ≡ []
empty [] h = refl
empty (x ∷ l) h = absurd (omega arith)

-- the lowest level has no level below it
lowest : (g : ℕ) → eqb (suc g) 1 ≡ eqb g 0
lowest zero = refl
lowest (suc g) = rw (ne_eqb (suc (suc g)) 1 (omega arith), ne_eqb (suc g) 0 (omega arith))

-- how many slots are left of a span's root
abbrev pub half : ℕ → ℕ → ℕ
half a b = (b - a) / 2

-- A span with a root has a level; its halves are spans of one level less. The bytes D, and then E,
-- are those of C with some bits written; the words of the left half come back as x, those of the
-- right one as y.
module _ (S w C : List ℕ) (a b f : ℕ) (span : Lent S w C a b f) (some : a < b) where
  -- what holds for each number of levels but none
  deep : (P : ℕ → Type 0) → ((g : ℕ) → b - a < 2 ^ suc g → P (suc g)) → P f
  deep P h = go f span.few
    where
      go : (f : ℕ) → b - a < 2 ^ f → P f
      go zero few = absurd (omega arith)
      go (suc g) few = h g few

  pub span_pos : 1 ≤ f
  span_pos = deep (λ f. 1 ≤ f) (λ g few. omega arith)

  pub span_triples : b * 3 ≤ length S
  span_triples = span.triples

  pub span_left : (D : List ℕ) → length D ≡ length C → Lent S (take (half a b * 8) w) D a (center a b) (f - 1)
  span_left D k =
      record {
        triples = omega (arith, span.triples);
        words = simp length-take (omega (arith, span.words));
        bits = omega (arith, span.bits);
        few = deep (λ f. center a b - a < 2 ^ (f - 1)) (λ g few. rw (sub-one (suc g)) (few_left a b g few some));
      }

  pub span_right : (x D E : List ℕ) → length x ≡ length (take (half a b * 8) w) → length D ≡ length C → length E ≡ length D
      → Lent S (rest (back w (half a b) x) ((half a b + 1) * 8)) E (center a b + 1) b (f - 1)
  span_right x D E k j i =
      record {
        triples = span.triples;
        words = length_rest (back w (half a b) x) ((half a b + 1) * 8) ∙ omega (arith, span.words, length_front w x (half a b * 8) k);
        bits = omega (arith, span.bits);
        few = deep (λ f. b - (center a b + 1) < 2 ^ (f - 1)) (λ g few. rw (sub-one (suc g)) (few_right a b g few some));
      }

  room : Holds w (half a b + 1)
  room = omega (arith, span.words)

  pub span_back : (x y : List ℕ) → length x ≡ length (take (half a b * 8) w)
      → length y ≡ length (rest (back w (half a b) x) ((half a b + 1) * 8)) → length (back_both w (half a b) x y) ≡ (b - a) * 8
  span_back x y kx ky = length_back w (half a b) x y room kx ky ∙ span.words

  pub hull_whole : (d own left hull r : Interval) → own ≡ interval_of_lem S (center a b) → left ≡ span_hull S (f - 1) a (center a b) own
      → hull ≡ span_hull S (f - 1) (center a b + 1) b left → r ≡ extended d hull → r ≡ span_hull S f a b d
  hull_whole d own left hull r eo el eh er =
      deep
      (λ f. left ≡ span_hull S (f - 1) a (center a b) own → hull ≡ span_hull S (f - 1) (center a b + 1) b left → r ≡ span_hull S f a b d)
      (λ g few el eh.
      let el' : left ≡ span_hull S g a (center a b) own = rw (sub-one (suc g)) at el in
      let eh' : hull ≡ span_hull S g (center a b + 1) b left = rw (sub-one (suc g)) at eh in
      er ∙ rw (eh', el', eo) (sym (hull_some S g a b d some)))
      el eh

  pub colours_whole : (D E F : List ℕ) → D ≡ paint C (center a b) (eqb f 1) → E ≡ painted (f - 1) D a (center a b)
      → F ≡ painted (f - 1) E (center a b + 1) b → F ≡ painted f C a b
  colours_whole D E F ed ee ef =
      deep
      (λ f. D ≡ paint C (center a b) (eqb f 1) → E ≡ painted (f - 1) D a (center a b) → F ≡ painted (f - 1) E (center a b + 1) b
      → F ≡ painted f C a b)
      (λ g few ed ee ef.
      let ee' : E ≡ painted g D a (center a b) = rw (sub-one (suc g)) at ee in
      let ef' : F ≡ painted g E (center a b + 1) b = rw (sub-one (suc g)) at ef in
      ef' ∙ rw (ee', ed, lowest g) (sym (painted_some g C a b some)))
      ed ee ef

  pub words_whole : (p : ℕ) (x y out : List ℕ) (own left hull : Interval) → own ≡ interval_of_lem S (center a b)
      → left ≡ span_hull S (f - 1) a (center a b) own → x ≡ span_words S (f - 1) a (center a b) (center a b)
      → hull ≡ span_hull S (f - 1) (center a b + 1) b left → y ≡ span_words S (f - 1) (center a b + 1) b (center a b)
      → length x ≡ length (take (half a b * 8) w) → length y ≡ length (rest (back w (half a b) x) ((half a b + 1) * 8))
      → out
      ≡ put_node_lem (back_both w (half a b) x y) (half a b) (entry_of S (center a b)) hull (root_of_lem a (center a b)) (root_of_lem (center a b + 1) b) p
      → out ≡ span_words S f a b p
  words_whole p x y out own left hull eo el ex eh ey kx ky ho =
      deep
      (λ f. left ≡ span_hull S (f - 1) a (center a b) own → x ≡ span_words S (f - 1) a (center a b) (center a b)
      → hull ≡ span_hull S (f - 1) (center a b + 1) b left → y ≡ span_words S (f - 1) (center a b + 1) b (center a b)
      → out ≡ span_words S f a b p)
      (λ g few el ex eh ey.
      let el' : left ≡ span_hull S g a (center a b) own = rw (sub-one (suc g)) at el in
      let eh' : hull ≡ span_hull S g (center a b + 1) b left = rw (sub-one (suc g)) at eh in
      let ex' : x ≡ span_words S g a (center a b) (center a b) = rw (sub-one (suc g)) at ex in
      let ey' : y ≡ span_words S g (center a b + 1) b (center a b) = rw (sub-one (suc g)) at ey in
      let own' : hull ≡ root_hull S g a b = rw (eh', el', eo) in
      ho
      ∙ put_between w (half a b) x y room kx ky (entry_of S (center a b)) hull (root_of_lem a (center a b)) (root_of_lem (center a b + 1) b) p
      ∙ rw (own', ex', ey') (sym (words_some S g a b p some)))
      el ex eh ey

-- an empty span
pub words_empty : (S w C : List ℕ) (a b f p : ℕ) → Lent S w C a b f → b ≤ a → w ≡ span_words S f a b p
words_empty S w C a b f p span h = empty w (omega (arith, span.words)) ∙ sym (words_none S f a b p h)

pub hull_empty : (S : List ℕ) (a b f : ℕ) (d : Interval) → b ≤ a → d ≡ span_hull S f a b d
hull_empty S a b f d h = sym (hull_none S f a b d h)

pub colours_empty : (C : List ℕ) (a b f : ℕ) → b ≤ a → C ≡ painted f C a b
colours_empty C a b f h = sym (painted_none f C a b h)

-- a span of one slot
module _ (S w C : List ℕ) (a f : ℕ) (span : Lent S w C a (a + 1) f) where
  mid : center a (a + 1) ≡ a
  mid = omega arith

  alone_left : (g : ℕ) (d : Interval) → span_hull S g a (center a (a + 1)) d ≡ d
  alone_left g d = hull_none S g a (center a (a + 1)) d (omega arith)

  alone_right : (g : ℕ) (d : Interval) → span_hull S g (center a (a + 1) + 1) (a + 1) d ≡ d
  alone_right g d = hull_none S g (center a (a + 1) + 1) (a + 1) d (omega arith)

  pub hull_leaf : (d own r : Interval) → own ≡ interval_of_lem S a → r ≡ extended d own → r ≡ span_hull S f a (a + 1) d
  hull_leaf d own r eo er =
      hull_whole S w C a (a + 1) f span (omega arith) d own own own r (rw mid eo) (sym (alone_left (f - 1) own)) (sym (alone_right (f - 1) own)) er

  pub colours_leaf : (D : List ℕ) → D ≡ paint C a (eqb f 1) → D ≡ painted f C a (a + 1)
  colours_leaf D ed =
      colours_whole S w C a (a + 1) f span (omega arith) D D D (rw mid ed)
      (sym (painted_none (f - 1) D a (center a (a + 1)) (omega arith)))
      (sym (painted_none (f - 1) D (center a (a + 1) + 1) (a + 1) (omega arith)))

  pub words_leaf : (p : ℕ) (own : Interval) (e : Entry) (out : List ℕ) → own ≡ interval_of_lem S a → e ≡ entry_of S a
      → out ≡ put_node_lem w 0 e own U U p → out ≡ span_words S f a (a + 1) p
  words_leaf p own e out eo ee ho =
      let none : drop 8 w ≡ [] = drop_of_length-le w {i = 8} (omega (arith, span.words)) in
      let one : out ≡ node_words_lem (entry_of S a) own U U p ++ [] =
      ho ∙ put_node_is w 0 e own U U p (omega (arith, span.words)) ∙ rw (none, ee) in
      deep S w C a (a + 1) f span (omega arith)
      (λ f. out ≡ span_words S f a (a + 1) p)
      (λ g few.
      one
      ∙ sym
      (words_some S g a (a + 1) p (omega arith)
      ∙ rw (
        words_none S g a (center a (a + 1)) (center a (a + 1)) (omega arith),
        words_none S g (center a (a + 1) + 1) (a + 1) (center a (a + 1)) (omega arith),
        alone_left g (interval_of_lem S (center a (a + 1))),
        alone_right g (interval_of_lem S (center a (a + 1))),
        root_none a (center a (a + 1)) (omega arith),
        root_none (center a (a + 1) + 1) (a + 1) (omega arith),
        mid,
        eo,
      )))

-- a span [a, b) that has one slot is [a, a + 1)
module _ (a b : ℕ) (some : a < b) (one : b - a ≡ 1) where
  next : b ≡ a + 1
  next = omega arith

  pub one_lent : (S w C : List ℕ) (f : ℕ) → Lent S w C a b f → Lent S w C a (a + 1) f
  one_lent S w C f span = rw (← next) span

  pub one_hull : (S : List ℕ) (f : ℕ) (d r : Interval) → r ≡ span_hull S f a (a + 1) d → r ≡ span_hull S f a b d
  one_hull S f d r e = rw next e

  pub one_words : (S : List ℕ) (f p : ℕ) (out : List ℕ) → out ≡ span_words S f a (a + 1) p → out ≡ span_words S f a b p
  one_words S f p out e = rw next e

  pub one_colours : (f : ℕ) (C D : List ℕ) → D ≡ painted f C a (a + 1) → D ≡ painted f C a b
  one_colours f C D e = rw next e

-- the whole list
module _ (n f : ℕ) (e : f ≡ levels n) where
  pub span_all : (S W C : List ℕ) → n ≤ 65535 → n * 3 ≤ length S → Holds W n → HoldsBits C n
      → Lent S (take (n * 8) W) C 0 n f
  span_all S W C few triples room bits =
      record {
        triples = triples;
        words = simp length-take (omega arith);
        bits = bits;
        few = rw e (omega (arith, levels_few n few));
      }

  pub words_all : (S W x : List ℕ) → x ≡ span_words S f 0 n U → x ++ drop (n * 8) W ≡ build_words S n W
  unfolding build_words
  words_all S W x q = rw (q, e)

  pub colours_all : (C D : List ℕ) → D ≡ painted f C 0 n → D ≡ build_colours n C
  unfolding build_colours
  colours_all C D q = q ∙ rw e

pub root_all : (n r : ℕ) → r ≡ root_of_lem 0 n → r ≡ build_root n
unfolding build_root
root_all n r e = e
