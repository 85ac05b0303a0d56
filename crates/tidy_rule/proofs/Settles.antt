-- Nodes that change places, until each is in the slot that it names: all of them come to rest, and
-- each is one of those that there were.
use mathlib.Core.Path.{◌≡◌, refl, sym, ap, ◌∙◌}
use mathlib.Core.Logic.{◌≢◌}
use mathlib.Core.Bool.{Bool, true, false, cond, ◌||◌}
use mathlib.Core.List.{List}
use Prim.Native.Nat.{ℕ, zero, suc, ◌+◌, ◌-◌, ◌*◌, ◌/◌, ◌<◌, ◌≤◌}
use native.Mathlib.Omega.{arith}
use lib.Dec.{eqb, ltb, leb}
use lib.ListN.{length}
use borrow.Author.Tests.{eq-eqb, ne_eqb, eqb-true, eqb-false, ltb-true, ltb-false, lt-leb}
use Rattle.words.specs.Nodes.{word, kid, par, hull, entry, put_node_lem}
use Rattle.words.specs.Layouts.{narrowed}
use Rattle.words.specs.declared.interval.Interval.{Interval}
use Rattle.words.specs.declared.node.Entry.{Entry}
use Rattle.words.specs.declared.node.Field.{Field}
use Rattle.words.specs.declared.node.Field.TheVariants.{Start, End, Value, HullStart, HullEnd, Child, Parent}
use Rattle.words.proofs.Nodes.{length_put_node, word_put_node_slot, entry_put_node, hull_put_node, kid_put_node, par_put_node}
use Rattle.bitvec.specs.Colours.{red, paint}
use Rattle.bitvec.proofs.Bytes.{length_set_bit, bit_at_same, bit_at_other}
use Rattle.tree.proofs.Slots.{hit_cases, hit_zero}
use Rattle.tidy_rule.specs.Tidy.{tag, swap_nodes_lem, swap_colours_lem, Both, settle}

-- slot b of X holds all that slot a of W does
abbrev pub Like : List ℕ → ℕ → List ℕ → ℕ → Type 0
Like X b W a = (f : Field) → word X f b ≡ word W f a

pub fields : (W X : List ℕ) (a b : ℕ) → entry X b ≡ entry W a → hull X b ≡ hull W a → ((d : Bool) → kid X d b ≡ kid W d a) → par X b ≡ par W a → Like X b W a
fields W X a b e h k p Start = ap (λ (i : Entry). i.start) e
fields W X a b e h k p End = ap (λ (i : Entry). i.end) e
fields W X a b e h k p Value = ap (λ (i : Entry). i.value) e
fields W X a b e h k p HullStart = ap (λ (i : Interval). i.start) h
fields W X a b e h k p HullEnd = ap (λ (i : Interval). i.end) h
fields W X a b e h k p (Child d) = k d
fields W X a b e h k p Parent = p

-- a node written whole
put_like : (Y W : List ℕ) (s o : ℕ) → s * 8 + 8 ≤ length Y
    → Like (put_node_lem Y s (entry W o) (hull W o) (kid W true o) (kid W false o) (par W o)) s W o
put_like Y W s o m =
    fields W (put_node_lem Y s (entry W o) (hull W o) (kid W true o) (kid W false o) (par W o)) o s
    (entry_put_node Y s (entry W o) (hull W o) (kid W true o) (kid W false o) (par W o) m)
    (hull_put_node Y s (entry W o) (hull W o) (kid W true o) (kid W false o) (par W o) m)
    side
    (par_put_node Y s (entry W o) (hull W o) (kid W true o) (kid W false o) (par W o) m)
  where
    side : (d : Bool) → kid (put_node_lem Y s (entry W o) (hull W o) (kid W true o) (kid W false o) (par W o)) d s ≡ kid W d o
    side true = kid_put_node Y s (entry W o) (hull W o) (kid W true o) (kid W false o) (par W o) true m
    side false = kid_put_node Y s (entry W o) (hull W o) (kid W true o) (kid W false o) (par W o) false m

-- the slot that the content of a slot comes from when i and j change places
unfoldable other : ℕ → ℕ → ℕ → ℕ
other i j s = cond (eqb s i) j (cond (eqb s j) i s)

module _ (i j : ℕ) (d : i ≢ j) where
  other_first : other i j i ≡ j
  unfolding other
  other_first = rw (eq-eqb i i refl) refl

  other_second : other i j j ≡ i
  unfolding other
  other_second = rw (ne_eqb j i (λ e. d (sym e)), eq-eqb j j refl) refl

  other_rest : (s : ℕ) → s ≢ i → s ≢ j → other i j s ≡ s
  unfolding other
  other_rest s a b = rw (ne_eqb s i a, ne_eqb s j b) refl

  -- by cases on a slot
  three : {X : Type 0} (s : ℕ) → (s ≡ i → X) → (s ≡ j → X) → (s ≢ i → s ≢ j → X) → X
  three s x y z = hit_cases s i x (λ a. hit_cases s j y (λ b. z (hit_zero s i a) (hit_zero s j b)))

  other_other : (s : ℕ) → other i j (other i j s) ≡ s
  other_other s =
      three s
      (λ e. rw (e, other_first, other_second) refl)
      (λ e. rw (e, other_second, other_first) refl)
      (λ a b. rw (other_rest s a b, other_rest s a b) refl)

  other_one : (s u : ℕ) → other i j s ≡ other i j u → s ≡ u
  other_one s u e = sym (other_other s) ∙ ap (other i j) e ∙ other_other u

  other_low : (n s : ℕ) → i < n → j < n → s < n → other i j s < n
  other_low n s a b c = three s (λ e. rw (e, other_first) b) (λ e. rw (e, other_second) a) (λ x y. rw (other_rest s x y) c)

  -- two nodes change places
  module _ (W : List ℕ) (ri : i * 8 + 8 ≤ length W) (rj : j * 8 + 8 ≤ length W) where
    pub length_swap : length (swap_nodes_lem W i j) ≡ length W
    unfolding swap_nodes_lem
    length_swap = length_put_node _ j _ _ _ _ _ ∙ length_put_node W i _ _ _ _ _

    swapped : (s : ℕ) → Like (swap_nodes_lem W i j) s W (other i j s)
    unfolding swap_nodes_lem
    swapped s f =
        three s
        (λ e. rw (e, other_first) (word_put_node_slot _ j (entry W i) (hull W i) (kid W true i) (kid W false i) (par W i) f i d ∙ put_like W W i j ri f))
        (λ e. rw (e, other_second) (put_like (put_node_lem W i (entry W j) (hull W j) (kid W true j) (kid W false j) (par W j)) W j i (rw length_put_node rj) f))
        (λ a b. rw (other_rest s a b) (word_put_node_slot _ j (entry W i) (hull W i) (kid W true i) (kid W false i) (par W i) f s b
        ∙ word_put_node_slot W i (entry W j) (hull W j) (kid W true j) (kid W false j) (par W j) f s a))

  -- and two colours
  module _ (C : List ℕ) (bi : i < length C * 8) (bj : j < length C * 8) where
    length_colours : length (swap_colours_lem C i j) ≡ length C
    unfolding swap_colours_lem
    length_colours = length_set_bit _ j _ ∙ length_set_bit C i _

    swapped_colours : (s : ℕ) → red (swap_colours_lem C i j) s ≡ red C (other i j s)
    unfolding swap_colours_lem
    swapped_colours s =
        three s
        (λ e. rw (e, other_first) (bit_at_other (paint C i (red C j)) j (red C i) i d ∙ bit_at_same C i (red C j) (omega arith)))
        (λ e. rw (e, other_second) (bit_at_same (paint C i (red C j)) j (red C i) (rw length_set_bit (omega arith))))
        (λ a b. rw (other_rest s a b) (bit_at_other (paint C i (red C j)) j (red C i) s b ∙ bit_at_other C i (red C j) s a))

-- Each slot below n of W and C holds what some slot below n of Y and D holds; what lies from n up
-- is as it was there.
pub record Shuffled (n : ℕ) (Y D W C : List ℕ) : Type 1 where
  pub words_length : length W ≡ length Y
  pub colours_length : length C ≡ length D
  pub from : {X : Type 0} (s : ℕ) → s < n → ((o : ℕ) → o < n → Like W s Y o → red C s ≡ red D o → X) → X
  pub words_kept : (f : Field) (a : ℕ) → n ≤ a → word W f a ≡ word Y f a
  pub colours_kept : (a : ℕ) → n ≤ a → red C a ≡ red D a

still : (n : ℕ) (W C : List ℕ) → Shuffled n W C W C
still n W C =
    record {
      words_length = refl;
      colours_length = refl;
      from = λ s h k. k s h (λ f. refl) refl;
      words_kept = λ f a h. refl;
      colours_kept = λ a h. refl;
    }

-- one more exchange before
before : (n i j : ℕ) (Y D W C : List ℕ) → (d : i ≢ j) → i < n → j < n → n * 8 ≤ length Y → n ≤ length D * 8
    → Shuffled n (swap_nodes_lem Y i j) (swap_colours_lem D i j) W C → Shuffled n Y D W C
before n i j Y D W C d li lj fit bits h =
    record {
      words_length = h.words_length ∙ length_swap i j d Y (omega arith) (omega arith);
      colours_length = h.colours_length ∙ length_colours i j d D (omega arith) (omega arith);
      from = λ s q k. h.from s q (λ o p a b. k (other i j o) (other_low i j d n o li lj p)
          (λ f. a f ∙ swapped i j d Y (omega arith) (omega arith) o f) (b ∙ swapped_colours i j d D (omega arith) (omega arith) o));
      words_kept = λ f a q. h.words_kept f a q
          ∙ swapped i j d Y (omega arith) (omega arith) a f ∙ ap (word Y f) (other_rest i j d a (λ e. omega arith) (λ e. omega arith));
      colours_kept = λ a q. h.colours_kept a q
          ∙ swapped_colours i j d D (omega arith) (omega arith) a ∙ ap (red D) (other_rest i j d a (λ e. omega arith) (λ e. omega arith));
    }

-- how many slots below m do not hold the node that names them
unfoldable miss : List ℕ → ℕ → ℕ
miss W s = cond (eqb (tag W s) s) 0 1

pub misses : ℕ → List ℕ → ℕ
misses zero W = 0
misses (suc m) W = misses m W + miss W m

miss_le : (W : List ℕ) (s : ℕ) → miss W s ≤ 1
unfolding miss
miss_le W s = go (eqb (tag W s) s)
  where
    go : (t : Bool) → cond t 0 1 ≤ 1
    go true = omega arith
    go false = omega arith

pub misses_le : (m : ℕ) (W : List ℕ) → misses m W ≤ m
unfolding misses
misses_le zero W = omega arith
misses_le (suc m) W = omega (arith, misses_le m W, miss_le W m)

module _ (W X : List ℕ) where
  no_more : (m : ℕ) → ((s : ℕ) → s < m → miss X s ≤ miss W s) → misses m X ≤ misses m W
  unfolding misses
  no_more zero f = omega arith
  no_more (suc m) f = omega (arith, no_more m (λ s h. f s (omega arith)), f m (omega arith))

  one_less : (m j : ℕ) → j < m → ((s : ℕ) → s < m → miss X s ≤ miss W s) → miss X j < miss W j → misses m X < misses m W
  unfolding misses
  one_less zero j h f g = absurd (omega arith)
  one_less (suc m) j h f g =
      hit_cases j m
      (λ e. let g' : miss X m < miss W m = rw e at g in omega (arith, no_more m (λ s i. f s (omega arith))))
      (λ z. omega (arith, one_less m j (omega (arith, hit_zero j m z)) (λ s i. f s (omega arith)) g, f m (omega arith)))

-- each names a slot below n, and no two the same one
pub record Tags (n : ℕ) (W : List ℕ) : Type 0 where
  pub low : (s : ℕ) → s < n → tag W s < n
  pub one : (s u : ℕ) → s < n → u < n → tag W s ≡ tag W u → s ≡ u

module _ (n : ℕ) (W : List ℕ) (t : Tags n W) (i : ℕ) (li : i < n) (fit : n * 8 ≤ length W) (d : tag W i ≢ i) where
  abbrev j : ℕ
  j = tag W i

  abbrev X : List ℕ
  X = swap_nodes_lem W i j

  ne : i ≢ j
  ne e = d (sym e)

  lj : j < n
  lj = t.low i li

  tag_swap : (s : ℕ) → tag X s ≡ tag W (other i j s)
  unfolding tag
  tag_swap s = ap (λ (p : ℕ). narrowed p / 65536) (swapped i j ne W (omega arith) (omega (arith, lj)) s Parent)

  tags_swap : Tags n X
  tags_swap =
      record {
        low = λ s h. rw (tag_swap s) (t.low (other i j s) (other_low i j ne n s li lj h));
        one = λ s u h k e. other_one i j ne s u (t.one (other i j s) (other i j u) (other_low i j ne n s li lj h) (other_low i j ne n u li lj k)
            (sym (tag_swap s) ∙ e ∙ tag_swap u));
      }

  comes : tag X j ≡ j
  comes = tag_swap j ∙ ap (tag W) (other_second i j ne)

  missed : (s : ℕ) → tag W s ≢ s → miss W s ≡ 1
  unfolding miss
  missed s z = rw (ne_eqb (tag W s) s z) refl

  settled_at : miss X j ≡ 0
  unfolding miss
  settled_at = rw (eq-eqb (tag X j) j comes) refl

  away : tag W j ≢ j
  away e = ne (t.one i j li lj (sym e))

  tag_rest : (s : ℕ) → s ≢ i → s ≢ j → tag X s ≡ tag W s
  tag_rest s a b = tag_swap s ∙ ap (tag W) (other_rest i j ne s a b)

  miss_rest : (s : ℕ) → s ≢ i → s ≢ j → miss X s ≡ miss W s
  unfolding miss
  miss_rest s a b = rw (tag_rest s a b) refl

  -- what is at rest stays there
  rests : (s : ℕ) → s < i → tag W s ≡ s → tag X s ≡ s
  rests s h e =
      let a : s ≢ i = omega arith in
      let b : s ≢ j = λ q. let z : s ≡ i = t.one s i (omega arith) li (e ∙ q) in omega arith in
      tag_rest s a b ∙ e

  fewer : misses n X < misses n W
  fewer =
      one_less W X n j lj
      (λ s h. three i j ne s
      (λ e. rw e (omega (arith, miss_le X i, missed i d)))
      (λ e. rw e (omega (arith, settled_at)))
      (λ a b. omega (arith, miss_rest s a b)))
      (omega (arith, settled_at, missed j away))

-- all come to rest
module _ (n : ℕ) where
  pub settles : (turns i : ℕ) (W C : List ℕ) → Tags n W → n * 8 ≤ length W → n ≤ length C * 8 → ((s : ℕ) → s < i → tag W s ≡ s) → i ≤ n → n - i + misses n W ≤ turns
      → Shuffled n W C (settle turns n i W C).words (settle turns n i W C).colours × ((s : ℕ) → s < n → tag (settle turns n i W C).words s ≡ s)
  unfolding settle
  settles zero i W C t fit bits f h m = (still n W C, λ s q. f s (omega arith))
  settles (suc turns) i W C t fit bits f h m =
      go (ltb i n) (eqb (tag W i) i) refl refl
      (λ li e. settles turns (i + 1) W C t fit bits (λ s q. hit_cases s i (λ z. rw z e) (λ z. f s (omega (arith, hit_zero s i z)))) (omega arith) (omega arith))
      (λ li d. settles turns i (swap_nodes_lem W i (tag W i)) (swap_colours_lem C i (tag W i)) (tags_swap n W t i li fit d)
      (rw (length_swap i (tag W i) (λ e. d (sym e)) W (omega arith) (omega (arith, t.low i li))) fit)
      (rw (length_colours i (tag W i) (λ e. d (sym e)) C (omega arith) (omega (arith, t.low i li))) bits)
      (λ s q. rests n W t i li fit d s q (f s q))
      h (omega (arith, fewer n W t i li fit d)))
    where
      Rests : Both → Type 1
      Rests R = Shuffled n W C R.words R.colours × ((s : ℕ) → s < n → tag R.words s ≡ s)

      go : (a b : Bool) → ltb i n ≡ a → eqb (tag W i) i ≡ b
          → (i < n → tag W i ≡ i → Rests (settle turns n (i + 1) W C))
          → (i < n → tag W i ≢ i → Shuffled n (swap_nodes_lem W i (tag W i)) (swap_colours_lem C i (tag W i)) (settle turns n i (swap_nodes_lem W i (tag W i)) (swap_colours_lem C i (tag W i))).words
          (settle turns n i (swap_nodes_lem W i (tag W i)) (swap_colours_lem C i (tag W i))).colours
          × ((s : ℕ) → s < n → tag (settle turns n i (swap_nodes_lem W i (tag W i)) (swap_colours_lem C i (tag W i))).words s ≡ s))
          → Rests (cond a (cond (b || leb n (tag W i)) (settle turns n (i + 1) W C) (settle turns n i (swap_nodes_lem W i (tag W i)) (swap_colours_lem C i (tag W i))))
          (record { words = W; colours = C }))
      go false b e g x y = (still n W C, λ s q. f s (omega (arith, ltb-false i n e)))
      go true true e g x y = x (ltb-true i n e) (eqb-true (tag W i) i g)
      go true false e g x y =
          let li : i < n = ltb-true i n e in
          let d : tag W i ≢ i = eqb-false (tag W i) i g in
          let r = y li d in
          rw (lt-leb n (tag W i) (t.low i li))
          (before n i (tag W i) W C _ _ (λ z. d (sym z)) li (t.low i li) fit bits r.0, r.1)
