-- The rules of exact lookup, on a tree: pruning loses no hit, the walk goes where the entered rule
-- says, and the search finds the highest equal node.
use mathlib.Core.Path.{◌≡◌, refl, sym, ◌∙◌}
use mathlib.Core.Bool.{Bool, true, false, cond, ◌&&◌, ◌||◌, false≢true}
use mathlib.Core.List.{List, [], ◌∷◌}
use Prim.Native.Nat.{ℕ, zero, suc, ◌<◌, ◌≤◌}
use native.Mathlib.Omega.{arith}
use lib.Dec.{eqb, ltb, leb}
use borrow.Author.Tests.{ltb-true, ltb-false, lt-ltb, le-ltb, leb-true, le-leb, eqb-true, eq-eqb}
use Rattle.words.specs.Ix.{U, on_link}
use Rattle.words.specs.Nodes.{start, stop, lo, hi, kid, interval, hull}
use Rattle.words.specs.Intervals.{le, eq, contains}
use Rattle.words.specs.Lists.{filter}
use Rattle.words.specs.declared.interval.Interval.{Interval}
use Rattle.words.proofs.Lists.{filter_append}
use Rattle.tree.specs.Tree.{Tree, leaf, node, slots, occ, height, Shape}
use Rattle.tree.specs.Zipper.{Frame, frame, plug}
use Rattle.tree.specs.Order.{NotAfter, RisingAt}
use Rattle.tree.specs.Hulls.{Hulls}
use Rattle.tree.proofs.Slots.{hit_same, times_slots}
use Rattle.tree.proofs.Orders.{rising_left, rising_right, rising_at}
use Rattle.iter.specs.Exact.{equals, toward, should_go_exact, exact, find}
use Rattle.iter_laws.specs.Place.{earlier, later}
use Rattle.iter_laws.specs.Entered.{exact_rule, goes}
use Rattle.iter_laws.specs.Highest.{Highest}
use Rattle.iter.proofs.Bools.{and_left, and_right}
use Rattle.iter_laws.proofs.Script.{Empty, Fairs}
use Rattle.iter_laws.proofs.Trees.{no_hits}
use Rattle.iter_laws.proofs.Walks.{follows}
use Rattle.iter_laws.proofs.Within.{within}
use Rattle.iter_laws.proofs.Later.{slots_plug}

-- the order of intervals, and its test
le_of : (a b : Interval) → NotAfter a b → le a b ≡ true
le_of a b h = go (ltb a.start b.start) refl
  where
    go : (t : Bool) → ltb a.start b.start ≡ t → t || (eqb a.start b.start && leb a.end b.end) ≡ true
    go true i = refl
    go false i =
        let x : b.start ≤ a.start = ltb-false a.start b.start i in
        rw (eq-eqb a.start b.start (omega (arith, h.starts)), le-leb a.end b.end (h.stops x))

of_le : (a b : Interval) → le a b ≡ true → NotAfter a b
of_le a b e = go (ltb a.start b.start) refl e
  where
    go : (t : Bool) → ltb a.start b.start ≡ t → t || (eqb a.start b.start && leb a.end b.end) ≡ true → NotAfter a b
    go true i e = let z : a.start < b.start = ltb-true a.start b.start i in record { starts = omega arith; stops = λ h. omega arith }
    go false i e =
        let z : a.start ≡ b.start = eqb-true a.start b.start (and_left (eqb a.start b.start) (leb a.end b.end) e) in
        record { starts = omega arith; stops = λ h. leb-true a.end b.end (and_right (eqb a.start b.start) (leb a.end b.end) e) }

-- neither is after the other: they are equal
both_ways : (a b : Interval) → NotAfter a b → NotAfter b a → eq a b ≡ true
both_ways a b f g =
    let i : a.end ≤ b.end = f.stops g.starts in
    let j : b.end ≤ a.end = g.stops f.starts in
    rw (eq-eqb a.start b.start (omega (arith, f.starts, g.starts)), eq-eqb a.end b.end (omega arith))

module _ (W : List ℕ) (key : Interval) where
  equal_is : (c : ℕ) → equals W key c ≡ true → interval W c ≡ key
  unfolding equals
  equal_is c e =
      let p : start W c ≡ key.start = eqb-true (start W c) key.start (and_left (eqb (start W c) key.start) (eqb (stop W c) key.end) e) in
      let q : stop W c ≡ key.end = eqb-true (stop W c) key.end (and_right (eqb (start W c) key.start) (eqb (stop W c) key.end) e) in
      λ i. record { start = p i; end = q i }

  -- the entry of c is not after, at `false` not before, that of s
  abbrev Beside : Bool → ℕ → ℕ → Type 0
  Beside true c s = NotAfter (interval W c) (interval W s)
  Beside false c s = NotAfter (interval W s) (interval W c)

  -- an entry that equals the query stands to another as the query does
  toward_by : (b : Bool) (c s : ℕ) → equals W key c ≡ true → Beside b c s → toward W key b s ≡ true
  unfolding toward
  toward_by true c s e h = rw (← (equal_is c e)) (le_of (interval W c) (interval W s) h)
  toward_by false c s e h = rw (← (equal_is c e)) (le_of (interval W s) (interval W c) h)

  toward_both : (s : ℕ) → toward W key true s ≡ true → toward W key false s ≡ true → equals W key s ≡ true
  unfolding toward equals
  toward_both s e f = both_ways (interval W s) key (of_le (interval W s) key f) (of_le key (interval W s) e)

  contains_is : (l : Tree) (k : ℕ) (r : Tree) (c : ℕ) → Hulls W (node l k r) → 0 < occ c (node l k r) → equals W key c ≡ true → contains (hull W k) key ≡ true
  contains_is l k r c h o e =
      let g : (lo W k ≤ start W c) × (stop W c ≤ hi W k) = within W l k r c h o in
      rw (← (equal_is c e), le-leb (lo W k) (start W c) g.0, le-leb (stop W c) (hi W k) g.1)

-- the order of a node and its subtrees
module _ (W : List ℕ) (l : Tree) (s : ℕ) (r : Tree) (h : RisingAt W (slots (node l s r))) where
  order_left : (c : ℕ) → 0 < occ c l → NotAfter (interval W c) (interval W s)
  order_left c o = rising_at W c s (slots l) (s ∷ slots r) h (rw times_slots o) (omega (arith, hit_same s))

  order_right : (c : ℕ) → 0 < occ c r → NotAfter (interval W s) (interval W c)
  order_right c o = rising_at W s c (s ∷ []) (slots r) (rising_right W (slots l) (s ∷ slots r) h) (omega (arith, hit_same s)) (rw times_slots o)

  down_left : RisingAt W (slots l)
  down_left = rising_left W (slots l) (s ∷ slots r) h

  down_right : RisingAt W (slots r)
  down_right = rising_right W (s ∷ []) (slots r) (rising_right W (slots l) (s ∷ slots r) h)

module _ (W : List ℕ) (n : ℕ) (key : Interval) (small : n ≤ 65535) where
  pub by_link : (b : Bool) (s : ℕ) → should_go_exact W n key b s ≡ on_link n (kid W b s) (exact_rule W key b s) false
  unfolding should_go_exact
  by_link b s = refl

  rule : (b : Bool) (s : ℕ) (t : Tree) → Shape W n s (kid W b s) t → should_go_exact W n key b s ≡ goes (exact_rule W key) b s t
  rule = follows W n (exact W n key) (exact_rule W key) by_link small

  -- where no slot of a tree can be equal, by a proof for each that is
  none_equal : (t : Tree) → ((c : ℕ) → 0 < occ c t → equals W key c ≡ true → ⊥) → Empty (exact W n key) t
  none_equal t f c o = go (equals W key c) refl
    where
      go : (m : Bool) → equals W key c ≡ m → m ≡ false
      go false q = refl
      go true q = absurd (f c o q)

  -- an equal entry below a child that is sorted right leads the walk there
  leads : (b : Bool) (s : ℕ) (t : Tree) (c : ℕ) → Hulls W t → 0 < occ c t → equals W key c ≡ true → toward W key b s ≡ true
      → goes (exact_rule W key) b s t ≡ true
  leads b s leaf c u o e i = absurd (omega arith)
  leads b s (node x k y) c u o e i = rw i (contains_is W key x k y c u o e)

  none : (b : Bool) (s : ℕ) (t : Tree) → Shape W n s (kid W b s) t → Hulls W t → ((c : ℕ) → 0 < occ c t → Beside W key b c s)
      → should_go_exact W n key b s ≡ false → Empty (exact W n key) t
  none b s t h u i e =
      none_equal t (λ c o q. false≢true (sym e ∙ rule b s t h ∙ leads b s t c u o q (toward_by W key b c s q (i c o))))

  pub fair : (p k : ℕ) (t : Tree) → Shape W n p k t → Hulls W t → RisingAt W (slots t) → Fairs (exact W n key) t
  fair p k leaf h u o = tt
  fair p k (node l s r) h u o =
      record {
        no_left = none true s l h.left u.left (order_left W l s r o);
        no_right = none false s r h.right u.right (order_right W l s r o);
        left = fair s (kid W true s) l h.left u.left (down_left W l s r o);
        right = fair s (kid W false s) r h.right u.right (down_right W l s r o);
      }

  -- beside the way of the search there is no equal entry
  module _ (l : Tree) (s : ℕ) (r : Tree) (o : RisingAt W (slots (node l s r))) (no : equals W key s ≡ false) where
    right_none : toward W key true s ≡ true → Empty (exact W n key) r
    right_none e =
        none_equal r (λ c i q. false≢true (sym no ∙ toward_both W key s e (toward_by W key false c s q (order_right W l s r o c i))))

    left_none : toward W key true s ≡ false → Empty (exact W n key) l
    left_none e = none_equal l (λ c i q. false≢true (sym e ∙ toward_by W key true c s q (order_left W l s r o c i)))

  -- the search finds the highest equal node, or there is none
  module _ {X : Type 0} (T : Tree) where
    pub find_is : (t : Tree) (way : List Frame) (fuel p k : ℕ) → Shape W n p k t → height t ≤ fuel → plug way t ≡ T → RisingAt W (slots t)
        → filter (equals W key) (earlier way) ≡ [] → filter (equals W key) (later way) ≡ []
        → (find W n key fuel k ≡ U → filter (equals W key) (slots T) ≡ [] → X)
        → (Highest W key T (find W n key fuel k) → X) → X
    unfolding find
    find_is leaf way zero p k h f e o u v = λ x y. x refl (rw (← e, slots_plug way leaf, filter_append, u) v)
    find_is leaf way (suc fuel) p k h f e o u v = λ x y. x (rw (h, le-ltb U n (omega arith))) (rw (← e, slots_plug way leaf, filter_append, u) v)
    find_is (node l s r) way zero p k h f e o u v = absurd (omega arith)
    find_is (node l s r) way (suc fuel) p k h f e o u v =
        rw (h.here, lt-ltb s n h.live)
        (go (equals W key s) (toward W key true s) refl refl
        (λ i j. find_is l (frame true s r ∷ way) fuel s (kid W true s) h.left (omega arith) e (down_left W l s r o) u
        (rw (i, filter_append (equals W key) (slots r) (later way), no_hits (exact W n key) r (right_none l s r o i j)) v))
        (λ i j. find_is r (frame false s l ∷ way) fuel s (kid W false s) h.right (omega arith) e (down_right W l s r o)
        (rw (filter_append, u, filter_append, no_hits (exact W n key) l (left_none l s r o i j), i)) v))
      where
        -- what is left to show of the search that comes to d
        Ends : ℕ → Type 0
        Ends d = (d ≡ U → filter (equals W key) (slots T) ≡ [] → X) → (Highest W key T d → X) → X

        go : (i j : Bool) → equals W key s ≡ i → toward W key true s ≡ j
            → (equals W key s ≡ false → toward W key true s ≡ true → Ends (find W n key fuel (kid W true s)))
            → (equals W key s ≡ false → toward W key true s ≡ false → Ends (find W n key fuel (kid W false s)))
            → Ends (cond i s (find W n key fuel (kid W j s)))
        go true j i q lft rgt x y = y (record { way = way; left = l; right = r; there = e; equal = i; none_before = u; none_after = v })
        go false true i q lft rgt x y = lft i q x y
        go false false i q lft rgt x y = rgt i q x y
