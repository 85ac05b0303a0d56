-- The search by one way down finds the first entry that intersects, on every store that passes the
-- check. If an entry goes past the lower bound and the upper bound does not admit it, then the
-- upper bound admits no entry after it.
use mathlib.Core.Path.{◌≡◌, refl, sym, ◌∙◌}
use mathlib.Core.Bool.{Bool, true, false, cond, not, ◌&&◌, false≢true}
use mathlib.Core.List.{List, [], ◌∷◌, ◌++◌}
use Prim.Native.Nat.{ℕ, zero, suc, ◌<◌, ◌≤◌}
use native.Mathlib.Omega.{arith}
use lib.Dec.{ltb}
use lib.ListN.{length, take}
use borrow.Author.Tests.{lt-ltb, le-ltb, ltb-false, lt-leb, le-leb}
use Rattle.words.specs.Ix.{U, on_link}
use Rattle.words.specs.Nodes.{start, stop, hi, kid, interval}
use Rattle.words.specs.Intervals.{passed, admits, intersects}
use Rattle.words.specs.Lists.{filter}
use Rattle.std.specs.declared.ops.Bound.{Bound}
use Rattle.std.specs.declared.ops.Bound.TheVariants.{Included, Excluded, Unbounded}
use Rattle.words.specs.declared.interval.Span.{Span}
use Rattle.words.proofs.Lists.{filter_append}
use Rattle.tree.specs.Tree.{Tree, leaf, node, slots, occ, times, height, Shape}
use Rattle.tree.specs.Order.{RisingAt}
use Rattle.tree.specs.Hulls.{Hulls}
use Rattle.tree.specs.Passes.{Passes}
use Rattle.tree.proofs.Slots.{hit_same, hit_cases, times_slots}
use Rattle.tree.proofs.Orders.{rising_at}
use Rattle.tree.proofs.Hulls.{most_at}
use Rattle.tree.proofs.Checked.{slot_live, tree_low}
use Rattle.iter.specs.Cursors.{fresh}
use Rattle.iter.specs.Drains.{drain}
use Rattle.iter.specs.Lists.{first_or}
use Rattle.iter.specs.Overlap.{meets, overlap}
use Rattle.iter.specs.Walk.{Rules, step}
use Rattle.iter.proofs.Bools.{and_false}
use Rattle.iter_laws.proofs.Bounds.{admits_not}
use Rattle.iter_laws.proofs.OverlapRuns.{overlap_step, overlap_first}
use Rattle.iter_laws.proofs.Trees.{no_hits}
use Rattle.iter_laws.proofs.Within.{within}
use Rattle.first_rule.specs.Way.{way_end}
use Rattle.first_rule.specs.First.{past, past_way, first_past_lem, first_met_lem, first_in, first_nodes}
use Rattle.first_rule.proofs.Ways.{way_low}

-- if the test q picks one of a list, then the first that it picks is first of whatever follows too
first_append : (q : ℕ → Bool) (b d : ℕ) (l m : List ℕ) → 0 < times b l → q b ≡ true → first_or d (filter q l ++ m) ≡ first_or d (filter q l)
first_append q b d [] m o i = absurd (omega arith)
first_append q b d (a ∷ l) m o i = hit_cases b a (λ e. rw (← e, i) refl) (λ z. go (q a) (first_append q b d l m (omega arith) i))
  where
    go : (t : Bool) → first_or d (filter q l ++ m) ≡ first_or d (filter q l)
        → first_or d (cond t (a ∷ filter q l) (filter q l) ++ m) ≡ first_or d (cond t (a ∷ filter q l) (filter q l))
    go true h = refl
    go false h = h

-- a test p that holds of all greater ends too
module _ (p : ℕ → Bool) (up : (a b : ℕ) → a ≤ b → p b ≡ false → p a ≡ false) (W : List ℕ) (n : ℕ) (small : n ≤ 65535) where
  abbrev goes_past : ℕ → Bool
  goes_past s = p (stop W s)

  abbrev Q : Rules
  Q = record { go = λ b s. false; match = goes_past }

  past_none : (k : ℕ) → k ≡ U → past p W n k ≡ false
  unfolding past on_link
  past_none k e = rw (e, le-leb n U (omega arith))

  past_slot : (k s : ℕ) → k ≡ s → s < n → past p W n k ≡ p (hi W s)
  unfolding past on_link
  past_slot k s e h = rw (e, lt-leb n s h)

  -- what the test of a link says of the tree behind it
  none : (q k : ℕ) (t : Tree) → Shape W n q k t → Hulls W t → past p W n k ≡ false → filter goes_past (slots t) ≡ []
  none q k leaf h u e = refl
  none q k (node l s r) h u e =
      no_hits Q (node l s r) (λ a o. up (stop W a) (hi W s) (within W l s r a u o).1 (sym (past_slot k s h.here h.live) ∙ e))

  some : {X : Type 0} (q k : ℕ) (t : Tree) → Shape W n q k t → Hulls W t → past p W n k ≡ true
      → ((b : ℕ) → 0 < occ b t → goes_past b ≡ true → X) → X
  some q k leaf h u e x = absurd (false≢true (sym (past_none k h) ∙ e))
  some q k (node l s r) h u e x =
      let i : p (hi W s) ≡ true = sym (past_slot k s h.here h.live) ∙ e in
      most_at (stop W) (node l s r) (stop W s)
      (λ f. x s (omega (arith, hit_same s)) (rw (u.high ∙ f) at i))
      (λ a o f. x a o (rw (u.high ∙ sym f) at i))

  pub first_past : (f q k : ℕ) (t : Tree) → Shape W n q k t → Hulls W t → height t ≤ f
      → first_past_lem p W n f k ≡ first_or U (filter (λ s. p (stop W s)) (slots t))
  unfolding first_past_lem way_end
  first_past zero q k leaf h u m = refl
  first_past zero q k (node l s r) h u m = absurd (omega arith)
  first_past (suc f) q k leaf h u m = rw (h, le-ltb U n (omega arith))
  first_past (suc f) q k (node l s r) h u m =
      rw (h.here, lt-ltb s n h.live, filter_append goes_past (slots l) (s ∷ slots r))
      (go (past p W n (kid W true s)) (p (stop W s)) refl
      (first_past f s (kid W true s) l h.left u.left (omega arith)) (first_past f s (kid W false s) r h.right u.right (omega arith)))
    where
      go : (i j : Bool) → past p W n (kid W true s) ≡ i
          → way_end (past_way p W n) W n f (kid W true s) ≡ first_or U (filter goes_past (slots l))
          → way_end (past_way p W n) W n f (kid W false s) ≡ first_or U (filter goes_past (slots r))
          → cond (not i && j) s (way_end (past_way p W n) W n f (kid W i s))
          ≡ first_or U (filter goes_past (slots l) ++ cond j (s ∷ filter goes_past (slots r)) (filter goes_past (slots r)))
      go true j e a b =
          some s (kid W true s) l h.left u.left e (λ c o i.
          a ∙ sym (first_append goes_past c U (slots l) (cond j (s ∷ filter goes_past (slots r)) (filter goes_past (slots r))) (rw times_slots o) i))
      go false true e a b = rw (none s (kid W true s) l h.left u.left e) refl
      go false false e a b = rw (none s (kid W true s) l h.left u.left e) b

  -- and a test m that holds of all lesser starts too
  module _ (m : ℕ → Bool) (down : (a b : ℕ) → a ≤ b → m a ≡ false → m b ≡ false) where
    abbrev both : ℕ → Bool
    both s = p (stop W s) && m (start W s)

    none_after : (a : ℕ) (l : List ℕ) → m (start W a) ≡ false → ((b : ℕ) → 0 < times b l → start W a ≤ start W b) → filter both l ≡ []
    none_after a [] e f = refl
    none_after a (b ∷ l) e f =
        rw (down (start W a) (start W b) (f b (omega (arith, hit_same b))) e, and_false (p (stop W b)))
        (none_after a l e (λ c o. f c (omega arith)))

    met_row : (l : List ℕ) → RisingAt W l → ((a : ℕ) → 0 < times a l → a < n)
        → cond (ltb (first_or U (filter goes_past l)) n && m (start W (first_or U (filter goes_past l)))) (first_or U (filter goes_past l)) U
        ≡ first_or U (filter both l)
    met_row [] h live = rw (le-ltb U n (omega arith)) refl
    met_row (a ∷ l) h live = go (p (stop W a)) (m (start W a)) refl (met_row l h.1 (λ b o. live b (omega arith)))
      where
        go : (i j : Bool) → m (start W a) ≡ j
            → cond (ltb (first_or U (filter goes_past l)) n && m (start W (first_or U (filter goes_past l)))) (first_or U (filter goes_past l)) U
            ≡ first_or U (filter both l)
            → cond (ltb (first_or U (cond i (a ∷ filter goes_past l) (filter goes_past l))) n && m (start W (first_or U (cond i (a ∷ filter goes_past l) (filter goes_past l)))))
            (first_or U (cond i (a ∷ filter goes_past l) (filter goes_past l))) U
            ≡ first_or U (cond (i && j) (a ∷ filter both l) (filter both l))
        go true true e r = rw (lt-ltb a n (live a (omega (arith, hit_same a))), e) refl
        go true false e r =
            rw (
              lt-ltb a n (live a (omega (arith, hit_same a))),
              e,
              none_after a l e (λ b o. (rising_at W a b (a ∷ []) l h (omega (arith, hit_same a)) o).starts),
            ) refl
        go false j e r = r

    pub first_met_law : (C : List ℕ) (r : ℕ) (P : Passes W C n r)
        → first_met_lem p m W n r ≡ first_or U (filter (λ s. p (stop W s) && m (start W s)) (slots P.tree))
    unfolding first_met_lem
    first_met_law C r P =
        rw (first_past 32 U r P.tree P.shape P.hulls (tree_low W C n r P small))
        (met_row (slots P.tree) P.rising (λ a o. slot_live W C n r P a (rw times_slots at o)))

-- a bound that a lesser end goes past, a greater end goes past too
passed_later : (x : Bound ℕ) (a b : ℕ) → a ≤ b → passed x b ≡ false → passed x a ≡ false
passed_later (Included x) a b h e = le-ltb x a (omega (arith, ltb-false x b e))
passed_later (Excluded x) a b h e = le-ltb x a (omega (arith, ltb-false x b e))
passed_later Unbounded a b h e = e

first_take : (d limit : ℕ) (l : List ℕ) → 0 < limit → first_or d (take limit l) ≡ first_or d l
first_take d zero l h = absurd (omega arith)
first_take d (suc limit) [] h = refl
first_take d (suc limit) (a ∷ l) h = refl

-- the first that a test picks passes it; and if it names none of the list, the test picks none
first_is : (p : ℕ → Bool) (l : List ℕ) → first_or U (filter p l) < U → p (first_or U (filter p l)) ≡ true
first_is p [] h = absurd (omega arith)
first_is p (a ∷ l) h = go (p a) refl h (first_is p l)
  where
    go : (t : Bool) → p a ≡ t → first_or U (cond t (a ∷ filter p l) (filter p l)) < U
        → (first_or U (filter p l) < U → p (first_or U (filter p l)) ≡ true) → p (first_or U (cond t (a ∷ filter p l) (filter p l))) ≡ true
    go true e q rec = e
    go false e q rec = rec q

none_is : (p : ℕ → Bool) (n : ℕ) (l : List ℕ) → ((a : ℕ) → 0 < times a l → a < n) → n ≤ first_or U (filter p l)
    → (a : ℕ) → 0 < times a l → p a ≡ false
none_is p n [] live h a o = absurd (omega arith)
none_is p n (b ∷ l) live h a o = go (p b) refl h (none_is p n l (λ c i. live c (omega arith)))
  where
    go : (t : Bool) → p b ≡ t → n ≤ first_or U (cond t (b ∷ filter p l) (filter p l))
        → (n ≤ first_or U (filter p l) → (c : ℕ) → 0 < times c l → p c ≡ false) → p a ≡ false
    go true e q rec = absurd (omega (arith, live b (omega (arith, hit_same b))))
    go false e q rec = hit_cases a b (λ i. rw i e) (λ z. rec q a (omega (arith, o)))

module _ (W C : List ℕ) (n r : ℕ) (small : n ≤ 65535) (P : Passes W C n r) (q : Span) where
  -- the first entry in tree order that intersects the range, U if there is none
  pub first_in_lem : first_in q W n r ≡ first_or U (filter (meets W q) (slots P.tree))
  unfolding first_in meets
  first_in_lem = first_met_law (passed q.lo) (passed_later q.lo) W n small (admits q.hi) (admits_not q.hi) C r P

  -- so it is the slot of a step from the fresh cursor, and the first of a drain's with any limit
  pub first_step : first_in q W n r ≡ (step W n (overlap W n q) (fresh r)).slot
  first_step = first_in_lem ∙ sym (overlap_step W C n r 1 q small P)

  pub first_drain : (limit : ℕ) → 0 < limit → first_in q W n r ≡ first_or U (drain W n (overlap W n q) limit (fresh r)).slots
  first_drain limit h = rw (overlap_first W C n r 1 q small P limit, first_take U limit (filter (meets W q) (slots P.tree)) h) first_in_lem

  -- if it names a slot, that entry intersects the range; if it names none, no entry does
  pub first_some : first_in q W n r < n → intersects q (interval W (first_in q W n r)) ≡ true
  unfolding meets
  first_some h = rw first_in_lem (first_is (meets W q) (slots P.tree) (omega (arith, first_in_lem)))

  pub first_none : n ≤ first_in q W n r → (a : ℕ) → a < n → intersects q (interval W a) ≡ false
  unfolding meets
  first_none h a i =
      none_is (meets W q) n (slots P.tree) (λ b o. slot_live W C n r P b (rw times_slots at o)) (rw first_in_lem at h) a
      (omega (arith, times_slots a P.tree, P.once a i))

  -- the search visits at most as many nodes as the tree is high
  pub first_low : length (first_nodes q W n r) ≤ height P.tree
  unfolding first_nodes
  first_low = way_low (past_way (passed q.lo) W n) W n small 32 U r P.tree P.shape
