-- The whole lookup, in the form that `search` takes.
use mathlib.Core.Path.{◌≡◌, refl, sym, ◌∙◌}
use mathlib.Core.Bool.{Bool, true, false, cond, ◌&&◌, ◌||◌, true≢false}
use mathlib.Core.List.{List, [], ◌∷◌}
use Prim.Native.Nat.{ℕ, ◌+◌, ◌-◌, ◌<◌, ◌≤◌}
use native.Mathlib.Omega.{arith}
use lib.ListN.{length}
use lib.Seq.{take-nil}
use lib.Dec.{leb, ltb}
use borrow.Author.Tests.{ltb-true, ltb-false, le-leb, lt-leb, le-ltb, eqb-true, eqb-false}
use Rattle.words.specs.Ix.{link_of, on_link}
use Rattle.words.specs.Nodes.{start, stop, lo, hi, kid}
use Rattle.words.specs.Intervals.{passed, admits}
use Rattle.std.specs.declared.ops.Bound.{Bound}
use Rattle.std.specs.declared.ops.Bound.TheVariants.{Included, Excluded, Unbounded}
use Rattle.words.specs.declared.interval.Interval.{Interval}
use Rattle.words.specs.declared.interval.Span.{Span}
use Rattle.std.specs.declared.option.Option.{Option}
use Rattle.std.specs.declared.option.Option.TheVariants.{Some, None}
use Rattle.words.specs.declared.node.Field.TheVariants.{Start, End, HullStart, HullEnd}
use Rattle.iter.specs.Drains.{filled}
use Rattle.iter.specs.Exact.{exact, find_from}
use Rattle.words.specs.Lists.{filter}
use Rattle.iter.specs.Ranges.{by_rule_lem}
use Rattle.iter.specs.Overlap.{meets}
use Rattle.iter.specs.declared.rules.Query.{Query}
use Rattle.iter.specs.declared.rules.Query.TheVariants.{Overlap, Ruled, Exact}
use Rattle.iter.proofs.Bools.{and_false}
use Rattle.iter.proofs.Small.{Small}
use Rattle.iter.proofs.Laws.{child_there, child_gone}
use Rattle.fast_rule.specs.Fast.{nears, should_enter, narrow, fast_rules, start_at, entering, fast_nodes, fast_hits, fitted}
use Rattle.fast.specs.Numbers.{last, no_end_lem, no_start, least_end_lem, last_start_lem, goes_to, lies_in_lem, between}
use Rattle.fast.specs.Answers.{tally, Found, beyond, Down}
use Rattle.plain.specs.declared.Tally.{Tally}
use Rattle.fast.proofs.Writes.{sets_fitted}
use Rattle.fast.proofs.Rounds.{step}

-- two tests that say the same
same_test : (a b c d : ℕ) → (a < b → c ≤ d) → (b ≤ a → d < c) → ltb a b ≡ leb c d
same_test a b c d f g = go (ltb a b) refl
  where
    go : (t : Bool) → ltb a b ≡ t → t ≡ leb c d
    go true i = sym (le-leb c d (f (ltb-true a b i)))
    go false i = sym (lt-leb c d (g (ltb-false a b i)))

-- a lower bound by its number, and an upper one
passed_is : (b : Bound ℕ) (e : ℕ) → passed b e ≡ leb (least_end_lem b) e
passed_is (Included x) e = same_test x e (x + 1) e (λ h. omega arith) (λ h. omega arith)
passed_is (Excluded x) e = same_test x e (x + 1) e (λ h. omega arith) (λ h. omega arith)
passed_is Unbounded e = sym (le-leb 0 e (omega arith))

admits_is : (b : Bound ℕ) (s : ℕ) → no_start b ≡ false → s < 18446744073709551616 → admits b s ≡ leb s (last_start_lem b)
admits_is (Included y) s h q = refl
admits_is (Excluded y) s h q = same_test s y s (y - 1) (λ i. omega arith) (λ i. omega (arith, eqb-false y 0 h))
admits_is Unbounded s h q = sym (le-leb s last (omega arith))

-- bounds that nothing goes past, or that admit nothing
passed_never : (b : Bound ℕ) (e : ℕ) → no_end_lem b ≡ true → e < 18446744073709551616 → passed b e ≡ false
passed_never (Included x) e h q = le-ltb x e (omega (arith, eqb-true x last h))
passed_never (Excluded x) e h q = le-ltb x e (omega (arith, eqb-true x last h))
passed_never Unbounded e h q = absurd (true≢false (sym h))

admits_never : (b : Bound ℕ) (s : ℕ) → no_start b ≡ true → admits b s ≡ false
admits_never (Included y) s h = absurd (true≢false (sym h))
admits_never (Excluded y) s h = le-ltb s y (omega (arith, eqb-true y 0 h))
admits_never Unbounded s h = absurd (true≢false (sym h))

or_left : (a b : Bool) → a || b ≡ false → a ≡ false
or_left true b e = e
or_left false b e = refl

or_right : (a b : Bool) → a || b ≡ false → b ≡ false
or_right true b e = absurd (true≢false e)
or_right false b e = e

-- the tests that the code made of the two bounds
module _ (lo hi : Bound ℕ) (a b : Bool) (e : a ≡ no_end_lem lo) (f : b ≡ no_start hi) (h : a || b ≡ false) where
  pub has_end : no_end_lem lo ≡ false
  has_end = sym e ∙ or_left a b h

  pub has_start : no_start hi ≡ false
  has_start = sym f ∙ or_right a b h

module _ (W : List ℕ) (small : Small W) (n : ℕ) (q : Span) where
  -- the rules by the two numbers are those by the range
  module _ (h : no_start q.hi ≡ false) where
    near_is : (a : ℕ) → leb (least_end_lem q.lo) (hi W a) && leb (lo W a) (last_start_lem q.hi) ≡ nears W q a
    near_is a = rw (← (passed_is q.lo (hi W a)), ← (admits_is q.hi (lo W a) h (small HullStart a)))

    meets_is : (a : ℕ) → lies_in_lem W (least_end_lem q.lo) (last_start_lem q.hi) a ≡ meets W q a
    unfolding lies_in_lem meets
    meets_is a = rw (← (passed_is q.lo (stop W a)), ← (admits_is q.hi (start W a) h (small Start a)))

    rules_are : between W n (least_end_lem q.lo) (last_start_lem q.hi) ≡ narrow W n q
    unfolding goes_to should_enter
    rules_are = λ i. record { go = λ b s. on_link n (kid W b s) (λ a. near_is a i) false; match = λ s. meets_is s i }

  -- by a range that nothing can meet the root alone is entered, and nothing is found
  module _ (h : no_end_lem q.lo || no_start q.hi ≡ true) where
    never : (e s : ℕ) → e < 18446744073709551616 → passed q.lo e && admits q.hi s ≡ false
    never e s i = go (no_end_lem q.lo) refl h
      where
        go : (t : Bool) → no_end_lem q.lo ≡ t → t || no_start q.hi ≡ true → passed q.lo e && admits q.hi s ≡ false
        go true j k = rw (passed_never q.lo e j i)
        go false j k = rw (admits_never q.hi s k) (and_false (passed q.lo e))

    stays : (b : Bool) (s : ℕ) → should_enter W n q b s ≡ false
    unfolding should_enter on_link
    stays b s = rw (never (hi W (kid W b s)) (lo W (kid W b s)) (small HullEnd (kid W b s))) (go (leb n (kid W b s)))
      where
        go : (t : Bool) → cond t false false ≡ false
        go true = refl
        go false = refl

    void_nodes : (top : ℕ) → entering W (narrow W n q) 32 top ≡ top ∷ []
    unfolding beyond
    void_nodes top = rw (step W (narrow W n q) 32 top (omega arith), stays true top, stays false top)

    void_hits : (top : ℕ) → filter (meets W q) (top ∷ []) ≡ []
    unfolding meets
    void_hits top = rw (never (stop W top) (start W top) (small End top))

-- from where the lookup begins
module _ (W : List ℕ) (n : ℕ) (query : Query) (root w : ℕ) (l : Option ℕ) (e : w ≡ start_at W n query root) (p : l ≡ link_of n w) where
  nodes_none : l ≡ None → fast_nodes W n query root ≡ []
  unfolding fast_nodes
  nodes_none q = sym (child_gone [] n w (start_at W n query root) l (entering W (fast_rules W n query) 32) [] e p q refl)

  nodes_from : (top : ℕ) → l ≡ Some top → fast_nodes W n query root ≡ entering W (fast_rules W n query) 32 top
  unfolding fast_nodes
  nodes_from top q =
      sym (child_there (entering W (fast_rules W n query) 32 top) n w (start_at W n query root) top l (entering W (fast_rules W n query) 32) [] e p q refl)

  none_found : (out : List ℕ) → l ≡ None → Found W n query root (record { hits = 0; entered = 0 }) out out
  unfolding fast_hits filled
  none_found out q = (rw (nodes_none q), rw (nodes_none q, take-nil))

  done_found : (top : ℕ) → l ≡ Some top → (r : Tally) (out new : List ℕ) → Down W (fast_rules W n query) 32 top 0 0 r out new → Found W n query root r out new
  unfolding fast_hits
  done_found top q r out new G =
      let l : List ℕ = entering W (fast_rules W n query) 32 top in
      let i : r.hits ≡ length (filter (fast_rules W n query).match l) = omega (arith, G.found) in
      let j : r.entered ≡ length l = omega (arith, G.seen) in
      rw (nodes_from top q) (λ k. record { hits = i k; entered = j k }, G.written ∙ sets_fitted (filter (fast_rules W n query).match l) out)

-- of a range
module _ (W : List ℕ) (n : ℕ) (q : Span) (root : ℕ) (l : Option ℕ) (p : l ≡ link_of n root) where
  begins : root ≡ start_at W n (Overlap q) root
  unfolding start_at
  begins = refl

  pub overlap_none : (out : List ℕ) → l ≡ None → Found W n (Overlap q) root (record { hits = 0; entered = 0 }) out out
  overlap_none out i = none_found W n (Overlap q) root root l begins p out i

module _ (W : List ℕ) (small : Small W) (n : ℕ) (q : Span) (root : ℕ) (l : Option ℕ) (p : l ≡ link_of n root) (top : ℕ) (i : l ≡ Some top) (a b : Bool)
    (e : a ≡ no_end_lem q.lo) (f : b ≡ no_start q.hi) where
  pub overlap_void : (out : List ℕ) → a || b ≡ true → Found W n (Overlap q) root (record { hits = 0; entered = 1 }) out out
  unfolding fast_hits fast_rules filled
  overlap_void out h =
      let v : no_end_lem q.lo || no_start q.hi ≡ true = rw (← e, ← f) h in
      let x : fast_nodes W n (Overlap q) root ≡ top ∷ [] =
      nodes_from W n (Overlap q) root root l (begins W n q root l p) p top i ∙ void_nodes W small n q v top in
      (rw (x, void_hits W small n q v top), rw (x, void_hits W small n q v top, take-nil))

  pub overlap_done : (low high : ℕ) (r : Tally) (out new : List ℕ) → a || b ≡ false → low ≡ least_end_lem q.lo → high ≡ last_start_lem q.hi
      → Down W (between W n low high) 32 top 0 0 r out new → Found W n (Overlap q) root r out new
  unfolding fast_rules
  overlap_done low high r out new h j k G =
      done_found W n (Overlap q) root root l (begins W n q root l p) p top i r out new
      (rw (j, k, rules_are W small n q (has_start q.lo q.hi a b e f h)) at G)

-- of an interval
module _ (W : List ℕ) (n : ℕ) (x : Interval) (root w : ℕ) (l : Option ℕ) (e : w ≡ find_from W n x root) (p : l ≡ link_of n w) where
  finds : w ≡ start_at W n (Exact x) root
  unfolding start_at
  finds = e

  pub exact_none : (out : List ℕ) → l ≡ None → Found W n (Exact x) root (record { hits = 0; entered = 0 }) out out
  exact_none out i = none_found W n (Exact x) root w l finds p out i

  pub exact_done : (top : ℕ) (r : Tally) (out new : List ℕ) → l ≡ Some top → Down W (exact W n (record { start = x.start; end = x.end })) 32 top 0 0 r out new
      → Found W n (Exact x) root r out new
  unfolding fast_rules
  exact_done top r out new i G = done_found W n (Exact x) root w l finds p top i r out new G

-- of either
module _ (W : List ℕ) (n : ℕ) (query one : Query) (root : ℕ) (r : Tally) (out new : List ℕ) (e : query ≡ one) (h : Found W n one root r out new) where
  pub either_is : r ≡ tally W n query root
  either_is = rw e h.0

  pub either_out : new ≡ fitted (fast_hits W n query root) out
  either_out = rw e h.1

-- of a range by the rule of a number
module _ (W : List ℕ) (n k : ℕ) (query : Query) (q p : Span) (root : ℕ) (r : Tally) (out new : List ℕ) (e : query ≡ Ruled k q) (f : p ≡ by_rule_lem k q)
    (h : Found W n (Overlap p) root r out new) where
  pub ruled_is : r ≡ tally W n query root
  unfolding fast_nodes fast_hits fast_rules start_at
  ruled_is = rw e (rw f at h).0

  pub ruled_out : new ≡ fitted (fast_hits W n query root) out
  unfolding fast_nodes fast_hits fast_rules start_at
  ruled_out = rw e (rw f at h).1
