-- A range as plain numbers asks for the same entries.
use mathlib.Core.Path.{◌≡◌, refl, sym, ap, fun_ext, ◌∙◌}
use mathlib.Core.Bool.{Bool, true, false, cond, ◌||◌}
use mathlib.Core.List.{List}
use Prim.Native.Nat.{ℕ, ◌+◌, ◌≤◌}
use native.Mathlib.Omega.{arith}
use lib.Dec.{eqb, leb, ltb}
use borrow.Author.Tests.{le-leb, le-ltb, lt-ltb, leb-true, leb-false}
use Rattle.words.specs.Ix.{on_link}
use Rattle.words.specs.Nodes.{start, lo, hi, kid, interval}
use Rattle.words.specs.Intervals.{passed, reached, admits}
use Rattle.std.specs.declared.ops.Bound.{Bound}
use Rattle.std.specs.declared.ops.Bound.TheVariants.{Included, Excluded, Unbounded}
use Rattle.words.specs.declared.interval.Interval.{Interval}
use Rattle.words.specs.declared.interval.Span.{Span}
use Rattle.words.specs.declared.node.Field.TheVariants.{Start, HullStart}
use Rattle.iter.specs.Walk.{Rules}
use Rattle.iter.specs.Overlap.{should_go, meets, pruned}
use Rattle.iter.specs.Queries.{rules}
use Rattle.iter.specs.Ranges.{last, after, whole_from_lem, by_rule_lem}
use Rattle.iter.specs.Limits.{low_of, is_below_lem, top_of, is_above_lem, lower, upper, limits_of, span_of, entries_of, limited, tests_of, tested}
use Rattle.iter.specs.Drains.{drain, filled}
use Rattle.iter.specs.Answers.{summary}
use Rattle.iter.specs.declared.Cursor.{Cursor}
use Rattle.iter.specs.declared.drain.Drained.{Drained}
use Rattle.iter.specs.declared.rules.Query.{Query}
use Rattle.iter.specs.declared.rules.Query.TheVariants.{Overlap, Ruled, Exact}
use Rattle.iter.specs.declared.rules.Tests.{Tests}
use Rattle.iter.specs.declared.rules.Tests.TheVariants.{Within, Equal}
use Rattle.iter.specs.declared.limits.Limits.{Limits}
use Rattle.iter.proofs.Small.{Small}

-- a comparison, or no bound
or_true : (a : Bool) → a || true ≡ true
or_true true = refl
or_true false = refl

or_false : (a : Bool) → a || false ≡ a
or_false true = refl
or_false false = refl

pub passed_by_lem : (x e : ℕ) (none : Bool) → (ltb x e || none) ≡ passed (lower x none) e
passed_by_lem x e true = or_true (ltb x e)
passed_by_lem x e false = or_false (ltb x e)

pub reached_by_lem : (x e : ℕ) (none : Bool) → (leb x e || none) ≡ reached (lower x none) e
reached_by_lem x e true = or_true (leb x e)
reached_by_lem x e false = or_false (leb x e)

pub admits_start_lem : (x s : ℕ) (none : Bool) → (ltb s x || none) ≡ admits (upper x none) s
admits_start_lem x s true = or_true (ltb s x)
admits_start_lem x s false = or_false (ltb s x)

pub above_at : (x : ℕ) (b : Bound ℕ) → b ≡ Included x → leb last x ≡ is_above_lem b
above_at x b e = rw e

pub top_at : (x r : ℕ) (b : Bound ℕ) → b ≡ Included x → r ≡ after x → r ≡ top_of b
top_at x r b e p = rw e p

pub tests_within : (q : Query) (x : Span) (l : Limits) → q ≡ Overlap x → l ≡ limits_of x x → Within l ≡ tests_of q
tests_within q x l e p = rw (e, p)

pub tests_ruled : (q : Query) (k : ℕ) (x y : Span) (l : Limits) → q ≡ Ruled k x → y ≡ by_rule_lem k x → l ≡ limits_of x y → Within l ≡ tests_of q
tests_ruled q k x y l e f p = rw (e, p, f)

pub tests_equal : (q : Query) (x : Interval) → q ≡ Exact x → Equal x ≡ tests_of q
tests_equal q x e = rw e

-- the numbers of a bound say what the bound says
reached_same : (b : Bound ℕ) (e : ℕ) → reached (lower (low_of b) (is_below_lem b)) e ≡ reached b e
reached_same (Included x) e = refl
reached_same (Excluded x) e = refl
reached_same Unbounded e = refl

passed_same : (b : Bound ℕ) (e : ℕ) → passed (lower (low_of b) (is_below_lem b)) e ≡ passed b e
passed_same (Included x) e = refl
passed_same (Excluded x) e = refl
passed_same Unbounded e = refl

admits_same : (b : Bound ℕ) (s : ℕ) → s ≤ last → admits (upper (top_of b) (is_above_lem b)) s ≡ admits b s
admits_same (Included x) s h = go (leb last x) refl
  where
    next : (t : Bool) → leb s x ≡ t → ltb s (x + 1) ≡ t
    next true i = lt-ltb s (x + 1) (omega (arith, leb-true s x i))
    next false i = le-ltb s (x + 1) (omega (arith, leb-false s x i))

    go : (t : Bool) → leb last x ≡ t → admits (upper (after x) t) s ≡ leb s x
    go true i = sym (le-leb s x (omega (arith, leb-true last x i)))
    go false i = rw (lt-ltb x last (leb-false last x i)) (next (leb s x) refl)
admits_same (Excluded x) s h = refl
admits_same Unbounded s h = refl

module _ (W : List ℕ) (small : Small W) where
  lo_low : (s : ℕ) → lo W s ≤ last
  lo_low s = omega (arith, small HullStart s)

  start_low : (s : ℕ) → start W s ≤ last
  start_low s = omega (arith, small Start s)

  go_same : (n : ℕ) (q p : Span) (b : Bool) (s : ℕ) → should_go W n (span_of (limits_of q p)) b s ≡ should_go W n q b s
  unfolding should_go
  go_same n q p true s = ap (λ (f : ℕ → Bool). on_link n (kid W true s) f false) (fun_ext (λ a. reached_same q.lo (hi W a)))
  go_same n q p false s = ap (λ (f : ℕ → Bool). on_link n (kid W false s) f false) (fun_ext (λ a. admits_same q.hi (lo W a) (lo_low a)))

  -- the entries of a range p with the upper bound of q, and a lower bound if q has one
  module _ (q p : Span) (hi : p.hi ≡ q.hi) (below : is_below_lem p.lo ≡ is_below_lem q.lo) where
    match_same : (s : ℕ) → meets W (entries_of (limits_of q p)) s ≡ meets W p s
    unfolding meets
    match_same s =
        rw (← below, ← hi) (rw (passed_same p.lo (interval W s).end, admits_same p.hi (interval W s).start (start_low s)))

    limited_same : (n : ℕ) → limited W n (limits_of q p) ≡ pruned W n q p
    limited_same n =
        let g : should_go W n (span_of (limits_of q p)) ≡ should_go W n q = fun_ext (λ b. fun_ext (λ s. go_same n q p b s)) in
        let m : meets W (entries_of (limits_of q p)) ≡ meets W p = fun_ext match_same in
        rw (g, m)

  rules_same : (n : ℕ) (q : Query) → tested W n (tests_of q) ≡ rules W n q
  unfolding rules tested
  rules_same n (Overlap q) = limited_same q q refl refl n
  rules_same n (Ruled k q) = limited_same q (by_rule_lem k q) refl (below (eqb k 2) q.lo) n
    where
      below : (t : Bool) (b : Bound ℕ) → is_below_lem (cond t (whole_from_lem b) b) ≡ is_below_lem b
      below true (Included x) = refl
      below true (Excluded x) = refl
      below true Unbounded = refl
      below false b = refl
  rules_same n (Exact x) = refl

  -- a drain by the numbers
  module _ (n : ℕ) (q : Query) (t : Tests) (e : t ≡ tests_of q) (l : ℕ) (c : Cursor) where
    tested_same : tested W n t ≡ rules W n q
    tested_same = rw e (rules_same n q)

    pub drain_same : (r : Drained) → r ≡ summary (drain W n (tested W n t) l c) → r ≡ summary (drain W n (rules W n q) l c)
    drain_same r p = p ∙ ap (λ (Q : Rules). summary (drain W n Q l c)) tested_same

    pub filled_same : (new out : List ℕ) → new ≡ filled (drain W n (tested W n t) l c).slots out → new ≡ filled (drain W n (rules W n q) l c).slots out
    filled_same new out p = p ∙ ap (λ (Q : Rules). filled (drain W n Q l c).slots out) tested_same
