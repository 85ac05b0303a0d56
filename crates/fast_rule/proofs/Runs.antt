-- On a store that passes the check the fast lookup finds what a drain from the fresh cursor finds,
-- and the nodes that it enters are among those that the drain enters.
use mathlib.Core.Path.{◌≡◌, refl, sym, ap, ◌∙◌}
use mathlib.Core.Bool.{Bool, true}
use mathlib.Core.List.{List}
use Prim.Native.Nat.{ℕ, ◌<◌, ◌≤◌}
use native.Mathlib.Omega.{arith}
use lib.ListN.{length}
use Rattle.words.specs.Ix.{U}
use Rattle.words.specs.Nodes.{par}
use Rattle.words.specs.declared.interval.Span.{Span}
use Rattle.words.specs.declared.interval.Interval.{Interval}
use Rattle.tree.specs.Tree.{Tree, leaf, slots, times, occ}
use Rattle.tree.specs.Passes.{Passes}
use Rattle.tree.proofs.Slots.{occ_plug}
use Rattle.tree.proofs.Checked.{tree_low, slot_once}
use Rattle.iter.specs.Cursors.{ended, fresh}
use Rattle.iter.specs.Drains.{drain, calls}
use Rattle.iter.specs.Exact.{equals, exact, find_from}
use Rattle.words.specs.Lists.{filter}
use Rattle.iter.specs.Ranges.{by_rule_lem}
use Rattle.iter.specs.Overlap.{meets}
use Rattle.iter.specs.Queries.{rules}
use Rattle.iter.specs.declared.rules.Query.{Query}
use Rattle.iter.specs.declared.rules.Query.TheVariants.{Overlap, Ruled, Exact}
use Rattle.iter_laws.specs.Entered.{overlap_rule, exact_rule, entered}
use Rattle.iter_laws.proofs.Script.{visits}
use Rattle.iter_laws.proofs.Walks.{Walk, visits_are}
use Rattle.iter_laws.proofs.Fresh.{fresh_run, fresh_nodes}
use Rattle.iter_laws.proofs.Overlaps.{overlap_walk}
use Rattle.iter_laws.proofs.ExactRuns.{exact_start, below, all_below, walk_below, walk_none}
use Rattle.fast_rule.specs.Fast.{narrow, fast_rules, start_at, fast_nodes, fast_hits}
use Rattle.fast_rule.proofs.Trees.{in_order_lem, entering_tree, hits_all, times_most, among, number}
use Rattle.fast_rule.proofs.Narrow.{narrow_linked, narrow_fair, narrow_less, ruled_goes}

-- the tree t that both lookups go through: the pruned one by its walk, with the entered rule E
record Both (W : List ℕ) (n r : ℕ) (query : Query) (all : List ℕ) : Type 0 where
  E : Bool → ℕ → ℕ → Bool
  p : ℕ
  t : Tree
  walk : Walk W n (rules W n query) E p (start_at W n query r) t
  found : filter (rules W n query).match (slots t) ≡ all
  nodes : fast_nodes W n query r ≡ in_order_lem (fast_rules W n query) t
  hits : fast_hits W n query r ≡ all
  less : (b : Bool) (s : ℕ) → (fast_rules W n query).go b s ≡ true → (rules W n query).go b s ≡ true
  once : (a : ℕ) → occ a t ≤ 1

module _ (W C : List ℕ) (n r : ℕ) (small : n ≤ 65535) (P : Passes W C n r) where
  -- the slots whose entries a query asks for, in tree order
  abbrev pub asked : Query → List ℕ
  asked query = filter (rules W n query).match (slots P.tree)

  ruled_both : (k : ℕ) (q : Span) → Both W n r (Ruled k q) (asked (Ruled k q))
  unfolding fast_nodes fast_hits fast_rules start_at rules
  ruled_both k q =
      let e = entering_tree W n (narrow W n (by_rule_lem k q)) small (narrow_linked W n (by_rule_lem k q)) P.tree 32 U r P.shape (tree_low W C n r P small) in
      record {
        E = overlap_rule W q;
        p = U;
        t = P.tree;
        walk = overlap_walk W C n r k q small P;
        found = refl;
        nodes = e;
        hits = rw e (hits_all (narrow W n (by_rule_lem k q)) P.tree (narrow_fair W n (by_rule_lem k q) U r P.tree P.shape P.hulls));
        less = λ b s h. ruled_goes W n k q b s (narrow_less W n (by_rule_lem k q) b s h);
        once = slot_once W C n r P;
      }

  exact_both : (x : Interval) → Both W n r (Exact x) (asked (Exact x))
  unfolding fast_nodes fast_hits fast_rules start_at rules
  exact_both x =
      exact_start W C n r x small P
      (λ e i. go U leaf (walk_none W C n r x small P (find_from W n x r) e) (sym i) (λ a. omega arith))
      (λ H.
      let k : ℕ = find_from W n x r in
      let t : Tree = below W C n r x small P k H in
      go (par W k) t (walk_below W C n r x small P k H) (all_below W C n r x small P k H)
      (λ a. omega (arith, slot_once W C n r P a, ap (occ a) H.there, occ_plug a H.way t)))
    where
      go : (p : ℕ) (t : Tree) → Walk W n (exact W n x) (exact_rule W x) p (find_from W n x r) t
          → filter (equals W x) (slots t) ≡ filter (equals W x) (slots P.tree) → ((a : ℕ) → occ a t ≤ 1) → Both W n r (Exact x) (asked (Exact x))
      go p t w i o =
          let e = entering_tree W n (exact W n x) small w.linked t 32 p (find_from W n x r) w.shape w.low in
          record {
            E = exact_rule W x;
            p = p;
            t = t;
            walk = w;
            found = i;
            nodes = e;
            hits = rw e (hits_all (exact W n x) t w.fair ∙ i);
            less = λ b s h. h;
            once = o;
          }

  both : (query : Query) → Both W n r query (asked query)
  unfolding fast_nodes fast_hits fast_rules start_at rules
  both (Overlap q) = let B = ruled_both 1 q in record { E = B.E; p = B.p; t = B.t; walk = B.walk; found = B.found; nodes = B.nodes; hits = B.hits; less = B.less; once = B.once }
  both (Ruled k q) = ruled_both k q
  both (Exact x) = exact_both x

  -- the hits are exactly the slots whose entries intersect the range, or equal the interval, in
  -- tree order
  pub fast_overlap : (q : Span) → fast_hits W n (Overlap q) r ≡ filter (meets W q) (slots P.tree)
  unfolding rules
  fast_overlap q = (both (Overlap q)).hits

  pub fast_ruled : (k : ℕ) (q : Span) → fast_hits W n (Ruled k q) r ≡ filter (meets W (by_rule_lem k q)) (slots P.tree)
  unfolding rules
  fast_ruled k q = (both (Ruled k q)).hits

  pub fast_exact : (x : Interval) → fast_hits W n (Exact x) r ≡ filter (equals W x) (slots P.tree)
  unfolding rules
  fast_exact x = (both (Exact x)).hits

  -- no node is entered twice
  pub fast_once : (query : Query) (s : ℕ) → times s (fast_nodes W n query r) ≤ 1
  fast_once query s = rw (both query).nodes (omega (arith, times_most (fast_rules W n query) s (both query).t, (both query).once s))

  -- beside a drain from the fresh cursor, run to its end
  module _ (query : Query) (limit : ℕ) (enough : length (fast_hits W n query r) < limit) where
    B : Both W n r query (asked query)
    B = both query

    enough_for : length (filter (rules W n query).match (slots B.t)) < limit
    enough_for = rw B.found (rw B.hits at enough)

    visited : visits (rules W n query) B.t ≡ entered B.E B.t
    visited = visits_are W n (rules W n query) B.E B.walk.rule B.p (start_at W n query r) B.t B.walk.shape

    -- it finds the same
    pub fast_agrees : ((drain W n (rules W n query) limit (fresh (start_at W n query r))).slots ≡ fast_hits W n query r)
        × ((drain W n (rules W n query) limit (fresh (start_at W n query r))).next ≡ ended)
    fast_agrees =
        rw (fresh_run W n (rules W n query) B.E B.p (start_at W n query r) B.t B.walk limit enough_for) (B.found ∙ sym B.hits, refl)

    -- each node that it enters the drain enters too
    pub fast_among : (s : ℕ) → times s (fast_nodes W n query r) ≤ times s (calls W n (rules W n query) limit (fresh (start_at W n query r)))
    fast_among s =
        rw (
          B.nodes,
          fresh_nodes W n (rules W n query) B.E B.p (start_at W n query r) B.t B.walk limit enough_for,
          ← visited,
        )
        (among (fast_rules W n query) (rules W n query) B.less B.t s)

    -- so it enters no more
    pub fast_entered : length (fast_nodes W n query r) ≤ (drain W n (rules W n query) limit (fresh (start_at W n query r))).entered
    fast_entered =
        rw (
          B.nodes,
          fresh_run W n (rules W n query) B.E B.p (start_at W n query r) B.t B.walk limit enough_for,
          ← visited,
        )
        (number (fast_rules W n query) (rules W n query) B.less B.t)
