-- The rules of the fast overlap lookup, on a tree: testing both ends of a hull loses no hit, and
-- enters no node that testing one end does not.
use mathlib.Core.Path.{◌≡◌, refl, sym, ◌∙◌}
use mathlib.Core.Bool.{Bool, true, false, cond, false≢true}
use mathlib.Core.List.{List}
use Prim.Native.Nat.{ℕ, ◌≤◌}
use native.Mathlib.Omega.{arith}
use lib.Dec.{eqb, leb}
use borrow.Author.Tests.{ltb-true, lt-ltb, le-leb}
use Rattle.words.specs.Ix.{on_link}
use Rattle.words.specs.Nodes.{start, stop, lo, hi, kid}
use Rattle.words.specs.Intervals.{passed, reached, admits}
use Rattle.std.specs.declared.ops.Bound.{Bound}
use Rattle.std.specs.declared.ops.Bound.TheVariants.{Included, Excluded, Unbounded}
use Rattle.words.specs.declared.interval.Span.{Span}
use Rattle.tree.specs.Tree.{Tree, leaf, node, Shape}
use Rattle.tree.specs.Hulls.{Hulls}
use Rattle.tree_edit.proofs.Links.{on_slot}
use Rattle.iter.specs.Ranges.{whole_from_lem, by_rule_lem}
use Rattle.iter.specs.Overlap.{meets, should_go}
use Rattle.iter.proofs.Bools.{and_left, and_right}
use Rattle.iter_laws.proofs.Script.{Linked, Fairs, Empty}
use Rattle.iter_laws.proofs.Walks.{links}
use Rattle.iter_laws.proofs.Bounds.{admits_before, whole_reached}
use Rattle.iter_laws.proofs.Within.{within}
use Rattle.fast_rule.specs.Fast.{nears, should_enter, narrow}

passed_later : (x : Bound ℕ) (a b : ℕ) → a ≤ b → passed x a ≡ true → passed x b ≡ true
passed_later (Included x) a b h e = lt-ltb x b (omega (arith, ltb-true x a e))
passed_later (Excluded x) a b h e = lt-ltb x b (omega (arith, ltb-true x a e))
passed_later Unbounded a b h e = refl

passed_reached : (x : Bound ℕ) (a : ℕ) → passed x a ≡ true → reached x a ≡ true
passed_reached (Included x) a e = le-leb x a (omega (arith, ltb-true x a e))
passed_reached (Excluded x) a e = le-leb x a (omega (arith, ltb-true x a e))
passed_reached Unbounded a e = refl

module _ (W : List ℕ) (n : ℕ) (q : Span) where
  pub narrow_linked : Linked W n (narrow W n q)
  unfolding should_enter
  narrow_linked = links W n (narrow W n q) (λ b s. nears W q) (λ b s. refl)

  -- an entry that intersects the range makes each hull near that it lies in
  near_of : (a k : ℕ) → lo W k ≤ start W a → stop W a ≤ hi W k → meets W q a ≡ true → nears W q k ≡ true
  unfolding meets
  near_of a k i j e =
      rw (
        passed_later q.lo (stop W a) (hi W k) j (and_left (passed q.lo (stop W a)) (admits q.hi (start W a)) e),
        admits_before q.hi (lo W k) (start W a) i (and_right (passed q.lo (stop W a)) (admits q.hi (start W a)) e),
      )

  -- so a subtree that is not entered has none
  none : (b : Bool) (s : ℕ) (t : Tree) → Shape W n s (kid W b s) t → Hulls W t → should_enter W n q b s ≡ false → Empty (narrow W n q) t
  unfolding should_enter
  none b s leaf h u e a o = absurd (omega arith)
  none b s (node l k r) h u e a o = go (meets W q a) refl
    where
      far : nears W q k ≡ false
      far = rw (← h.here) (sym (on_slot n (kid W b s) (rw h.here h.live) (nears W q) false) ∙ e)

      go : (m : Bool) → meets W q a ≡ m → m ≡ false
      go false i = refl
      go true i = absurd (false≢true (sym far ∙ near_of a k (within W l k r a u o).0 (within W l k r a u o).1 i))

  pub narrow_fair : (p k : ℕ) (t : Tree) → Shape W n p k t → Hulls W t → Fairs (narrow W n q) t
  narrow_fair p k leaf h u = tt
  narrow_fair p k (node l s r) h u =
      record {
        no_left = none true s l h.left u.left;
        no_right = none false s r h.right u.right;
        left = narrow_fair s (kid W true s) l h.left u.left;
        right = narrow_fair s (kid W false s) r h.right u.right;
      }

  -- where it goes, the pruned lookup goes
  pub narrow_less : (b : Bool) (s : ℕ) → should_enter W n q b s ≡ true → should_go W n q b s ≡ true
  unfolding should_enter should_go on_link
  narrow_less b s e = go b (leb n (kid W b s)) refl e
    where
      go : (b : Bool) (t : Bool) → leb n (kid W b s) ≡ t → cond t false (nears W q (kid W b s)) ≡ true → should_go W n q b s ≡ true
      go b true i j = absurd (false≢true j)
      go true false i j =
          rw (i, passed_reached q.lo (hi W (kid W true s)) (and_left (passed q.lo (hi W (kid W true s))) (admits q.hi (lo W (kid W true s))) j))
      go false false i j = rw (i, and_right (passed q.lo (hi W (kid W false s))) (admits q.hi (lo W (kid W false s))) j)

-- where the pruned lookup goes by the range of a rule, it goes by the range itself
pub ruled_goes : (W : List ℕ) (n k : ℕ) (q : Span) (b : Bool) (s : ℕ) → should_go W n (by_rule_lem k q) b s ≡ true → should_go W n q b s ≡ true
unfolding should_go on_link
ruled_goes W n k q false s e = e
ruled_goes W n k q true s e = go (eqb k 2) (leb n (kid W true s)) e
  where
    go : (t u : Bool) → cond u false (reached (cond t (whole_from_lem q.lo) q.lo) (hi W (kid W true s))) ≡ true
        → cond u false (reached q.lo (hi W (kid W true s))) ≡ true
    go t true i = i
    go true false i = whole_reached q.lo (hi W (kid W true s)) i
    go false false i = i
