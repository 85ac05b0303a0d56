-- A glance works the hulls out and so never finds one wrong. If the hulls in the words are right,
-- it finds what the check finds.
use mathlib.Core.Path.{◌≡◌, refl, sym, ap, ◌∙◌}
use mathlib.Core.Bool.{Bool, true, false, cond, false≢true}
use mathlib.Core.List.{List}
use Prim.Native.Nat.{ℕ, zero, suc, ◌<◌, ◌≤◌, min, max}
use native.Mathlib.Omega.{arith}
use lib.Dec.{eqb}
use borrow.Author.Tests.{eq-eqb, ne_eqb, eqb-true}
use Rattle.words.specs.Ix.{U}
use Rattle.words.specs.Intervals.{eq}
use Rattle.words.specs.Nodes.{start, stop, kid, interval, hull, lo, hi}
use Rattle.words.specs.declared.interval.Interval.{Interval}
use Rattle.tree.specs.Tree.{Tree, leaf, node, height, Shape}
use Rattle.tree.specs.Hulls.{Hulls}
use Rattle.tree.proofs.Once.{Aparts}
use Rattle.tree.proofs.Hulls.{low_node, high_node}
use Rattle.audit.specs.declared.Node.{Node}
use Rattle.audit.specs.declared.Found.{Found}
use Rattle.audit.specs.Survey.{node_at_lem, no_nodes_lem, ordered, hulled, coloured, fits, combined, enters, pass, survey}
use Rattle.audit.proofs.Tests.{both, itself, same, entering}
use Rattle.audit.proofs.Fits.{root_hull, hull_is}
use Rattle.audit.proofs.Decides.{cond_ok}
use Rattle.audit.proofs.Unread.{on_node, pass_same}
use Rattle.image_rule.specs.Judge.{hull_from, with_hull, bare, shaped, glance}

-- a glance reads no hull, and no slot from n up
module _ (N O : ℕ → Node) (n : ℕ) (f : (k : ℕ) → k < n → bare (N k) ≡ bare (O k)) where
  pub glance_bare : (h p : ℕ) (d : Interval) (k : ℕ) → glance N n h p d k ≡ glance O n h p d k
  glance_bare = pass_same shaped N O n (λ k q p d X. ap (λ (x : Node). on_node shaped p d X x) (f k q))

-- what the tests of a node tell, if they say yes
ok_parts : (x : Node) (l r : Found) → (combined x l r).ok ≡ true → (l.ok ≡ true) × (r.ok ≡ true) × (hulled x l.hull r.hull ≡ true)
ok_parts x l r e =
    let (a, ((c, d), f)) = (both (both (itself l.ok) (itself r.ok))
    (both (both (itself (ordered x.interval l.last r.first)) (itself (hulled x l.hull r.hull))) (itself (coloured x l r)))
    ).holds (cond_ok (fits x l r) _ _ refl e) in
    (a.0, a.1, d)

cond_hull : (b : Bool) (x y : Found) (h : Interval) → y.ok ≡ false → x.hull ≡ h → (cond b x y).ok ≡ true → (cond b x y).hull ≡ h
cond_hull true x y h f g e = g
cond_hull false x y h f g e = absurd (false≢true (sym f ∙ e))

-- equal intervals, by the test
same_interval : (a b : Interval) → eq a b ≡ true → a ≡ b
same_interval a b e =
    let (x, y) = (both (same a.start b.start) (same a.end b.end)).holds e in
    λ t. record { start = x t; end = y t }

-- a node whose hull is the one that is worked out
own_hull : (x : Node) (l r : Found) → x.hull ≡ hull_from x l r → x ≡ shaped x l r
own_hull x l r e = ap (λ (h : Interval). with_hull x h) e

module _ (W C : List ℕ) (n : ℕ) where
  abbrev N : ℕ → Node
  N = node_at_lem W C

  -- what the check finds right, a glance finds too
  pub survey_glance : (h p : ℕ) (d : Interval) (k : ℕ) → (survey W C n h p d k).ok ≡ true → glance N n h p d k ≡ survey W C n h p d k
  unfolding pass
  survey_glance zero p d k e = absurd (false≢true e)
  survey_glance (suc h) p d k e =
      go (survey W C n h k (interval W k) (kid W true k)) (survey W C n h k (interval W k) (kid W false k))
      (glance N n h k (interval W k) (kid W true k)) (glance N n h k (interval W k) (kid W false k))
      (survey_glance h k (interval W k) (kid W true k)) (survey_glance h k (interval W k) (kid W false k))
      (eqb k U) (enters N n p k) e
    where
      go : (a b x y : Found) → (a.ok ≡ true → x ≡ a) → (b.ok ≡ true → y ≡ b) → (u v : Bool)
          → (cond u (no_nodes_lem true d) (cond v (combined (node_at_lem W C k) a b) (no_nodes_lem false d))).ok ≡ true
          → cond u (no_nodes_lem true d) (cond v (combined (shaped (node_at_lem W C k) x y) x y) (no_nodes_lem false d))
          ≡ cond u (no_nodes_lem true d) (cond v (combined (node_at_lem W C k) a b) (no_nodes_lem false d))
      go a b x y f g true v e = refl
      go a b x y f g false true e =
          let (i, j, z) = ok_parts (node_at_lem W C k) a b e in
          let q : node_at_lem W C k ≡ shaped (node_at_lem W C k) a b =
          own_hull (node_at_lem W C k) a b (same_interval (hull W k) (hull_from (node_at_lem W C k) a b) z) in
          rw (f i, g j) (ap (λ (m : Node). combined m a b) (sym q))
      go a b x y f g false false e = absurd (false≢true e)

  -- a glance that finds all right has gone over a tree
  pub record Stood (h p k : ℕ) : Type 0 where
    pub tree : Tree
    pub shape : Shape W n p k tree
    pub aparts : Aparts W tree
    pub low : height tree < h

  pub glance_tree : (h p : ℕ) (d : Interval) (k : ℕ) → (glance N n h p d k).ok ≡ true → Stood h p k
  unfolding pass
  glance_tree zero p d k e = absurd (false≢true e)
  glance_tree (suc h) p d k e =
      go (glance N n h k (interval W k) (kid W true k)) (glance N n h k (interval W k) (kid W false k))
      (glance_tree h k (interval W k) (kid W true k)) (glance_tree h k (interval W k) (kid W false k))
      (eqb k U) (enters N n p k) refl refl e
    where
      go : (a b : Found) → (a.ok ≡ true → Stood h k (kid W true k)) → (b.ok ≡ true → Stood h k (kid W false k)) → (u v : Bool)
          → eqb k U ≡ u → enters N n p k ≡ v
          → (cond u (no_nodes_lem true d) (cond v (combined (shaped (node_at_lem W C k) a b) a b) (no_nodes_lem false d))).ok ≡ true → Stood (suc h) p k
      go a b f g true v i j e = record { tree = leaf; shape = eqb-true k U i; aparts = tt; low = omega arith }
      go a b f g false true i j e =
          let (x, y, z) = ok_parts (shaped (node_at_lem W C k) a b) a b e in
          let l : Stood h k (kid W true k) = f x in
          let r : Stood h k (kid W false k) = g y in
          let (live, (up, twins)) = (entering N n p k).holds j in
          record {
            tree = node l.tree k r.tree;
            shape = record { here = refl; live = live; up = up; left = l.shape; right = r.shape };
            aparts = (twins, l.aparts, r.aparts);
            low = omega (arith, l.low, r.low);
          }
      go a b f g false false i j e = absurd (false≢true e)

  -- one node, if the hull in the words is right
  glance_node : (d : Interval) (l : Tree) (s : ℕ) (r : Tree) → Hulls W (node l s r) → (a b x y : Found)
      → (x.ok ≡ true → (a ≡ x) × (x.hull ≡ root_hull W C (interval W s) l)) → (y.ok ≡ true → (b ≡ y) × (y.hull ≡ root_hull W C (interval W s) r))
      → (u v : Bool) → u ≡ false → (cond u (no_nodes_lem true d) (cond v (combined (shaped (node_at_lem W C s) x y) x y) (no_nodes_lem false d))).ok ≡ true
      → (cond u (no_nodes_lem true d) (cond v (combined (node_at_lem W C s) a b) (no_nodes_lem false d))
      ≡ cond u (no_nodes_lem true d) (cond v (combined (shaped (node_at_lem W C s) x y) x y) (no_nodes_lem false d)))
      × ((cond u (no_nodes_lem true d) (cond v (combined (shaped (node_at_lem W C s) x y) x y) (no_nodes_lem false d))).hull ≡ hull W s)
  glance_node d l s r i a b x y f g true v z e = absurd (false≢true (sym z))
  glance_node d l s r i a b x y f g false false z e = absurd (false≢true e)
  glance_node d l s r i a b x y f g false true z e =
      let (ox, oy, w) = ok_parts (shaped (node_at_lem W C s) x y) x y e in
      let (ea, hx) = f ox in
      let (eb, hy) = g oy in
      let low : lo W s ≡ min (min (start W s) (root_hull W C (interval W s) l).start) (root_hull W C (interval W s) r).start =
      i.low ∙ sym ((hull_is W C s l r).0 ∙ low_node W l s r i.left i.right) in
      let high : hi W s ≡ max (max (stop W s) (root_hull W C (interval W s) l).end) (root_hull W C (interval W s) r).end =
      i.high ∙ sym ((hull_is W C s l r).1 ∙ high_node W l s r i.left i.right) in
      let h : hull W s ≡ hull_from (node_at_lem W C s) x y = rw (hx, hy) (λ t. record { start = low t; end = high t }) in
      let q : node_at_lem W C s ≡ shaped (node_at_lem W C s) x y = own_hull (node_at_lem W C s) x y h in
      (rw (ea, eb) (ap (λ (m : Node). combined m x y) q), cond_hull (fits (shaped (node_at_lem W C s) x y) x y) _ _ (hull W s) refl (sym h) e)

  -- if the hulls in the words are right, the check finds what a glance finds right
  pub glance_survey : n ≤ 65535 → (h p : ℕ) (d : Interval) (k : ℕ) (t : Tree) → Shape W n p k t → Hulls W t → (glance N n h p d k).ok ≡ true
      → (survey W C n h p d k ≡ glance N n h p d k) × ((glance N n h p d k).hull ≡ root_hull W C d t)
  unfolding pass
  glance_survey m zero p d k t g i e = absurd (false≢true e)
  glance_survey m (suc h) p d k leaf g i e = rw (eq-eqb k U g) (refl, refl)
  glance_survey m (suc h) p d k (node l s r) g i e =
      rw g.here
      (glance_node d l s r i _ _ _ _ (glance_survey m h s (interval W s) (kid W true s) l g.left i.left)
      (glance_survey m h s (interval W s) (kid W false s) r g.right i.right) (eqb s U) (enters N n p s)
      (ne_eqb s U (omega (arith, g.live))) (rw g.here at e))
