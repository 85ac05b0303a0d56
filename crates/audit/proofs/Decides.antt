-- The rule says yes exactly to the stores that pass.
use mathlib.Core.Path.{◌≡◌, refl, sym, ap₂, ◌∙◌}
use mathlib.Core.Logic.{◌≢◌}
use mathlib.Core.Bool.{Bool, true, false, cond, false≢true}
use mathlib.Core.List.{List}
use Prim.Native.Nat.{ℕ, zero, suc, ◌<◌, ◌≤◌}
use native.Mathlib.Omega.{arith}
use lib.Dec.{eqb}
use borrow.Author.Tests.{eq-eqb, ne_eqb, eqb-true, eqb-false}
use Rattle.words.specs.Ix.{U}
use Rattle.words.specs.Nodes.{kid, interval}
use Rattle.words.specs.declared.interval.Interval.{Interval}
use Rattle.tree.specs.Tree.{Tree, leaf, node, occ, height, Shape}
use Rattle.tree.specs.Passes.{Passes}
use Rattle.tree.proofs.Frames.{shape_live, shape_root}
use Rattle.tree.proofs.Sizes.{full}
use Rattle.tree.proofs.Once.{Aparts, at_most}
use Rattle.tree.proofs.Checked.{slot_live, slot_once, tree_size, tree_low}
use Rattle.audit.specs.declared.Found.{Found}
use Rattle.audit.specs.Survey.{node_at_lem, no_nodes_lem, suits, fits, combined, enters, pass, survey, is_whole, whole_of}
use Rattle.audit.proofs.Tests.{Tells, both, itself, same, not_so, entering}
use Rattle.audit.proofs.Fits.{Well, found_of, well_node, well_left, well_right, node_suits, found_node}

-- a tree whose slots stand once has no coinciding links
once_apart : (W : List ℕ) (n : ℕ) → n ≤ 65535 → (p k : ℕ) (t : Tree) → Shape W n p k t → ((s : ℕ) → occ s t ≤ 1) → Aparts W t
once_apart W n m p k leaf h o = tt
once_apart W n m p k (node l s r) h o = (
  λ e. go e (eqb (kid W true s) U) refl,
  once_apart W n m s (kid W true s) l h.left (λ a. omega (arith, o a)),
  once_apart W n m s (kid W false s) r h.right (λ a. omega (arith, o a)),
)
  where
    link : (b : Bool) (t : Tree) → Shape W n s (kid W b s) t → kid W b s ≢ U → 0 < occ (kid W b s) t
    link b leaf g u = absurd (u g)
    link b (node x a y) g u = shape_root W n s (kid W b s) (node x a y) m (rw g.here g.live) g

    go : kid W true s ≡ kid W false s → (b : Bool) → eqb (kid W true s) U ≡ b → kid W true s ≡ U
    go e true q = eqb-true (kid W true s) U q
    go e false q =
        let u : kid W true s ≢ U = eqb-false (kid W true s) U q in
        let x : 0 < occ (kid W true s) l = link true l h.left u in
        let y : 0 < occ (kid W true s) r = rw e (link false r h.right (rw e at u)) in
        absurd (omega (arith, o (kid W true s)))

-- what was found right is what is found of a tree at the link, and that tree is well
record Stands (W C : List ℕ) (n p : ℕ) (d : Interval) (k : ℕ) (a : Found) : Type 0 where
  tree : Tree
  shape : Shape W n p k tree
  aparts : Aparts W tree
  well : Well W C tree
  found : a ≡ found_of W C d tree

leaf_well : (W C : List ℕ) → Well W C leaf
leaf_well W C = record { proper = λ s o. absurd (omega arith); rising = tt; hulls = tt; red_black = tt }

pub cond_ok : (b : Bool) (x y : Found) → y.ok ≡ false → (cond b x y).ok ≡ true → b ≡ true
cond_ok true x y f e = refl
cond_ok false x y f e = absurd (false≢true (sym f ∙ e))

module _ (W C : List ℕ) (n : ℕ) where
  -- a node that was entered
  stands_node : (p : ℕ) (d : Interval) (k : ℕ) (a b : Found)
      → (a.ok ≡ true → Stands W C n k (interval W k) (kid W true k) a)
      → (b.ok ≡ true → Stands W C n k (interval W k) (kid W false k) b)
      → enters (node_at_lem W C) n p k ≡ true → (combined (node_at_lem W C k) a b).ok ≡ true → Stands W C n p d k (combined (node_at_lem W C k) a b)
  stands_node p d k a b f g i e =
      let q = (both (both (itself a.ok) (itself b.ok)) (itself (suits (node_at_lem W C k) a b))).holds (cond_ok (fits (node_at_lem W C k) a b) _ _ refl e) in
      let x : Stands W C n k (interval W k) (kid W true k) a = f q.0.0 in
      let y : Stands W C n k (interval W k) (kid W false k) b = g q.0.1 in
      let s : suits (node_at_lem W C k) (found_of W C (interval W k) x.tree) (found_of W C (interval W k) y.tree) ≡ true =
      sym (ap₂ (suits (node_at_lem W C k)) x.found y.found) ∙ q.1 in
      let (live, (up, twins)) = (entering (node_at_lem W C) n p k).holds i in
      record {
        tree = node x.tree k y.tree;
        shape = record { here = refl; live = live; up = up; left = x.shape; right = y.shape };
        aparts = (twins, x.aparts, y.aparts);
        well = well_node W C x.tree k y.tree s x.well y.well;
        found = ap₂ (combined (node_at_lem W C k)) x.found y.found ∙ found_node W C x.tree k y.tree d s;
      }

  survey_sound : (h p : ℕ) (d : Interval) (k : ℕ) → (survey W C n h p d k).ok ≡ true → Stands W C n p d k (survey W C n h p d k)
  unfolding pass
  survey_sound zero p d k e = absurd (false≢true e)
  survey_sound (suc h) p d k e =
      go (survey W C n h k (interval W k) (kid W true k)) (survey W C n h k (interval W k) (kid W false k))
      (survey_sound h k (interval W k) (kid W true k)) (survey_sound h k (interval W k) (kid W false k))
      (eqb k U) (enters (node_at_lem W C) n p k) refl refl e
    where
      go : (a b : Found) → (a.ok ≡ true → Stands W C n k (interval W k) (kid W true k) a)
          → (b.ok ≡ true → Stands W C n k (interval W k) (kid W false k) b) → (u v : Bool) → eqb k U ≡ u → enters (node_at_lem W C) n p k ≡ v
          → (cond u (no_nodes_lem true d) (cond v (combined (node_at_lem W C k) a b) (no_nodes_lem false d))).ok ≡ true
          → Stands W C n p d k (cond u (no_nodes_lem true d) (cond v (combined (node_at_lem W C k) a b) (no_nodes_lem false d)))
      go a b f g true v i j e = record { tree = leaf; shape = eqb-true k U i; aparts = tt; well = leaf_well W C; found = refl }
      go a b f g false true i j e = stands_node p d k a b f g j e
      go a b f g false false i j e = absurd (false≢true e)

  -- and the other way round
  survey_finds : n ≤ 65535 → (h p : ℕ) (d : Interval) (k : ℕ) (t : Tree) → Shape W n p k t → Aparts W t → Well W C t
      → height t < h → survey W C n h p d k ≡ found_of W C d t
  unfolding pass
  survey_finds m zero p d k t g a w q = absurd (omega arith)
  survey_finds m (suc h) p d k leaf g a w q = rw (eq-eqb k U g)
  survey_finds m (suc h) p d k (node l s r) g a w q =
      let x : survey W C n h s (interval W s) (kid W true s) ≡ found_of W C (interval W s) l =
      survey_finds m h s (interval W s) (kid W true s) l g.left a.1 (well_left W C l s r w) (omega arith) in
      let y : survey W C n h s (interval W s) (kid W false s) ≡ found_of W C (interval W s) r =
      survey_finds m h s (interval W s) (kid W false s) r g.right a.2 (well_right W C l s r w) (omega arith) in
      let u : eqb s U ≡ false = ne_eqb s U (omega (arith, g.live)) in
      let v : enters (node_at_lem W C) n p s ≡ true = (entering (node_at_lem W C) n p s).says (g.live, (g.up, a.0)) in
      rw (g.here, u, v) (ap₂ (combined (node_at_lem W C s)) x y ∙ found_node W C l s r d (node_suits W C l s r w))

module _ (W C : List ℕ) (n r : ℕ) (small : n ≤ 65535) where
  whole : (a : Found) → Tells (is_whole n a) (((a.ok ≡ true) × (a.size ≡ n)) × (a.red ≡ false))
  whole a = both (both (itself a.ok) (same a.size n)) (not_so a.red)

  pub audit_sound : whole_of W C n r ≡ true → Passes W C n r
  unfolding whole_of
  audit_sound e = go (survey W C n 33 U (record { start = 0; end = 0 }) r) (survey_sound W C n 33 U (record { start = 0; end = 0 }) r) e
    where
      go : (a : Found) → (a.ok ≡ true → Stands W C n U (record { start = 0; end = 0 }) r a) → is_whole n a ≡ true → Passes W C n r
      go a f e =
          let ((ok, sized), black) = (whole a).holds e in
          let x : Stands W C n U (record { start = 0; end = 0 }) r a = f ok in
          let once : (s : ℕ) → s < n → occ s x.tree ≡ 1 =
          full n x.tree (λ s. shape_live W n U r x.tree s x.shape) (at_most W n small U r x.tree x.shape x.aparts) (rw x.found at sized) in
          record {
            tree = x.tree;
            shape = x.shape;
            once = once;
            proper = λ s h. x.well.proper s (omega (arith, once s h));
            rising = x.well.rising;
            hulls = x.well.hulls;
            top = rw x.found at black;
            red_black = x.well.red_black;
          }

  pub audit_complete : Passes W C n r → whole_of W C n r ≡ true
  unfolding whole_of
  audit_complete h =
      let w : Well W C h.tree = record {
        proper = λ s o. h.proper s (slot_live W C n r h s o);
        rising = h.rising;
        hulls = h.hulls;
        red_black = h.red_black;
      } in
      rw (survey_finds W C n small 33 U (record { start = 0; end = 0 }) r h.tree h.shape
      (once_apart W n small U r h.tree h.shape (slot_once W C n r h)) w (omega (arith, tree_low W C n r h small)))
      ((whole (found_of W C (record { start = 0; end = 0 }) h.tree)).says ((refl, tree_size W C n r h), h.top))
