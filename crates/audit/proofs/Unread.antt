-- "Slots from count up are not read": over nodes that agree below the count the pass finds the
-- same. Nothing is asked of the nodes.
use mathlib.Core.Path.{◌≡◌, refl, ap}
use mathlib.Core.Bool.{Bool, true, false, cond, ◌&&◌}
use mathlib.Core.List.{List}
use Prim.Native.Nat.{ℕ, zero, suc, ◌<◌}
use lib.Dec.{eqb, ltb}
use borrow.Author.Tests.{ltb-true}
use Rattle.words.specs.Ix.{U}
use Rattle.words.specs.declared.interval.Interval.{Interval}
use Rattle.words.specs.declared.node.Field.TheVariants.{Start, End, HullStart, HullEnd, Child, Parent}
use Rattle.tree.specs.Below.{Agree, SameColours}
use Rattle.audit.specs.declared.Node.{Node}
use Rattle.audit.specs.declared.Found.{Found}
use Rattle.audit.specs.Survey.{node_at_lem, no_nodes_lem, tied, pass, as_read, survey, whole_of}
use Rattle.audit.proofs.Laws.{through}

-- what a pass makes of a node x of a slot below p, with what X finds of its subtrees
abbrev pub on_node : (Node → Found → Found → Node) → ℕ → Interval → (Interval → ℕ → Found) → Node → Found
on_node M p d X x = cond (tied x p) (through M X x) (no_nodes_lem false d)

-- two readers of nodes that come to the same in each slot below n
module _ (M : Node → Found → Found → Node) (N O : ℕ → Node) (n : ℕ)
    (f : (k : ℕ) → k < n → (p : ℕ) (d : Interval) (X : Interval → ℕ → Found) → on_node M p d X (N k) ≡ on_node M p d X (O k)) where
  pub pass_same : (h p : ℕ) (d : Interval) (k : ℕ) → pass M N n h p d k ≡ pass M O n h p d k
  unfolding pass
  pass_same zero p d k = refl
  pass_same (suc h) p d k = go (ltb k n) refl (pass_same h k)
    where
      go : (t : Bool) → ltb k n ≡ t → ((e : Interval) (j : ℕ) → pass M N n h k e j ≡ pass M O n h k e j)
          → cond (eqb k U) (no_nodes_lem true d) (cond (t && tied (N k) p) (through M (pass M N n h k) (N k)) (no_nodes_lem false d))
          ≡ cond (eqb k U) (no_nodes_lem true d) (cond (t && tied (O k) p) (through M (pass M O n h k) (O k)) (no_nodes_lem false d))
      go true e i =
          rw (i (N k).interval (N k).left, i (N k).interval (N k).right)
          (ap (λ (a : Found). cond (eqb k U) (no_nodes_lem true d) a) (f k (ltb-true k n e) p d (pass M O n h k)))
      go false e i = refl

module _ (W C X D : List ℕ) (n : ℕ) (A : Agree n W X) (H : SameColours n C D) where
  nodes_agree : (k : ℕ) → k < n → node_at_lem W C k ≡ node_at_lem X D k
  nodes_agree k q = λ t. record {
    interval = record { start = A.1 Start k q t; end = A.1 End k q t };
    hull = record { start = A.1 HullStart k q t; end = A.1 HullEnd k q t };
    left = A.1 (Child true) k q t;
    right = A.1 (Child false) k q t;
    parent = A.1 Parent k q t;
    red = H.1 k q t;
  }

  pub survey_below : (height p : ℕ) (d : Interval) (k : ℕ) → survey W C n height p d k ≡ survey X D n height p d k
  survey_below =
      pass_same as_read (node_at_lem W C) (node_at_lem X D) n (λ k q p d Y. ap (λ (x : Node). on_node as_read p d Y x) (nodes_agree k q))

  pub whole_below : (r : ℕ) → whole_of W C n r ≡ whole_of X D n r
  unfolding whole_of
  whole_below r = rw (survey_below 33 U (record { start = 0; end = 0 }) r)
