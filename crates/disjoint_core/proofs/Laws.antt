-- The code against its rules, in the form that `search` takes.
use mathlib.Core.Path.{◌≡◌, refl, sym, ap, ◌∙◌}
use mathlib.Core.Bool.{Bool, true, false, not, ◌&&◌}
use mathlib.Core.List.{List, []}
use Prim.Native.Nat.{ℕ, suc, ◌+◌, ◌-◌, ◌<◌, ◌≤◌}
use native.Mathlib.Omega.{arith}
use lib.Dec.{ltb, leb}
use lib.ListN.{length}
use Rattle.words.specs.Ix.{U, link_of}
use Rattle.words.specs.Nodes.{start, stop, lo, hi, kid}
use Rattle.std.specs.declared.option.Option.{Option}
use Rattle.std.specs.declared.option.Option.TheVariants.{Some, None}
use Rattle.iter.proofs.Laws.{child_there, child_gone}
use Rattle.first_rule.specs.Way.{way_end, way_nodes}
use Rattle.first_rule.proofs.Ways.{end_spent, end_gone, end_here, end_on, nodes_spent, nodes_gone, nodes_here, nodes_on}
use Rattle.disjoint_rule.specs.Apart.{apart_left, apart_right, apart_at, apart_below}
use Rattle.disjoint_rule.specs.Point.{point_way, point, point_nodes}
use Rattle.disjoint_core.specs.Answers.{spot}

-- the test of a slot with its two links: what was read behind a link, and what of the slot
module _ (W : List ℕ) (n s w : ℕ) (l : Option ℕ) (e : l ≡ link_of n w) where
  module _ (i : w ≡ kid W true s) where
    pub left_there : (a h x : ℕ) → l ≡ Some a → h ≡ hi W a → x ≡ start W s → leb h x ≡ apart_left W n s
    unfolding apart_left
    left_there a h x q p o = child_there (leb h x) n w (kid W true s) a l (λ b. leb (hi W b) (start W s)) true i e q (rw (p, o))

    pub left_gone : l ≡ None → true ≡ apart_left W n s
    unfolding apart_left
    left_gone q = child_gone true n w (kid W true s) l (λ b. leb (hi W b) (start W s)) true i e q refl

  module _ (i : w ≡ kid W false s) where
    pub right_there : (a h x : ℕ) → l ≡ Some a → h ≡ lo W a → x ≡ stop W s → leb x h ≡ apart_right W n s
    unfolding apart_right
    right_there a h x q p o = child_there (leb x h) n w (kid W false s) a l (λ b. leb (stop W s) (lo W b)) true i e q (rw (p, o))

    pub right_gone : l ≡ None → true ≡ apart_right W n s
    unfolding apart_right
    right_gone q = child_gone true n w (kid W false s) l (λ b. leb (stop W s) (lo W b)) true i e q refl

pub apart_is : (W : List ℕ) (n s : ℕ) (a b : Bool) → a ≡ apart_left W n s → b ≡ apart_right W n s → a && b ≡ apart_at W n s
unfolding apart_at
apart_is W n s a b p q = rw (p, q)

-- the pass over the slots: `all` is the answer, which the test of the slots below f has too
module _ (W : List ℕ) (n : ℕ) (all : Bool) (f : ℕ) (e : all ≡ apart_below W n f) where
  pub below_end : f ≤ 0 → true ≡ all
  unfolding apart_below
  below_end h = let z : f ≡ 0 = omega arith in sym (e ∙ rw z refl)

  module _ (s : ℕ) (t : Bool) (z : 0 < f) (i : s ≡ f - 1) (p : t ≡ apart_at W n s) where
    below_is : apart_below W n f ≡ apart_at W n s && apart_below W n s
    unfolding apart_below
    below_is = let q : f ≡ suc s = omega arith in rw q refl

    pub below_not : t ≡ false → false ≡ all
    below_not q = sym (e ∙ below_is ∙ rw (← p, q) refl)

    pub below_on : t ≡ true → all ≡ apart_below W n s
    below_on q = e ∙ below_is ∙ rw (← p, q) refl

-- the point lookup: at the link k with e nodes entered, slot and number are those of the whole way
pub record Reached (W : List ℕ) (n r a k e : ℕ) : Type 0 where
  pub few : e ≤ 32
  pub slot : point W n r a ≡ way_end (point_way W a) W n (32 - e) k
  pub entered : length (point_nodes W n r a) ≡ e + length (way_nodes (point_way W a) W n (32 - e) k)

module _ (W : List ℕ) (n r a : ℕ) where
  pub reached_root : Reached W n r a r 0
  unfolding point point_nodes
  reached_root = record { few = omega arith; slot = refl; entered = omega arith }

  module _ (k e : ℕ) (R : Reached W n r a k e) where
    nowhere : way_end (point_way W a) W n (32 - e) k ≡ U → way_nodes (point_way W a) W n (32 - e) k ≡ [] → record { slot = U; entered = e } ≡ spot W n r a
    nowhere p q =
        let i : point W n r a ≡ U = R.slot ∙ p in
        let j : length (point_nodes W n r a) ≡ e = omega (arith, R.entered, ap (λ (l : List ℕ). length l) q) in
        rw (i, j) refl

    pub reached_spent : 32 ≤ e → record { slot = U; entered = 32 } ≡ spot W n r a
    reached_spent h = let j : 32 ≡ e = omega (arith, R.few) in rw j (nowhere (end_spent (point_way W a) W n (32 - e) k (omega arith)) (nodes_spent (point_way W a) W n (32 - e) k (omega arith)))

    pub reached_out : n ≤ k → record { slot = U; entered = e } ≡ spot W n r a
    reached_out h = nowhere (end_gone (point_way W a) W n (32 - e) k h) (nodes_gone (point_way W a) W n (32 - e) k h)

    module _ (x y : ℕ) (z : e < 32) (h : k < n) (i : x ≡ start W k) (j : y ≡ stop W k) where
      ends_is : (not (ltb a x) && ltb a y) ≡ (point_way W a).ends k
      ends_is = rw (i, j)

      pub reached_here : (d : ℕ) → d ≡ e + 1 → not (ltb a x) && ltb a y ≡ true → record { slot = k; entered = d } ≡ spot W n r a
      reached_here d m t =
          let t' : (point_way W a).ends k ≡ true = sym ends_is ∙ t in
          let p : point W n r a ≡ k = R.slot ∙ end_here (point_way W a) W n (32 - e) k (31 - e) (omega arith) h t' in
          let q : length (point_nodes W n r a) ≡ d =
          omega (arith, R.entered, ap (λ (l : List ℕ). length l) (nodes_here (point_way W a) W n (32 - e) k (31 - e) (omega arith) h t')) in
          rw (p, q) refl

      pub reached_on : (d w : ℕ) → d ≡ e + 1 → not (ltb a x) && ltb a y ≡ false → w ≡ kid W (ltb a x) k → Reached W n r a w d
      reached_on d w m t u =
          let t' : (point_way W a).ends k ≡ false = sym ends_is ∙ t in
          let u' : w ≡ kid W ((point_way W a).left k) k = u ∙ rw i refl in
          let f : 32 - e ≡ suc (32 - d) = omega arith in
          record {
            few = omega arith;
            slot = R.slot ∙ end_on (point_way W a) W n (32 - e) k (32 - d) f h w u' t';
            entered =
                omega (arith, R.entered, ap (λ (l : List ℕ). length l) (nodes_on (point_way W a) W n (32 - e) k (32 - d) f h w u' t'));
          }
