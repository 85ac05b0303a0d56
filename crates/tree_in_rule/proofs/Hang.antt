-- Shape and slots: the new node at its place, in slot n.
use mathlib.Core.Path.{◌≡◌, refl, sym}
use mathlib.Core.Logic.{◌≢◌}
use mathlib.Core.Bool.{Bool, true, false, not}
use mathlib.Core.List.{List, [], ◌∷◌}
use Prim.Native.Nat.{ℕ, ◌+◌, ◌<◌, ◌≤◌}
use native.Mathlib.Omega.{arith}
use Rattle.words.specs.Ix.{U, on_link}
use Rattle.words.specs.Nodes.{kid, par, Holds}
use Rattle.words.specs.declared.interval.Interval.{Interval}
use Rattle.words.specs.declared.node.Entry.{Entry}
use Rattle.tree.specs.Tree.{Tree, leaf, node, slots, hit, occ, height, Shape}
use Rattle.tree.specs.Zipper.{Frame, frame, plug, occs, Above}
use Rattle.tree.specs.Order.{RisingAt}
use Rattle.tree.proofs.Cases.{compare}
use Rattle.tree.proofs.Slots.{hit_same, hit_cases, hit_le, apart, apart_way, occ_plug}
use Rattle.tree.proofs.Frames.{Same, shape_live, way_live, keep, above_keep, unplug_shape, shrink}
use Rattle.tree_edit.proofs.Links.{on_slot, on_none, not-not}
use Rattle.tree_edit.proofs.Stand.{Stand}
use Rattle.tree_in_rule.specs.Descent.{goes_left_lem, descend, under}
use Rattle.tree_in_rule.specs.Insert.{own, hung_words, hung_root}
use Rattle.tree_in_rule.proofs.Ways.{Parted, Hangs, descends}
use Rattle.tree_in_rule.proofs.Enough.{descend_more}
use Rattle.tree_in_rule.proofs.HungWords.{length_hung, same_hung, par_hung, kid_hung, kid_at, kid_not_at, par_at}

-- one slot more
above_more : (W : List ℕ) (n r : ℕ) (c : List Frame) (p k : ℕ) → Above W n r c p k → Above W (n + 1) r c p k
above_more W n r [] p k h = h
above_more W n r (frame b s far ∷ c) p k h =
    record {
      at = h.at;
      here = h.here;
      live = omega (arith, h.live);
      far = shrink W n (n + 1) s (kid W (not b) s) far (λ a o. omega (arith, shape_live W n s (kid W (not b) s) far a h.far o)) h.far;
      rest = above_more W n r c (par W s) s h.rest;
    }

-- The new node at its place, in the words X with the root q: the way up from it, and that the
-- entries lie parted around it.
pub record Hung (W : List ℕ) (n : ℕ) (x : Interval) (t : Tree) (X : List ℕ) (q : ℕ) : Type 0 where
  pub c : List Frame
  pub p : ℕ
  pub tree_is : t ≡ plug c leaf
  pub parted : Parted W x c
  pub stand : Stand X (n + 1) q n p c (node leaf n leaf)

module _ (W : List ℕ) (n r : ℕ) (e : Entry) (small : n + 1 ≤ 65535) (fit : Holds W (n + 1)) where
  new_shape : (p : ℕ) → Shape (hung_words W n e p) (n + 1) p n (node leaf n leaf)
  new_shape p =
      record {
        here = refl;
        live = omega arith;
        up = par_hung W n e p (omega arith);
        left = kid_hung W n e p (omega arith) true;
        right = kid_hung W n e p (omega arith) false;
      }

  -- below the slot p, whose other subtree is `far`
  module _ (p : ℕ) (far : Tree) (c : List Frame) (sh : Shape W n U r (plug (frame (goes_left_lem W (own e) p) p far ∷ c) leaf))
      (one : (a : ℕ) → occ a (plug (frame (goes_left_lem W (own e) p) p far ∷ c) leaf) ≤ 1) where
    abbrev g : Bool
    g = goes_left_lem W (own e) p

    abbrev way : List Frame
    way = frame g p far ∷ c

    abbrev Y : List ℕ
    Y = hung_words W n e p

    old : (k : ℕ) × Above W n r way p k
    old =
        let (q, k, a, s) = unplug_shape W n r way leaf sh in
        (k, rw a.at at a)

    once : (a : ℕ) → hit a p + occ a far + occs a c ≤ 1
    once a = omega (arith, one a, occ_plug a way leaf)

    live_p : p < n
    live_p = old.1.live

    live : (a : ℕ) → 0 < occs a way → a < n
    live a o = way_live W n r way p old.0 a old.1 o

    off_p : (occ p far ≡ 0) × (occs p c ≡ 0)
    off_p = omega (arith, once p, hit_same p)

    same : (a : ℕ) → 0 < occ a far + occs a c → a ≢ p → Same W Y a
    same a o d = let l : a < n = live a (omega arith) in same_hung W n e p a (omega arith) d

    new_way : Above Y (n + 1) r way p n
    new_way =
        let h : Above W (n + 1) r way p old.0 = above_more W n r way p old.0 old.1 in
        record {
          at = refl;
          here = sym (kid_at W n e p live_p (omega arith));
          live = h.live;
          far = rw (kid_not_at W n e p live_p (omega arith) (not g) (sym (not-not g)))
              (keep W Y (n + 1) p (kid W (not g) p) far (λ a o. same a (omega arith) (apart a p far off_p.0 o)) h.far);
          rest = rw (par_at W n e p live_p (omega arith))
              (above_keep W Y (n + 1) r c (par W p) p (λ a o. same a (omega arith) (apart_way a p c off_p.1 o)) h.rest);
        }

    new_stand : Stand Y (n + 1) r n p way (node leaf n leaf)
    new_stand =
        record {
          small = small;
          room = rw length_hung fit;
          once = λ a. hit_cases a n
              (λ q. compare (occs a way) 0 (λ z. omega (arith, hit_le a n)) (λ o. absurd (omega (arith, live a o))))
              (λ z. omega (arith, once a));
          way = new_way;
          tree = new_shape p;
        }

  -- at the place where the way down ends
  hung_at : (t : Tree) → Shape W n U r t → ((a : ℕ) → occ a t ≤ 1) → (p : ℕ) → Hangs W (own e) t p
      → Hung W n (own e) t (hung_words W n e p) r × (p < n)
  hung_at t sh one p d =
      let h = rw d.tree_is at sh in
      let o : (a : ℕ) → occ a (plug (frame (goes_left_lem W (own e) p) p d.far ∷ d.c) leaf) ≤ 1 = λ a. rw d.tree_is at (one a) in (
        record {
          c = frame (goes_left_lem W (own e) p) p d.far ∷ d.c;
          p = p;
          tree_is = d.tree_is;
          parted = d.parted;
          stand = new_stand p d.far d.c h o;
        },
        live_p p d.far d.c h o,
      )

  -- in the words and with the root that the rule gives, where the tree before is t
  pub hangs : (t : Tree) → Shape W n U r t → ((a : ℕ) → occ a t ≤ 1) → height t ≤ 33 → RisingAt W (slots t)
      → Hung W n (own e) t (hung_words W n e (under n W r (own e))) (hung_root n r (under n W r (own e)))
  unfolding under hung_root
  hangs leaf h one low rise =
      rw (on_none n r (omega (arith, h)), on_none n U (omega arith)) (record {
        c = [];
        p = U;
        tree_is = refl;
        parted = tt;
        stand = record {
          small = small;
          room = rw length_hung fit;
          once = λ a. omega (arith, hit_le a n);
          way = (refl, refl);
          tree = new_shape U;
        };
      })
  hangs (node l s k) h one low rise =
      let p : ℕ = descend n 32 W (own e) s in
      let d : Hangs W (own e) (node l s k) p = descends W (own e) n (omega arith) 32 l s k U r low h rise in
      let (o, q) = hung_at (node l s k) h one p d in
      let i : descend n 32 W (own e) r ≡ p = rw h.here in
      rw (on_slot n r (omega (arith, h.here, h.live)), i, on_slot n p q) o

  -- more links down come to the same
  pub under_more : (t : Tree) → Shape W n U r t → height t ≤ 33 → RisingAt W (slots t) → (levels : ℕ) → 32 ≤ levels
      → on_link n r (λ s. descend n levels W (own e) s) U ≡ under n W r (own e)
  unfolding under
  under_more leaf h low rise levels m = rw (on_none n r (omega (arith, h)), on_none n r (omega (arith, h))) refl
  under_more (node l s k) h low rise levels m =
      let q : r < n = omega (arith, h.here, h.live) in
      let d = descends W (own e) n (omega arith) 32 l s k U r low h rise in
      rw (on_slot n r q, on_slot n r q, h.here) (descend_more W (own e) n (omega arith) 32 levels s m d.free)
