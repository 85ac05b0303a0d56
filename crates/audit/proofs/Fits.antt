-- What is found of a tree that is well, and that a node between two such trees is found right
-- exactly if its own tree is well.
use mathlib.Core.Path.{◌≡◌, sym, ◌∙◌}
use mathlib.Core.Bool.{true, false}
use mathlib.Core.List.{List, ◌∷◌}
use Prim.Native.Nat.{ℕ, ◌+◌, ◌<◌, min, max}
use native.Mathlib.Omega.{arith}
use native.Mathlib.Numerals.{add-one}
use Rattle.words.specs.Nodes.{start, stop, lo, hi, interval, hull}
use Rattle.words.specs.declared.interval.Interval.{Interval}
use Rattle.bitvec.specs.Colours.{red}
use Rattle.tree.specs.Tree.{Tree, leaf, node, slots, occ, size}
use Rattle.tree.specs.Order.{NotAfter, RisingAt}
use Rattle.tree.specs.Hulls.{Hulls, lowest, highest}
use Rattle.tree.specs.RedBlack.{root_red, blacks, RedBlack}
use Rattle.tree.proofs.Slots.{hit_same, occ_cases}
use Rattle.tree.proofs.Orders.{rising_left, rising_right}
use Rattle.tree.proofs.Hulls.{low_node, high_node}
use Rattle.audit.specs.declared.Found.{Found}
use Rattle.audit.specs.Survey.{node_at_lem, suits, combined}
use Rattle.audit.proofs.Tests.{Tells, both, less, same, after, no_red_red}
use Rattle.audit.proofs.Ends.{first_of, last_of, rising_node, before_node, after_node}

-- the clauses of `Passes` that are about what the slots of a tree hold
pub record Well (W C : List ℕ) (t : Tree) : Type 0 where
  pub proper : (s : ℕ) → 0 < occ s t → start W s < stop W s
  pub rising : RisingAt W (slots t)
  pub hulls : Hulls W t
  pub red_black : RedBlack (red C) t

module _ (W C : List ℕ) where
  -- the hull of the root; d where there is none
  abbrev pub root_hull : Interval → Tree → Interval
  root_hull d leaf = d
  root_hull d (node l s r) = hull W s

  -- what is found of a tree
  abbrev pub found_of : Interval → Tree → Found
  found_of d t =
      record {
        ok = true;
        size = size t;
        blacks = blacks (red C) t;
        red = root_red (red C) t;
        first = first_of W d t;
        last = last_of W d t;
        hull = root_hull d t;
      }

  -- the two parts of a node's hull
  pub hull_is : (s : ℕ) (l r : Tree)
      → (min (min (start W s) (root_hull (interval W s) l).start) (root_hull (interval W s) r).start ≡ lowest W l (lowest W r (start W s)))
      × (max (max (stop W s) (root_hull (interval W s) l).end) (root_hull (interval W s) r).end ≡ highest W l (highest W r (stop W s)))
  hull_is s leaf leaf = omega arith
  hull_is s leaf (node a b c) = omega arith
  hull_is s (node a b c) leaf = omega arith
  hull_is s (node a b c) (node x y z) = omega arith

  -- the clauses at one node
  record Right (l : Tree) (s : ℕ) (r : Tree) : Type 0 where
    proper : start W s < stop W s
    before : NotAfter (last_of W (interval W s) l) (interval W s)
    after : NotAfter (interval W s) (first_of W (interval W s) r)
    low : lo W s ≡ min (min (start W s) (root_hull (interval W s) l).start) (root_hull (interval W s) r).start
    high : hi W s ≡ max (max (stop W s) (root_hull (interval W s) l).end) (root_hull (interval W s) r).end
    equal_blacks : blacks (red C) l ≡ blacks (red C) r
    no_red_red : red C s ≡ true → (root_red (red C) l ≡ false) × (root_red (red C) r ≡ false)

  module _ (l : Tree) (s : ℕ) (r : Tree) where
    right : Tells (suits (node_at_lem W C s) (found_of (interval W s) l) (found_of (interval W s) r)) (Right l s r)
    right =
        let order = both (both (less (start W s) (stop W s)) (after (last_of W (interval W s) l) (interval W s))) (after (interval W s) (first_of W (interval W s) r)) in
        let hulls = both (same (lo W s) _) (same (hi W s) _) in
        let red_black = both (same (blacks (red C) l) (blacks (red C) r)) (no_red_red (red C s) (root_red (red C) l) (root_red (red C) r)) in
        let all = both (both order hulls) red_black in
        record {
          holds = λ e. let ((((a, b), c), (d, f)), (g, i)) = all.holds e in
              record { proper = a; before = b; after = c; low = d; high = f; equal_blacks = g; no_red_red = i };
          says = λ h. all.says ((((h.proper, h.before), h.after), (h.low, h.high)), (h.equal_blacks, h.no_red_red));
        }

    -- a node that is right, between two trees that are well
    pub well_node : suits (node_at_lem W C s) (found_of (interval W s) l) (found_of (interval W s) r) ≡ true → Well W C l → Well W C r
        → Well W C (node l s r)
    well_node e x y =
        let h : Right l s r = right.holds e in
        record {
          proper = λ a o. occ_cases a s l r o (x.proper a) (λ q. rw q h.proper) (y.proper a);
          rising = rising_node W l s r x.rising y.rising h.before h.after;
          hulls = record {
            low = h.low ∙ (hull_is s l r).0 ∙ low_node W l s r x.hulls y.hulls;
            high = h.high ∙ (hull_is s l r).1 ∙ high_node W l s r x.hulls y.hulls;
            left = x.hulls;
            right = y.hulls;
          };
          red_black = record { no_red_red = h.no_red_red; equal_blacks = h.equal_blacks; left = x.red_black; right = y.red_black };
        }

    module _ (h : Well W C (node l s r)) where
      pub well_left : Well W C l
      well_left = record {
        proper = λ a o. h.proper a (omega arith);
        rising = rising_left W (slots l) (s ∷ slots r) h.rising;
        hulls = h.hulls.left;
        red_black = h.red_black.left;
      }

      pub well_right : Well W C r
      well_right = record {
        proper = λ a o. h.proper a (omega arith);
        rising = (rising_right W (slots l) (s ∷ slots r) h.rising).1;
        hulls = h.hulls.right;
        red_black = h.red_black.right;
      }

      pub node_suits : suits (node_at_lem W C s) (found_of (interval W s) l) (found_of (interval W s) r) ≡ true
      node_suits =
          right.says (record {
            proper = h.proper s (omega (arith, hit_same s));
            before = before_node W l s r h.rising;
            after = after_node W l s r (rising_right W (slots l) (s ∷ slots r) h.rising);
            low = h.hulls.low ∙ sym ((hull_is s l r).0 ∙ low_node W l s r h.hulls.left h.hulls.right);
            high = h.hulls.high ∙ sym ((hull_is s l r).1 ∙ high_node W l s r h.hulls.left h.hulls.right);
            equal_blacks = h.red_black.equal_blacks;
            no_red_red = h.red_black.no_red_red;
          })

    -- what is then found of it
    pub found_node : (d : Interval) → suits (node_at_lem W C s) (found_of (interval W s) l) (found_of (interval W s) r) ≡ true
        → combined (node_at_lem W C s) (found_of (interval W s) l) (found_of (interval W s) r) ≡ found_of d (node l s r)
    found_node d e = rw (e, add-one (size l + size r))
