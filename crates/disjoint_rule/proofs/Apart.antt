-- On a store that passes the check, the test of each slot with its two links says yes everywhere
-- exactly if the entries are a chain, and so exactly if no two of them intersect.
use mathlib.Core.Path.{◌≡◌, refl}
use mathlib.Core.Logic.{◌↔◌}
use mathlib.Core.Bool.{true, false}
use mathlib.Core.List.{List, map-append}
use Prim.Native.Nat.{ℕ, zero, suc, ◌<◌, ◌≤◌}
use native.Mathlib.Omega.{arith}
use borrow.Author.Tests.{leb-true, le-leb, lt-leb}
use Rattle.words.specs.Ix.{U, on_link}
use Rattle.words.specs.Nodes.{start, stop, lo, hi, kid, interval}
use Rattle.tree.specs.Tree.{Tree, leaf, node, slots, occ, Shape}
use Rattle.tree.specs.Hulls.{Hulls}
use Rattle.tree.specs.Passes.{Passes}
use Rattle.tree.proofs.Slots.{hit_same, hit_cases, hit_zero, occ_cases, times_slots}
use Rattle.tree.proofs.Hulls.{most_at, least_at}
use Rattle.tree.proofs.Checked.{slot_live}
use Rattle.iter.proofs.Bools.{and_left, and_right}
use Rattle.iter_laws.proofs.Within.{within}
use Rattle.disjoint_rule.specs.Disjoint.{Disjoint, ChainAt}
use Rattle.disjoint_rule.specs.Apart.{apart_left, apart_right, apart_at, apart_below}
use Rattle.disjoint_rule.proofs.Chains.{chain_join, Proper, chain_node, all_proper_law, chain_disjoint, disjoint_chain}

module _ (W : List ℕ) (n : ℕ) (small : n ≤ 65535) where
  -- the test of all slots below m, and that of each
  below : (m : ℕ) → apart_below W n m ≡ true → (s : ℕ) → s < m → apart_at W n s ≡ true
  unfolding apart_below
  below zero e s h = absurd (omega arith)
  below (suc m) e s h =
      hit_cases s m
      (λ q. rw q (and_left (apart_at W n m) (apart_below W n m) e))
      (λ z. below m (and_right (apart_at W n m) (apart_below W n m) e) s (omega (arith, hit_zero s m z)))

  above : (m : ℕ) → ((s : ℕ) → s < m → apart_at W n s ≡ true) → apart_below W n m ≡ true
  unfolding apart_below
  above zero f = refl
  above (suc m) f = rw (f m (omega arith), above m (λ s h. f s (omega arith))) refl

  -- what the test of a link says of the subtree behind it, and back
  left_ends : (s : ℕ) (t : Tree) → Shape W n s (kid W true s) t → Hulls W t → apart_left W n s ≡ true
      → (a : ℕ) → 0 < occ a t → stop W a ≤ start W s
  unfolding apart_left on_link
  left_ends s leaf h u e a o = absurd (omega arith)
  left_ends s (node l k r) h u e a o =
      omega (arith, leb-true (hi W k) (start W s) (rw (h.here, lt-leb n k h.live) at e), (within W l k r a u o).1)

  right_starts : (s : ℕ) (t : Tree) → Shape W n s (kid W false s) t → Hulls W t → apart_right W n s ≡ true
      → (a : ℕ) → 0 < occ a t → stop W s ≤ start W a
  unfolding apart_right on_link
  right_starts s leaf h u e a o = absurd (omega arith)
  right_starts s (node l k r) h u e a o =
      omega (arith, leb-true (stop W s) (lo W k) (rw (h.here, lt-leb n k h.live) at e), (within W l k r a u o).0)

  ends_left_lem : (s : ℕ) (t : Tree) → Shape W n s (kid W true s) t → Hulls W t → ((a : ℕ) → 0 < occ a t → stop W a ≤ start W s)
      → apart_left W n s ≡ true
  unfolding apart_left on_link
  ends_left_lem s leaf h u f = rw (h, le-leb n U (omega arith)) refl
  ends_left_lem s (node l k r) h u f =
      rw (h.here, lt-leb n k h.live)
      (most_at (stop W) (node l k r) (stop W k)
      (λ e. le-leb (hi W k) (start W s) (omega (arith, u.high, e, f k (omega (arith, hit_same k)))))
      (λ a o e. le-leb (hi W k) (start W s) (omega (arith, u.high, e, f a o))))

  starts_right_lem : (s : ℕ) (t : Tree) → Shape W n s (kid W false s) t → Hulls W t → ((a : ℕ) → 0 < occ a t → stop W s ≤ start W a)
      → apart_right W n s ≡ true
  unfolding apart_right on_link
  starts_right_lem s leaf h u f = rw (h, le-leb n U (omega arith)) refl
  starts_right_lem s (node l k r) h u f =
      rw (h.here, lt-leb n k h.live)
      (least_at (start W) (node l k r) (start W k)
      (λ e. le-leb (stop W s) (lo W k) (omega (arith, u.low, e, f k (omega (arith, hit_same k)))))
      (λ a o e. le-leb (stop W s) (lo W k) (omega (arith, u.low, e, f a o))))

  -- a tree whose slots all pass the test is a chain, and back
  chain_of : (p k : ℕ) (t : Tree) → Shape W n p k t → Hulls W t → ((s : ℕ) → 0 < occ s t → apart_at W n s ≡ true) → ChainAt W (slots t)
  unfolding apart_at
  chain_of p k leaf h u f = tt
  chain_of p k (node l s r) h u f =
      let e : apart_at W n s ≡ true = f s (omega (arith, hit_same s)) in
      let a = left_ends s l h.left u.left (and_left (apart_left W n s) (apart_right W n s) e) in
      let b = right_starts s r h.right u.right (and_right (apart_left W n s) (apart_right W n s) e) in
      rw map-append
      (chain_join W (slots l) (interval W s) (slots r) (chain_of s (kid W true s) l h.left u.left (λ c o. f c (omega arith)))
      (chain_of s (kid W false s) r h.right u.right (λ c o. f c (omega arith)))
      (λ c o. a c (rw times_slots at o)) (λ c o. b c (rw times_slots at o)))

  of_chain : (p k : ℕ) (t : Tree) → Shape W n p k t → Hulls W t → Proper W (slots t) → ChainAt W (slots t)
      → (s : ℕ) → 0 < occ s t → apart_at W n s ≡ true
  unfolding apart_at
  of_chain p k leaf h u f c s o = absurd (omega arith)
  of_chain p k (node l a r) h u f c s o =
      let N = chain_node W l a r c f in
      occ_cases s a l r o
      (of_chain a (kid W true a) l h.left u.left N.proper_left N.chain_left s)
      (λ e. rw (e, ends_left_lem a l h.left u.left N.before, starts_right_lem a r h.right u.right N.behind) refl)
      (of_chain a (kid W false a) r h.right u.right N.proper_right N.chain_right s)

-- the pass over the slots says yes exactly if no two entries intersect
pub apart_disjoint : (W C : List ℕ) (n r : ℕ) → n ≤ 65535 → Passes W C n r → (apart_below W n n ≡ true) ↔ Disjoint W n
apart_disjoint W C n r small P = (
  λ e. chain_disjoint W C n r P
      (chain_of W n small U r P.tree P.shape P.hulls (λ s o. below W n small n e s (slot_live W C n r P s o))),
  λ d. above W n small n (λ s h. of_chain W n small U r P.tree P.shape P.hulls (all_proper_law W C n r P) (disjoint_chain W C n r P d) s
      (omega (arith, P.once s h))),
)
