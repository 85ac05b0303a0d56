-- On a store that passes the check the tour by links is the slots in tree order, and the plain
-- lookup finds what a drain from the fresh cursor finds.
use mathlib.Core.Path.{◌≡◌, refl, ap, ◌∙◌}
use mathlib.Core.Bool.{true, false}
use mathlib.Core.List.{List, [], ◌∷◌, ◌++◌, append_assoc, append-nil}
use Prim.Native.Nat.{ℕ, zero, suc, ◌+◌, ◌<◌, ◌≤◌}
use native.Mathlib.Omega.{arith}
use native.Mathlib.Nat.{zero-add}
use lib.ListN.{length, length-append}
use lib.Dec.{eqb}
use Rattle.words.specs.Ix.{U}
use Rattle.words.specs.Nodes.{kid, par}
use Rattle.words.specs.Lists.{filter}
use Rattle.words.specs.declared.interval.Span.{Span}
use Rattle.words.specs.declared.interval.Interval.{Interval}
use Rattle.tree.specs.Tree.{Tree, leaf, node, slots, size, height, occ, first, Shape}
use Rattle.tree.specs.Zipper.{bin, Frame, frame, occs, Above}
use Rattle.tree.specs.Passes.{Passes}
use Rattle.tree.proofs.Slots.{hit_same, occ_bin}
use Rattle.tree.proofs.Frames.{go_down}
use Rattle.tree.proofs.Checked.{tree_size, tree_low, slot_once}
use Rattle.tree_edit.specs.Links.{leftmost}
use Rattle.tree_edit.proofs.Links.{on_slot, on_none}
use Rattle.tree_edit.proofs.Rotations.{side_of}
use Rattle.iter.specs.Cursors.{ended, fresh}
use Rattle.iter.specs.Drains.{drain}
use Rattle.iter.specs.Exact.{equals, exact, find_from}
use Rattle.iter.specs.Ranges.{by_rule_lem}
use Rattle.iter.specs.Overlap.{meets, ruled}
use Rattle.iter_laws.proofs.OverlapRuns.{overlap_run}
use Rattle.iter_laws.proofs.ExactRuns.{exact_run}
use Rattle.plain_rule.specs.Tour.{ascend, next_of, first_of, tour, entries, plain}

-- the first slot above a place that has the place on its left
abbrev up_of : List Frame → ℕ
up_of [] = U
up_of (frame true s far ∷ c) = s
up_of (frame false s far ∷ c) = up_of c

length_slots : (t : Tree) → length (slots t) ≡ size t
length_slots leaf = refl
length_slots (node l s t) = rw length-append (omega (arith, length_slots l, length_slots t))

module _ (W : List ℕ) (n r : ℕ) (small : n ≤ 65535) where
  ascend_is : (height : ℕ) (c : List Frame) (s : ℕ) (t : Tree) → length c < height → s < n → 0 < occ s t
      → ((a : ℕ) → occs a c + occ a t ≤ 1) → Above W n r c (par W s) s → ascend n height W s ≡ up_of c
  unfolding ascend
  ascend_is zero c s t f h o one a = absurd (omega arith)
  ascend_is (suc height) [] s t f h o one a = on_none n (par W s) (omega (arith, a.0)) _ U
  ascend_is (suc height) (frame true p far ∷ c) s t f h o one a =
      let sd : eqb (kid W true p) s ≡ true = side_of W n p s true far small h (omega (arith, one s)) a.here a.far in
      rw (a.at, on_slot n p a.live, sd) refl
  ascend_is (suc height) (frame false p far ∷ c) s t f h o one a =
      let sd : eqb (kid W true p) s ≡ false = side_of W n p s false far small h (omega (arith, one s)) a.here a.far in
      let i : ascend n height W p ≡ up_of c =
      ascend_is height c p (bin false t p far) (omega arith) a.live (omega (arith, occ_bin p false t p far, hit_same p))
      (λ x. omega (arith, one x, occ_bin x false t p far)) a.rest in
      rw (a.at, on_slot n p a.live, sd) i

  leftmost_first : (steps p k : ℕ) (l : Tree) (s : ℕ) (t : Tree) → Shape W n p k (node l s t) → height (node l s t) ≤ steps
      → leftmost n steps W k ≡ first s l
  unfolding leftmost
  leftmost_first zero p k l s t h q = absurd (omega arith)
  leftmost_first (suc steps) p k leaf s t h q = rw h.here (on_none n (kid W true s) (omega (arith, h.left)) _ s)
  leftmost_first (suc steps) p k (node a b c) s t h q =
      let i : leftmost n steps W (kid W true s) ≡ first b a = leftmost_first steps s (kid W true s) a b c h.left (omega arith) in
      rw h.here (on_slot n (kid W true s) (rw h.left.here h.left.live) _ s ∙ i)

  next_is : (c : List Frame) (p k : ℕ) (l : Tree) (s : ℕ) (t : Tree) → Above W n r c p k → Shape W n p k (node l s t)
      → ((a : ℕ) → occs a c + occ a (node l s t) ≤ 1) → length c + height (node l s t) ≤ 32 → next_of n W s ≡ first (up_of c) t
  unfolding next_of
  next_is c p k l s leaf a h one low =
      on_none n (kid W false s) (omega (arith, h.right)) _ _
      ∙ ascend_is 32 c s (node l s leaf) (omega arith) h.live (omega (arith, hit_same s)) one (rw (h.here, ← h.up) at a)
  next_is c p k l s (node u b v) a h one low =
      on_slot n (kid W false s) (rw h.right.here h.right.live) _ _
      ∙ leftmost_first 32 s (kid W false s) u b v h.right (omega arith)

  tour_tree : (t : Tree) (c : List Frame) (p k f : ℕ) → Above W n r c p k → Shape W n p k t → ((a : ℕ) → occs a c + occ a t ≤ 1)
      → length c + height t ≤ 32 → tour n (size t + f) W (first (up_of c) t) ≡ slots t ++ tour n f W (up_of c)
  unfolding tour
  tour_tree leaf c p k f a h one low = rw zero-add refl
  tour_tree (node l s t) c p k f a h one low =
      let (al, hl) = go_down W n r true s c p k l t a h in
      let (at, ht) = go_down W n r false s c p k t l a h in
      let e : size (node l s t) + f ≡ size l + suc (size t + f) = omega arith in
      let i : tour n (size l + suc (size t + f)) W (first s l) ≡ slots l ++ tour n (suc (size t + f)) W s =
      tour_tree l (frame true s t ∷ c) s (kid W true s) (suc (size t + f)) al hl (λ x. omega (arith, one x)) (omega arith) in
      let j : tour n (size t + f) W (first (up_of c) t) ≡ slots t ++ tour n f W (up_of c) =
      tour_tree t (frame false s l ∷ c) s (kid W false s) f at ht (λ x. omega (arith, one x)) (omega arith) in
      let g : tour n (suc (size t + f)) W s ≡ s ∷ tour n (size t + f) W (next_of n W s) = on_slot n s h.live _ [] in
      rw (e, i, g, next_is c p k l s t a h one low, j, append_assoc) refl

module _ (W C : List ℕ) (n r : ℕ) (small : n ≤ 65535) (P : Passes W C n r) where
  first_is : first_of n W r ≡ first U P.tree
  unfolding first_of
  first_is = go P.tree P.shape (tree_low W C n r P small)
    where
      go : (t : Tree) → Shape W n U r t → height t ≤ 32 → first_of n W r ≡ first U t
      go leaf h low = on_none n r (omega arith) _ U
      go (node l s t) h low = on_slot n r (rw h.here h.live) _ U ∙ leftmost_first W n r small 32 U r l s t h low

  -- "every entry in tree order"
  pub entries_are : entries n W r ≡ slots P.tree
  unfolding entries tour
  entries_are =
      let e : n ≡ size P.tree + 0 = omega (arith, tree_size W C n r P) in
      rw (first_is) (ap (λ (k : ℕ). tour n k W (first U P.tree)) e
      ∙ tour_tree W n r small P.tree [] U r 0 (refl, refl) P.shape (λ a. omega (arith, slot_once W C n r P a)) (omega (arith, tree_low W C n r P small))
      ∙ append-nil (slots P.tree))

  -- "its list of slots equals that of a fresh drain run to its end, overlap and exact"
  pub overlap_agrees : (k : ℕ) (q : Span) (limit : ℕ) → length (plain n W (ruled W n k q) r) < limit
      → ((drain W n (ruled W n k q) limit (fresh r)).slots ≡ plain n W (ruled W n k q) r) × ((drain W n (ruled W n k q) limit (fresh r)).next ≡ ended)
  unfolding plain
  overlap_agrees k q limit h =
      let i : length (filter (meets W (by_rule_lem k q)) (slots P.tree)) < limit = rw entries_are at h in
      rw (overlap_run W C n r k q small P limit i, entries_are) (refl, refl)

  pub exact_agrees : (x : Interval) (limit : ℕ) → length (plain n W (exact W n x) r) < limit
      → ((drain W n (exact W n x) limit (fresh (find_from W n x r))).slots ≡ plain n W (exact W n x) r)
      × ((drain W n (exact W n x) limit (fresh (find_from W n x r))).next ≡ ended)
  unfolding plain
  exact_agrees x limit h =
      let k : length (filter (equals W x) (slots P.tree)) < limit = rw entries_are at h in
      let z = exact_run W C n r x small P limit k in
      rw entries_are z

  -- "Its entered count is the map's count"
  pub entered_all : length (entries n W r) ≡ n
  entered_all = rw entries_are (length_slots P.tree ∙ tree_size W C n r P)
