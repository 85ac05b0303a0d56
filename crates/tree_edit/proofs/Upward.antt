-- Hulls: where a hull is worked out from its children's, and the walk up to the root that leaves
-- every hull right.
use mathlib.Core.Path.{◌≡◌, refl, ap, subst, fun_ext, ◌∙◌, sym}
use mathlib.Core.Bool.{Bool, true, false, not}
use mathlib.Core.List.{List, [], ◌∷◌, ◌++◌}
use Prim.Native.Nat.{ℕ, zero, suc, ◌+◌, ◌<◌, ◌≤◌, min, max}
use native.Mathlib.Omega.{arith}
use lib.ListN.{length}
use Rattle.words.specs.Ix.{U}
use Rattle.words.specs.Intervals.{extended}
use Rattle.words.specs.Nodes.{start, stop, lo, hi, kid, par, interval, hull, entry, joined, hull_of, fix, Holds}
use Rattle.words.proofs.Nodes.{length_fix, word_fix, word_fix_slot, hull_fix}
use Rattle.words.specs.declared.interval.Interval.{Interval}
use Rattle.words.specs.declared.node.Field.TheVariants.{Start, End, Value, Child, Parent}
use Rattle.tree.specs.Tree.{Tree, hit, occ, Shape, leaf, node}
use Rattle.tree.specs.Zipper.{bin, Frame, plug, occs, Above, frame}
use Rattle.tree.specs.Hulls.{Hulls, least, most, lowest, highest}
use Rattle.tree.proofs.Slots.{hit_same, apart, occ_bin}
use Rattle.tree.proofs.Frames.{Same, open_bin, keep, above_keep, go_up}
use Rattle.tree.proofs.Hulls.{low_node, high_node}
use Rattle.tree_edit.specs.Links.{fix_up}
use Rattle.tree_edit.proofs.Carried.{Kept}
use Rattle.tree_edit.proofs.Links.{by_link, on_slot, on_none}
use Rattle.tree_edit.proofs.Beside.{HullsBy, hulls_same, by_same, by_append, by_left, by_right, open_hull}

-- the two children's hulls may be joined in either order
lowest_swap : (W : List ℕ) (l r : Tree) (d : ℕ) → lowest W r (lowest W l d) ≡ lowest W l (lowest W r d)
lowest_swap W leaf r d = refl
lowest_swap W (node a s b) leaf d = refl
lowest_swap W (node a s b) (node x y z) d = omega arith

highest_swap : (W : List ℕ) (l r : Tree) (d : ℕ) → highest W r (highest W l d) ≡ highest W l (highest W r d)
highest_swap W leaf r d = refl
highest_swap W (node a s b) leaf d = refl
highest_swap W (node a s b) (node x y z) d = omega arith

-- `update_subtree_interval` writes the hull of its slot alone
pub same_fix : (n : ℕ) (W : List ℕ) (s a : ℕ) → Same W (fix n W s) a
same_fix n W s a = (λ b. word_fix n W s (Child b) a refl, word_fix n W s Parent a refl)

pub entry_fix : (n : ℕ) (W : List ℕ) (s a : ℕ) → entry (fix n W s) a ≡ entry W a
entry_fix n W s a = λ t. record { start = word_fix n W s Start a refl t; end = word_fix n W s End a refl t; value = word_fix n W s Value a refl t }

module _ (n : ℕ) (W : List ℕ) (s : ℕ) where
  hulls_fix : (t : Tree) → occ s t ≡ 0 → Hulls W t → Hulls (fix n W s) t
  hulls_fix t z = hulls_same W (fix n W s) t (λ a o g q. word_fix_slot n W s g a (apart a s t z o))

  pub by_fix : (c : List Frame) → occs s c ≡ 0 → HullsBy W c → HullsBy (fix n W s) c
  by_fix [] z h = tt
  by_fix (frame b k far ∷ c) z h = (hulls_fix far (omega arith) h.0, by_fix c (omega arith) h.1)

  start_fix : start (fix n W s) ≡ start W
  start_fix = fun_ext (λ a. word_fix n W s Start a refl)

  stop_fix : stop (fix n W s) ≡ stop W
  stop_fix = fun_ext (λ a. word_fix n W s End a refl)

module _ (W : List ℕ) (n : ℕ) (small : n ≤ 65535) where
  -- the hull behind a link
  join_link : (p k : ℕ) (t : Tree) (d : Interval) → Shape W n p k t
      → joined n W k d ≡ record { start = lowest W t d.start; end = highest W t d.end }
  unfolding joined
  join_link p k leaf d h = on_none n k (omega arith) (λ s. extended d (hull W s)) d
  join_link p k (node l s r) d h =
      let e : min d.start (lo W s) ≡ min (lo W s) d.start = omega arith in
      let f : max d.end (hi W s) ≡ max (hi W s) d.end = omega arith in
      rw h.here (on_slot n s h.live (λ s. extended d (hull W s)) d ∙ (λ t. record { start = e t; end = f t }))

  join_node : (p k : ℕ) (l : Tree) (s : ℕ) (r : Tree) → Shape W n p k (node l s r)
      → hull_of n W s ≡ record { start = lowest W r (lowest W l (start W s)); end = highest W r (highest W l (stop W s)) }
  unfolding hull_of
  join_node p k l s r h =
      join_link s (kid W false s) r _ h.right ∙ rw (join_link s (kid W true s) l (interval W s) h.left) refl

  -- one slot: its hull is right after `fix`, if its children's are
  fix_node : (p k : ℕ) (l : Tree) (s : ℕ) (r : Tree) → Holds W n → occ s l ≡ 0 → occ s r ≡ 0
      → Shape W n p k (node l s r) → Hulls W l → Hulls W r → Hulls (fix n W s) (node l s r)
  fix_node p k l s r room zl zr h hl hr =
      let q : s < n = h.live in
      let e : hull (fix n W s) s ≡ record { start = lowest W r (lowest W l (start W s)); end = highest W r (highest W l (stop W s)) } =
      hull_fix n W s (omega arith) ∙ join_node p k l s r h in
      record {
        low = subst (λ (g : ℕ → ℕ). lo (fix n W s) s ≡ least g (node l s r) (g s)) (sym (start_fix n W s)) (ap (λ (i : Interval). i.start) e ∙ lowest_swap W l r (start W s) ∙ low_node W l s r hl hr);
        high = subst (λ (g : ℕ → ℕ). hi (fix n W s) s ≡ most g (node l s r) (g s)) (sym (stop_fix n W s)) (ap (λ (i : Interval). i.end) e ∙ highest_swap W l r (stop W s) ∙ high_node W l s r hl hr);
        left = hulls_fix n W s l zl hl;
        right = hulls_fix n W s r zr hr;
      }

  pub fix_bin : Holds W n → (p k : ℕ) (b : Bool) (t : Tree) (s : ℕ) (far : Tree)
      → occ s t ≡ 0 → occ s far ≡ 0 → Shape W n p k (bin b t s far) → Hulls W t → Hulls W far → Hulls (fix n W s) (bin b t s far)
  fix_bin room p k true t s far zt zf h ht hf = fix_node p k t s far room zt zf h ht hf
  fix_bin room p k false t s far zt zf h ht hf = fix_node p k far s t room zf zt h hf ht

-- `fix_intervals_up` from p, the parent of the place
pub hulls_upward : (height : ℕ) (W : List ℕ) (n r : ℕ) (c : List Frame) (p k : ℕ) (t : Tree) → n ≤ 65535 → Holds W n → length c ≤ height
    → ((s : ℕ) → occs s c + occ s t ≤ 1) → Above W n r c p k → Shape W n p k t → Hulls W t → HullsBy W c
    → Hulls (fix_up n height W p) (plug c t) × Shape (fix_up n height W p) n U r (plug c t)
unfolding fix_up
hulls_upward zero W n r [] p k t m room f one h q ht hc = (ht, rw (← h.0, ← h.1) q)
hulls_upward (suc height) W n r [] p k t m room f one h q ht hc = rw (on_none n p (omega (arith, h.0))) (ht, rw (← h.0, ← h.1) q)
hulls_upward zero W n r (frame b s far ∷ c) p k t m room f one h q ht hc = absurd (omega arith)
hulls_upward (suc height) W n r (frame b s far ∷ c) p k t m room f one h q ht hc =
    let z : (occ s t ≡ 0) × (occ s far ≡ 0) × (occs s c ≡ 0) = omega (arith, one s, hit_same s) in
    let (a, o) = go_up W n r b s c p k t far h q in
    let i = hulls_upward height (fix n W s) n r c (par W s) s (bin b t s far) m (rw length_fix room) (omega arith)
    (λ x. omega (arith, one x, occ_bin x b t s far))
    (above_keep W (fix n W s) n r c (par W s) s (λ x y. same_fix n W s x) a)
    (keep W (fix n W s) n (par W s) s (bin b t s far) (λ x y. same_fix n W s x) o)
    (fix_bin W n m room (par W s) s b t s far z.0 z.1 o ht hc.0)
    (by_fix n W s c z.2 hc.1) in
    rw (h.at, on_slot n s h.live) i

-- it leaves every entry as it is, and the length
module _ (n : ℕ) where
  pub entry_fix_up : (height : ℕ) (W : List ℕ) (k a : ℕ) → entry (fix_up n height W k) a ≡ entry W a
  unfolding fix_up
  entry_fix_up zero W k a = refl
  entry_fix_up (suc height) W k a =
      by_link n k (λ X. entry X a ≡ entry W a) _ W (λ h. entry_fix_up height (fix n W k) (par W k) a ∙ entry_fix n W k a) (λ h. refl)

  pub length_fix_up : (height : ℕ) (W : List ℕ) (k : ℕ) → length (fix_up n height W k) ≡ length W
  unfolding fix_up
  length_fix_up zero W k = refl
  length_fix_up (suc height) W k =
      by_link n k (λ X. length X ≡ length W) _ W (λ h. length_fix_up height (fix n W k) (par W k) ∙ length_fix n W k) (λ h. refl)

  -- from no slot there is no walk
  pub fix_up_stops : (height : ℕ) (W : List ℕ) (k : ℕ) → n ≤ k → fix_up n height W k ≡ W
  unfolding fix_up
  fix_up_stops zero W k h = refl
  fix_up_stops (suc height) W k h = rw (on_none n k h)

-- the rotation of the fourth case, after which the hulls of S and then of Q are worked out: X are
-- the rotated words
pub by_four : (W X : List ℕ) (n p k : ℕ) (b : Bool) (P Q S : ℕ) (A B D : Tree) (i c : List Frame) → n ≤ 65535 → Holds X n
    → ((a : ℕ) → Kept W X a)
    → ((a : ℕ) → occs a i + (occ a A + hit a Q + (occ a B + hit a S + occ a D)) + occs a c ≤ 1)
    → Shape X n p k (bin b A Q (bin b B S D))
    → HullsBy W (i ++ (frame b P (bin b (bin b A Q B) S D) ∷ c))
    → HullsBy (fix n (fix n X S) Q) (i ++ (frame b P (bin b A Q (bin b B S D)) ∷ c))
by_four W X n p k b P Q S A B D i c m room f one sh h =
    let (u, v) = by_right W i (frame b P (bin b (bin b A Q B) S D) ∷ c) h in
    let (x, y) = open_hull W b (bin b A Q B) S D u in
    let (z, w) = open_hull W b A Q B x in
    let kept : (t : Tree) → Hulls W t → Hulls X t = λ t. hulls_same W X t (λ a o. f a) in
    let q = open_bin X n p k b A Q (bin b B S D) sh in
    let s₁ : Shape (fix n X S) n p k (bin b A Q (bin b B S D)) =
    keep X (fix n X S) n p k (bin b A Q (bin b B S D)) (λ a o. same_fix n X S a) sh in
    let h_s : Hulls (fix n X S) (bin b B S D) =
    fix_bin X n m room Q (kid X (not b) Q) b B S D (omega (arith, one S, hit_same S)) (omega (arith, one S, hit_same S)) q.right (kept B w) (kept D y) in
    let h_a : Hulls (fix n X S) A = hulls_fix n X S A (omega (arith, one S, hit_same S)) (kept A z) in
    let h_q : Hulls (fix n (fix n X S) Q) (bin b A Q (bin b B S D)) =
    fix_bin (fix n X S) n m (rw length_fix room) p k b A Q (bin b B S D) (omega (arith, one Q, hit_same Q))
    (omega (arith, one Q, hit_same Q, occ_bin Q b B S D)) s₁ h_a h_s in
    let way : (c : List Frame) → occs S c ≡ 0 → occs Q c ≡ 0 → HullsBy W c → HullsBy (fix n (fix n X S) Q) c =
    λ c zs zq o. by_fix n (fix n X S) Q c zq (by_fix n X S c zs (by_same W X c (λ a o. f a) o)) in
    by_append (fix n (fix n X S) Q) i (frame b P (bin b A Q (bin b B S D)) ∷ c)
    (way i (omega (arith, one S, hit_same S)) (omega (arith, one Q, hit_same Q)) (by_left W i (frame b P (bin b (bin b A Q B) S D) ∷ c) h))
    (h_q, way c (omega (arith, one S, hit_same S)) (omega (arith, one Q, hit_same Q)) v)

-- the way up from p, where it is not longer
pub fix_up_more : (c : List Frame) (height m : ℕ) (W : List ℕ) (n r p k : ℕ) → n ≤ 65535 → length c ≤ height → height ≤ m → Above W n r c p k
    → fix_up n m W p ≡ fix_up n height W p
unfolding fix_up
fix_up_more [] height m W n r p k small l h a =
    fix_up_stops n m W p (omega (arith, a.0)) ∙ sym (fix_up_stops n height W p (omega (arith, a.0)))
fix_up_more (frame b s far ∷ c) zero m W n r p k small l h a = absurd (omega arith)
fix_up_more (frame b s far ∷ c) (suc height) zero W n r p k small l h a = absurd (omega arith)
fix_up_more (frame b s far ∷ c) (suc height) (suc m) W n r p k small l h a =
    rw (a.at, on_slot n s a.live, on_slot n s a.live)
    (fix_up_more c height m (fix n W s) n r (par W s) s small (omega arith) (omega arith)
    (above_keep W (fix n W s) n r c (par W s) s (λ x y. same_fix n W s x) a.rest))
