-- Entries and order: the way down to the place of a new entry has those that are not greater before
-- it, and the greater ones after it.
use mathlib.Core.Path.{◌≡◌, refl, sym, ap, ◌∙◌}
use mathlib.Core.Bool.{Bool, true, false, not, true≢false}
use mathlib.Core.List.{List, [], ◌∷◌, ◌++◌, append_assoc, append-nil}
use Prim.Native.Nat.{ℕ, zero, suc, ◌+◌, ◌<◌, ◌≤◌}
use native.Mathlib.Omega.{arith}
use Rattle.words.specs.Ix.{U}
use Rattle.words.specs.Intervals.{le}
use Rattle.words.specs.Nodes.{interval, kid}
use Rattle.words.specs.declared.interval.Interval.{Interval}
use Rattle.tree.specs.Tree.{Tree, leaf, node, slots, hit, occ, height, Shape, times}
use Rattle.tree.specs.Zipper.{bin, Frame, frame, plug}
use Rattle.tree.specs.Order.{NotAfter, RisingAt}
use Rattle.tree.proofs.Cases.{compare}
use Rattle.tree.proofs.Slots.{hit_same, hit_cases, times_append, times_slots}
use Rattle.tree.proofs.Orders.{after_trans, le_sound, le_complete, rising_left, rising_right, rising_at}
use Rattle.tree.proofs.Frames.{open_bin}
use Rattle.tree_edit.proofs.Links.{on_slot, on_none, not-not}
use Rattle.tree_in_rule.specs.Descent.{goes_left_lem, descend}

-- the slots before a place, and those after it
abbrev pub front : List Frame → List ℕ
front [] = []
front (frame true s far ∷ c) = front c
front (frame false s far ∷ c) = front c ++ (slots far ++ (s ∷ []))

abbrev pub back : List Frame → List ℕ
back [] = []
back (frame true s far ∷ c) = s ∷ (slots far ++ back c)
back (frame false s far ∷ c) = back c

pub slots_way : (c : List Frame) (t : Tree) → slots (plug c t) ≡ front c ++ (slots t ++ back c)
slots_way [] t = sym (append-nil (slots t))
slots_way (frame true s far ∷ c) t = slots_way c (node t s far) ∙ simp append_assoc
slots_way (frame false s far ∷ c) t = slots_way c (node far s t) ∙ simp append_assoc

-- a node by the side to go to
by_near : (X : Tree → Type 0) (v : Bool) (l : Tree) (s : ℕ) (r : Tree)
    → ((b : Bool) (near far : Tree) → v ≡ b → X (bin b near s far)) → X (node l s r)
by_near X true l s r f = f true l r refl
by_near X false l s r f = f false r l refl

module _ (W : List ℕ) (x : Interval) where
  -- at each step of a way, what it leaves to the left is not greater than x, and what it leaves to
  -- the right is greater
  abbrev pub Parted : List Frame → Type 0
  Parted [] = Unit {0}
  Parted (frame b s far ∷ c) = ((a : ℕ) → 0 < hit a s + occ a far → le (interval W a) x ≡ not b) × Parted c

  pub front_le : (c : List Frame) → Parted c → (a : ℕ) → 0 < times a (front c) → le (interval W a) x ≡ true
  front_le [] h a o = absurd (omega arith)
  front_le (frame true s far ∷ c) h a o = front_le c h.1 a o
  front_le (frame false s far ∷ c) h a o =
      let sum : times a (front (frame false s far ∷ c)) ≡ times a (front c) + (occ a far + (hit a s + 0)) =
      times_append a (front c) (slots far ++ (s ∷ [])) ∙ rw (times_append a (slots far) (s ∷ []), times_slots a far) in
      compare (times a (front c)) 0 (λ q. h.0 a (omega arith)) (λ q. front_le c h.1 a q)

  pub back_gt : (c : List Frame) → Parted c → (a : ℕ) → 0 < times a (back c) → le (interval W a) x ≡ false
  back_gt [] h a o = absurd (omega arith)
  back_gt (frame false s far ∷ c) h a o = back_gt c h.1 a o
  back_gt (frame true s far ∷ c) h a o =
      let sum : times a (back (frame true s far ∷ c)) ≡ hit a s + (occ a far + times a (back c)) =
      rw (times_append a (slots far) (back c), times_slots a far) in
      compare (times a (back c)) 0 (λ q. h.0 a (omega arith)) (λ q. back_gt c h.1 a q)

  -- the slot p has nothing on the side that the new entry goes to, and all the tree lies parted
  -- around that place
  pub record Hangs (t : Tree) (p : ℕ) : Type 0 where
    pub far : Tree
    pub c : List Frame
    pub tree_is : t ≡ plug (frame (goes_left_lem W x p) p far ∷ c) leaf
    pub parted : Parted (frame (goes_left_lem W x p) p far ∷ c)
    pub free : kid W (goes_left_lem W x p) p ≡ U

  -- what is left aside at the slot s, on the side that b is not
  aside : (b : Bool) (near : Tree) (s : ℕ) (far : Tree) → goes_left_lem W x s ≡ b → RisingAt W (slots (bin b near s far))
      → (a : ℕ) → 0 < hit a s + occ a far → le (interval W a) x ≡ not b
  unfolding goes_left_lem
  aside b near s far e h a o = hit_cases a s (λ q. rw q here) (λ z. go b e here h (omega arith))
    where
      here : le (interval W s) x ≡ not b
      here = sym (not-not (le (interval W s) x)) ∙ ap not e

      none : (v : Bool) → le (interval W a) x ≡ v → NotAfter (interval W s) (interval W a) → le (interval W s) x ≡ false → v ≡ false
      none true q i j =
          absurd (true≢false (sym (le_complete (interval W s) x (after_trans i (le_sound (interval W a) x q))) ∙ j))
      none false q i j = refl

      go : (b : Bool) → goes_left_lem W x s ≡ b → le (interval W s) x ≡ not b → RisingAt W (slots (bin b near s far)) → 0 < occ a far
          → le (interval W a) x ≡ not b
      go true e i h o =
          none (le (interval W a) x) refl
          (rising_at W s a (s ∷ []) (slots far) (rising_right W (slots near) (s ∷ slots far) h) (omega (arith, hit_same s))
          (omega (arith, times_slots a far)))
          i
      go false e i h o =
          le_complete (interval W a) x (after_trans
          (rising_at W a s (slots far) (s ∷ slots near) h (omega (arith, times_slots a far)) (omega (arith, hit_same s)))
          (le_sound (interval W s) x i))

  rising_near : (b : Bool) (near : Tree) (s : ℕ) (far : Tree) → RisingAt W (slots (bin b near s far)) → RisingAt W (slots near)
  rising_near true near s far h = rising_left W (slots near) (s ∷ slots far) h
  rising_near false near s far h = rising_right W (s ∷ []) (slots near) (rising_right W (slots far) (s ∷ slots near) h)

  height_near : (b : Bool) (near : Tree) (s : ℕ) (far : Tree) → suc (height near) ≤ height (bin b near s far)
  height_near true near s far = omega arith
  height_near false near s far = omega arith

  -- the way down from the slot s, which has the tree bin b near s far, to such a place: W is a
  -- store of n entries
  module _ (n : ℕ) (small : n ≤ 65535) where
    -- the link on the side b, where there is nothing
    pub no_link : (s : ℕ) → kid W (goes_left_lem W x s) s ≡ U → (levels : ℕ) → descend n levels W x s ≡ s
    unfolding descend
    no_link s u zero = refl
    no_link s u (suc levels) = rw u (on_none n U (omega arith) _ s)

    a_link : (s : ℕ) (b : Bool) (k : ℕ) → goes_left_lem W x s ≡ b → kid W b s ≡ k → k < n → (levels : ℕ)
        → descend n (suc levels) W x s ≡ descend n levels W x k
    unfolding descend
    a_link s b k e u q levels = rw (e, u) (on_slot n k q _ s)

    -- from the slot s with the tree bin b near s far, where b is the side to go to
    abbrev Down : ℕ → Type 0
    Down levels =
        (c : List Frame) (b : Bool) (near : Tree) (s : ℕ) (far : Tree) (p k : ℕ) → goes_left_lem W x s ≡ b
        → height (bin b near s far) ≤ suc levels → Shape W n p k (bin b near s far) → RisingAt W (slots (bin b near s far)) → Parted c
        → Hangs (plug c (bin b near s far)) (descend n levels W x s)

    end : (levels : ℕ) (c : List Frame) (b : Bool) (s : ℕ) (far : Tree) (p k : ℕ) → goes_left_lem W x s ≡ b
        → Shape W n p k (bin b leaf s far) → RisingAt W (slots (bin b leaf s far)) → Parted c
        → Hangs (plug c (bin b leaf s far)) (descend n levels W x s)
    end levels c b s far p k e h rise d =
        let u : kid W (goes_left_lem W x s) s ≡ U = rw e (open_bin W n p k b leaf s far h).left in
        rw (no_link s u levels) (record {
          far = far;
          c = c;
          tree_is = rw e;
          parted = rw e (aside b leaf s far e rise, d);
          free = u;
        })

    last : Down 0
    last c b leaf s far p k e low h rise d = end 0 c b s far p k e h rise d
    last c b (node l a r) s far p k e low h rise d = absurd (omega (arith, height_near b (node l a r) s far))

    next : (levels : ℕ) → Down levels → Down (suc levels)
    next levels rec c b leaf s far p k e low h rise d = end (suc levels) c b s far p k e h rise d
    next levels rec c b (node l a r) s far p k e low h rise d =
        let o = (open_bin W n p k b (node l a r) s far h).left in
        rw (a_link s b a e o.here o.live levels) (by_near
        (λ t. height t ≤ suc levels → Shape W n s (kid W b s) t → RisingAt W (slots t) → Hangs (plug (frame b s far ∷ c) t) (descend n levels W x a))
        (goes_left_lem W x a) l a r
        (λ d' near away e' low' h' rise'.
        rec (frame b s far ∷ c) d' near a away s (kid W b s) e' low' h' rise' (aside b (node l a r) s far e rise, d))
        (omega (arith, height_near b (node l a r) s far)) o (rising_near b (node l a r) s far rise))

    down : (levels : ℕ) → Down levels
    down zero = last
    down (suc levels) = next levels (down levels)

    pub descends : (levels : ℕ) (l : Tree) (s : ℕ) (r : Tree) (p k : ℕ) → height (node l s r) ≤ suc levels
        → Shape W n p k (node l s r) → RisingAt W (slots (node l s r)) → Hangs (node l s r) (descend n levels W x s)
    descends levels l s r p k =
        by_near
        (λ t. height t ≤ suc levels → Shape W n p k t → RisingAt W (slots t) → Hangs t (descend n levels W x s))
        (goes_left_lem W x s) l s r
        (λ b near far e low h rise. down levels [] b near s far p k e low h rise tt)
