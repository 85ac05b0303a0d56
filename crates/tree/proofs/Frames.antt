-- A tree, and a way up, stay where the words that they name stay; and the way from a place to the
-- root and back.
use lib.ListN.{length}
use mathlib.Core.Path.{◌≡◌, refl, sym, subst, ◌∙◌}
use mathlib.Core.Logic.{◌≢◌}
use mathlib.Core.Bool.{Bool, true, false, not}
use mathlib.Core.List.{List, [], ◌∷◌}
use Prim.Native.Nat.{ℕ, ◌<◌, ◌≤◌, suc, ◌+◌}
use native.Mathlib.Omega.{arith}
use Rattle.words.specs.Ix.{U}
use Rattle.words.specs.Nodes.{kid, par}
use Rattle.tree.specs.Tree.{Tree, leaf, node, occ, Node, Shape, height}
use Rattle.tree.specs.Zipper.{bin, Frame, frame, plug, occs, Above}
use Rattle.tree.proofs.Slots.{hit_same, occ_cases, apart, occ_plug}

-- a slot has the links in X that it has in W
abbrev pub Same : List ℕ → List ℕ → ℕ → Type 0
Same W X s = ((b : Bool) → kid X b s ≡ kid W b s) × (par X s ≡ par W s)

module _ (W : List ℕ) (n : ℕ) where
  pub shape_live : (p k : ℕ) (t : Tree) (s : ℕ) → Shape W n p k t → 0 < occ s t → s < n
  shape_live p k leaf s h o = omega arith
  shape_live p k (node l a r) s h o =
      occ_cases s a l r o
      (shape_live a (kid W true a) l s h.left)
      (λ e. rw e h.live)
      (shape_live a (kid W false a) r s h.right)

  pub way_live : (r : ℕ) (c : List Frame) (p k s : ℕ) → Above W n r c p k → 0 < occs s c → s < n
  way_live r [] p k s h o = omega arith
  way_live r (frame b a far ∷ c) p k s h o =
      occ_cases s a far (plug c leaf) (omega (arith, occ_plug s c leaf))
      (shape_live a (kid W (not b) a) far s h.far)
      (λ e. rw e h.live)
      (λ q. way_live r c (par W a) a s h.rest (omega (arith, occ_plug s c leaf)))

  -- a link to a live slot leads to a tree that has the slot at its root
  pub shape_root : (p k : ℕ) (t : Tree) → n ≤ 65535 → k < n → Shape W n p k t → 0 < occ k t
  shape_root p k leaf m q h = omega arith
  shape_root p k (node l a r) m q h = rw h.here (omega (arith, hit_same a))

  pub off_link : (p k : ℕ) (t : Tree) (s : ℕ) → n ≤ 65535 → Shape W n p k t → s < n → occ s t ≡ 0 → s ≢ k
  off_link p k t s m h q z e =
      let x : occ k t ≡ 0 = rw e at z in
      omega (arith, shape_root p k t m (rw e at q) h)

  flip_node : {p k s : ℕ} {L R : Type 0} → Node W n p k s L R → Node W n p k s R L
  flip_node h = record { here = h.here; live = h.live; up = h.up; left = h.right; right = h.left }

  -- the two subtrees by side
  pub open_bin : (p k : ℕ) (b : Bool) (x : Tree) (s : ℕ) (y : Tree) → Shape W n p k (bin b x s y)
      → Node W n p k s (Shape W n s (kid W b s) x) (Shape W n s (kid W (not b) s) y)
  open_bin p k true x s y h = h
  open_bin p k false x s y h = flip_node h

  pub make_bin : (p k : ℕ) (b : Bool) (x : Tree) (s : ℕ) (y : Tree)
      → Node W n p k s (Shape W n s (kid W b s) x) (Shape W n s (kid W (not b) s) y) → Shape W n p k (bin b x s y)
  make_bin p k true x s y h = h
  make_bin p k false x s y h = flip_node h

pub bin_flip : (b : Bool) (x : Tree) (s : ℕ) (y : Tree) → bin (not b) y s x ≡ bin b x s y
bin_flip true x s y = refl
bin_flip false x s y = refl

module _ (W X : List ℕ) (n : ℕ) where
  -- the frame rule
  pub keep : (p k : ℕ) (t : Tree) → ((s : ℕ) → 0 < occ s t → Same W X s) → Shape W n p k t → Shape X n p k t
  keep p k leaf f h = h
  keep p k (node l a r) f h =
      let w : Same W X a = f a (omega (arith, hit_same a)) in
      record {
        here = h.here;
        live = h.live;
        up = w.1 ∙ h.up;
        left = rw (w.0 true) (keep a (kid W true a) l (λ s q. f s (omega arith)) h.left);
        right = rw (w.0 false) (keep a (kid W false a) r (λ s q. f s (omega arith)) h.right);
      }

  -- the frame rule for a tree whose root gets another parent
  pub move : (p q k : ℕ) (t : Tree) → ((s : ℕ) → 0 < occ s t → s ≢ k → Same W X s)
      → (0 < occ k t → ((b : Bool) → kid X b k ≡ kid W b k) × (par X k ≡ q)) → occ k t ≤ 1 → Shape W n p k t → Shape X n q k t
  move p q k leaf f u o h = h
  move p q k (node l a r) f u o h =
      let e : k ≡ a = h.here in
      let one : occ a (node l a r) ≤ 1 = subst (λ (x : ℕ). occ x (node l a r) ≤ 1) e o in
      let z : (occ a l ≡ 0) × (occ a r ≡ 0) = omega (arith, hit_same a) in
      let fl : (s : ℕ) → 0 < occ s l → Same W X s = λ s y. f s (omega arith) (rw e (apart s a l z.0 y)) in
      let fr : (s : ℕ) → 0 < occ s r → Same W X s = λ s y. f s (omega arith) (rw e (apart s a r z.1 y)) in
      let here : 0 < occ k (node l a r) = rw e (omega (arith, hit_same a)) in
      record {
        here = e;
        live = h.live;
        up = rw e at (u here).1;
        left = rw (rw e at ((u here).0 true)) (keep a (kid W true a) l fl h.left);
        right = rw (rw e at ((u here).0 false)) (keep a (kid W false a) r fr h.right);
      }

  -- the frame rule for a way up
  pub above_keep : (r : ℕ) (c : List Frame) (p k : ℕ) → ((s : ℕ) → 0 < occs s c → Same W X s) → Above W n r c p k → Above X n r c p k
  above_keep r [] p k f h = h
  above_keep r (frame b s far ∷ c) p k f h =
      let w : Same W X s = f s (omega (arith, hit_same s)) in
      record {
        at = h.at;
        here = h.here ∙ sym (w.0 b);
        live = h.live;
        far = rw (w.0 (not b)) (keep s (kid W (not b) s) far (λ a q. f a (omega arith)) h.far);
        rest = rw w.1 (above_keep r c (par W s) s (λ a q. f a (omega arith)) h.rest);
      }

-- one step up, and one down
module _ (W : List ℕ) (n r : ℕ) (b : Bool) (s : ℕ) (c : List Frame) where
  pub go_up : (p k : ℕ) (t far : Tree) → Above W n r (frame b s far ∷ c) p k → Shape W n p k t
      → Above W n r c (par W s) s × Shape W n (par W s) s (bin b t s far)
  go_up p k t far h q = (
    h.rest,
    make_bin W n (par W s) s b t s far
        (record { here = refl; live = h.live; up = refl; left = rw (h.at, h.here) at q; right = h.far }),
  )

  pub go_down : (p k : ℕ) (t far : Tree) → Above W n r c p k → Shape W n p k (bin b t s far)
      → Above W n r (frame b s far ∷ c) s (kid W b s) × Shape W n s (kid W b s) t
  go_down p k t far h q =
      let o : Node W n p k s (Shape W n s (kid W b s) t) (Shape W n s (kid W (not b) s) far) = open_bin W n p k b t s far q in
      (record { at = refl; here = refl; live = o.live; far = o.right; rest = rw (o.here, ← o.up) at h }, o.left)

-- a tree at a place is a tree below the root, and the other way round
module _ (W : List ℕ) (n r : ℕ) where
  pub plug_shape : (c : List Frame) (p k : ℕ) (t : Tree) → Above W n r c p k → Shape W n p k t → Shape W n U r (plug c t)
  plug_shape [] p k t h q = rw (← h.0, ← h.1) q
  plug_shape (frame b s far ∷ c) p k t h q =
      let (a, u) = go_up W n r b s c p k t far h q in
      plug_shape c (par W s) s (bin b t s far) a u

  pub unplug_shape : (c : List Frame) (t : Tree) → Shape W n U r (plug c t) → (p : ℕ) × (k : ℕ) × Above W n r c p k × Shape W n p k t
  unplug_shape [] t h = (U, r, (refl, refl), h)
  unplug_shape (frame b s far ∷ c) t h =
      let (p, k, a, q) = unplug_shape c (bin b t s far) h in
      let (d, u) = go_down W n r b s c p k t far a q in
      (s, kid W b s, d, u)

-- a way up and what is below it are no higher than the whole
pub way_height : (c : List Frame) (t : Tree) → length c + height t ≤ height (plug c t)
way_height [] t = omega arith
way_height (frame b s far ∷ c) t = go b (way_height c (bin b t s far))
  where
    go : (b : Bool) → length c + height (bin b t s far) ≤ height (plug c (bin b t s far)) → suc (length c) + height t ≤ height (plug c (bin b t s far))
    go true h = omega arith
    go false h = omega arith

-- the count may fall where no slot of the tree is lost
pub shrink : (W : List ℕ) (n m p k : ℕ) (t : Tree) → ((s : ℕ) → 0 < occ s t → s < m) → Shape W n p k t → Shape W m p k t
shrink W n m p k leaf f h = h
shrink W n m p k (node l s r) f h =
    record {
      here = h.here;
      live = f s (omega (arith, hit_same s));
      up = h.up;
      left = shrink W n m s (kid W true s) l (λ a o. f a (omega arith)) h.left;
      right = shrink W n m s (kid W false s) r (λ a o. f a (omega arith)) h.right;
    }

-- the place of a slot
pub find : {A : Type 0} (s : ℕ) (t : Tree) (c : List Frame) → 0 < occ s t
    → ((d : List Frame) (l r : Tree) → plug c t ≡ plug d (node l s r) → A) → A
find s leaf c o k = absurd (omega arith)
find s (node l a r) c o k =
    occ_cases s a l r o
    (λ i. find s l (frame true a r ∷ c) i k)
    (λ e. k c l r (rw e))
    (λ i. find s r (frame false a l ∷ c) i k)
