-- The rule's steps, in the form in which the code's proofs ask for them.
use mathlib.Core.Path.{◌≡◌, refl, sym, ap, ap₂, ◌∙◌}
use mathlib.Core.Bool.{Bool, true, false, cond, not, ◌&&◌}
use Prim.Native.Nat.{ℕ, zero, suc, ◌+◌, ◌-◌, ◌*◌, ◌^◌, ◌<◌, ◌≤◌}
use native.Mathlib.Omega.{arith}
use native.Mathlib.Nat.{pow-suc}
use lib.Pow.{pow_mono}
use lib.Dec.{eqb, ltb}
use borrow.Author.Tests.{eq-eqb, ne_eqb, lt-ltb, le-ltb, eqb-false}
use Rattle.words.specs.Ix.{U}
use Rattle.words.specs.declared.interval.Interval.{Interval}
use Rattle.tree.specs.RedBlack.{black_of}
use Rattle.audit.specs.declared.Node.{Node}
use Rattle.audit.specs.declared.Found.{Found}
use Rattle.audit.specs.Survey.{no_nodes_lem, tied, fits, combined, childless, enters, pass}
use Rattle.audit.proofs.Tests.{both, same, less, not_so, twins}

-- a node that fits
pub joined : (x : Node) (l r : Found) (b : Bool) (d : ℕ) → b ≡ fits x l r → b ≡ true → (d ≡ black_of x.red) × (d ≤ 1)
    → record {
      ok = true;
      size = l.size + r.size + 1;
      blacks = d + l.blacks;
      red = x.red;
      first = l.first;
      last = r.last;
      hull = x.hull;
    } ≡ combined x l r
joined x l r b d e t q = rw (sym e ∙ t, q.0) refl

-- a node without children
module _ (d : Interval) (a : Found) (e : a ≡ no_nodes_lem true d) where
  pub lone_room : (a.size + a.size + 1 < 18446744073709551616) × (a.blacks + 1 < 18446744073709551616)
  lone_room = rw e (omega arith)

  pub lone_is : (x : Node) (r : Found) → r ≡ combined x a a → r ≡ combined x (no_nodes_lem true d) (no_nodes_lem true d)
  lone_is x r f = f ∙ ap (λ (b : Found). combined x b b) e

module _ (n h p k i j u : ℕ) where
  pub leaf_is : (left right up : ℕ) → k < n → i ≡ left → j ≡ right → u ≡ up
      → (eqb u p && eqb i U && eqb j U && not (eqb k U) && ltb 1 h) ≡ childless left right up n h p k
  leaf_is left right up q e f g = rw (lt-ltb k n q, e, f, g) refl

  pub leaf_not : n ≤ k → false ≡ childless i j u n h p k
  leaf_not q = rw (le-ltb k n q) refl

  module _ (l : Bool) (f : l ≡ childless i j u n h p k) (w : l ≡ true) where
    leaf : (k < n) × (((((u ≡ p) × (i ≡ U)) × (j ≡ U)) × (eqb k U ≡ false)) × (1 < h))
    leaf =
        (both (less k n) (both (both (both (both (same u p) (same i U)) (same j U)) (not_so (eqb k U))) (less 1 h))
        ).holds (sym f ∙ w)

    pub alive : k < n
    alive = leaf.0

-- what holds of both holds of the one that is taken
cond_all : {A : Type 0} (P : A → Type 0) (b : Bool) {x y : A} → P x → P y → P (cond b x y)
cond_all P true h k = h
cond_all P false h k = k

black_of_le : (b : Bool) → black_of b ≤ 1
black_of_le true = omega arith
black_of_le false = omega arith

-- what is found of a node x, with what X finds of its subtrees
abbrev pub through : (Node → Found → Found → Node) → (Interval → ℕ → Found) → Node → Found
through M X x =
    combined (M x (X x.interval x.left) (X x.interval x.right)) (X x.interval x.left) (X x.interval x.right)

-- the numbers that are found stay small, on any nodes
abbrev Small : ℕ → Found → Type 0
Small h a = (a.size + 1 ≤ 2 ^ h) × (a.blacks ≤ h)

module _ (M : Node → Found → Found → Node) (N : ℕ → Node) (n : ℕ) where
  small : (h p : ℕ) (d : Interval) (k : ℕ) → Small h (pass M N n h p d k)
  unfolding pass
  small zero p d k = omega arith
  small (suc h) p d k =
      go (pass M N n h k (N k).interval (N k).left) (pass M N n h k (N k).interval (N k).right)
      (small h k (N k).interval (N k).left) (small h k (N k).interval (N k).right)
    where
      e : 2 ^ suc h ≡ 2 ^ h * 2
      e = pow-suc 2 h

      o : 1 ≤ 2 ^ h
      o = pow_mono {i = 0} {j = h} (omega arith)

      go : (l r : Found) → Small h l → Small h r
          → Small (suc h) (cond (eqb k U) (no_nodes_lem true d) (cond (enters N n p k) (combined (M (N k) l r) l r) (no_nodes_lem false d)))
      go l r a b =
          cond_all (Small (suc h)) (eqb k U) (omega (arith, e, o))
          (cond_all (Small (suc h)) (enters N n p k)
          (cond_all (Small (suc h)) (fits (M (N k) l r) l r) (omega (arith, e, o, black_of_le (M (N k) l r).red)) (omega (arith, e, o)))
          (omega (arith, e, o)))

  -- so that what is added up of two subtrees fits
  pub room : (h p : ℕ) (d : Interval) (i k : ℕ) (l r : Found) → l ≡ pass M N n h p d i → r ≡ pass M N n h p d k → h ≤ 33
      → (l.size + r.size + 1 < 18446744073709551616) × (l.blacks + 1 < 18446744073709551616)
  room h p d i k l r e f q = rw (e, f) (omega (arith, small h p d i, small h p d k, pow_mono {i = h} {j = 33} q))

  -- one step of the pass, with the height g left below it
  abbrev onward : ℕ → ℕ → Interval → ℕ → Found
  onward g p d k = cond (eqb k U) (no_nodes_lem true d) (cond (enters N n p k) (through M (pass M N n g k) (N k)) (no_nodes_lem false d))

  module _ (h p : ℕ) (d : Interval) (k : ℕ) (r : Found) where
    step : (h ≡ 0 → ⊥) → pass M N n h p d k ≡ onward (h - 1) p d k
    unfolding pass
    step z = go h refl
      where
        go : (g : ℕ) → h ≡ g → pass M N n g p d k ≡ onward (g - 1) p d k
        go zero q = absurd (z q)
        go (suc g) q = let w : suc g - 1 ≡ g = omega arith in rw w refl

    pub dry : r ≡ no_nodes_lem false d → h ≡ 0 → r ≡ pass M N n h p d k
    unfolding pass
    dry e z = rw z e

    pub ended : r ≡ no_nodes_lem true d → (h ≡ 0 → ⊥) → k ≡ U → r ≡ pass M N n h p d k
    ended e z u = rw (step z, eq-eqb k U u) e

    pub outside : r ≡ no_nodes_lem false d → (h ≡ 0 → ⊥) → (k ≡ U → ⊥) → n ≤ k → r ≡ pass M N n h p d k
    outside e z u q = rw (step z, ne_eqb k U u, le-ltb k n q) e

    -- a slot that is read, and its tie tested
    module _ (z : h ≡ 0 → ⊥) (u : k ≡ U → ⊥) (q : k < n) (x : Node) (t : Bool) (m : x ≡ N k) (c : t ≡ tied x p) where
      at_tied : tied (N k) p ≡ t
      at_tied = ap (λ (y : Node). tied y p) (sym m) ∙ sym c

      pub untied : r ≡ no_nodes_lem false d → t ≡ false → r ≡ pass M N n h p d k
      untied e v = simp (step z, ne_eqb k U u, lt-ltb k n q, at_tied, v) e

      pub entered : (a b : Found) → r ≡ combined (M x a b) a b → t ≡ true
          → a ≡ pass M N n (h - 1) k x.interval x.left → b ≡ pass M N n (h - 1) k x.interval x.right
          → r ≡ pass M N n h p d k
      entered a b e v i j =
          simp (step z, ne_eqb k U u, lt-ltb k n q, at_tied, v)
          (e ∙ ap₂ (λ (s t : Found). combined (M x s t) s t) i j ∙ ap (λ (y : Node). through M (pass M N n (h - 1) k) y) m)

  -- the same, where the slot has no children
  module _ (h p k : ℕ) (l : Bool) (f : l ≡ childless (N k).left (N k).right (N k).parent n h p k) (w : l ≡ true) where
    pub alone : (d : Interval) (r : Found) (x : Node) → x ≡ N k
        → r ≡ combined (M x (no_nodes_lem true x.interval) (no_nodes_lem true x.interval)) (no_nodes_lem true x.interval) (no_nodes_lem true x.interval)
        → r ≡ pass M N n h p d k
    alone d r x m e =
        let (live, ((((own, left), right), real), deep)) = leaf n h p k (N k).left (N k).right (N k).parent l f w in
        let tie : true ≡ tied x p = rw m (sym ((both (same (N k).parent p) (twins (N k).left (N k).right)).says (own, λ y. left))) in
        let on : h - 1 ≡ 0 → ⊥ = λ y. omega (arith, deep) in
        entered h p d k r (λ y. omega (arith, deep)) (eqb-false k U real) live x true m tie (no_nodes_lem true x.interval)
        (no_nodes_lem true x.interval) e refl
        (ended (h - 1) k x.interval x.left (no_nodes_lem true x.interval) refl on (rw m left))
        (ended (h - 1) k x.interval x.right (no_nodes_lem true x.interval) refl on (rw m right))
