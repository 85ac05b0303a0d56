-- Demand 3's bound on the nodes that a pruned walk enters.
use mathlib.Core.Path.{◌≡◌, refl, sym, ◌∙◌}
use mathlib.Core.Bool.{Bool, true, false, cond, ◌&&◌, false≢true}
use mathlib.Core.List.{List, [], ◌∷◌}
use Prim.Native.Nat.{ℕ, zero, suc, ◌+◌, ◌-◌, ◌*◌, ◌<◌, ◌≤◌}
use native.Mathlib.Omega.{arith}
use native.Mathlib.Nat.{mul-le-mul_right}
use native.Mathlib.Numerals.{sub-one}
use lib.ListN.{length, length-append}
use Rattle.words.specs.Nodes.{start, stop, interval}
use Rattle.words.specs.Intervals.{reached, admits, touches}
use Rattle.words.specs.Lists.{filter}
use Rattle.words.specs.declared.interval.Span.{Span}
use Rattle.words.proofs.Lists.{filter_append}
use Rattle.tree.specs.Tree.{Tree, leaf, node, slots, occ, height}
use Rattle.tree.specs.Order.{NotAfter, RisingAt}
use Rattle.tree.specs.Hulls.{Hulls}
use Rattle.tree.proofs.Slots.{hit_same, occ_cases, times_slots}
use Rattle.tree.proofs.Orders.{rising_left, rising_right, rising_at}
use Rattle.tree.proofs.Hulls.{most_at, least_at}
use Rattle.iter.specs.Lists.{when}
use Rattle.iter_laws.specs.Entered.{overlap_rule, goes, entered, touching}
use Rattle.iter_laws.proofs.Bounds.{admits_before}

-- h * (h - 1), one step on
pairs : (h : ℕ) → suc h * (suc h - 1) ≡ h * (h - 1) + 2 * h
pairs zero = refl
pairs (suc h) = simp sub-one (omega arith)

one_child : (h q e l s r : ℕ) → 2 * e ≤ 2 * h + l * q → 2 * suc e ≤ 2 * suc h + (l + s + r) * (q + 2 * h)
one_child h q e l s r a = omega arith

two_children : (h q e f l s r : ℕ) → 2 * e ≤ 2 * h + l * q → 2 * f ≤ 2 * h + r * q → 0 < l
    → 2 * suc (e + f) ≤ 2 * suc h + (l + s + r) * (q + 2 * h)
two_children h q e f l s r a b o = omega (arith, mul-le-mul_right h o)

module _ (W : List ℕ) (q : Span) where
  -- what the entry of one slot counts
  this : ℕ → ℕ
  this s = cond (touches q (interval W s)) 1 0

  touching_node : (l : Tree) (s : ℕ) (r : Tree) → touching W q (node l s r) ≡ touching W q l + this s + touching W q r
  unfolding this
  touching_node l s r = rw (filter_append, length-append) (go (touches q (interval W s)))
    where
      go : (b : Bool) → touching W q l + length (cond b (s ∷ filter (λ a. touches q (interval W a)) (slots r)) (filter (λ a. touches q (interval W a)) (slots r)))
          ≡ touching W q l + cond b 1 0 + touching W q r
      go true = omega arith
      go false = omega arith

  touching_at : (t : Tree) (a : ℕ) → 0 < occ a t → reached q.lo (stop W a) ≡ true → admits q.hi (start W a) ≡ true → 0 < touching W q t
  unfolding this
  touching_at leaf a o p e = o
  touching_at (node l s r) a o p e =
      rw (touching_node l s r)
      (occ_cases a s l r o
      (λ i. omega (arith, touching_at l a i p e))
      (λ f. let z : (reached q.lo (stop W s) && admits q.hi (start W s)) ≡ true = rw (← f, p, e) refl in rw z (omega arith))
      (λ i. omega (arith, touching_at r a i p e)))

  left_at : {X : Type 0} (k : ℕ) (t : Tree) → Hulls W t → goes (overlap_rule W q) true k t ≡ true
      → ((a : ℕ) → 0 < occ a t → reached q.lo (stop W a) ≡ true → X) → X
  left_at k leaf h p x = absurd (false≢true p)
  left_at k (node l s r) h p x =
      most_at (stop W) (node l s r) (stop W s)
      (λ e. x s (omega (arith, hit_same s)) (rw (h.high ∙ e) at p))
      (λ a o e. x a o (rw (h.high ∙ sym e) at p))

  right_at : {X : Type 0} (k : ℕ) (t : Tree) → Hulls W t → goes (overlap_rule W q) false k t ≡ true
      → ((a : ℕ) → 0 < occ a t → admits q.hi (start W a) ≡ true → X) → X
  right_at k leaf h p x = absurd (false≢true p)
  right_at k (node l s r) h p x =
      least_at (start W) (node l s r) (start W s)
      (λ e. x s (omega (arith, hit_same s)) (rw (h.low ∙ e) at p))
      (λ a o e. x a o (rw (h.low ∙ sym e) at p))

  -- where both children are entered, an entry on the left touches
  both : (l : Tree) (s : ℕ) (r : Tree) → Hulls W l → Hulls W r → RisingAt W (slots (node l s r))
      → goes (overlap_rule W q) true s l ≡ true → goes (overlap_rule W q) false s r ≡ true → 0 < touching W q l
  both l s r hl hr o p f =
      left_at s l hl p (λ a i e. right_at s r hr f (λ b j g.
      let na : NotAfter (interval W a) (interval W b) = rising_at W a b (slots l) (s ∷ slots r) o (rw times_slots i) (omega (arith, times_slots b r)) in
      touching_at l a i e (admits_before q.hi (start W a) (start W b) na.starts g)))

  -- a tree of height h at most
  pub bound : (t : Tree) (h : ℕ) → Hulls W t → RisingAt W (slots t) → height t ≤ h
      → 2 * length (entered (overlap_rule W q) t) ≤ 2 * h + touching W q t * (h * (h - 1))
  bound leaf h u o m = omega arith
  bound (node l s r) zero u o m = omega arith
  bound (node l s r) (suc h) u o m =
      rw (touching_node l s r, length-append, pairs)
      (go (bound l h u.left (rising_left W (slots l) (s ∷ slots r) o) (omega arith))
      (bound r h u.right (rising_right W (s ∷ []) (slots r) (rising_right W (slots l) (s ∷ slots r) o)) (omega arith))
      (goes (overlap_rule W q) true s l) (goes (overlap_rule W q) false s r) refl refl)
    where
      go : 2 * length (entered (overlap_rule W q) l) ≤ 2 * h + touching W q l * (h * (h - 1))
          → 2 * length (entered (overlap_rule W q) r) ≤ 2 * h + touching W q r * (h * (h - 1))
          → (i j : Bool) → goes (overlap_rule W q) true s l ≡ i → goes (overlap_rule W q) false s r ≡ j
          → 2 * suc (length (when i (entered (overlap_rule W q) l)) + length (when j (entered (overlap_rule W q) r)))
          ≤ 2 * suc h + (touching W q l + this s + touching W q r) * (h * (h - 1) + 2 * h)
      go a b false false e f = omega arith
      go a b true false e f =
          omega (arith, one_child h (h * (h - 1)) (length (entered (overlap_rule W q) l)) (touching W q l) (this s) (touching W q r) a)
      go a b false true e f =
          omega (arith, one_child h (h * (h - 1)) (length (entered (overlap_rule W q) r)) (touching W q r) (this s) (touching W q l) b)
      go a b true true e f =
          two_children h (h * (h - 1)) (length (entered (overlap_rule W q) l)) (length (entered (overlap_rule W q) r)) (touching W q l) (this s) (touching W q r) a b
          (both l s r u.left u.right o e f)
