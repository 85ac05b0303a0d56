-- What each round of a loop keeps, the loop keeps. On any words.
use mathlib.Core.Path.{◌≡◌, refl}
use mathlib.Core.List.{List, [], ◌++◌}
use Prim.Native.Nat.{ℕ, zero, suc, ◌+◌, ◌*◌, ◌<◌, ◌≤◌}
use native.Mathlib.Omega.{arith}
use lib.ListN.{length, length-append}
use Rattle.tree.specs.Below.{Agree}
use Rattle.tree_edit.specs.Store.{store}
use Rattle.tree_edit.specs.Rounds.{Next, done, again, ending, go_on, loop}
use Rattle.tree_edit.specs.Reach.{Work, onward, loop_hulls, Follows}
use Rattle.tree_edit.proofs.InPlace.{InPlace, in_place_refl, in_place_trans}
use Rattle.tree_edit.proofs.Reached.{then}
use Rattle.tree_edit.proofs.Below.{Both, SameNext, Sums, sums_append, sums_onward}

-- the loop came to its end
abbrev pub Ended : Next → Type 0
Ended (done W C r) = Unit {0}
Ended (again W C r x) = ⊥

-- what a round leaves is in place, and where the loop goes on P holds of the slot
abbrev pub NextIn : ℕ → (ℕ → Type 0) → List ℕ → List ℕ → Next → Type 0
NextIn n P W C (done X D q) = InPlace n W C (store X D q)
NextIn n P W C (again X D q x) = InPlace n W C (store X D q) × P x

module _ (f : List ℕ → List ℕ → ℕ → ℕ → Next) where
  -- more rounds come to the same
  pub loop_more : (rounds m : ℕ) (W C : List ℕ) (r x : ℕ) → rounds ≤ m → Ended (loop f rounds W C r x) → loop f m W C r x ≡ loop f rounds W C r x
  unfolding loop
  loop_more zero m W C r x h e = absurd e
  loop_more (suc rounds) zero W C r x h e = absurd (omega arith)
  loop_more (suc rounds) (suc m) W C r x h e = go (λ W C r x. loop_more rounds m W C r x (omega arith)) (f W C r x) e
    where
      go : ((W C : List ℕ) (r x : ℕ) → Ended (loop f rounds W C r x) → loop f m W C r x ≡ loop f rounds W C r x)
          → (s : Next) → Ended (go_on s (λ X D q i. loop f rounds X D q i))
          → go_on s (λ X D q i. loop f m X D q i) ≡ go_on s (λ X D q i. loop f rounds X D q i)
      go rec (done W C r) e = refl
      go rec (again W C r x) e = rec W C r x e

  module _ (n : ℕ) where
    pub loop_in_place : (P : ℕ → Type 0) → ((W C : List ℕ) (r x : ℕ) → P x → NextIn n P W C (f W C r x))
        → (rounds : ℕ) (W C : List ℕ) (r x : ℕ) → P x → InPlace n W C (ending (loop f rounds W C r x))
    unfolding loop
    loop_in_place P one zero W C r x p = in_place_refl n W C r
    loop_in_place P one (suc rounds) W C r x p = go (loop_in_place P one rounds) (f W C r x) (one W C r x p)
      where
        go : ((X D : List ℕ) (q i : ℕ) → P i → InPlace n X D (ending (loop f rounds X D q i))) → (s : Next) → NextIn n P W C s
            → InPlace n W C (ending (go_on s (λ X D q i. loop f rounds X D q i)))
        go rec (done X D q) m = m
        go rec (again X D q i) m = in_place_trans n W C (store X D q) (ending (loop f rounds X D q i)) m.0 (rec X D q i m.1)

    -- two stores that agree below the count
    module _ (same : (W X C D : List ℕ) (r x : ℕ) → Agree n W X → Both n C D → x < n → SameNext n (f W C r x) (f X D r x)) where
      pub same_loop : (rounds : ℕ) (W X C D : List ℕ) (r x : ℕ) → Agree n W X → Both n C D → x < n → SameNext n (loop f rounds W C r x) (loop f rounds X D r x)
      unfolding loop
      same_loop zero W X C D r x A B l = (A, B, refl, refl, l)
      same_loop (suc rounds) W X C D r x A B l = go (same_loop rounds) (f W C r x) (f X D r x) (same W X C D r x A B l)
        where
          go : ((W X C D : List ℕ) (r x : ℕ) → Agree n W X → Both n C D → x < n → SameNext n (loop f rounds W C r x) (loop f rounds X D r x))
              → (s t : Next) → SameNext n s t → SameNext n (go_on s (λ X D q i. loop f rounds X D q i)) (go_on t (λ X D q i. loop f rounds X D q i))
          go rec (done W C r) (done X D q) h = h
          go rec (done W C r) (again X D q j) h = absurd h
          go rec (again W C r i) (done X D q) h = absurd h
          go rec (again W C r i) (again X D q j) h = rw (← h.2, ← h.3) (rec W X C D r i h.0 h.1 h.4)

      pub sums_loop : (hulls : List ℕ → List ℕ → ℕ → List Work)
          → ((W X C D : List ℕ) (x : ℕ) → Agree n W X → Both n C D → x < n → Sums n (hulls W C x) (hulls X D x))
          → (rounds : ℕ) (W X C D : List ℕ) (r x : ℕ) → Agree n W X → Both n C D → x < n
          → Sums n (loop_hulls f hulls rounds W C r x) (loop_hulls f hulls rounds X D r x)
      unfolding loop_hulls
      sums_loop hulls sums zero W X C D r x A B l = refl
      sums_loop hulls sums (suc rounds) W X C D r x A B l =
          sums_append n (hulls W C x) _ (hulls X D x) _ (sums W X C D x A B l)
          (sums_onward n (λ X D q i. loop_hulls f hulls rounds X D q i) (sums_loop hulls sums rounds) (f W C r x) (f X D r x) (same W X C D r x A B l))

  -- the hulls that are worked out
  module _ (hulls : List ℕ → List ℕ → ℕ → List Work) where
    pub follows_loop : (n : ℕ) → ((W C : List ℕ) (r x : ℕ) → Follows n W (hulls W C x) (ending (f W C r x)).words)
        → (rounds : ℕ) (W C : List ℕ) (r x : ℕ) → Follows n W (loop_hulls f hulls rounds W C r x) (ending (loop f rounds W C r x)).words
    unfolding loop loop_hulls
    follows_loop n one zero W C r x = λ a. refl
    follows_loop n one (suc rounds) W C r x = go (follows_loop n one rounds) (f W C r x) (one W C r x)
      where
        go : ((X D : List ℕ) (q i : ℕ) → Follows n X (loop_hulls f hulls rounds X D q i) (ending (loop f rounds X D q i)).words) → (s : Next)
            → Follows n W (hulls W C x) (ending s).words
            → Follows n W (hulls W C x ++ onward s (λ X D q i. loop_hulls f hulls rounds X D q i)) (ending (go_on s (λ X D q i. loop f rounds X D q i))).words
        go rec (done X D q) h = then n W X (hulls W C x) [] X h (λ a. refl)
        go rec (again X D q i) h = then n W X (hulls W C x) (loop_hulls f hulls rounds X D q i) (ending (loop f rounds X D q i)).words h (rec X D q i)

    pub loop_most : (k : ℕ) → ((W C : List ℕ) (x : ℕ) → length (hulls W C x) ≤ k)
        → (rounds : ℕ) (W C : List ℕ) (r x : ℕ) → length (loop_hulls f hulls rounds W C r x) ≤ rounds * k
    unfolding loop_hulls
    loop_most k one zero W C r x = omega arith
    loop_most k one (suc rounds) W C r x = rw length-append (go (loop_most k one rounds) (f W C r x))
      where
        go : ((X D : List ℕ) (q i : ℕ) → length (loop_hulls f hulls rounds X D q i) ≤ rounds * k) → (s : Next)
            → length (hulls W C x) + length (onward s (λ X D q i. loop_hulls f hulls rounds X D q i)) ≤ suc rounds * k
        go rec (done X D q) = omega (arith, one W C x)
        go rec (again X D q i) = omega (arith, one W C x, rec X D q i)
