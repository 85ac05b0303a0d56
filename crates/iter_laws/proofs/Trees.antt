-- What a walk through a tree finds and enters, and in how many moves.
use mathlib.Core.Path.{◌≡◌, refl, sym, subst, ◌∙◌}
use mathlib.Core.Bool.{Bool, true, false, cond}
use mathlib.Core.List.{List, [], ◌∷◌, ◌++◌, append_assoc}
use Prim.Native.Nat.{ℕ, suc, ◌+◌, ◌*◌, ◌<◌, ◌≤◌}
use native.Mathlib.Omega.{arith}
use Rattle.words.specs.Lists.{filter}
use Rattle.tree.specs.Tree.{Tree, leaf, node, slots, hit, size, times}
use Rattle.tree.specs.Passes.{Passes}
use Rattle.words.proofs.Lists.{filter_append}
use Rattle.tree.proofs.Slots.{hit_same, hit_cases, times_slots}
use Rattle.iter_laws.specs.Place.{held}
use Rattle.iter.specs.Walk.{Rules}
use Rattle.iter.specs.Lists.{when}
use Rattle.iter.proofs.Events.{Event, found, hit_slots, nodes}
use Rattle.iter_laws.proofs.Script.{visits, finds, script, moves, Empty, Fairs}
use Rattle.iter_laws.proofs.Ways.{slot_at}

module _ (Q : Rules) where
  pub moves_few : (t : Tree) → moves Q t ≤ size t * 4
  moves_few leaf = omega arith
  moves_few (node l s r) = go (moves_few l) (moves_few r) (Q.go true s) (Q.go false s)
    where
      go : moves Q l ≤ size l * 4 → moves Q r ≤ size r * 4 → (i j : Bool)
          → cond i (moves Q l) 0 + cond j (suc (moves Q r)) 0 + 3 ≤ size (node l s r) * 4
      go a b true true = omega arith
      go a b true false = omega arith
      go a b false true = omega arith
      go a b false false = omega arith

  pub hits_script : (t : Tree) (bs : List Bool) (m : List Event) → hit_slots (script Q bs t ++ m) ≡ finds Q t ++ hit_slots m
  hits_script leaf bs m = refl
  hits_script (node l s r) bs m =
      simp append_assoc
      (go (hits_script l (true ∷ bs)) (hits_script r (false ∷ bs) m) (Q.go true s) (Q.match s) (Q.go false s))
    where
      go : ((k : List Event) → hit_slots (script Q (true ∷ bs) l ++ k) ≡ finds Q l ++ hit_slots k)
          → hit_slots (script Q (false ∷ bs) r ++ m) ≡ finds Q r ++ hit_slots m → (i h j : Bool)
          → hit_slots (when i (script Q (true ∷ bs) l) ++ (when h (found (held s bs) ∷ []) ++ (when j (script Q (false ∷ bs) r) ++ m)))
          ≡ when i (finds Q l) ++ (when h (s ∷ []) ++ (when j (finds Q r) ++ hit_slots m))
      go a b true true true = rw (a, slot_at, b)
      go a b true true false = rw (a, slot_at)
      go a b true false true = rw (a, b)
      go a b true false false = rw a
      go a b false true true = rw (slot_at, b)
      go a b false true false = rw slot_at
      go a b false false true = b
      go a b false false false = refl

  pub nodes_script : (t : Tree) (bs : List Bool) (m : List Event) → nodes (script Q bs t ++ m) ≡ visits Q t ++ nodes m
  nodes_script leaf bs m = refl
  nodes_script (node l s r) bs m =
      simp append_assoc
      (go (nodes_script l (true ∷ bs)) (nodes_script r (false ∷ bs) m) (Q.go true s) (Q.match s) (Q.go false s))
    where
      go : ((k : List Event) → nodes (script Q (true ∷ bs) l ++ k) ≡ visits Q l ++ nodes k)
          → nodes (script Q (false ∷ bs) r ++ m) ≡ visits Q r ++ nodes m → (i h j : Bool)
          → ◌≡◌ {A = List ℕ} (s ∷ nodes (when i (script Q (true ∷ bs) l) ++ (when h (found (held s bs) ∷ []) ++ (when j (script Q (false ∷ bs) r) ++ m))))
          (s ∷ (when i (visits Q l) ++ (when j (visits Q r) ++ nodes m)))
      go a b true true true = rw (a, b)
      go a b true true false = rw a
      go a b true false true = rw (a, b)
      go a b true false false = rw a
      go a b false true true = rw b
      go a b false true false = refl
      go a b false false true = rw b
      go a b false false false = refl

-- how often a slot stands among those that p says
pub times_filter : (p : ℕ → Bool) (s : ℕ) (l : List ℕ) → times s (filter p l) ≡ cond (p s) (times s l) 0
times_filter p s [] = go (p s)
  where
    go : (b : Bool) → ◌≡◌ {A = ℕ} 0 (cond b 0 0)
    go true = refl
    go false = refl
times_filter p s (a ∷ l) = hit_cases s a (λ e. subst (λ (x : ℕ). times x (cond (p a) (a ∷ filter p l) (filter p l)) ≡ cond (p x) (hit x a + times x l) 0) (sym e)
    (same (p a) (subst (λ (x : ℕ). times x (filter p l) ≡ cond (p x) (times x l) 0) e (times_filter p s l))))
    (λ z. other (p a) (p s) z (times_filter p s l))
  where
    same : (b : Bool) → times a (filter p l) ≡ cond b (times a l) 0
        → times a (cond b (a ∷ filter p l) (filter p l)) ≡ cond b (hit a a + times a l) 0
    same true h = omega arith
    same false h = h

    other : (b d : Bool) → hit s a ≡ 0 → times s (filter p l) ≡ cond d (times s l) 0
        → times s (cond b (a ∷ filter p l) (filter p l)) ≡ cond d (hit s a + times s l) 0
    other true true z h = omega arith
    other true false z h = omega arith
    other false true z h = omega arith
    other false false z h = h

-- on a store that passes each live slot is among them once if p says it, and else not at all
pub each_once_lem : (W C : List ℕ) (n r : ℕ) (P : Passes W C n r) (p : ℕ → Bool) (s : ℕ) → s < n
    → times s (filter p (slots P.tree)) ≡ cond (p s) 1 0
each_once_lem W C n r P p s h = times_filter p s (slots P.tree) ∙ rw (times_slots, P.once s h)

module _ (Q : Rules) where
  pub no_hits : (t : Tree) → Empty Q t → filter Q.match (slots t) ≡ []
  no_hits leaf f = refl
  no_hits (node l s r) f =
      rw (filter_append Q.match (slots l) (s ∷ slots r), no_hits l (λ a o. f a (omega arith)), f s (omega (arith, hit_same s)))
      (no_hits r (λ a o. f a (omega arith)))

  -- pruning loses nothing
  pub finds_all : (t : Tree) → Fairs Q t → finds Q t ≡ filter Q.match (slots t)
  finds_all leaf h = refl
  finds_all (node l s r) h =
      rw filter_append
      (go (finds_all l h.left) (finds_all r h.right) (Q.go true s) (Q.match s) (Q.go false s)
      (λ e. no_hits l (h.no_left e)) (λ e. no_hits r (h.no_right e)))
    where
      go : finds Q l ≡ filter Q.match (slots l) → finds Q r ≡ filter Q.match (slots r) → (i m j : Bool)
          → (i ≡ false → filter Q.match (slots l) ≡ []) → (j ≡ false → filter Q.match (slots r) ≡ [])
          → when i (finds Q l) ++ (when m (s ∷ []) ++ when j (finds Q r))
          ≡ filter Q.match (slots l) ++ cond m (s ∷ filter Q.match (slots r)) (filter Q.match (slots r))
      go a b true true true x y = rw (a, b)
      go a b true true false x y = rw (a, y refl)
      go a b true false true x y = rw (a, b)
      go a b true false false x y = rw (a, y refl)
      go a b false true true x y = rw (b, x refl)
      go a b false true false x y = rw (x refl, y refl)
      go a b false false true x y = rw (b, x refl)
      go a b false false false x y = rw (x refl, y refl)
