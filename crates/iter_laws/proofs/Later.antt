-- The walk on from a held cursor: what comes after its slot.
use mathlib.Core.Path.{◌≡◌, refl, sym, ◌∙◌}
use mathlib.Core.Bool.{Bool, true, false, cond}
use mathlib.Core.List.{List, [], ◌∷◌, ◌++◌, append_assoc, append-nil}
use Prim.Native.Nat.{ℕ, suc, ◌+◌, ◌-◌, ◌*◌, ◌<◌, ◌≤◌}
use native.Mathlib.Omega.{arith}
use native.Mathlib.Nat.{zero-add}
use lib.ListN.{length, take}
use lib.Dec.{ltb}
use Rattle.words.specs.Ix.{U}
use Rattle.words.specs.Nodes.{kid, par}
use Rattle.words.specs.Lists.{filter}
use Rattle.words.proofs.Lists.{filter_append}
use Rattle.tree.specs.Tree.{Tree, node, slots, size, height, Shape}
use Rattle.tree.specs.Zipper.{bin, Frame, frame, plug}
use Rattle.iter.specs.Cursors.{ended}
use Rattle.iter.specs.Walk.{Rules, enters, counts, fuel, seek, step, after}
use Rattle.iter.specs.Drains.{drain, calls}
use Rattle.iter.specs.declared.Cursor.{Cursor}
use Rattle.iter.specs.Lists.{first_or, when}
use Rattle.iter_laws.specs.Place.{at, held, sides, Held, earlier, later}
use Rattle.iter_laws.specs.Entered.{entered_from}
use Rattle.iter.proofs.Bools.{and_false}
use Rattle.iter.proofs.Events.{Event, found, done, events, hit_slots, nodes}
use Rattle.iter_laws.proofs.Script.{Linked, visits, finds, script, moves, Fairs, later_visits, later_finds, later_script, later_moves}
use Rattle.iter_laws.proofs.Ways.{back, slot_at, top_at, move_back, told_back}
use Rattle.iter_laws.proofs.Course.{one, own_part, right_part, through}
use Rattle.iter.proofs.Steps.{Plays, ends_done, enough, ends_after, step_slot}
use Rattle.iter.proofs.Drains.{drain_all, calls_all, drain_hits}
use Rattle.iter_laws.proofs.Trees.{moves_few, hits_script, nodes_script, no_hits, finds_all}
use Rattle.iter_laws.proofs.Fresh.{ends}
use Rattle.iter_laws.proofs.Walks.{Walk, Parent, focus, visits_are, later_are}
use Rattle.iter_laws.proofs.Places.{height_plug}

-- the slots of a tree, by a place in it
pub slots_plug : (way : List Frame) (u : Tree) → slots (plug way u) ≡ earlier way ++ (slots u ++ later way)
slots_plug [] u = rw append-nil
slots_plug (frame true a far ∷ c) u = slots_plug c (node u a far) ∙ simp append_assoc
slots_plug (frame false a far ∷ c) u = slots_plug c (node far a u) ∙ simp append_assoc

-- the nodes of a way
abbrev pub sizes : List Frame → ℕ
sizes [] = 0
sizes (frame b a far ∷ c) = suc (size far) + sizes c

size_bin : (b : Bool) (u : Tree) (a : ℕ) (far : Tree) → size (bin b u a far) ≡ suc (size u + size far)
size_bin true u a far = refl
size_bin false u a far = omega arith

pub size_plug : (way : List Frame) (u : Tree) → size (plug way u) ≡ size u + sizes way
size_plug [] u = omega arith
size_plug (frame b a far ∷ c) u = omega (arith, size_plug c (bin b u a far), size_bin b u a far)

module _ (Q : Rules) where
  goes_few : (r : Tree) (j : Bool) → cond j (suc (moves Q r)) 0 ≤ suc (size r * 4)
  goes_few r true = omega (arith, moves_few Q r)
  goes_few r false = omega arith

  later_few : (way : List Frame) → later_moves Q way ≤ sizes way * 4
  later_few [] = omega arith
  later_few (frame true a far ∷ c) = omega (arith, later_few c, goes_few far (Q.go false a))
  later_few (frame false a far ∷ c) = omega (arith, later_few c)

  hits_later : (way : List Frame) → hit_slots (later_script Q way ++ (done ∷ [])) ≡ later_finds Q way
  hits_later [] = refl
  hits_later (frame true a far ∷ c) = simp append_assoc (go (hits_later c) (Q.match a) (Q.go false a))
    where
      go : hit_slots (later_script Q c ++ (done ∷ [])) ≡ later_finds Q c → (i j : Bool)
          → hit_slots (when i (found (held a (sides c)) ∷ []) ++ (when j (script Q (false ∷ sides c) far) ++ (later_script Q c ++ (done ∷ []))))
          ≡ when i (a ∷ []) ++ (when j (finds Q far) ++ later_finds Q c)
      go e true true = rw (slot_at, hits_script, e)
      go e true false = rw (slot_at, e)
      go e false true = rw (hits_script, e)
      go e false false = e
  hits_later (frame false a far ∷ c) = hits_later c

  nodes_later : (way : List Frame) → nodes (later_script Q way ++ (done ∷ [])) ≡ later_visits Q way
  nodes_later [] = refl
  nodes_later (frame true a far ∷ c) = simp append_assoc (go (nodes_later c) (Q.match a) (Q.go false a))
    where
      go : nodes (later_script Q c ++ (done ∷ [])) ≡ later_visits Q c → (i j : Bool)
          → nodes (when i (found (held a (sides c)) ∷ []) ++ (when j (script Q (false ∷ sides c) far) ++ (later_script Q c ++ (done ∷ []))))
          ≡ when j (visits Q far) ++ later_visits Q c
      go e true true = rw (nodes_script, e)
      go e true false = e
      go e false true = rw (nodes_script, e)
      go e false false = e
  nodes_later (frame false a far ∷ c) = nodes_later c

  fairs_bin : (b : Bool) (u : Tree) (a : ℕ) (far : Tree) → Fairs Q (bin b u a far) → Fairs Q u
  fairs_bin true u a far h = h.left
  fairs_bin false u a far h = h.right

  pub fairs_plug : (way : List Frame) (u : Tree) → Fairs Q (plug way u) → Fairs Q u
  fairs_plug [] u h = h
  fairs_plug (frame b a far ∷ c) u h = fairs_bin b u a far (fairs_plug c (bin b u a far) h)

  -- the right subtree of a fair node
  right_finds : (l : Tree) (s : ℕ) (r : Tree) → Fairs Q (node l s r) → when (Q.go false s) (finds Q r) ≡ filter Q.match (slots r)
  right_finds l s r h = go (Q.go false s) refl
    where
      go : (j : Bool) → Q.go false s ≡ j → when j (finds Q r) ≡ filter Q.match (slots r)
      go true e = finds_all Q r h.right
      go false e = sym (no_hits Q r (h.no_right e))

  later_all : (way : List Frame) (u : Tree) → Fairs Q (plug way u) → later_finds Q way ≡ filter Q.match (later way)
  later_all [] u h = refl
  later_all (frame true a far ∷ c) u h =
      rw (later_all c (node u a far) h, right_finds u a far (fairs_plug c (node u a far) h), filter_append Q.match (slots far) (later c)) (go (Q.match a))
    where
      go : (i : Bool) → when i (a ∷ []) ++ (filter Q.match (slots far) ++ filter Q.match (later c))
          ≡ cond i (a ∷ (filter Q.match (slots far) ++ filter Q.match (later c))) (filter Q.match (slots far) ++ filter Q.match (later c))
      go true = refl
      go false = refl
  later_all (frame false a far ∷ c) u h = later_all c (node far a u) h

module _ (W : List ℕ) (n : ℕ) (Q : Rules) (small : n ≤ 65535) (linked : Linked W n Q) (p k : ℕ) where
  back_events : (way : List Frame) (u : Tree) (q g f : ℕ) → Shape W n p k (plug way u) → height (plug way u) ≤ 32 → Parent way q → g ≡ later_moves Q way + f → 0 < f
      → events W n Q g (back q (sides way)) ≡ later_script Q way ++ (done ∷ [])
  back_events [] u q g f h v i m o = ends W n Q small g ended (omega arith) refl
  back_events (frame true a far ∷ c) u q g f h v i m o =
      focus W n p k c (node u a far) h (λ x j d e.
      let y : ℕ = cond (Q.go false a) (suc (moves Q far)) 0 + suc (later_moves Q c + f) in
      rw (
        i,
        own_part W n Q small linked a (sides c) g y d.live (omega arith),
        right_part W n Q small linked far a (sides c) y (later_moves Q c + f) (through W n Q small linked far) d.right d.live (omega (arith, height_plug c (node u a far))) (Q.go false a) refl refl,
        d.up,
        back_events c (node u a far) x (later_moves Q c + f) f h v e refl o,
        append_assoc,
        append_assoc,
      ))
  back_events (frame false a far ∷ c) u q g f h v i m o =
      focus W n p k c (node far a u) h (λ x j d e.
      rw i
      (one W n Q small linked g (later_moves Q c + f) (at a 3 (sides c)) (back (par W a) (sides c)) (omega arith) (rw slot_at d.live) (move_back W Q a (sides c))
      ∙ rw (told_back n Q (par W a) (sides c) small, d.up) (back_events c (node far a u) x (later_moves Q c + f) f h v e refl o)))

-- on from the held cursor at the slot s
module _ (W : List ℕ) (n : ℕ) (Q : Rules) (E : Bool → ℕ → ℕ → Bool) (p k : ℕ) (way : List Frame) (l : Tree) (s : ℕ) (r : Tree)
    (w : Walk W n Q E p k (plug way (node l s r))) where
  abbrev c : Cursor
  c = held s (sides way)

  abbrev K : List Event
  K = when (Q.go false s) (script Q (false ∷ sides way) r) ++ (later_script Q way ++ (done ∷ []))

  held_plays : Plays W n Q (fuel n) c K
  held_plays f m =
      focus W n p k way (node l s r) w.shape (λ x j d e.
      let y : ℕ = f - cond (Q.go false s) (suc (moves Q r)) 0 - 1 in
      let z : (f ≡ cond (Q.go false s) (suc (moves Q r)) 0 + suc y) × (later_moves Q way < y) =
      omega (arith, w.few, goes_few Q r (Q.go false s), later_few Q way, size_plug way (node l s r)) in
      let v : suc (length (sides way)) + height r ≤ 32 = omega (arith, w.low, height_plug way (node l s r)) in
      rw (
        right_part W n Q w.small w.linked r s (sides way) f y (through W n Q w.small w.linked r) d.right d.live v (Q.go false s) refl z.0,
        d.up,
        back_events W n Q w.small w.linked p k way (node l s r) x y (y - later_moves Q way) w.shape w.low e (omega arith) (omega arith),
      ))

  not_entered : enters n c ≡ false
  unfolding enters
  not_entered = rw (top_at s 1 (sides way) (omega arith)) (and_false (ltb c.slot n))

  K_hits : hit_slots K ≡ filter Q.match (slots r ++ later way)
  K_hits = rw (filter_append, ← (right_finds Q l s r (fairs_plug Q way (node l s r) w.fair)), ← (later_all Q way (node l s r) w.fair)) (go (Q.go false s))
    where
      go : (j : Bool) → hit_slots (when j (script Q (false ∷ sides way) r) ++ (later_script Q way ++ (done ∷ []))) ≡ when j (finds Q r) ++ later_finds Q way
      go true = rw (hits_script, hits_later)
      go false = hits_later Q way

  K_nodes : nodes K ≡ entered_from E s r way
  K_nodes =
      focus W n p k way (node l s r) w.shape (λ x j d e.
      rw (← (w.rule false s r d.right), ← (visits_are W n Q E w.rule s (kid W false s) r d.right), ← (later_are W n Q E w.rule p k way (node l s r) w.shape))
      (go (Q.go false s)))
    where
      go : (j : Bool) → nodes (when j (script Q (false ∷ sides way) r) ++ (later_script Q way ++ (done ∷ []))) ≡ when j (visits Q r) ++ later_visits Q way
      go true = rw (nodes_script, nodes_later)
      go false = nodes_later Q way

  at_run : (limit : ℕ) → length (filter Q.match (slots r ++ later way)) < limit
      → drain W n Q limit c ≡ record { slots = filter Q.match (slots r ++ later way); next = ended; entered = length (entered_from E s r way) }
  at_run limit h = drain_all W n Q w.small limit c K held_plays (rw K_hits h) ∙ rw (not_entered, K_hits, K_nodes, zero-add)

  at_nodes : (limit : ℕ) → length (filter Q.match (slots r ++ later way)) < limit → calls W n Q limit c ≡ entered_from E s r way
  at_nodes limit h = calls_all W n Q w.small limit c K held_plays (rw K_hits h) ∙ rw (not_entered, K_nodes)

  at_step : (step W n Q c).slot ≡ first_or U (filter Q.match (slots r ++ later way))
  at_step = step_slot W n Q c K held_plays ∙ rw K_hits

  at_hits : (limit : ℕ) → (drain W n Q limit c).slots ≡ take limit (filter Q.match (slots r ++ later way))
  at_hits limit = drain_hits W n Q w.small limit c K held_plays ∙ rw K_hits

  at_ends : (f : ℕ) → fuel n ≤ f → n ≤ (after W n Q f c).slot
  at_ends f h =
      ends_after W n Q f c (rw (held_plays f h, ← append_assoc) (ends_done (when (Q.go false s) (script Q (false ∷ sides way) r) ++ later_script Q way)))

  at_enough : (f : ℕ) → fuel n ≤ f → seek W n Q f (counts n c) c ≡ step W n Q c
  at_enough = enough W n Q c K held_plays

-- the same of any held cursor
module _ (W : List ℕ) (n : ℕ) (Q : Rules) (E : Bool → ℕ → ℕ → Bool) (p k : ℕ) (t : Tree) (w : Walk W n Q E p k t)
    (c : Cursor) (h : Held t c) where
  here : Walk W n Q E p k (plug h.way (node h.left h.slot h.right))
  here = rw h.there w

  abbrev pub rest : List ℕ
  rest = slots h.right ++ later h.way

  pub held_run : (limit : ℕ) → length (filter Q.match rest) < limit
      → drain W n Q limit c ≡ record { slots = filter Q.match rest; next = ended; entered = length (entered_from E h.slot h.right h.way) }
  held_run limit i = rw h.is (at_run W n Q E p k h.way h.left h.slot h.right here limit i)

  pub held_nodes : (limit : ℕ) → length (filter Q.match rest) < limit
      → calls W n Q limit c ≡ entered_from E h.slot h.right h.way
  held_nodes limit i = rw h.is (at_nodes W n Q E p k h.way h.left h.slot h.right here limit i)

  pub held_step : (step W n Q c).slot ≡ first_or U (filter Q.match rest)
  held_step = rw h.is (at_step W n Q E p k h.way h.left h.slot h.right here)

  pub held_hits : (limit : ℕ) → (drain W n Q limit c).slots ≡ take limit (filter Q.match rest)
  held_hits limit = rw h.is (at_hits W n Q E p k h.way h.left h.slot h.right here limit)

  -- the fuel suffices
  pub held_ends : (f : ℕ) → fuel n ≤ f → n ≤ (after W n Q f c).slot
  held_ends f i = rw h.is (at_ends W n Q E p k h.way h.left h.slot h.right here f i)

  pub held_enough : (f : ℕ) → fuel n ≤ f → seek W n Q f (counts n c) c ≡ step W n Q c
  held_enough f i = rw h.is (at_enough W n Q E p k h.way h.left h.slot h.right here f i)
