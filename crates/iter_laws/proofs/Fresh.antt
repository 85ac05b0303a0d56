-- The run from a fresh cursor to the end, under any rules.
use mathlib.Core.Path.{◌≡◌, refl, sym, ◌∙◌}
use mathlib.Core.Bool.{Bool, true, false, cond, false≢true}
use mathlib.Core.List.{List, [], ◌∷◌, ◌++◌, append-nil}
use Prim.Native.Nat.{ℕ, zero, suc, ◌+◌, ◌-◌, ◌<◌, ◌≤◌}
use native.Mathlib.Omega.{arith}
use lib.ListN.{length, take}
use lib.Dec.{ltb}
use borrow.Author.Tests.{le-ltb}
use Rattle.words.specs.Ix.{U}
use Rattle.words.specs.Lists.{filter}
use Rattle.stack.specs.States.{top, state_at_lem}
use Rattle.tree.specs.Tree.{Tree, leaf, node, slots, size, height, Shape}
use Rattle.iter.specs.Cursors.{ended, fresh}
use Rattle.iter.specs.Walk.{Rules, enters, hits, counts, fuel, seek, step, after}
use Rattle.iter.specs.Drains.{drain, calls}
use Rattle.iter.specs.declared.Cursor.{Cursor}
use Rattle.iter.specs.Lists.{first_or}
use Rattle.iter_laws.specs.Place.{at}
use Rattle.iter_laws.specs.Entered.{entered}
use Rattle.iter.proofs.Bools.{and_false}
use Rattle.iter.proofs.Events.{Event, enter, done, told, events, hit_slots, nodes}
use Rattle.iter_laws.proofs.Script.{script, moves}
use Rattle.iter_laws.proofs.Course.{through}
use Rattle.iter.proofs.Steps.{Plays, Ends, ends_done, kinds, enough, ends_after, step_slot}
use Rattle.iter.proofs.Drains.{drain_all, calls_all, drain_hits, drain_most}
use Rattle.iter_laws.proofs.Trees.{moves_few, hits_script, nodes_script, finds_all}
use Rattle.iter_laws.proofs.Walks.{Walk, visits_are}

module _ (W : List ℕ) (n : ℕ) (Q : Rules) (small : n ≤ 65535) where
  fresh_misses : (k : ℕ) → hits n Q (fresh k) ≡ false
  unfolding hits top state_at_lem
  fresh_misses k = and_false (ltb k n)

  pub ends : (f : ℕ) (c : Cursor) → 0 < f → c.slot ≡ U → events W n Q f c ≡ done ∷ []
  unfolding events
  ends zero c h e = absurd (omega arith)
  ends (suc f) c h e = rw (e, le-ltb U n (omega arith))

  -- what the states from c on tell
  module _ (c : Cursor) (no : hits n Q c ≡ false) (L : List Event)
      (all : (f : ℕ) → fuel n ≤ f → told n Q c ++ events W n Q f c ≡ L) where
    abbrev rest : List Event
    rest = events W n Q (fuel n) c

    plays : Plays W n Q (fuel n) c rest
    plays f h =
        let e : told n Q c ++ events W n Q f c ≡ told n Q c ++ rest = all f h ∙ sym (all (fuel n) (omega arith)) in
        kinds W n Q c
        (λ p q t. let y : enter c.slot ∷ events W n Q f c ≡ enter c.slot ∷ rest = rw t at e in cc)
        (λ p q t. absurd (false≢true (sym no ∙ q)))
        (λ p q t. rw t at e)

    same_hits : hit_slots rest ≡ hit_slots L
    same_hits =
        rw (← (all (fuel n) (omega arith)))
        (kinds W n Q c (λ p q t. rw t) (λ p q t. absurd (false≢true (sym no ∙ q))) (λ p q t. rw t))

    same_nodes : cond (enters n c) (c.slot ∷ []) [] ++ nodes rest ≡ nodes L
    same_nodes =
        rw (← (all (fuel n) (omega arith)))
        (kinds W n Q c (λ p q t. rw (p, t)) (λ p q t. absurd (false≢true (sym no ∙ q))) (λ p q t. rw (p, t)))

    count : counts n c + length (nodes rest) ≡ length (nodes L)
    count = rw (← same_nodes) (go (enters n c))
      where
        go : (b : Bool) → cond b 1 0 + length (nodes rest) ≡ length (cond b (c.slot ∷ []) [] ++ nodes rest)
        go true = omega arith
        go false = omega arith

    run_drain : (limit : ℕ) → length (hit_slots L) < limit
        → drain W n Q limit c ≡ record { slots = hit_slots L; next = ended; entered = length (nodes L) }
    run_drain limit h = drain_all W n Q small limit c rest plays (rw same_hits h) ∙ rw (same_hits, count)

    run_calls : (limit : ℕ) → length (hit_slots L) < limit → calls W n Q limit c ≡ nodes L
    run_calls limit h = calls_all W n Q small limit c rest plays (rw same_hits h) ∙ same_nodes

    run_hits : (limit : ℕ) → (drain W n Q limit c).slots ≡ take limit (hit_slots L)
    run_hits limit = drain_hits W n Q small limit c rest plays ∙ rw same_hits

    run_step : (step W n Q c).slot ≡ first_or U (hit_slots L)
    run_step = step_slot W n Q c rest plays ∙ rw same_hits

    run_most : (limit : ℕ) → (drain W n Q limit c).entered ≤ length (nodes L)
    run_most limit = rw (← count) (drain_most W n Q small limit c rest plays)

    run_enough : (f : ℕ) → fuel n ≤ f → seek W n Q f (counts n c) c ≡ step W n Q c
    run_enough = enough W n Q c rest plays

    run_ends : Ends L → (f : ℕ) → fuel n ≤ f → n ≤ (after W n Q f c).slot
    run_ends e f h =
        let z : Ends (told n Q c ++ events W n Q f c) = rw (all f h) e in
        ends_after W n Q f c (kinds W n Q c (λ p q t. rw t at z) (λ p q t. rw t at z) (λ p q t. rw t at z))

  dead : (k : ℕ) → k ≡ U → told n Q (fresh k) ≡ []
  unfolding told enters hits
  dead k e = rw (e, le-ltb U n (omega arith))

module _ (W : List ℕ) (n : ℕ) (Q : Rules) (E : Bool → ℕ → ℕ → Bool) (p k : ℕ) (t : Tree) (w : Walk W n Q E p k t) where
  abbrev L : List Event
  L = script Q [] t ++ (done ∷ [])

  whole : (f : ℕ) → fuel n ≤ f → told n Q (fresh k) ++ events W n Q f (fresh k) ≡ L
  unfolding at
  whole = go t w.shape w.few w.low
    where
      go : (t : Tree) → Shape W n p k t → size t ≤ n → height t ≤ 32 → (f : ℕ) → fuel n ≤ f
          → told n Q (fresh k) ++ events W n Q f (fresh k) ≡ script Q [] t ++ (done ∷ [])
      go leaf h q i f m = rw (dead W n Q w.small k h) (ends W n Q w.small f (fresh k) (omega arith) h)
      go (node l s r) h q i f m =
          let g : ℕ = f - moves Q (node l s r) in
          let z : (f ≡ moves Q (node l s r) + g) × (0 < g) = omega (arith, moves_few Q (node l s r)) in
          through W n Q w.small w.linked (node l s r) p k [] f g h (rw h.here h.live) (omega arith) z.0
          ∙ rw (ends W n Q w.small g ended z.1 refl)

  L_hits : hit_slots L ≡ filter Q.match (slots t)
  L_hits = rw (hits_script, append-nil) (finds_all Q t w.fair)

  L_nodes : nodes L ≡ entered E t
  L_nodes = rw (nodes_script, append-nil) (visits_are W n Q E w.rule p k t w.shape)

  no : hits n Q (fresh k) ≡ false
  no = fresh_misses W n Q w.small k

  pub fresh_run : (limit : ℕ) → length (filter Q.match (slots t)) < limit
      → drain W n Q limit (fresh k) ≡ record { slots = filter Q.match (slots t); next = ended; entered = length (entered E t) }
  fresh_run limit h = run_drain W n Q w.small (fresh k) no L whole limit (rw L_hits h) ∙ rw (L_hits, L_nodes)

  pub fresh_nodes : (limit : ℕ) → length (filter Q.match (slots t)) < limit → calls W n Q limit (fresh k) ≡ entered E t
  fresh_nodes limit h = run_calls W n Q w.small (fresh k) no L whole limit (rw L_hits h) ∙ L_nodes

  pub fresh_hits : (limit : ℕ) → (drain W n Q limit (fresh k)).slots ≡ take limit (filter Q.match (slots t))
  fresh_hits limit = run_hits W n Q w.small (fresh k) no L whole limit ∙ rw L_hits

  pub fresh_step : (step W n Q (fresh k)).slot ≡ first_or U (filter Q.match (slots t))
  fresh_step = run_step W n Q w.small (fresh k) no L whole ∙ rw L_hits

  pub fresh_most : (limit : ℕ) → (drain W n Q limit (fresh k)).entered ≤ length (entered E t)
  fresh_most limit = rw (← L_nodes) (run_most W n Q w.small (fresh k) no L whole limit)

  -- the fuel suffices: the walk comes to its end, and more of it changes no answer
  pub fresh_ends : (f : ℕ) → fuel n ≤ f → n ≤ (after W n Q f (fresh k)).slot
  fresh_ends = run_ends W n Q w.small (fresh k) no L whole (ends_done (script Q [] t))

  pub fresh_enough : (f : ℕ) → fuel n ≤ f → seek W n Q f (counts n (fresh k)) (fresh k) ≡ step W n Q (fresh k)
  fresh_enough = run_enough W n Q w.small (fresh k) no L whole
