-- Document 02, item 13: an unloading is public removals one after the other, two of them come to
-- the same in either order, and all that is claimed of the call.
use Rattle.std.proofs.Common.{◌≡◌, ℕ, zero, suc, ◌+◌, ◌-◌, ◌<◌, ◌≤◌, Bool, true, false, cond, ◌||◌, eqb, List, [], ◌∷◌, map, length, sym, refl, ap, ◌∙◌, arith, eq-eqb}
use Rattle.words.specs.Nodes.{capacity, entry}
use Rattle.words.specs.declared.interval.Span.{Span}
use Rattle.tree.specs.Tree.{slots}
use Rattle.tree.proofs.Cases.{compare}
use Rattle.tree_edit.specs.Store.{Store, store}
use Rattle.iter.specs.Ranges.{by_rule_lem}
use Rattle.first_rule.specs.First.{first_in}
use Rattle.first_rule.proofs.Firsts.{first_in_lem}
use Rattle.unload_rule.specs.Sweep.{Sweep, next, less, sweep, gone_slots}
use Rattle.unload_rule.specs.Swept.{stay, Swept}
use Rattle.unload_rule.specs.Unload.{within, unload_rule_lem, unload_slots}
use Rattle.unload_rule.proofs.Either.{neither, either_same, either_total}
use Rattle.unload_rule.proofs.Ranges.{unload_none}
use Rattle.unload_rule.proofs.Turns.{sweep_still, sweep_one, slots_none, slots_one}
use Rattle.iset.specs.Effects.{Effect, effect}
use Rattle.iset.specs.Check.{check_rule}
use Rattle.iset.specs.Maps.{map_at, next_map, raised, raised_by}
use Rattle.iset.specs.Refusals.{BadRuled}
use Rattle.iset.specs.Remove.{remove_number, remove_call}
use Rattle.iset.specs.Sequence.{Call, remove, unload, State, unloaded, answered, all_answered, refusal_of, changes_of, made}
use Rattle.iset.specs.Unload.{unload_number, UnloadAnswer, refused_unloading, unload_range_lem, unload_call}
use Rattle.iset.specs.Unloaded.{Good, removals, after_both, both_gone, Holding, EitherOrder, Request13}
use Rattle.iset.proofs.Checks.{check_zero}
use Rattle.iset.proofs.Opened.{unload_is}
use Rattle.iset.proofs.Raised.{unload_version}
use Rattle.iset.proofs.Refusals.{remove_no, unload_no, unload_refusals, unload_leaves}
use Rattle.iset.proofs.Removals as removals
use Rattle.iset.proofs.Runs.{ruled_started}
use Rattle.iset.proofs.Sequence.{Sound, calls_sound}
use Rattle.iset.proofs.Unloadings.{accepts, unload_call_lem, by_rule_law}
use Rattle.iset.proofs.Versions.{raise_one, raised_below}

-- the store of a state, and the state that a sweep of it comes to
abbrev store_of : State → Store
store_of S = store S.words S.colours S.map.root

abbrev swept_to : State → Sweep → State
swept_to S R =
    record { map = map_at R.count R.store.root (raised_by S.map.version R.gone); words = R.store.words; colours = R.store.colours }

-- if none goes, that is the state itself
unswept : (S : State) → S.map.version < 4294967296 → record { map = map_at S.map.count S.map.root (raised_by S.map.version 0); words = S.words; colours = S.colours } ≡ S
unswept S h =
    let e : raised_by S.map.version 0 ≡ S.map.version = omega arith in
    λ i. record { map = map_at S.map.count S.map.root (e i); words = S.words; colours = S.colours }

-- one public removal that is accepted
module _ (S : State) (h : Sound S) (s : ℕ) (l : s < S.map.count) where
  accepted : remove_number S.map S.words S.colours s ≡ 0
  accepted = removals.accepted S.map S.words S.colours s h l

  abbrev T : Store
  T = less (store_of S) S.map.count s

  abbrev then : State
  then = record { map = next_map S.map (S.map.count - 1) T.root; words = T.words; colours = T.colours }

  removed_to : answered S (remove s) ≡ then
  unfolding remove_call
  removed_to = rw (eq-eqb (remove_number S.map S.words S.colours s) 0 accepted)

  one_made : changes_of S (remove s) ≡ 1
  one_made = rw (remove_no S.map S.words S.colours s ∙ accepted) refl

  then_sound : Sound then
  then_sound = ap (λ (X : State). check_rule X.map X.words X.colours) (sym removed_to) ∙ calls_sound (remove s ∷ []) S h

-- any number of them, as the search finds them
module _ (find : List ℕ → ℕ → ℕ → ℕ) where
  abbrev Stepped : ℕ → State → Type 0
  Stepped turns S =
      (swept_to S (sweep find turns (store_of S) S.map.count) ≡ all_answered S (map remove (gone_slots find turns (store_of S) S.map.count)))
      × (made S (map remove (gone_slots find turns (store_of S) S.map.count)) ≡ (sweep find turns (store_of S) S.map.count).gone)

  none_stepped : (turns : ℕ) (S : State) → S.map.version < 4294967296 → S.map.count ≤ next find (store_of S) S.map.count → Stepped turns S
  none_stepped turns S v h =
      rw (sweep_still find turns (store_of S) S.map.count h, slots_none find turns (store_of S) S.map.count h) (unswept S v, refl)

  one_stepped : (turns : ℕ) (S : State) (h : Sound S) (l : next find (store_of S) S.map.count < S.map.count)
      → Stepped turns (then S h (next find (store_of S) S.map.count) l) → Stepped (suc turns) S
  one_stepped turns S h l r =
      let n : ℕ = S.map.count in
      let s : ℕ = next find (store_of S) n in
      let R : Sweep = sweep find turns (less (store_of S) n s) (n - 1) in
      let L : List Call = map remove (gone_slots find turns (less (store_of S) n s) (n - 1)) in
      let e : raised_by S.map.version (R.gone + 1) ≡ raised_by (raised S.map.version) R.gone = omega (arith, raise_one S.map.version R.gone) in
      let f : changes_of S (remove s) + made (answered S (remove s)) L ≡ 1 + R.gone =
      λ i. one_made S h s l i + (ap (λ (X : State). made X L) (removed_to S h s l) ∙ r.1) i in
      rw (sweep_one find turns (store_of S) n l, slots_one find turns (store_of S) n l) (
        (λ i. record { map = map_at R.count R.store.root (e i); words = R.store.words; colours = R.store.colours })
            ∙ r.0 ∙ ap (λ (X : State). all_answered X L) (sym (removed_to S h s l)),
        omega (arith, f),
      )

  stepped : (turns : ℕ) (S : State) → Sound S → S.map.version < 4294967296 → Stepped turns S
  unfolding sweep gone_slots
  stepped zero S h v = (unswept S v, refl)
  stepped (suc turns) S h v =
      compare S.map.count (next find (store_of S) S.map.count)
      (λ i. none_stepped (suc turns) S v i)
      (λ l. let s : ℕ = next find (store_of S) S.map.count in
      one_stepped turns S h l (stepped turns (then S h s l) (then_sound S h s l) (raised_below S.map.version 1)))

-- an unloading that is accepted
module _ (S : State) (k : ℕ) (q : Span) (e : unload_number S.map S.words S.colours k q ≡ 0) where
  pub unload_steps : S.map.version < 4294967296
      → (answered S (unload k q) ≡ all_answered S (removals S k q)) × (made S (removals S k q) ≡ (unload_call S.map S.words S.colours k q).answer.gone)
  unfolding unload_rule_lem unload_slots
  unload_steps v =
      rw (unload_call_lem S.map S.words S.colours k q e)
      (stepped (first_in (by_rule_lem k q)) S.map.count S (accepts S.map S.words S.colours k q e).0 v)

  pub unload_passes : Sound (answered S (unload k q))
  unload_passes = calls_sound (unload k q ∷ []) S (accepts S.map S.words S.colours k q e).0

-- none went: all is as it was
none_gone : (S : State) → S.map.version < 4294967296 → (k : ℕ) (q : Span) → (unload_call S.map S.words S.colours k q).answer.gone ≡ 0
    → answered S (unload k q) ≡ S
unfolding unload_call
none_gone S h k q e = go (eqb (unload_number S.map S.words S.colours k q) 0) e
  where
    c : Bool → Effect UnloadAnswer
    c t =
        cond t (unload_range_lem S.map S.words S.colours k q)
        (effect (refused_unloading S.map (unload_number S.map S.words S.colours k q)) S.words S.colours)

    go : (t : Bool) → (c t).answer.gone ≡ 0 → unloaded (c t) ≡ S
    go true z = ap (λ (R : Sweep). swept_to S R) (unload_none S.words S.colours S.map.count S.map.root (by_rule_lem k q) z) ∙ unswept S h
    go false z = refl

-- two ranges that are accepted, one after the other
module _ (S : State) (h : Sound S) (k : ℕ) (q : Span) (j : ℕ) (p : Span) (d : BadRuled k q → ⊥) (f : BadRuled j p → ⊥) (P : Good S) where
  abbrev R : Sweep
  R = unload_rule_lem S.words S.colours S.map.count S.map.root (by_rule_lem k q)

  abbrev S' : State
  S' = swept_to S R

  abbrev R' : Sweep
  R' = unload_rule_lem S'.words S'.colours S'.map.count S'.map.root (by_rule_lem j p)

  called : unload_call S.map S.words S.colours k q ≡ unload_range_lem S.map S.words S.colours k q
  called = unload_call_lem S.map S.words S.colours k q (ruled_started S.map S.words S.colours h k q d)

  sound' : Sound S'
  sound' = rw called at (calls_sound (unload k q ∷ []) S h)

  number' : unload_number S'.map S'.words S'.colours j p ≡ 0
  number' = ruled_started S'.map S'.words S'.colours sound' j p f

  called' : unload_call S'.map S'.words S'.colours j p ≡ unload_range_lem S'.map S'.words S'.colours j p
  called' = unload_call_lem S'.map S'.words S'.colours j p number'

  a : Swept S.words S.colours S.map.count S.map.root (within (by_rule_lem k q)) P R
  a = by_rule_law S.map S.words S.colours k q h P

  b : Swept S'.words S'.colours S'.map.count S'.map.root (within (by_rule_lem j p)) a.passes R'
  b = by_rule_law S'.map S'.words S'.colours j p sound' a.passes

  second : refusal_of (answered S (unload k q)) (unload j p) ≡ 0
  second = rw called (unload_no S'.map S'.words S'.colours j p ∙ number')

  holding : Holding (after_both S k q j p) (stay (λ e. within (by_rule_lem k q) e || within (by_rule_lem j p) e) (map (entry S.words) (slots P.tree)))
  holding =
      rw (called, called')
      (record {
        passes = b.passes;
        entries = neither S.words S.colours S.map.count S.map.root P (within (by_rule_lem k q)) (within (by_rule_lem j p)) R R' a b;
      })

  gone : both_gone S k q j p ≡ R.gone + R'.gone
  gone =
      let x : changes_of S (unload k q) ≡ R.gone = ap (λ (c : Effect UnloadAnswer). c.answer.gone) called in
      let y : changes_of (answered S (unload k q)) (unload j p) ≡ R'.gone =
      ap (λ (c : Effect UnloadAnswer). (unload_call c.answer.map c.words c.colours j p).answer.gone) called
      ∙ ap (λ (c : Effect UnloadAnswer). c.answer.gone) called' in
      λ i. x i + y i

pub unload_either : (S : State) → Sound S → (k : ℕ) (q : Span) (j : ℕ) (p : Span) → (BadRuled k q → ⊥) → (BadRuled j p → ⊥) → (P : Good S)
    → EitherOrder S k q j p (map (entry S.words) (slots P.tree))
unload_either S h k q j p d f P =
    record {
      accepted = second S h k q j p d f P;
      accepted_other = second S h j p k q f d P;
      one = holding S h k q j p d f P;
      other = rw (either_same (within (by_rule_lem k q)) (within (by_rule_lem j p)) (map (entry S.words) (slots P.tree))) (holding S h j p k q f d P);
      totals = gone S h k q j p d f P
          ∙ either_total S.words S.colours S.map.count S.map.root P (within (by_rule_lem k q)) (within (by_rule_lem j p)) _ _ (a S h k q j p d f P) (b S h k q j p d f P)
          _ _ (a S h j p k q f d P) (b S h j p k q f d P)
          ∙ sym (gone S h j p k q f d P);
    }

pub request_13 : (S : State) → S.map.version < 4294967296 → Request13 S
request_13 S h =
    record {
      refusals = λ k q. unload_refusals S.map S.words S.colours k q;
      refused = λ k q. unload_leaves S.map S.words S.colours k q;
      unloads = λ k q e P.
          let z : unload_number S.map S.words S.colours k q ≡ 0 = sym (unload_no S.map S.words S.colours k q) ∙ e in
          rw (unload_call_lem S.map S.words S.colours k q z)
          (by_rule_law S.map S.words S.colours k q (accepts S.map S.words S.colours k q z).0 P);
      passes = λ k q e. unload_passes S k q (sym (unload_no S.map S.words S.colours k q) ∙ e);
      version = λ k q. unload_version S.map S.words S.colours h k q;
      none = λ k q. none_gone S h k q;
      first = λ q e P.
          let i : S.map.count ≤ capacity (length S.words) (length S.colours) = (check_zero S.map S.words S.colours e).0 in
          first_in_lem S.words S.colours S.map.count S.map.root (omega arith) P q;
      steps = λ k q e. unload_steps S k q (sym (unload_no S.map S.words S.colours k q) ∙ e) h;
      either = λ k q j p e d f P. unload_either S e k q j p d f P;
      opened = λ k q e. unload_is S.map S.words S.colours e k q;
    }
