-- What each public call answers where it is not refused, in the documents' words: said of the
-- calls' own answers and of what they leave. `Map::check` has nothing but its number (Refusals),
-- steps and drains are in Runs.
use Rattle.std.proofs.Common.{◌≡◌, ℕ, ◌+◌, ◌-◌, ◌/◌, ◌<◌, ◌≤◌, true, false, ◌⊎◌, List, [], length, sym, refl, ap, ◌∙◌, inl, inr, arith, eq-eqb, Ok}
use contract.Lifetimes.{Lfts}
use borrow.Fn.Kinds as K
use denote.Triple.Clauses.{AtExit}
use Rattle.words.specs.Ix.{U}
use Rattle.words.specs.Nodes.{capacity, entry}
use Rattle.words.specs.Lists.{filter}
use Rattle.words.specs.declared.interval.Interval.{Interval}
use Rattle.words.specs.declared.node.Entry.{Entry}
use Rattle.tree.specs.Tree.{slots}
use Rattle.tree.specs.Passes.{Passes}
use Rattle.builder_laws.specs.Built.{Built}
use Rattle.tree_rm_rule.specs.RemovalGuarantee.{RemovalGuarantee}
use Rattle.tree_rm_rule.proofs.Removal.{removed}
use Rattle.tree_in_rule.specs.InsertionGuarantee.{InsertionGuarantee}
use Rattle.tree_in_rule.proofs.Insertion.{inserted}
use Rattle.iter.specs.Exact.{equals}
use Rattle.iter.specs.declared.Cursor.{Cursor}
use Rattle.iter.specs.declared.drain.Drained.{Drained}
use Rattle.iter.specs.declared.seek.Step.TheVariants.{Hit, End}
use Rattle.plain.specs.declared.Tally.{Tally}
use Rattle.iter.specs.declared.rules.Query.TheVariants.{Exact}
use Rattle.iter_laws.specs.Highest.{Highest}
use Rattle.iter_laws.proofs.ExactRuns.{exact_start}
use Rattle.iset.specs.Effects.{Effect, Output}
use Rattle.iset.specs.Check.{check_rule}
use Rattle.iset.specs.Build.{BuildAnswer, build_number, build_answer, build_call}
use Rattle.iset.specs.Remove.{RemoveAnswer, remove_number, remove_answer, remove_call}
use Rattle.iset.specs.Insert.{InsertAnswer, insert_number, insert_answer, insert_call}
use Rattle.iset.specs.Unload.{UnloadAnswer, unload_answer, unload_call}
use Rattle.iset.specs.Ticket.{read_answer, read_call}
use Rattle.iset.specs.Lookup.{start_number, start_answer, start_call, step_answer, step_call, DrainAnswer, drain_answer, drain_call}
use Rattle.iset.specs.Tallies.{TallyAnswer, tally_answer}
use Rattle.iset.specs.Plain.{plain_call}
use Rattle.iset.specs.Find.{find_all_call}
use Rattle.iset.specs.Demands.{removal, insertion}
use Rattle.iset.specs.declared.Map.{Map}
use Rattle.iset.specs.declared.remove.Removed as removed-payload
use Rattle.iset.specs.declared.insert.Inserted as inserted-payload
use Rattle.iset.specs.declared.unload.Unloaded as unloaded-payload
use Rattle.iset.proofs.Map.read.Reads as read-reads
use Rattle.iset.proofs.Map.read.Kinds as read-kinds
use Rattle.iset.proofs.Map.build.Reads as build-reads
use Rattle.iset.proofs.Map.build.Kinds as build-kinds
use Rattle.iset.proofs.Map.remove.Reads as remove-reads
use Rattle.iset.proofs.Map.remove.Kinds as remove-kinds
use Rattle.iset.proofs.Map.insert.Reads as insert-reads
use Rattle.iset.proofs.Map.insert.Kinds as insert-kinds
use Rattle.iset.proofs.Map.unload.Reads as unload-reads
use Rattle.iset.proofs.Map.unload.Kinds as unload-kinds
use Rattle.iset.proofs.Map.fresh_exact.Reads as exact-reads
use Rattle.iset.proofs.Map.fresh_exact.Kinds as exact-kinds
use Rattle.iset.proofs.Map.step.Reads as step-reads
use Rattle.iset.proofs.Map.step.Kinds as step-kinds
use Rattle.iset.proofs.Map.drain.Reads as drain-reads
use Rattle.iset.proofs.Map.drain.Kinds as drain-kinds
use Rattle.iset.proofs.Map.plain.Reads as plain-reads
use Rattle.iset.proofs.Map.plain.Kinds as plain-kinds
use Rattle.iset.proofs.Map.find_all.Reads as find-all-reads
use Rattle.iset.proofs.Map.find_all.Kinds as find-all-kinds
use Rattle.iset.proofs.Map.new.Reads as new-reads
use Rattle.iset.proofs.Map.new.Kinds as new-kinds
use Rattle.iset.proofs.Map.fresh.Reads as fresh-reads
use Rattle.iset.proofs.Map.fresh.Kinds as fresh-kinds
use Rattle.iset.proofs.Checks.{check_zero}
use Rattle.iset.proofs.Builds.{builds}
use Rattle.iset.proofs.Removals as removals
use Rattle.iset.proofs.Insertions as insertions
use Rattle.iset.proofs.Sequence.{empty_passes}
use Rattle.iset.proofs.Found.{few}
use Rattle.iset.proofs.Refusals.{build_no, remove_no, insert_no, start_no}

-- `Map::new`: whatever its promise allows passes the check in any memory.
pub new_answers : (κs : Lfts 0) (a : K.Dens κs new-kinds.ps) (r : (K.res_t new-kinds.r κs).Denot) (s : AtExit (K.ended_of 0 new-kinds.ps new-kinds.r) κs)
    → new-reads.Post κs a r s → (W C : List ℕ) → check_rule r W C ≡ 0
new_answers κs a r s p W C = rw p (empty_passes W C)

-- `Map::fresh`: "slot root, one level, state 00"
pub fresh_answers : (κs : Lfts 0) (a : K.Dens κs fresh-kinds.ps) (r : (K.res_t fresh-kinds.r κs).Denot) (s : AtExit (K.ended_of 0 fresh-kinds.ps fresh-kinds.r) κs)
    → fresh-reads.Post κs a r s → r ≡ record { slot = a.0.root; levels = 1; bits = 0 }
fresh_answers κs a r s p = p

-- A build: as many entries as triples, in a store that passes and holds the list in its order.
pub build_answers : (m : Map) (W C S : List ℕ) → (build_call m W C S).answer.no ≡ 0
    → ((build_call m W C S).answer.map.count ≡ length S / 3)
    × Built S W C (length S / 3) (build_call m W C S).words (build_call m W C S).colours (build_call m W C S).answer.map.root
unfolding build_call
build_answers m W C S e =
    let z : build_number (length W) (length C) S ≡ 0 = sym (build_no m W C S) ∙ e in
    (rw (eq-eqb (build_number (length W) (length C) S) 0 z), builds m W C S z)

-- A removal: the count is one less; value, pairs, root and what is left are those of a removal of
-- slot s.
pub remove_answers : (m : Map) (W C : List ℕ) (s : ℕ) → (remove_call m W C s).answer.no ≡ 0 → (P : Passes W C m.count m.root)
    → ((remove_call m W C s).answer.map.count ≡ m.count - 1)
    × RemovalGuarantee W C m.count m.root s P (removal m W C s)
unfolding remove_call
remove_answers m W C s e P =
    let z : remove_number m W C s ≡ 0 = sym (remove_no m W C s) ∙ e in
    let h : m.count ≤ capacity (length W) (length C) = (check_zero m W C (removals.accepts m W C s z).0).0 in
    rw (eq-eqb (remove_number m W C s) 0 z)
    (refl, removed W C m.count m.root s (omega arith) (omega arith) (omega arith) (removals.accepts m W C s z).1 P)

-- An insertion: the count is one more; the slot it names is the old count, "slot count is always
-- the next one", and there the new entry stands.
pub insert_answers : (m : Map) (W C : List ℕ) (e : Entry) → (insert_call m W C e).answer.no ≡ 0 → (P : Passes W C m.count m.root)
    → ((insert_call m W C e).answer.slot ≡ m.count)
    × (entry (insert_call m W C e).words (insert_call m W C e).answer.slot ≡ e)
    × ((insert_call m W C e).answer.map.count ≡ m.count + 1)
    × InsertionGuarantee W C m.count m.root e P (insertion m W C e)
unfolding insert_call
insert_answers m W C e i P =
    let z : insert_number m W C e ≡ 0 = sym (insert_no m W C e) ∙ i in
    let a = insertions.accepts m W C e z in
    let h : m.count < capacity (length W) (length C) = a.0 in
    let d = inserted W C m.count m.root e (omega arith) (omega arith) (omega arith) a.2 P in
    rw (eq-eqb (insert_number m W C e) 0 z) (refl, d.entry_new, refl, d)

-- `fresh_exact`: one level, state 00; "starts at the highest equal node, U if none"
module _ (m : Map) (W C : List ℕ) (x : Interval) (e : (start_call m W C x).no ≡ 0) (P : Passes W C m.count m.root) where
  abbrev First : Cursor → Type 0
  First c = ((c.slot ≡ U) × (filter (equals W x) (slots P.tree) ≡ [])) ⊎ Highest W x P.tree c.slot

  pub start_answers : ((start_call m W C x).cursor ≡ record { slot = (start_call m W C x).cursor.slot; levels = 1; bits = 0 }) × First (start_call m W C x).cursor
  unfolding start_call
  start_answers =
      let z : start_number m W C (Exact x) ≡ 0 = sym (start_no m W C x) ∙ e in
      rw (eq-eqb (start_number m W C (Exact x)) 0 z)
      (refl, exact_start W C m.count m.root x (few m W C (Exact x) z) P (λ u a. inl (u, a)) inr)

-- Said of the code: where an answer r that a call's promise allows from its arguments a is no
-- refusal, its parts are those above.
pub build_done : (κs : Lfts 3) (a : K.Dens κs build-kinds.ps) (r : (K.res_t build-kinds.r κs).Denot) (s : AtExit (K.ended_of 3 build-kinds.ps build-kinds.r) κs)
    → build-reads.Post κs a r s → (m : Map) → r ≡ Ok m
    → (build_call a.0 a.1.0.now a.1.1.0.now a.1.1.1.0.now).answer ≡ record { no = 0; map = m }
build_done κs a r s p m e = ap (λ (c : Effect BuildAnswer). c.answer) (sym p) ∙ ap (build_answer a.0) e

pub remove_done_lem : (κs : Lfts 2) (a : K.Dens κs remove-kinds.ps) (r : (K.res_t remove-kinds.r κs).Denot) (s : AtExit (K.ended_of 2 remove-kinds.ps remove-kinds.r) κs)
    → remove-reads.Post κs a r s → (g : removed-payload.Removed) → r ≡ Ok g
    → (remove_call a.0 a.1.0.now a.1.1.0.now a.1.1.1.0).answer
    ≡ record { no = 0; value = g.value; map = g.map; pairs = g.pairs; reach = g.reach }
remove_done_lem κs a r s p g e = ap (λ (c : Effect RemoveAnswer). c.answer) (sym p) ∙ ap (remove_answer a.0) e

pub insert_done_lem : (κs : Lfts 2) (a : K.Dens κs insert-kinds.ps) (r : (K.res_t insert-kinds.r κs).Denot) (s : AtExit (K.ended_of 2 insert-kinds.ps insert-kinds.r) κs)
    → insert-reads.Post κs a r s → (g : inserted-payload.Inserted) → r ≡ Ok g
    → (insert_call a.0 a.1.0.now a.1.1.0.now (record { start = a.1.1.1.0; end = a.1.1.1.1.0; value = a.1.1.1.1.1.0 })).answer
    ≡ record { no = 0; slot = g.slot; map = g.map; reach = g.reach }
insert_done_lem κs a r s p g e = ap (λ (c : Effect InsertAnswer). c.answer) (sym p) ∙ ap (insert_answer a.0) e

pub unload_done_lem : (κs : Lfts 2) (a : K.Dens κs unload-kinds.ps) (r : (K.res_t unload-kinds.r κs).Denot) (s : AtExit (K.ended_of 2 unload-kinds.ps unload-kinds.r) κs)
    → unload-reads.Post κs a r s → (g : unloaded-payload.Unloaded) → r ≡ Ok g
    → (unload_call a.0 a.1.0.now a.1.1.0.now a.1.1.1.0 a.1.1.1.1.0).answer ≡ record { no = 0; gone = g.gone; map = g.map }
unload_done_lem κs a r s p g e = ap (λ (c : Effect UnloadAnswer). c.answer) (sym p) ∙ ap (unload_answer a.0) e

pub read_done : (κs : Lfts 2) (a : K.Dens κs read-kinds.ps) (r : (K.res_t read-kinds.r κs).Denot) (s : AtExit (K.ended_of 2 read-kinds.ps read-kinds.r) κs)
    → read-reads.Post κs a r s → (e : Entry) → r ≡ Ok e
    → read_call a.0 a.1.0.now a.1.1.0.now a.1.1.1.0 ≡ record { no = 0; entry = e }
read_done κs a r s p e q = sym p ∙ ap read_answer q

pub fresh_exact_done : (κs : Lfts 2) (a : K.Dens κs exact-kinds.ps) (r : (K.res_t exact-kinds.r κs).Denot) (s : AtExit (K.ended_of 2 exact-kinds.ps exact-kinds.r) κs)
    → exact-reads.Post κs a r s → (c : Cursor) → r ≡ Ok c
    → start_call a.0 a.1.0.now a.1.1.0.now a.1.1.1.0 ≡ record { no = 0; cursor = c }
fresh_exact_done κs a r s p c e = sym p ∙ ap start_answer e

-- a hit's slot is its cursor's; at the end the slot is U and the cursor (U, no levels)
pub step_done_lem : (κs : Lfts 2) (a : K.Dens κs step-kinds.ps) (r : (K.res_t step-kinds.r κs).Denot) (s : AtExit (K.ended_of 2 step-kinds.ps step-kinds.r) κs)
    → step-reads.Post κs a r s → (c : Cursor) (n : ℕ)
    → (r ≡ Ok (Hit c n) → step_call a.0 a.1.0.now a.1.1.0.now a.1.1.1.0 a.1.1.1.1.0
    ≡ record { no = 0; hit = true; slot = c.slot; next = c; entered = n })
    × (r ≡ Ok (End n) → step_call a.0 a.1.0.now a.1.1.0.now a.1.1.1.0 a.1.1.1.1.0
    ≡ record { no = 0; hit = false; slot = U; next = record { slot = U; levels = 0; bits = 0 }; entered = n })
step_done_lem κs a r s p c n = (λ e. sym p ∙ ap (step_answer a.1.1.1.1.0) e, λ e. sym p ∙ ap (step_answer a.1.1.1.1.0) e)

pub drain_done_lem : (κs : Lfts 3) (a : K.Dens κs drain-kinds.ps) (r : (K.res_t drain-kinds.r κs).Denot) (s : AtExit (K.ended_of 3 drain-kinds.ps drain-kinds.r) κs)
    → drain-reads.Post κs a r s → (d : Drained) → r ≡ Ok d
    → (drain_call a.0 a.1.0.now a.1.1.0.now a.1.1.1.0 a.1.1.1.1.0 a.1.1.1.1.1.0 a.1.1.1.1.1.1.0.now).answer
    ≡ record { no = 0; hits = d.hits; entered = d.entered; next = d.next }
drain_done_lem κs a r s p d e = ap (λ (c : Output DrainAnswer). c.answer) (sym p) ∙ ap (drain_answer a.1.1.1.1.0) e

pub plain_done : (κs : Lfts 3) (a : K.Dens κs plain-kinds.ps) (r : (K.res_t plain-kinds.r κs).Denot) (s : AtExit (K.ended_of 3 plain-kinds.ps plain-kinds.r) κs)
    → plain-reads.Post κs a r s → (d : Tally) → r ≡ Ok d
    → (plain_call a.0 a.1.0.now a.1.1.0.now a.1.1.1.0 a.1.1.1.1.0.now).answer
    ≡ record { no = 0; hits = d.hits; entered = d.entered }
plain_done κs a r s p d e = ap (λ (c : Output TallyAnswer). c.answer) (sym p) ∙ ap tally_answer e

pub find_all_done : (κs : Lfts 3) (a : K.Dens κs find-all-kinds.ps) (r : (K.res_t find-all-kinds.r κs).Denot) (s : AtExit (K.ended_of 3 find-all-kinds.ps find-all-kinds.r) κs)
    → find-all-reads.Post κs a r s → (d : Tally) → r ≡ Ok d
    → (find_all_call a.0 a.1.0.now a.1.1.0.now a.1.1.1.0 a.1.1.1.1.0.now).answer
    ≡ record { no = 0; hits = d.hits; entered = d.entered }
find_all_done κs a r s p d e = ap (λ (c : Output TallyAnswer). c.answer) (sym p) ∙ ap tally_answer e
