-- Any two answers, and any two contents of each lent slice at exit, that a promise allows are
-- equal.
use Rattle.std.proofs.Common.{◌≡◌, ℕ, cond, eqb, List, sym, refl, ap, ◌∙◌, arith, ne_eqb, Result, Ok, Err}
use Rattle.std.specs.Prelude.{⊤}
use contract.Lifetimes.{Lfts}
use borrow.Fn.Kinds as K
use denote.Triple.Clauses.{AtExit}
use Rattle.words.specs.Refusals.{refusal_number}
use Rattle.words.specs.declared.refusal.Refusal.{Refusal}
use Rattle.words.proofs.Refusals.{refusal_at, at_number, number_pos}
use Rattle.iset.specs.Effects.{Effect, effect, Output, output}
use Rattle.iset.specs.Check.{check_number}
use Rattle.iset.specs.Build.{BuildAnswer, build_answer}
use Rattle.iset.specs.Remove.{RemoveAnswer, remove_answer}
use Rattle.iset.specs.declared.Map.{Map}
use Rattle.iset.specs.declared.remove.Removed.{Removed}
use Rattle.iset.specs.Unload.{UnloadAnswer, unload_answer}
use Rattle.iset.specs.declared.unload.Unloaded.{Unloaded}
use Rattle.iset.proofs.Map.unload.Reads as unload-reads
use Rattle.iset.proofs.Map.unload.Kinds as unload-kinds
use Rattle.iset.proofs.Map.open_unload.Reads as open-unload-reads
use Rattle.iset.proofs.Map.open_unload.Kinds as open-unload-kinds
use Rattle.iset.specs.Tidy.{RenumberAnswer, renumber_answer}
use Rattle.iset.proofs.Map.propose.Reads as propose-reads
use Rattle.iset.proofs.Map.propose.Kinds as propose-kinds
use Rattle.iset.proofs.Map.open_propose.Reads as open-propose-reads
use Rattle.iset.proofs.Map.open_propose.Kinds as open-propose-kinds
use Rattle.iset.proofs.Map.renumber.Reads as renumber-reads
use Rattle.iset.proofs.Map.renumber.Kinds as renumber-kinds
use Rattle.iset.proofs.Map.open_renumber.Reads as open-renumber-reads
use Rattle.iset.proofs.Map.open_renumber.Kinds as open-renumber-kinds
use Rattle.iset.specs.Insert.{InsertAnswer, insert_answer}
use Rattle.iset.specs.declared.insert.Inserted.{Inserted}
use Rattle.iset.specs.Ticket.{ReadAnswer, read_answer}
use Rattle.words.specs.declared.node.Entry.{Entry}
use Rattle.iset.specs.Image.{WriteAnswer, write_answer}
use Rattle.iset.proofs.Map.write_image.Reads as write-image-reads
use Rattle.iset.proofs.Map.write_image.Kinds as write-image-kinds
use Rattle.iset.proofs.Map.open_write_image.Reads as open-write-image-reads
use Rattle.iset.proofs.Map.open_write_image.Kinds as open-write-image-kinds
use Rattle.iset.proofs.Map.read_image.Reads as read-image-reads
use Rattle.iset.proofs.Map.read_image.Kinds as read-image-kinds
use Rattle.iset.proofs.next_version.Reads as next-version-reads
use Rattle.iset.proofs.next_version.Kinds as next-version-kinds
use Rattle.iset.proofs.Map.ticket.Reads as ticket-reads
use Rattle.iset.proofs.Map.ticket.Kinds as ticket-kinds
use Rattle.iset.proofs.Map.read.Reads as read-reads
use Rattle.iset.proofs.Map.read.Kinds as read-kinds
use Rattle.iset.proofs.Map.open_read.Reads as open-read-reads
use Rattle.iset.proofs.Map.open_read.Kinds as open-read-kinds
use Rattle.iset.proofs.Map.insert.Reads as insert-reads
use Rattle.iset.proofs.Map.insert.Kinds as insert-kinds
use Rattle.iset.proofs.Map.remove.Reads as remove-reads
use Rattle.iset.proofs.Map.remove.Kinds as remove-kinds
use Rattle.iter.specs.declared.Cursor.{Cursor}
use Rattle.iter.specs.declared.seek.Step.{Step}
use Rattle.iter.specs.declared.seek.Step.TheVariants.{Hit, End}
use Rattle.iset.specs.Lookup.{StartAnswer, start_answer, StepAnswer, step_answer, DrainAnswer, drain_answer}
use Rattle.iset.specs.Tallies.{TallyAnswer, tally_answer}
use Rattle.plain.specs.declared.Tally.{Tally}
use Rattle.iter.specs.declared.drain.Drained.{Drained}
use Rattle.iset.proofs.Map.fresh.Reads as fresh-reads
use Rattle.iset.proofs.Map.fresh.Kinds as fresh-kinds
use Rattle.iset.proofs.Map.fresh_exact.Reads as exact-reads
use Rattle.iset.proofs.Map.fresh_exact.Kinds as exact-kinds
use Rattle.iset.proofs.Map.step.Reads as step-reads
use Rattle.iset.proofs.Map.step.Kinds as step-kinds
use Rattle.iset.proofs.Map.drain.Reads as drain-reads
use Rattle.iset.proofs.Map.drain.Kinds as drain-kinds
use Rattle.iset.proofs.Map.plain.Reads as plain-reads
use Rattle.iset.proofs.Map.plain.Kinds as plain-kinds
use Rattle.iset.proofs.Map.find_all.Reads as find-all-reads
use Rattle.iset.proofs.Map.find_all.Kinds as find-all-kinds
use Rattle.iset.proofs.Map.build.Reads as build-reads
use Rattle.iset.proofs.Map.build.Kinds as build-kinds
use Rattle.iset.proofs.remove.Removed.slot_after.Reads as slot-after-reads
use Rattle.iset.proofs.remove.Removed.slot_after.Kinds as slot-after-kinds
use Rattle.iset.proofs.number_of.Reads as number-reads
use Rattle.iset.proofs.number_of.Kinds as number-kinds
use Rattle.iset.proofs.Map.new.Reads as new-reads
use Rattle.iset.proofs.Map.new.Kinds as new-kinds
use Rattle.iset.proofs.Map.open_insert.Reads as open-insert-reads
use Rattle.iset.proofs.Map.open_insert.Kinds as open-insert-kinds
use Rattle.iset.proofs.Map.open_remove.Reads as open-remove-reads
use Rattle.iset.proofs.Map.open_remove.Kinds as open-remove-kinds
use Rattle.iset.proofs.Map.open_fresh_exact.Reads as open-exact-reads
use Rattle.iset.proofs.Map.open_fresh_exact.Kinds as open-exact-kinds
use Rattle.iset.proofs.Map.open_step.Reads as open-step-reads
use Rattle.iset.proofs.Map.open_step.Kinds as open-step-kinds
use Rattle.iset.proofs.Map.open_drain.Reads as open-drain-reads
use Rattle.iset.proofs.Map.open_drain.Kinds as open-drain-kinds
use Rattle.iset.proofs.Map.open_plain.Reads as open-plain-reads
use Rattle.iset.proofs.Map.open_plain.Kinds as open-plain-kinds
use Rattle.iset.proofs.Map.open_find_all.Reads as open-find-all-reads
use Rattle.iset.proofs.Map.open_find_all.Kinds as open-find-all-kinds
use Rattle.iset.proofs.Map.check.Reads as check-reads
use Rattle.iset.proofs.Map.check.Kinds as check-kinds

-- One equation determines each part. The answer is read back from what it stands for.
pub same_effect : {A B : Type 0} {a a' : A} {r r' : B} {W W' C C' : List ℕ} {x : Effect A} (at : A → B) → at a ≡ r → at a' ≡ r'
    → effect a W C ≡ x → effect a' W' C' ≡ x → (r ≡ r') × (W ≡ W') × (C ≡ C')
same_effect {A = A} {a = a} {a' = a'} {W = W} {W' = W'} {C = C} {C' = C'} at b b' p q =
    let e : effect a W C ≡ effect a' W' C' = p ∙ sym q in
    (sym b ∙ ap (λ (c : Effect A). at c.answer) e ∙ b', ap (λ (c : Effect A). c.words) e, ap (λ (c : Effect A). c.colours) e)

pub same_output : {A B : Type 0} {a a' : A} {r r' : B} {X X' : List ℕ} {x : Output A} (at : A → B) → at a ≡ r → at a' ≡ r'
    → output a X ≡ x → output a' X' ≡ x → (r ≡ r') × (X ≡ X')
same_output {A = A} {a = a} {a' = a'} {X = X} {X' = X'} at b b' p q =
    let e : output a X ≡ output a' X' = p ∙ sym q in
    (sym b ∙ ap (λ (c : Output A). at c.answer) e ∙ b', ap (λ (c : Output A). c.output) e)

pub new-determined :
    (κs : Lfts 0) (a : K.Dens κs new-kinds.ps) (r r' : (K.res_t new-kinds.r κs).Denot) (s s' : AtExit (K.ended_of 0 new-kinds.ps new-kinds.r) κs)
    → new-reads.Post κs a r s → new-reads.Post κs a r' s' → r ≡ r'
new-determined κs a r r' s s' p q = p ∙ sym q

pub number-determined :
    (κs : Lfts 0) (a : K.Dens κs number-kinds.ps) (r r' : (K.res_t number-kinds.r κs).Denot) (s s' : AtExit (K.ended_of 0 number-kinds.ps number-kinds.r) κs)
    → number-reads.Post κs a r s → number-reads.Post κs a r' s' → r ≡ r'
number-determined κs a r r' s s' p q = p ∙ sym q

-- the check's number says which answer it is
abbrev pub checked_at : ℕ → Result ⊤ Refusal
checked_at k = cond (eqb k 0) (Ok tt) (Err (refusal_at k))

pub checked_back : (r : Result ⊤ Refusal) → checked_at (check_number r) ≡ r
checked_back (Ok u) = refl
checked_back (Err y) = rw (ne_eqb (refusal_number y) 0 (omega (arith, number_pos y)), at_number y)

pub check-determined :
    (κs : Lfts 2) (a : K.Dens κs check-kinds.ps) (r r' : (K.res_t check-kinds.r κs).Denot) (s s' : AtExit (K.ended_of 2 check-kinds.ps check-kinds.r) κs)
    → check-reads.Post κs a r s → check-reads.Post κs a r' s' → r ≡ r'
check-determined κs a r r' s s' p q = sym (checked_back r) ∙ ap checked_at (p ∙ sym q) ∙ checked_back r'

-- and so do a build's
abbrev pub built_at : BuildAnswer → Result Map Refusal
built_at x = cond (eqb x.no 0) (Ok x.map) (Err (refusal_at x.no))

pub built_back : (m : Map) (r : Result Map Refusal) → built_at (build_answer m r) ≡ r
built_back m (Ok n) = refl
built_back m (Err y) = rw (ne_eqb (refusal_number y) 0 (omega (arith, number_pos y)), at_number y)

pub build-determined :
    (κs : Lfts 3) (a : K.Dens κs build-kinds.ps) (r r' : (K.res_t build-kinds.r κs).Denot) (s s' : AtExit (K.ended_of 3 build-kinds.ps build-kinds.r) κs)
    → build-reads.Post κs a r s → build-reads.Post κs a r' s' → (r ≡ r') × (s.1.0.now ≡ s'.1.0.now) × (s.1.1.0.now ≡ s'.1.1.0.now)
build-determined κs a r r' s s' p q = same_effect built_at (built_back a.0 r) (built_back a.0 r') p q

-- and a removal's
abbrev pub removal_at : RemoveAnswer → Result Removed Refusal
removal_at x =
    cond (eqb x.no 0)
    (Ok (record { map = x.map; value = x.value; pairs = x.pairs; reach = x.reach }))
    (Err (refusal_at x.no))

pub removal_back : (m : Map) (r : Result Removed Refusal) → removal_at (remove_answer m r) ≡ r
removal_back m (Ok g) = refl
removal_back m (Err y) = rw (ne_eqb (refusal_number y) 0 (omega (arith, number_pos y)), at_number y)

pub remove-determined :
    (κs : Lfts 2) (a : K.Dens κs remove-kinds.ps) (r r' : (K.res_t remove-kinds.r κs).Denot) (s s' : AtExit (K.ended_of 2 remove-kinds.ps remove-kinds.r) κs)
    → remove-reads.Post κs a r s → remove-reads.Post κs a r' s' → (r ≡ r') × (s.1.0.now ≡ s'.1.0.now) × (s.1.1.0.now ≡ s'.1.1.0.now)
remove-determined κs a r r' s s' p q = same_effect removal_at (removal_back _ r) (removal_back _ r') p q

-- and an unloading's
abbrev pub unloading_at : UnloadAnswer → Result Unloaded Refusal
unloading_at x = cond (eqb x.no 0) (Ok (record { map = x.map; gone = x.gone })) (Err (refusal_at x.no))

pub unloading_back : (m : Map) (r : Result Unloaded Refusal) → unloading_at (unload_answer m r) ≡ r
unloading_back m (Ok g) = refl
unloading_back m (Err y) = rw (ne_eqb (refusal_number y) 0 (omega (arith, number_pos y)), at_number y)

pub unload-determined :
    (κs : Lfts 2) (a : K.Dens κs unload-kinds.ps) (r r' : (K.res_t unload-kinds.r κs).Denot) (s s' : AtExit (K.ended_of 2 unload-kinds.ps unload-kinds.r) κs)
    → unload-reads.Post κs a r s → unload-reads.Post κs a r' s' → (r ≡ r') × (s.1.0.now ≡ s'.1.0.now) × (s.1.1.0.now ≡ s'.1.1.0.now)
unload-determined κs a r r' s s' p q = same_effect unloading_at (unloading_back _ r) (unloading_back _ r') p q

-- the planner's number is the check's, and a renumbering's
pub propose-determined :
    (κs : Lfts 3) (a : K.Dens κs propose-kinds.ps) (r r' : (K.res_t propose-kinds.r κs).Denot) (s s' : AtExit (K.ended_of 3 propose-kinds.ps propose-kinds.r) κs)
    → propose-reads.Post κs a r s → propose-reads.Post κs a r' s' → (r ≡ r') × (s.1.1.1.0.now ≡ s'.1.1.1.0.now)
propose-determined κs a r r' s s' p q = same_output checked_at (checked_back r) (checked_back r') p q

abbrev pub renumbering_at : RenumberAnswer → Result Map Refusal
renumbering_at x = cond (eqb x.no 0) (Ok x.map) (Err (refusal_at x.no))

pub renumbering_back : (m : Map) (r : Result Map Refusal) → renumbering_at (renumber_answer m r) ≡ r
renumbering_back m (Ok g) = refl
renumbering_back m (Err y) = rw (ne_eqb (refusal_number y) 0 (omega (arith, number_pos y)), at_number y)

pub renumber-determined :
    (κs : Lfts 3) (a : K.Dens κs renumber-kinds.ps) (r r' : (K.res_t renumber-kinds.r κs).Denot) (s s' : AtExit (K.ended_of 3 renumber-kinds.ps renumber-kinds.r) κs)
    → renumber-reads.Post κs a r s → renumber-reads.Post κs a r' s' → (r ≡ r') × (s.1.0.now ≡ s'.1.0.now) × (s.1.1.0.now ≡ s'.1.1.0.now)
renumber-determined κs a r r' s s' p q = same_effect renumbering_at (renumbering_back _ r) (renumbering_back _ r') p q

-- and an insertion's
abbrev pub insertion_at : InsertAnswer → Result Inserted Refusal
insertion_at x =
    cond (eqb x.no 0)
    (Ok (record { map = x.map; slot = x.slot; reach = x.reach }))
    (Err (refusal_at x.no))

pub insertion_back : (m : Map) (r : Result Inserted Refusal) → insertion_at (insert_answer m r) ≡ r
insertion_back m (Ok g) = refl
insertion_back m (Err y) = rw (ne_eqb (refusal_number y) 0 (omega (arith, number_pos y)), at_number y)

pub insert-determined :
    (κs : Lfts 2) (a : K.Dens κs insert-kinds.ps) (r r' : (K.res_t insert-kinds.r κs).Denot) (s s' : AtExit (K.ended_of 2 insert-kinds.ps insert-kinds.r) κs)
    → insert-reads.Post κs a r s → insert-reads.Post κs a r' s' → (r ≡ r') × (s.1.0.now ≡ s'.1.0.now) × (s.1.1.0.now ≡ s'.1.1.0.now)
insert-determined κs a r r' s s' p q = same_effect insertion_at (insertion_back _ r) (insertion_back _ r') p q

-- the version, a ticket, and what is read through one
pub next-version-determined :
    (κs : Lfts 0) (a : K.Dens κs next-version-kinds.ps) (r r' : (K.res_t next-version-kinds.r κs).Denot)
    (s s' : AtExit (K.ended_of 0 next-version-kinds.ps next-version-kinds.r) κs)
    → next-version-reads.Post κs a r s → next-version-reads.Post κs a r' s' → r ≡ r'
next-version-determined κs a r r' s s' p q = p ∙ sym q

pub ticket-determined :
    (κs : Lfts 0) (a : K.Dens κs ticket-kinds.ps) (r r' : (K.res_t ticket-kinds.r κs).Denot) (s s' : AtExit (K.ended_of 0 ticket-kinds.ps ticket-kinds.r) κs)
    → ticket-reads.Post κs a r s → ticket-reads.Post κs a r' s' → r ≡ r'
ticket-determined κs a r r' s s' p q = p ∙ sym q

abbrev pub reading_at : ReadAnswer → Result Entry Refusal
reading_at x = cond (eqb x.no 0) (Ok x.entry) (Err (refusal_at x.no))

pub reading_back : (r : Result Entry Refusal) → reading_at (read_answer r) ≡ r
reading_back (Ok e) = refl
reading_back (Err y) = rw (ne_eqb (refusal_number y) 0 (omega (arith, number_pos y)), at_number y)

pub read-determined :
    (κs : Lfts 2) (a : K.Dens κs read-kinds.ps) (r r' : (K.res_t read-kinds.r κs).Denot) (s s' : AtExit (K.ended_of 2 read-kinds.ps read-kinds.r) κs)
    → read-reads.Post κs a r s → read-reads.Post κs a r' s' → r ≡ r'
read-determined κs a r r' s s' p q = sym (reading_back r) ∙ ap reading_at (p ∙ sym q) ∙ reading_back r'

-- an image's
abbrev pub written_at : WriteAnswer → Result ℕ Refusal
written_at x = cond (eqb x.no 0) (Ok x.length) (Err (refusal_at x.no))

pub written_back : (r : Result ℕ Refusal) → written_at (write_answer r) ≡ r
written_back (Ok v) = refl
written_back (Err y) = rw (ne_eqb (refusal_number y) 0 (omega (arith, number_pos y)), at_number y)

pub write-image-determined :
    (κs : Lfts 3) (a : K.Dens κs write-image-kinds.ps) (r r' : (K.res_t write-image-kinds.r κs).Denot)
    (s s' : AtExit (K.ended_of 3 write-image-kinds.ps write-image-kinds.r) κs)
    → write-image-reads.Post κs a r s → write-image-reads.Post κs a r' s' → (r ≡ r') × (s.1.1.1.0.now ≡ s'.1.1.1.0.now)
write-image-determined κs a r r' s s' p q = same_output written_at (written_back r) (written_back r') p q

pub read-image-determined :
    (κs : Lfts 3) (a : K.Dens κs read-image-kinds.ps) (r r' : (K.res_t read-image-kinds.r κs).Denot)
    (s s' : AtExit (K.ended_of 3 read-image-kinds.ps read-image-kinds.r) κs)
    → read-image-reads.Post κs a r s → read-image-reads.Post κs a r' s' → (r ≡ r') × (s.1.0.now ≡ s'.1.0.now) × (s.1.1.0.now ≡ s'.1.1.0.now)
read-image-determined κs a r r' s s' p q = same_effect built_at (built_back a.0 r) (built_back a.0 r') p q

-- a fresh cursor's, a step's and a drain's
abbrev pub started_at : StartAnswer → Result Cursor Refusal
started_at x = cond (eqb x.no 0) (Ok x.cursor) (Err (refusal_at x.no))

pub started_back : (r : Result Cursor Refusal) → started_at (start_answer r) ≡ r
started_back (Ok c) = refl
started_back (Err y) = rw (ne_eqb (refusal_number y) 0 (omega (arith, number_pos y)), at_number y)

pub slot-after-determined :
    (κs : Lfts 0) (a : K.Dens κs slot-after-kinds.ps) (r r' : (K.res_t slot-after-kinds.r κs).Denot)
    (s s' : AtExit (K.ended_of 0 slot-after-kinds.ps slot-after-kinds.r) κs)
    → slot-after-reads.Post κs a r s → slot-after-reads.Post κs a r' s' → r ≡ r'
slot-after-determined κs a r r' s s' p q = p ∙ sym q

pub fresh-determined :
    (κs : Lfts 0) (a : K.Dens κs fresh-kinds.ps) (r r' : (K.res_t fresh-kinds.r κs).Denot) (s s' : AtExit (K.ended_of 0 fresh-kinds.ps fresh-kinds.r) κs)
    → fresh-reads.Post κs a r s → fresh-reads.Post κs a r' s' → r ≡ r'
fresh-determined κs a r r' s s' p q = p ∙ sym q

pub fresh-exact-determined :
    (κs : Lfts 2) (a : K.Dens κs exact-kinds.ps) (r r' : (K.res_t exact-kinds.r κs).Denot) (s s' : AtExit (K.ended_of 2 exact-kinds.ps exact-kinds.r) κs)
    → exact-reads.Post κs a r s → exact-reads.Post κs a r' s' → r ≡ r'
fresh-exact-determined κs a r r' s s' p q = sym (started_back r) ∙ ap started_at (p ∙ sym q) ∙ started_back r'

abbrev step_at : StepAnswer → Step
step_at x = cond x.hit (Hit x.next x.entered) (End x.entered)

abbrev pub stepped_at : StepAnswer → Result Step Refusal
stepped_at x = cond (eqb x.no 0) (Ok (step_at x)) (Err (refusal_at x.no))

pub stepped_back : (c : Cursor) (r : Result Step Refusal) → stepped_at (step_answer c r) ≡ r
stepped_back c (Ok (Hit d e)) = refl
stepped_back c (Ok (End e)) = refl
stepped_back c (Err y) = rw (ne_eqb (refusal_number y) 0 (omega (arith, number_pos y)), at_number y)

pub step-determined :
    (κs : Lfts 2) (a : K.Dens κs step-kinds.ps) (r r' : (K.res_t step-kinds.r κs).Denot) (s s' : AtExit (K.ended_of 2 step-kinds.ps step-kinds.r) κs)
    → step-reads.Post κs a r s → step-reads.Post κs a r' s' → r ≡ r'
step-determined κs a r r' s s' p q = sym (stepped_back _ r) ∙ ap stepped_at (p ∙ sym q) ∙ stepped_back _ r'

abbrev pub drain_at : DrainAnswer → Result Drained Refusal
drain_at x =
    cond (eqb x.no 0) (Ok (record { hits = x.hits; entered = x.entered; next = x.next })) (Err (refusal_at x.no))

pub drain_back : (c : Cursor) (r : Result Drained Refusal) → drain_at (drain_answer c r) ≡ r
drain_back c (Ok d) = refl
drain_back c (Err y) = rw (ne_eqb (refusal_number y) 0 (omega (arith, number_pos y)), at_number y)

pub drain-determined :
    (κs : Lfts 3) (a : K.Dens κs drain-kinds.ps) (r r' : (K.res_t drain-kinds.r κs).Denot) (s s' : AtExit (K.ended_of 3 drain-kinds.ps drain-kinds.r) κs)
    → drain-reads.Post κs a r s → drain-reads.Post κs a r' s' → (r ≡ r') × (s.1.1.1.1.1.1.0.now ≡ s'.1.1.1.1.1.1.0.now)
drain-determined κs a r r' s s' p q = same_output drain_at (drain_back _ r) (drain_back _ r') p q

abbrev pub looked_at : TallyAnswer → Result Tally Refusal
looked_at x = cond (eqb x.no 0) (Ok (record { hits = x.hits; entered = x.entered })) (Err (refusal_at x.no))

pub looked_back : (r : Result Tally Refusal) → looked_at (tally_answer r) ≡ r
looked_back (Ok a) = refl
looked_back (Err y) = rw (ne_eqb (refusal_number y) 0 (omega (arith, number_pos y)), at_number y)

pub plain-determined :
    (κs : Lfts 3) (a : K.Dens κs plain-kinds.ps) (r r' : (K.res_t plain-kinds.r κs).Denot) (s s' : AtExit (K.ended_of 3 plain-kinds.ps plain-kinds.r) κs)
    → plain-reads.Post κs a r s → plain-reads.Post κs a r' s' → (r ≡ r') × (s.1.1.1.1.0.now ≡ s'.1.1.1.1.0.now)
plain-determined κs a r r' s s' p q = same_output looked_at (looked_back r) (looked_back r') p q

pub find-all-determined :
    (κs : Lfts 3) (a : K.Dens κs find-all-kinds.ps) (r r' : (K.res_t find-all-kinds.r κs).Denot) (s s' : AtExit (K.ended_of 3 find-all-kinds.ps find-all-kinds.r) κs)
    → find-all-reads.Post κs a r s → find-all-reads.Post κs a r' s' → (r ≡ r') × (s.1.1.1.1.0.now ≡ s'.1.1.1.1.0.now)
find-all-determined κs a r r' s s' p q = same_output looked_at (looked_back r) (looked_back r') p q

-- the opened calls
pub open-write-image-determined :
    (κs : Lfts 3) (a : K.Dens κs open-write-image-kinds.ps) (r r' : (K.res_t open-write-image-kinds.r κs).Denot)
    (s s' : AtExit (K.ended_of 3 open-write-image-kinds.ps open-write-image-kinds.r) κs)
    → open-write-image-reads.Post κs a r s → open-write-image-reads.Post κs a r' s' → (r ≡ r') × (s.1.1.1.0.now ≡ s'.1.1.1.0.now)
open-write-image-determined κs a r r' s s' p q = same_output written_at (written_back r) (written_back r') p q

pub open-find-all-determined :
    (κs : Lfts 3) (a : K.Dens κs open-find-all-kinds.ps) (r r' : (K.res_t open-find-all-kinds.r κs).Denot)
    (s s' : AtExit (K.ended_of 3 open-find-all-kinds.ps open-find-all-kinds.r) κs)
    → open-find-all-reads.Post κs a r s → open-find-all-reads.Post κs a r' s' → (r ≡ r') × (s.1.1.1.1.0.now ≡ s'.1.1.1.1.0.now)
open-find-all-determined κs a r r' s s' p q = same_output looked_at (looked_back r) (looked_back r') p q

pub open-read-determined :
    (κs : Lfts 2) (a : K.Dens κs open-read-kinds.ps) (r r' : (K.res_t open-read-kinds.r κs).Denot) (s s' : AtExit (K.ended_of 2 open-read-kinds.ps open-read-kinds.r) κs)
    → open-read-reads.Post κs a r s → open-read-reads.Post κs a r' s' → r ≡ r'
open-read-determined κs a r r' s s' p q = sym (reading_back r) ∙ ap reading_at (p ∙ sym q) ∙ reading_back r'

pub open-plain-determined :
    (κs : Lfts 3) (a : K.Dens κs open-plain-kinds.ps) (r r' : (K.res_t open-plain-kinds.r κs).Denot) (s s' : AtExit (K.ended_of 3 open-plain-kinds.ps open-plain-kinds.r) κs)
    → open-plain-reads.Post κs a r s → open-plain-reads.Post κs a r' s' → (r ≡ r') × (s.1.1.1.1.0.now ≡ s'.1.1.1.1.0.now)
open-plain-determined κs a r r' s s' p q = same_output looked_at (looked_back r) (looked_back r') p q

pub open-fresh-exact-determined :
    (κs : Lfts 2) (a : K.Dens κs open-exact-kinds.ps) (r r' : (K.res_t open-exact-kinds.r κs).Denot) (s s' : AtExit (K.ended_of 2 open-exact-kinds.ps open-exact-kinds.r) κs)
    → open-exact-reads.Post κs a r s → open-exact-reads.Post κs a r' s' → r ≡ r'
open-fresh-exact-determined κs a r r' s s' p q = sym (started_back r) ∙ ap started_at (p ∙ sym q) ∙ started_back r'

pub open-step-determined :
    (κs : Lfts 2) (a : K.Dens κs open-step-kinds.ps) (r r' : (K.res_t open-step-kinds.r κs).Denot) (s s' : AtExit (K.ended_of 2 open-step-kinds.ps open-step-kinds.r) κs)
    → open-step-reads.Post κs a r s → open-step-reads.Post κs a r' s' → r ≡ r'
open-step-determined κs a r r' s s' p q = sym (stepped_back _ r) ∙ ap stepped_at (p ∙ sym q) ∙ stepped_back _ r'

pub open-drain-determined :
    (κs : Lfts 3) (a : K.Dens κs open-drain-kinds.ps) (r r' : (K.res_t open-drain-kinds.r κs).Denot) (s s' : AtExit (K.ended_of 3 open-drain-kinds.ps open-drain-kinds.r) κs)
    → open-drain-reads.Post κs a r s → open-drain-reads.Post κs a r' s' → (r ≡ r') × (s.1.1.1.1.1.1.0.now ≡ s'.1.1.1.1.1.1.0.now)
open-drain-determined κs a r r' s s' p q = same_output drain_at (drain_back _ r) (drain_back _ r') p q

pub open-remove-determined :
    (κs : Lfts 2) (a : K.Dens κs open-remove-kinds.ps) (r r' : (K.res_t open-remove-kinds.r κs).Denot) (s s' : AtExit (K.ended_of 2 open-remove-kinds.ps open-remove-kinds.r) κs)
    → open-remove-reads.Post κs a r s → open-remove-reads.Post κs a r' s' → (r ≡ r') × (s.1.0.now ≡ s'.1.0.now) × (s.1.1.0.now ≡ s'.1.1.0.now)
open-remove-determined κs a r r' s s' p q = same_effect removal_at (removal_back _ r) (removal_back _ r') p q

pub open-unload-determined :
    (κs : Lfts 2) (a : K.Dens κs open-unload-kinds.ps) (r r' : (K.res_t open-unload-kinds.r κs).Denot) (s s' : AtExit (K.ended_of 2 open-unload-kinds.ps open-unload-kinds.r) κs)
    → open-unload-reads.Post κs a r s → open-unload-reads.Post κs a r' s' → (r ≡ r') × (s.1.0.now ≡ s'.1.0.now) × (s.1.1.0.now ≡ s'.1.1.0.now)
open-unload-determined κs a r r' s s' p q = same_effect unloading_at (unloading_back _ r) (unloading_back _ r') p q

pub open-propose-determined :
    (κs : Lfts 3) (a : K.Dens κs open-propose-kinds.ps) (r r' : (K.res_t open-propose-kinds.r κs).Denot) (s s' : AtExit (K.ended_of 3 open-propose-kinds.ps open-propose-kinds.r) κs)
    → open-propose-reads.Post κs a r s → open-propose-reads.Post κs a r' s' → (r ≡ r') × (s.1.1.1.0.now ≡ s'.1.1.1.0.now)
open-propose-determined κs a r r' s s' p q = same_output checked_at (checked_back r) (checked_back r') p q

pub open-renumber-determined :
    (κs : Lfts 3) (a : K.Dens κs open-renumber-kinds.ps) (r r' : (K.res_t open-renumber-kinds.r κs).Denot) (s s' : AtExit (K.ended_of 3 open-renumber-kinds.ps open-renumber-kinds.r) κs)
    → open-renumber-reads.Post κs a r s → open-renumber-reads.Post κs a r' s' → (r ≡ r') × (s.1.0.now ≡ s'.1.0.now) × (s.1.1.0.now ≡ s'.1.1.0.now)
open-renumber-determined κs a r r' s s' p q = same_effect renumbering_at (renumbering_back _ r) (renumbering_back _ r') p q

pub open-insert-determined :
    (κs : Lfts 2) (a : K.Dens κs open-insert-kinds.ps) (r r' : (K.res_t open-insert-kinds.r κs).Denot) (s s' : AtExit (K.ended_of 2 open-insert-kinds.ps open-insert-kinds.r) κs)
    → open-insert-reads.Post κs a r s → open-insert-reads.Post κs a r' s' → (r ≡ r') × (s.1.0.now ≡ s'.1.0.now) × (s.1.1.0.now ≡ s'.1.1.0.now)
open-insert-determined κs a r r' s s' p q = same_effect insertion_at (insertion_back _ r) (insertion_back _ r') p q
