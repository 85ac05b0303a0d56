-- Each public call of crate iset, and each opened one, in either layout and in the eight-word one,
-- does its operation: from the promise that was proved of it.
use mathlib.Core.Path.{◌≡◌, refl, ap}
use mathlib.Core.Bool.{true, false}
use mathlib.Core.List.{List, []}
use Prim.Native.Nat.{ℕ}
use contract.Lifetimes.{Lfts}
use borrow.Fn.Kinds as K
use denote.Triple.Clauses.{AtExit}
use Rattle.words.specs.Layouts.{as_eight}
use Rattle.iset.specs.Effects.{Effect, Output}
use Rattle.iset.specs.Check.{check_number}
use Rattle.iset.specs.Build.{BuildAnswer, build_answer}
use Rattle.iset.specs.Insert.{entry_of, InsertAnswer, insert_answer}
use Rattle.iset.specs.Remove.{RemoveAnswer, remove_answer}
use Rattle.iset.specs.Unload.{UnloadAnswer, unload_answer}
use Rattle.iset.specs.Tidy.{RenumberAnswer, renumber_answer}
use Rattle.iset.specs.Ticket.{read_answer}
use Rattle.iset.specs.Lookup.{start_answer, step_answer, DrainAnswer, drain_answer}
use Rattle.iset.specs.Tallies.{TallyAnswer, tally_answer}
use Rattle.iset.specs.Image.{WriteAnswer, write_answer}
use Rattle.layouts.specs.Operations.{Memory, writes, fills, result, check, build, insert, open_insert_lem, remove, open_remove_lem, unload, open_unload_lem, propose, open_propose_lem, renumber, open_renumber_lem, read, open_read_lem, fresh_exact_lem, open_fresh_exact_lem, step, open_step_lem, drain, open_drain_lem, find_all_lem, open_find_all_lem, plain, open_plain_lem, write_image_lem, open_write_image_lem, read_image_lem}
use Rattle.layouts.specs.Does.{seen, Does}
use Rattle.iset.proofs.Map.check_in.Reads as check-in-reads
use Rattle.iset.proofs.Map.check_in.Kinds as check-in-kinds
use Rattle.iset.proofs.Map.check.Reads as check-reads
use Rattle.iset.proofs.Map.check.Kinds as check-kinds
use Rattle.iset.proofs.Map.build_in.Reads as build-in-reads
use Rattle.iset.proofs.Map.build_in.Kinds as build-in-kinds
use Rattle.iset.proofs.Map.build.Reads as build-reads
use Rattle.iset.proofs.Map.build.Kinds as build-kinds
use Rattle.iset.proofs.Map.insert_in.Reads as insert-in-reads
use Rattle.iset.proofs.Map.insert_in.Kinds as insert-in-kinds
use Rattle.iset.proofs.Map.insert.Reads as insert-reads
use Rattle.iset.proofs.Map.insert.Kinds as insert-kinds
use Rattle.iset.proofs.Map.open_insert_in.Reads as open-insert-in-reads
use Rattle.iset.proofs.Map.open_insert_in.Kinds as open-insert-in-kinds
use Rattle.iset.proofs.Map.open_insert.Reads as open-insert-reads
use Rattle.iset.proofs.Map.open_insert.Kinds as open-insert-kinds
use Rattle.iset.proofs.Map.remove_in.Reads as remove-in-reads
use Rattle.iset.proofs.Map.remove_in.Kinds as remove-in-kinds
use Rattle.iset.proofs.Map.remove.Reads as remove-reads
use Rattle.iset.proofs.Map.remove.Kinds as remove-kinds
use Rattle.iset.proofs.Map.open_remove_in.Reads as open-remove-in-reads
use Rattle.iset.proofs.Map.open_remove_in.Kinds as open-remove-in-kinds
use Rattle.iset.proofs.Map.open_remove.Reads as open-remove-reads
use Rattle.iset.proofs.Map.open_remove.Kinds as open-remove-kinds
use Rattle.iset.proofs.Map.unload_in.Reads as unload-in-reads
use Rattle.iset.proofs.Map.unload_in.Kinds as unload-in-kinds
use Rattle.iset.proofs.Map.unload.Reads as unload-reads
use Rattle.iset.proofs.Map.unload.Kinds as unload-kinds
use Rattle.iset.proofs.Map.open_unload_in.Reads as open-unload-in-reads
use Rattle.iset.proofs.Map.open_unload_in.Kinds as open-unload-in-kinds
use Rattle.iset.proofs.Map.open_unload.Reads as open-unload-reads
use Rattle.iset.proofs.Map.open_unload.Kinds as open-unload-kinds
use Rattle.iset.proofs.Map.propose_in.Reads as propose-in-reads
use Rattle.iset.proofs.Map.propose_in.Kinds as propose-in-kinds
use Rattle.iset.proofs.Map.propose.Reads as propose-reads
use Rattle.iset.proofs.Map.propose.Kinds as propose-kinds
use Rattle.iset.proofs.Map.open_propose_in.Reads as open-propose-in-reads
use Rattle.iset.proofs.Map.open_propose_in.Kinds as open-propose-in-kinds
use Rattle.iset.proofs.Map.open_propose.Reads as open-propose-reads
use Rattle.iset.proofs.Map.open_propose.Kinds as open-propose-kinds
use Rattle.iset.proofs.Map.renumber_in.Reads as renumber-in-reads
use Rattle.iset.proofs.Map.renumber_in.Kinds as renumber-in-kinds
use Rattle.iset.proofs.Map.renumber.Reads as renumber-reads
use Rattle.iset.proofs.Map.renumber.Kinds as renumber-kinds
use Rattle.iset.proofs.Map.open_renumber_in.Reads as open-renumber-in-reads
use Rattle.iset.proofs.Map.open_renumber_in.Kinds as open-renumber-in-kinds
use Rattle.iset.proofs.Map.open_renumber.Reads as open-renumber-reads
use Rattle.iset.proofs.Map.open_renumber.Kinds as open-renumber-kinds
use Rattle.iset.proofs.Map.read_in.Reads as read-in-reads
use Rattle.iset.proofs.Map.read_in.Kinds as read-in-kinds
use Rattle.iset.proofs.Map.read.Reads as read-reads
use Rattle.iset.proofs.Map.read.Kinds as read-kinds
use Rattle.iset.proofs.Map.open_read_in.Reads as open-read-in-reads
use Rattle.iset.proofs.Map.open_read_in.Kinds as open-read-in-kinds
use Rattle.iset.proofs.Map.open_read.Reads as open-read-reads
use Rattle.iset.proofs.Map.open_read.Kinds as open-read-kinds
use Rattle.iset.proofs.Map.fresh_exact_in.Reads as fresh-exact-in-reads
use Rattle.iset.proofs.Map.fresh_exact_in.Kinds as fresh-exact-in-kinds
use Rattle.iset.proofs.Map.fresh_exact.Reads as fresh-exact-reads
use Rattle.iset.proofs.Map.fresh_exact.Kinds as fresh-exact-kinds
use Rattle.iset.proofs.Map.open_fresh_exact_in.Reads as open-fresh-exact-in-reads
use Rattle.iset.proofs.Map.open_fresh_exact_in.Kinds as open-fresh-exact-in-kinds
use Rattle.iset.proofs.Map.open_fresh_exact.Reads as open-fresh-exact-reads
use Rattle.iset.proofs.Map.open_fresh_exact.Kinds as open-fresh-exact-kinds
use Rattle.iset.proofs.Map.step_in.Reads as step-in-reads
use Rattle.iset.proofs.Map.step_in.Kinds as step-in-kinds
use Rattle.iset.proofs.Map.step.Reads as step-reads
use Rattle.iset.proofs.Map.step.Kinds as step-kinds
use Rattle.iset.proofs.Map.open_step_in.Reads as open-step-in-reads
use Rattle.iset.proofs.Map.open_step_in.Kinds as open-step-in-kinds
use Rattle.iset.proofs.Map.open_step.Reads as open-step-reads
use Rattle.iset.proofs.Map.open_step.Kinds as open-step-kinds
use Rattle.iset.proofs.Map.drain_in.Reads as drain-in-reads
use Rattle.iset.proofs.Map.drain_in.Kinds as drain-in-kinds
use Rattle.iset.proofs.Map.drain.Reads as drain-reads
use Rattle.iset.proofs.Map.drain.Kinds as drain-kinds
use Rattle.iset.proofs.Map.open_drain_in.Reads as open-drain-in-reads
use Rattle.iset.proofs.Map.open_drain_in.Kinds as open-drain-in-kinds
use Rattle.iset.proofs.Map.open_drain.Reads as open-drain-reads
use Rattle.iset.proofs.Map.open_drain.Kinds as open-drain-kinds
use Rattle.iset.proofs.Map.find_all_in.Reads as find-all-in-reads
use Rattle.iset.proofs.Map.find_all_in.Kinds as find-all-in-kinds
use Rattle.iset.proofs.Map.find_all.Reads as find-all-reads
use Rattle.iset.proofs.Map.find_all.Kinds as find-all-kinds
use Rattle.iset.proofs.Map.open_find_all_in.Reads as open-find-all-in-reads
use Rattle.iset.proofs.Map.open_find_all_in.Kinds as open-find-all-in-kinds
use Rattle.iset.proofs.Map.open_find_all.Reads as open-find-all-reads
use Rattle.iset.proofs.Map.open_find_all.Kinds as open-find-all-kinds
use Rattle.iset.proofs.Map.plain_in.Reads as plain-in-reads
use Rattle.iset.proofs.Map.plain_in.Kinds as plain-in-kinds
use Rattle.iset.proofs.Map.plain.Reads as plain-reads
use Rattle.iset.proofs.Map.plain.Kinds as plain-kinds
use Rattle.iset.proofs.Map.open_plain_in.Reads as open-plain-in-reads
use Rattle.iset.proofs.Map.open_plain_in.Kinds as open-plain-in-kinds
use Rattle.iset.proofs.Map.open_plain.Reads as open-plain-reads
use Rattle.iset.proofs.Map.open_plain.Kinds as open-plain-kinds
use Rattle.iset.proofs.Map.write_image_in.Reads as write-image-in-reads
use Rattle.iset.proofs.Map.write_image_in.Kinds as write-image-in-kinds
use Rattle.iset.proofs.Map.write_image.Reads as write-image-reads
use Rattle.iset.proofs.Map.write_image.Kinds as write-image-kinds
use Rattle.iset.proofs.Map.open_write_image_in.Reads as open-write-image-in-reads
use Rattle.iset.proofs.Map.open_write_image_in.Kinds as open-write-image-in-kinds
use Rattle.iset.proofs.Map.open_write_image.Reads as open-write-image-reads
use Rattle.iset.proofs.Map.open_write_image.Kinds as open-write-image-kinds
use Rattle.iset.proofs.Map.read_image_in.Reads as read-image-in-reads
use Rattle.iset.proofs.Map.read_image_in.Kinds as read-image-in-kinds
use Rattle.iset.proofs.Map.read_image.Reads as read-image-reads
use Rattle.iset.proofs.Map.read_image.Kinds as read-image-kinds

-- what is lent to a call
abbrev lent : List ℕ → List ℕ → List ℕ → Memory
lent W C out = record { words = W; colours = C; out = out }

pub does_check_in : (κs : Lfts 2) (a : K.Dens κs check-in-kinds.ps) (r : (K.res_t check-in-kinds.r κs).Denot) (s : AtExit (K.ended_of 2 check-in-kinds.ps check-in-kinds.r) κs)
    → check-in-reads.Post κs a r s
    → Does a.1.1.0 (check) a.0 (lent a.1.0.now a.1.1.1.0.now []) (check_number r)
    (lent a.1.0.now a.1.1.1.0.now [])
unfolding result
does_check_in κs a r s p = record { answers = p; leaves = refl }

pub does_check : (κs : Lfts 2) (a : K.Dens κs check-kinds.ps) (r : (K.res_t check-kinds.r κs).Denot) (s : AtExit (K.ended_of 2 check-kinds.ps check-kinds.r) κs)
    → check-reads.Post κs a r s
    → Does false (check) a.0 (lent a.1.0.now a.1.1.0.now []) (check_number r)
    (lent a.1.0.now a.1.1.0.now [])
unfolding result as_eight
does_check κs a r s p = record { answers = p; leaves = refl }

pub does_build_in : (κs : Lfts 3) (a : K.Dens κs build-in-kinds.ps) (r : (K.res_t build-in-kinds.r κs).Denot) (s : AtExit (K.ended_of 3 build-in-kinds.ps build-in-kinds.r) κs)
    → build-in-reads.Post κs a r s
    → Does a.1.1.0 (build a.1.1.1.1.0.now) a.0 (lent a.1.0.now a.1.1.1.0.now []) (build_answer a.0 r)
    (lent s.1.0.now s.1.1.1.0.now [])
unfolding result
does_build_in κs a r s p = record { answers = ap (λ (k : Effect BuildAnswer). k.answer) p; leaves = ap (λ (k : Effect BuildAnswer). (writes (seen a.1.1.0 (lent a.1.0.now a.1.1.1.0.now [])) k).memory) p }

pub does_build : (κs : Lfts 3) (a : K.Dens κs build-kinds.ps) (r : (K.res_t build-kinds.r κs).Denot) (s : AtExit (K.ended_of 3 build-kinds.ps build-kinds.r) κs)
    → build-reads.Post κs a r s
    → Does false (build a.1.1.1.0.now) a.0 (lent a.1.0.now a.1.1.0.now []) (build_answer a.0 r)
    (lent s.1.0.now s.1.1.0.now [])
unfolding result as_eight
does_build κs a r s p = record { answers = ap (λ (k : Effect BuildAnswer). k.answer) p; leaves = ap (λ (k : Effect BuildAnswer). (writes (seen false (lent a.1.0.now a.1.1.0.now [])) k).memory) p }

pub does_insert_in : (κs : Lfts 2) (a : K.Dens κs insert-in-kinds.ps) (r : (K.res_t insert-in-kinds.r κs).Denot) (s : AtExit (K.ended_of 2 insert-in-kinds.ps insert-in-kinds.r) κs)
    → insert-in-reads.Post κs a r s
    → Does a.1.1.0 (insert (entry_of a.1.1.1.1.0 a.1.1.1.1.1.0 a.1.1.1.1.1.1.0)) a.0 (lent a.1.0.now a.1.1.1.0.now []) (insert_answer a.0 r)
    (lent s.1.0.now s.1.1.1.0.now [])
unfolding result
does_insert_in κs a r s p = record { answers = ap (λ (k : Effect InsertAnswer). k.answer) p; leaves = ap (λ (k : Effect InsertAnswer). (writes (seen a.1.1.0 (lent a.1.0.now a.1.1.1.0.now [])) k).memory) p }

pub does_insert : (κs : Lfts 2) (a : K.Dens κs insert-kinds.ps) (r : (K.res_t insert-kinds.r κs).Denot) (s : AtExit (K.ended_of 2 insert-kinds.ps insert-kinds.r) κs)
    → insert-reads.Post κs a r s
    → Does false (insert (entry_of a.1.1.1.0 a.1.1.1.1.0 a.1.1.1.1.1.0)) a.0 (lent a.1.0.now a.1.1.0.now []) (insert_answer a.0 r)
    (lent s.1.0.now s.1.1.0.now [])
unfolding result as_eight
does_insert κs a r s p = record { answers = ap (λ (k : Effect InsertAnswer). k.answer) p; leaves = ap (λ (k : Effect InsertAnswer). (writes (seen false (lent a.1.0.now a.1.1.0.now [])) k).memory) p }

pub does_open_insert_in : (κs : Lfts 2) (a : K.Dens κs open-insert-in-kinds.ps) (r : (K.res_t open-insert-in-kinds.r κs).Denot) (s : AtExit (K.ended_of 2 open-insert-in-kinds.ps open-insert-in-kinds.r) κs)
    → open-insert-in-reads.Post κs a r s
    → Does a.1.1.0 (open_insert_lem (entry_of a.1.1.1.1.0 a.1.1.1.1.1.0 a.1.1.1.1.1.1.0)) a.0 (lent a.1.0.now a.1.1.1.0.now []) (insert_answer a.0 r)
    (lent s.1.0.now s.1.1.1.0.now [])
unfolding result
does_open_insert_in κs a r s p = record { answers = ap (λ (k : Effect InsertAnswer). k.answer) p; leaves = ap (λ (k : Effect InsertAnswer). (writes (seen a.1.1.0 (lent a.1.0.now a.1.1.1.0.now [])) k).memory) p }

pub does_open_insert : (κs : Lfts 2) (a : K.Dens κs open-insert-kinds.ps) (r : (K.res_t open-insert-kinds.r κs).Denot) (s : AtExit (K.ended_of 2 open-insert-kinds.ps open-insert-kinds.r) κs)
    → open-insert-reads.Post κs a r s
    → Does false (open_insert_lem (entry_of a.1.1.1.0 a.1.1.1.1.0 a.1.1.1.1.1.0)) a.0 (lent a.1.0.now a.1.1.0.now []) (insert_answer a.0 r)
    (lent s.1.0.now s.1.1.0.now [])
unfolding result as_eight
does_open_insert κs a r s p = record { answers = ap (λ (k : Effect InsertAnswer). k.answer) p; leaves = ap (λ (k : Effect InsertAnswer). (writes (seen false (lent a.1.0.now a.1.1.0.now [])) k).memory) p }

pub does_remove_in : (κs : Lfts 2) (a : K.Dens κs remove-in-kinds.ps) (r : (K.res_t remove-in-kinds.r κs).Denot) (s : AtExit (K.ended_of 2 remove-in-kinds.ps remove-in-kinds.r) κs)
    → remove-in-reads.Post κs a r s
    → Does a.1.1.0 (remove a.1.1.1.1.0) a.0 (lent a.1.0.now a.1.1.1.0.now []) (remove_answer a.0 r)
    (lent s.1.0.now s.1.1.1.0.now [])
unfolding result
does_remove_in κs a r s p = record { answers = ap (λ (k : Effect RemoveAnswer). k.answer) p; leaves = ap (λ (k : Effect RemoveAnswer). (writes (seen a.1.1.0 (lent a.1.0.now a.1.1.1.0.now [])) k).memory) p }

pub does_remove : (κs : Lfts 2) (a : K.Dens κs remove-kinds.ps) (r : (K.res_t remove-kinds.r κs).Denot) (s : AtExit (K.ended_of 2 remove-kinds.ps remove-kinds.r) κs)
    → remove-reads.Post κs a r s
    → Does false (remove a.1.1.1.0) a.0 (lent a.1.0.now a.1.1.0.now []) (remove_answer a.0 r)
    (lent s.1.0.now s.1.1.0.now [])
unfolding result as_eight
does_remove κs a r s p = record { answers = ap (λ (k : Effect RemoveAnswer). k.answer) p; leaves = ap (λ (k : Effect RemoveAnswer). (writes (seen false (lent a.1.0.now a.1.1.0.now [])) k).memory) p }

pub does_open_remove_in : (κs : Lfts 2) (a : K.Dens κs open-remove-in-kinds.ps) (r : (K.res_t open-remove-in-kinds.r κs).Denot) (s : AtExit (K.ended_of 2 open-remove-in-kinds.ps open-remove-in-kinds.r) κs)
    → open-remove-in-reads.Post κs a r s
    → Does a.1.1.0 (open_remove_lem a.1.1.1.1.0) a.0 (lent a.1.0.now a.1.1.1.0.now []) (remove_answer a.0 r)
    (lent s.1.0.now s.1.1.1.0.now [])
unfolding result
does_open_remove_in κs a r s p = record { answers = ap (λ (k : Effect RemoveAnswer). k.answer) p; leaves = ap (λ (k : Effect RemoveAnswer). (writes (seen a.1.1.0 (lent a.1.0.now a.1.1.1.0.now [])) k).memory) p }

pub does_open_remove : (κs : Lfts 2) (a : K.Dens κs open-remove-kinds.ps) (r : (K.res_t open-remove-kinds.r κs).Denot) (s : AtExit (K.ended_of 2 open-remove-kinds.ps open-remove-kinds.r) κs)
    → open-remove-reads.Post κs a r s
    → Does false (open_remove_lem a.1.1.1.0) a.0 (lent a.1.0.now a.1.1.0.now []) (remove_answer a.0 r)
    (lent s.1.0.now s.1.1.0.now [])
unfolding result as_eight
does_open_remove κs a r s p = record { answers = ap (λ (k : Effect RemoveAnswer). k.answer) p; leaves = ap (λ (k : Effect RemoveAnswer). (writes (seen false (lent a.1.0.now a.1.1.0.now [])) k).memory) p }

pub does_unload_in : (κs : Lfts 2) (a : K.Dens κs unload-in-kinds.ps) (r : (K.res_t unload-in-kinds.r κs).Denot) (s : AtExit (K.ended_of 2 unload-in-kinds.ps unload-in-kinds.r) κs)
    → unload-in-reads.Post κs a r s
    → Does a.1.1.0 (unload a.1.1.1.1.0 a.1.1.1.1.1.0) a.0 (lent a.1.0.now a.1.1.1.0.now []) (unload_answer a.0 r)
    (lent s.1.0.now s.1.1.1.0.now [])
unfolding result
does_unload_in κs a r s p = record { answers = ap (λ (k : Effect UnloadAnswer). k.answer) p; leaves = ap (λ (k : Effect UnloadAnswer). (writes (seen a.1.1.0 (lent a.1.0.now a.1.1.1.0.now [])) k).memory) p }

pub does_unload : (κs : Lfts 2) (a : K.Dens κs unload-kinds.ps) (r : (K.res_t unload-kinds.r κs).Denot) (s : AtExit (K.ended_of 2 unload-kinds.ps unload-kinds.r) κs)
    → unload-reads.Post κs a r s
    → Does false (unload a.1.1.1.0 a.1.1.1.1.0) a.0 (lent a.1.0.now a.1.1.0.now []) (unload_answer a.0 r)
    (lent s.1.0.now s.1.1.0.now [])
unfolding result as_eight
does_unload κs a r s p = record { answers = ap (λ (k : Effect UnloadAnswer). k.answer) p; leaves = ap (λ (k : Effect UnloadAnswer). (writes (seen false (lent a.1.0.now a.1.1.0.now [])) k).memory) p }

pub does_open_unload_in : (κs : Lfts 2) (a : K.Dens κs open-unload-in-kinds.ps) (r : (K.res_t open-unload-in-kinds.r κs).Denot) (s : AtExit (K.ended_of 2 open-unload-in-kinds.ps open-unload-in-kinds.r) κs)
    → open-unload-in-reads.Post κs a r s
    → Does a.1.1.0 (open_unload_lem a.1.1.1.1.0 a.1.1.1.1.1.0) a.0 (lent a.1.0.now a.1.1.1.0.now []) (unload_answer a.0 r)
    (lent s.1.0.now s.1.1.1.0.now [])
unfolding result
does_open_unload_in κs a r s p = record { answers = ap (λ (k : Effect UnloadAnswer). k.answer) p; leaves = ap (λ (k : Effect UnloadAnswer). (writes (seen a.1.1.0 (lent a.1.0.now a.1.1.1.0.now [])) k).memory) p }

pub does_open_unload : (κs : Lfts 2) (a : K.Dens κs open-unload-kinds.ps) (r : (K.res_t open-unload-kinds.r κs).Denot) (s : AtExit (K.ended_of 2 open-unload-kinds.ps open-unload-kinds.r) κs)
    → open-unload-reads.Post κs a r s
    → Does false (open_unload_lem a.1.1.1.0 a.1.1.1.1.0) a.0 (lent a.1.0.now a.1.1.0.now []) (unload_answer a.0 r)
    (lent s.1.0.now s.1.1.0.now [])
unfolding result as_eight
does_open_unload κs a r s p = record { answers = ap (λ (k : Effect UnloadAnswer). k.answer) p; leaves = ap (λ (k : Effect UnloadAnswer). (writes (seen false (lent a.1.0.now a.1.1.0.now [])) k).memory) p }

pub does_propose_in : (κs : Lfts 3) (a : K.Dens κs propose-in-kinds.ps) (r : (K.res_t propose-in-kinds.r κs).Denot) (s : AtExit (K.ended_of 3 propose-in-kinds.ps propose-in-kinds.r) κs)
    → propose-in-reads.Post κs a r s
    → Does a.1.1.0 propose a.0 (lent a.1.0.now a.1.1.1.0.now a.1.1.1.1.0.now) (check_number r)
    (lent a.1.0.now a.1.1.1.0.now s.1.1.1.1.0.now)
unfolding result
does_propose_in κs a r s p = record { answers = ap (λ (k : Output ℕ). k.answer) p; leaves = ap (λ (k : Output ℕ). (fills (seen a.1.1.0 (lent a.1.0.now a.1.1.1.0.now a.1.1.1.1.0.now)) k).memory) p }

pub does_propose : (κs : Lfts 3) (a : K.Dens κs propose-kinds.ps) (r : (K.res_t propose-kinds.r κs).Denot) (s : AtExit (K.ended_of 3 propose-kinds.ps propose-kinds.r) κs)
    → propose-reads.Post κs a r s
    → Does false propose a.0 (lent a.1.0.now a.1.1.0.now a.1.1.1.0.now) (check_number r)
    (lent a.1.0.now a.1.1.0.now s.1.1.1.0.now)
unfolding result as_eight
does_propose κs a r s p = record { answers = ap (λ (k : Output ℕ). k.answer) p; leaves = ap (λ (k : Output ℕ). (fills (seen false (lent a.1.0.now a.1.1.0.now a.1.1.1.0.now)) k).memory) p }

pub does_open_propose_in : (κs : Lfts 3) (a : K.Dens κs open-propose-in-kinds.ps) (r : (K.res_t open-propose-in-kinds.r κs).Denot) (s : AtExit (K.ended_of 3 open-propose-in-kinds.ps open-propose-in-kinds.r) κs)
    → open-propose-in-reads.Post κs a r s
    → Does a.1.1.0 open_propose_lem a.0 (lent a.1.0.now a.1.1.1.0.now a.1.1.1.1.0.now) (check_number r)
    (lent a.1.0.now a.1.1.1.0.now s.1.1.1.1.0.now)
unfolding result
does_open_propose_in κs a r s p = record { answers = ap (λ (k : Output ℕ). k.answer) p; leaves = ap (λ (k : Output ℕ). (fills (seen a.1.1.0 (lent a.1.0.now a.1.1.1.0.now a.1.1.1.1.0.now)) k).memory) p }

pub does_open_propose : (κs : Lfts 3) (a : K.Dens κs open-propose-kinds.ps) (r : (K.res_t open-propose-kinds.r κs).Denot) (s : AtExit (K.ended_of 3 open-propose-kinds.ps open-propose-kinds.r) κs)
    → open-propose-reads.Post κs a r s
    → Does false open_propose_lem a.0 (lent a.1.0.now a.1.1.0.now a.1.1.1.0.now) (check_number r)
    (lent a.1.0.now a.1.1.0.now s.1.1.1.0.now)
unfolding result as_eight
does_open_propose κs a r s p = record { answers = ap (λ (k : Output ℕ). k.answer) p; leaves = ap (λ (k : Output ℕ). (fills (seen false (lent a.1.0.now a.1.1.0.now a.1.1.1.0.now)) k).memory) p }

pub does_renumber_in : (κs : Lfts 3) (a : K.Dens κs renumber-in-kinds.ps) (r : (K.res_t renumber-in-kinds.r κs).Denot) (s : AtExit (K.ended_of 3 renumber-in-kinds.ps renumber-in-kinds.r) κs)
    → renumber-in-reads.Post κs a r s
    → Does a.1.1.0 (renumber a.1.1.1.1.0.now) a.0 (lent a.1.0.now a.1.1.1.0.now []) (renumber_answer a.0 r)
    (lent s.1.0.now s.1.1.1.0.now [])
unfolding result
does_renumber_in κs a r s p = record { answers = ap (λ (k : Effect RenumberAnswer). k.answer) p; leaves = ap (λ (k : Effect RenumberAnswer). (writes (seen a.1.1.0 (lent a.1.0.now a.1.1.1.0.now [])) k).memory) p }

pub does_renumber : (κs : Lfts 3) (a : K.Dens κs renumber-kinds.ps) (r : (K.res_t renumber-kinds.r κs).Denot) (s : AtExit (K.ended_of 3 renumber-kinds.ps renumber-kinds.r) κs)
    → renumber-reads.Post κs a r s
    → Does false (renumber a.1.1.1.0.now) a.0 (lent a.1.0.now a.1.1.0.now []) (renumber_answer a.0 r)
    (lent s.1.0.now s.1.1.0.now [])
unfolding result as_eight
does_renumber κs a r s p = record { answers = ap (λ (k : Effect RenumberAnswer). k.answer) p; leaves = ap (λ (k : Effect RenumberAnswer). (writes (seen false (lent a.1.0.now a.1.1.0.now [])) k).memory) p }

pub does_open_renumber_in : (κs : Lfts 3) (a : K.Dens κs open-renumber-in-kinds.ps) (r : (K.res_t open-renumber-in-kinds.r κs).Denot) (s : AtExit (K.ended_of 3 open-renumber-in-kinds.ps open-renumber-in-kinds.r) κs)
    → open-renumber-in-reads.Post κs a r s
    → Does a.1.1.0 (open_renumber_lem a.1.1.1.1.0.now) a.0 (lent a.1.0.now a.1.1.1.0.now []) (renumber_answer a.0 r)
    (lent s.1.0.now s.1.1.1.0.now [])
unfolding result
does_open_renumber_in κs a r s p = record { answers = ap (λ (k : Effect RenumberAnswer). k.answer) p; leaves = ap (λ (k : Effect RenumberAnswer). (writes (seen a.1.1.0 (lent a.1.0.now a.1.1.1.0.now [])) k).memory) p }

pub does_open_renumber : (κs : Lfts 3) (a : K.Dens κs open-renumber-kinds.ps) (r : (K.res_t open-renumber-kinds.r κs).Denot) (s : AtExit (K.ended_of 3 open-renumber-kinds.ps open-renumber-kinds.r) κs)
    → open-renumber-reads.Post κs a r s
    → Does false (open_renumber_lem a.1.1.1.0.now) a.0 (lent a.1.0.now a.1.1.0.now []) (renumber_answer a.0 r)
    (lent s.1.0.now s.1.1.0.now [])
unfolding result as_eight
does_open_renumber κs a r s p = record { answers = ap (λ (k : Effect RenumberAnswer). k.answer) p; leaves = ap (λ (k : Effect RenumberAnswer). (writes (seen false (lent a.1.0.now a.1.1.0.now [])) k).memory) p }

pub does_read_in : (κs : Lfts 2) (a : K.Dens κs read-in-kinds.ps) (r : (K.res_t read-in-kinds.r κs).Denot) (s : AtExit (K.ended_of 2 read-in-kinds.ps read-in-kinds.r) κs)
    → read-in-reads.Post κs a r s
    → Does a.1.1.0 (read a.1.1.1.1.0) a.0 (lent a.1.0.now a.1.1.1.0.now []) (read_answer r)
    (lent a.1.0.now a.1.1.1.0.now [])
unfolding result
does_read_in κs a r s p = record { answers = p; leaves = refl }

pub does_read : (κs : Lfts 2) (a : K.Dens κs read-kinds.ps) (r : (K.res_t read-kinds.r κs).Denot) (s : AtExit (K.ended_of 2 read-kinds.ps read-kinds.r) κs)
    → read-reads.Post κs a r s
    → Does false (read a.1.1.1.0) a.0 (lent a.1.0.now a.1.1.0.now []) (read_answer r)
    (lent a.1.0.now a.1.1.0.now [])
unfolding result as_eight
does_read κs a r s p = record { answers = p; leaves = refl }

pub does_open_read_in : (κs : Lfts 2) (a : K.Dens κs open-read-in-kinds.ps) (r : (K.res_t open-read-in-kinds.r κs).Denot) (s : AtExit (K.ended_of 2 open-read-in-kinds.ps open-read-in-kinds.r) κs)
    → open-read-in-reads.Post κs a r s
    → Does a.1.1.0 (open_read_lem a.1.1.1.1.0) a.0 (lent a.1.0.now a.1.1.1.0.now []) (read_answer r)
    (lent a.1.0.now a.1.1.1.0.now [])
unfolding result
does_open_read_in κs a r s p = record { answers = p; leaves = refl }

pub does_open_read : (κs : Lfts 2) (a : K.Dens κs open-read-kinds.ps) (r : (K.res_t open-read-kinds.r κs).Denot) (s : AtExit (K.ended_of 2 open-read-kinds.ps open-read-kinds.r) κs)
    → open-read-reads.Post κs a r s
    → Does false (open_read_lem a.1.1.1.0) a.0 (lent a.1.0.now a.1.1.0.now []) (read_answer r)
    (lent a.1.0.now a.1.1.0.now [])
unfolding result as_eight
does_open_read κs a r s p = record { answers = p; leaves = refl }

pub does_fresh_exact_in : (κs : Lfts 2) (a : K.Dens κs fresh-exact-in-kinds.ps) (r : (K.res_t fresh-exact-in-kinds.r κs).Denot) (s : AtExit (K.ended_of 2 fresh-exact-in-kinds.ps fresh-exact-in-kinds.r) κs)
    → fresh-exact-in-reads.Post κs a r s
    → Does a.1.1.0 (fresh_exact_lem a.1.1.1.1.0) a.0 (lent a.1.0.now a.1.1.1.0.now []) (start_answer r)
    (lent a.1.0.now a.1.1.1.0.now [])
unfolding result
does_fresh_exact_in κs a r s p = record { answers = p; leaves = refl }

pub does_fresh_exact : (κs : Lfts 2) (a : K.Dens κs fresh-exact-kinds.ps) (r : (K.res_t fresh-exact-kinds.r κs).Denot) (s : AtExit (K.ended_of 2 fresh-exact-kinds.ps fresh-exact-kinds.r) κs)
    → fresh-exact-reads.Post κs a r s
    → Does false (fresh_exact_lem a.1.1.1.0) a.0 (lent a.1.0.now a.1.1.0.now []) (start_answer r)
    (lent a.1.0.now a.1.1.0.now [])
unfolding result as_eight
does_fresh_exact κs a r s p = record { answers = p; leaves = refl }

pub does_open_fresh_exact_in : (κs : Lfts 2) (a : K.Dens κs open-fresh-exact-in-kinds.ps) (r : (K.res_t open-fresh-exact-in-kinds.r κs).Denot) (s : AtExit (K.ended_of 2 open-fresh-exact-in-kinds.ps open-fresh-exact-in-kinds.r) κs)
    → open-fresh-exact-in-reads.Post κs a r s
    → Does a.1.1.0 (open_fresh_exact_lem a.1.1.1.1.0) a.0 (lent a.1.0.now a.1.1.1.0.now []) (start_answer r)
    (lent a.1.0.now a.1.1.1.0.now [])
unfolding result
does_open_fresh_exact_in κs a r s p = record { answers = p; leaves = refl }

pub does_open_fresh_exact : (κs : Lfts 2) (a : K.Dens κs open-fresh-exact-kinds.ps) (r : (K.res_t open-fresh-exact-kinds.r κs).Denot) (s : AtExit (K.ended_of 2 open-fresh-exact-kinds.ps open-fresh-exact-kinds.r) κs)
    → open-fresh-exact-reads.Post κs a r s
    → Does false (open_fresh_exact_lem a.1.1.1.0) a.0 (lent a.1.0.now a.1.1.0.now []) (start_answer r)
    (lent a.1.0.now a.1.1.0.now [])
unfolding result as_eight
does_open_fresh_exact κs a r s p = record { answers = p; leaves = refl }

pub does_step_in : (κs : Lfts 2) (a : K.Dens κs step-in-kinds.ps) (r : (K.res_t step-in-kinds.r κs).Denot) (s : AtExit (K.ended_of 2 step-in-kinds.ps step-in-kinds.r) κs)
    → step-in-reads.Post κs a r s
    → Does a.1.1.0 (step a.1.1.1.1.0 a.1.1.1.1.1.0) a.0 (lent a.1.0.now a.1.1.1.0.now []) (step_answer a.1.1.1.1.1.0 r)
    (lent a.1.0.now a.1.1.1.0.now [])
unfolding result
does_step_in κs a r s p = record { answers = p; leaves = refl }

pub does_step : (κs : Lfts 2) (a : K.Dens κs step-kinds.ps) (r : (K.res_t step-kinds.r κs).Denot) (s : AtExit (K.ended_of 2 step-kinds.ps step-kinds.r) κs)
    → step-reads.Post κs a r s
    → Does false (step a.1.1.1.0 a.1.1.1.1.0) a.0 (lent a.1.0.now a.1.1.0.now []) (step_answer a.1.1.1.1.0 r)
    (lent a.1.0.now a.1.1.0.now [])
unfolding result as_eight
does_step κs a r s p = record { answers = p; leaves = refl }

pub does_open_step_in : (κs : Lfts 2) (a : K.Dens κs open-step-in-kinds.ps) (r : (K.res_t open-step-in-kinds.r κs).Denot) (s : AtExit (K.ended_of 2 open-step-in-kinds.ps open-step-in-kinds.r) κs)
    → open-step-in-reads.Post κs a r s
    → Does a.1.1.0 (open_step_lem a.1.1.1.1.0 a.1.1.1.1.1.0) a.0 (lent a.1.0.now a.1.1.1.0.now []) (step_answer a.1.1.1.1.1.0 r)
    (lent a.1.0.now a.1.1.1.0.now [])
unfolding result
does_open_step_in κs a r s p = record { answers = p; leaves = refl }

pub does_open_step : (κs : Lfts 2) (a : K.Dens κs open-step-kinds.ps) (r : (K.res_t open-step-kinds.r κs).Denot) (s : AtExit (K.ended_of 2 open-step-kinds.ps open-step-kinds.r) κs)
    → open-step-reads.Post κs a r s
    → Does false (open_step_lem a.1.1.1.0 a.1.1.1.1.0) a.0 (lent a.1.0.now a.1.1.0.now []) (step_answer a.1.1.1.1.0 r)
    (lent a.1.0.now a.1.1.0.now [])
unfolding result as_eight
does_open_step κs a r s p = record { answers = p; leaves = refl }

pub does_drain_in : (κs : Lfts 3) (a : K.Dens κs drain-in-kinds.ps) (r : (K.res_t drain-in-kinds.r κs).Denot) (s : AtExit (K.ended_of 3 drain-in-kinds.ps drain-in-kinds.r) κs)
    → drain-in-reads.Post κs a r s
    → Does a.1.1.0 (drain a.1.1.1.1.0 a.1.1.1.1.1.0 a.1.1.1.1.1.1.0) a.0 (lent a.1.0.now a.1.1.1.0.now a.1.1.1.1.1.1.1.0.now) (drain_answer a.1.1.1.1.1.0 r)
    (lent a.1.0.now a.1.1.1.0.now s.1.1.1.1.1.1.1.0.now)
unfolding result
does_drain_in κs a r s p = record { answers = ap (λ (k : Output DrainAnswer). k.answer) p; leaves = ap (λ (k : Output DrainAnswer). (fills (seen a.1.1.0 (lent a.1.0.now a.1.1.1.0.now a.1.1.1.1.1.1.1.0.now)) k).memory) p }

pub does_drain : (κs : Lfts 3) (a : K.Dens κs drain-kinds.ps) (r : (K.res_t drain-kinds.r κs).Denot) (s : AtExit (K.ended_of 3 drain-kinds.ps drain-kinds.r) κs)
    → drain-reads.Post κs a r s
    → Does false (drain a.1.1.1.0 a.1.1.1.1.0 a.1.1.1.1.1.0) a.0 (lent a.1.0.now a.1.1.0.now a.1.1.1.1.1.1.0.now) (drain_answer a.1.1.1.1.0 r)
    (lent a.1.0.now a.1.1.0.now s.1.1.1.1.1.1.0.now)
unfolding result as_eight
does_drain κs a r s p = record { answers = ap (λ (k : Output DrainAnswer). k.answer) p; leaves = ap (λ (k : Output DrainAnswer). (fills (seen false (lent a.1.0.now a.1.1.0.now a.1.1.1.1.1.1.0.now)) k).memory) p }

pub does_open_drain_in : (κs : Lfts 3) (a : K.Dens κs open-drain-in-kinds.ps) (r : (K.res_t open-drain-in-kinds.r κs).Denot) (s : AtExit (K.ended_of 3 open-drain-in-kinds.ps open-drain-in-kinds.r) κs)
    → open-drain-in-reads.Post κs a r s
    → Does a.1.1.0 (open_drain_lem a.1.1.1.1.0 a.1.1.1.1.1.0 a.1.1.1.1.1.1.0) a.0 (lent a.1.0.now a.1.1.1.0.now a.1.1.1.1.1.1.1.0.now) (drain_answer a.1.1.1.1.1.0 r)
    (lent a.1.0.now a.1.1.1.0.now s.1.1.1.1.1.1.1.0.now)
unfolding result
does_open_drain_in κs a r s p = record { answers = ap (λ (k : Output DrainAnswer). k.answer) p; leaves = ap (λ (k : Output DrainAnswer). (fills (seen a.1.1.0 (lent a.1.0.now a.1.1.1.0.now a.1.1.1.1.1.1.1.0.now)) k).memory) p }

pub does_open_drain : (κs : Lfts 3) (a : K.Dens κs open-drain-kinds.ps) (r : (K.res_t open-drain-kinds.r κs).Denot) (s : AtExit (K.ended_of 3 open-drain-kinds.ps open-drain-kinds.r) κs)
    → open-drain-reads.Post κs a r s
    → Does false (open_drain_lem a.1.1.1.0 a.1.1.1.1.0 a.1.1.1.1.1.0) a.0 (lent a.1.0.now a.1.1.0.now a.1.1.1.1.1.1.0.now) (drain_answer a.1.1.1.1.0 r)
    (lent a.1.0.now a.1.1.0.now s.1.1.1.1.1.1.0.now)
unfolding result as_eight
does_open_drain κs a r s p = record { answers = ap (λ (k : Output DrainAnswer). k.answer) p; leaves = ap (λ (k : Output DrainAnswer). (fills (seen false (lent a.1.0.now a.1.1.0.now a.1.1.1.1.1.1.0.now)) k).memory) p }

pub does_find_all_in : (κs : Lfts 3) (a : K.Dens κs find-all-in-kinds.ps) (r : (K.res_t find-all-in-kinds.r κs).Denot) (s : AtExit (K.ended_of 3 find-all-in-kinds.ps find-all-in-kinds.r) κs)
    → find-all-in-reads.Post κs a r s
    → Does a.1.1.0 (find_all_lem a.1.1.1.1.0) a.0 (lent a.1.0.now a.1.1.1.0.now a.1.1.1.1.1.0.now) (tally_answer r)
    (lent a.1.0.now a.1.1.1.0.now s.1.1.1.1.1.0.now)
unfolding result
does_find_all_in κs a r s p = record { answers = ap (λ (k : Output TallyAnswer). k.answer) p; leaves = ap (λ (k : Output TallyAnswer). (fills (seen a.1.1.0 (lent a.1.0.now a.1.1.1.0.now a.1.1.1.1.1.0.now)) k).memory) p }

pub does_find_all : (κs : Lfts 3) (a : K.Dens κs find-all-kinds.ps) (r : (K.res_t find-all-kinds.r κs).Denot) (s : AtExit (K.ended_of 3 find-all-kinds.ps find-all-kinds.r) κs)
    → find-all-reads.Post κs a r s
    → Does false (find_all_lem a.1.1.1.0) a.0 (lent a.1.0.now a.1.1.0.now a.1.1.1.1.0.now) (tally_answer r)
    (lent a.1.0.now a.1.1.0.now s.1.1.1.1.0.now)
unfolding result as_eight
does_find_all κs a r s p = record { answers = ap (λ (k : Output TallyAnswer). k.answer) p; leaves = ap (λ (k : Output TallyAnswer). (fills (seen false (lent a.1.0.now a.1.1.0.now a.1.1.1.1.0.now)) k).memory) p }

pub does_open_find_all_in : (κs : Lfts 3) (a : K.Dens κs open-find-all-in-kinds.ps) (r : (K.res_t open-find-all-in-kinds.r κs).Denot) (s : AtExit (K.ended_of 3 open-find-all-in-kinds.ps open-find-all-in-kinds.r) κs)
    → open-find-all-in-reads.Post κs a r s
    → Does a.1.1.0 (open_find_all_lem a.1.1.1.1.0) a.0 (lent a.1.0.now a.1.1.1.0.now a.1.1.1.1.1.0.now) (tally_answer r)
    (lent a.1.0.now a.1.1.1.0.now s.1.1.1.1.1.0.now)
unfolding result
does_open_find_all_in κs a r s p = record { answers = ap (λ (k : Output TallyAnswer). k.answer) p; leaves = ap (λ (k : Output TallyAnswer). (fills (seen a.1.1.0 (lent a.1.0.now a.1.1.1.0.now a.1.1.1.1.1.0.now)) k).memory) p }

pub does_open_find_all : (κs : Lfts 3) (a : K.Dens κs open-find-all-kinds.ps) (r : (K.res_t open-find-all-kinds.r κs).Denot) (s : AtExit (K.ended_of 3 open-find-all-kinds.ps open-find-all-kinds.r) κs)
    → open-find-all-reads.Post κs a r s
    → Does false (open_find_all_lem a.1.1.1.0) a.0 (lent a.1.0.now a.1.1.0.now a.1.1.1.1.0.now) (tally_answer r)
    (lent a.1.0.now a.1.1.0.now s.1.1.1.1.0.now)
unfolding result as_eight
does_open_find_all κs a r s p = record { answers = ap (λ (k : Output TallyAnswer). k.answer) p; leaves = ap (λ (k : Output TallyAnswer). (fills (seen false (lent a.1.0.now a.1.1.0.now a.1.1.1.1.0.now)) k).memory) p }

pub does_plain_in : (κs : Lfts 3) (a : K.Dens κs plain-in-kinds.ps) (r : (K.res_t plain-in-kinds.r κs).Denot) (s : AtExit (K.ended_of 3 plain-in-kinds.ps plain-in-kinds.r) κs)
    → plain-in-reads.Post κs a r s
    → Does a.1.1.0 (plain a.1.1.1.1.0) a.0 (lent a.1.0.now a.1.1.1.0.now a.1.1.1.1.1.0.now) (tally_answer r)
    (lent a.1.0.now a.1.1.1.0.now s.1.1.1.1.1.0.now)
unfolding result
does_plain_in κs a r s p = record { answers = ap (λ (k : Output TallyAnswer). k.answer) p; leaves = ap (λ (k : Output TallyAnswer). (fills (seen a.1.1.0 (lent a.1.0.now a.1.1.1.0.now a.1.1.1.1.1.0.now)) k).memory) p }

pub does_plain : (κs : Lfts 3) (a : K.Dens κs plain-kinds.ps) (r : (K.res_t plain-kinds.r κs).Denot) (s : AtExit (K.ended_of 3 plain-kinds.ps plain-kinds.r) κs)
    → plain-reads.Post κs a r s
    → Does false (plain a.1.1.1.0) a.0 (lent a.1.0.now a.1.1.0.now a.1.1.1.1.0.now) (tally_answer r)
    (lent a.1.0.now a.1.1.0.now s.1.1.1.1.0.now)
unfolding result as_eight
does_plain κs a r s p = record { answers = ap (λ (k : Output TallyAnswer). k.answer) p; leaves = ap (λ (k : Output TallyAnswer). (fills (seen false (lent a.1.0.now a.1.1.0.now a.1.1.1.1.0.now)) k).memory) p }

pub does_open_plain_in : (κs : Lfts 3) (a : K.Dens κs open-plain-in-kinds.ps) (r : (K.res_t open-plain-in-kinds.r κs).Denot) (s : AtExit (K.ended_of 3 open-plain-in-kinds.ps open-plain-in-kinds.r) κs)
    → open-plain-in-reads.Post κs a r s
    → Does a.1.1.0 (open_plain_lem a.1.1.1.1.0) a.0 (lent a.1.0.now a.1.1.1.0.now a.1.1.1.1.1.0.now) (tally_answer r)
    (lent a.1.0.now a.1.1.1.0.now s.1.1.1.1.1.0.now)
unfolding result
does_open_plain_in κs a r s p = record { answers = ap (λ (k : Output TallyAnswer). k.answer) p; leaves = ap (λ (k : Output TallyAnswer). (fills (seen a.1.1.0 (lent a.1.0.now a.1.1.1.0.now a.1.1.1.1.1.0.now)) k).memory) p }

pub does_open_plain : (κs : Lfts 3) (a : K.Dens κs open-plain-kinds.ps) (r : (K.res_t open-plain-kinds.r κs).Denot) (s : AtExit (K.ended_of 3 open-plain-kinds.ps open-plain-kinds.r) κs)
    → open-plain-reads.Post κs a r s
    → Does false (open_plain_lem a.1.1.1.0) a.0 (lent a.1.0.now a.1.1.0.now a.1.1.1.1.0.now) (tally_answer r)
    (lent a.1.0.now a.1.1.0.now s.1.1.1.1.0.now)
unfolding result as_eight
does_open_plain κs a r s p = record { answers = ap (λ (k : Output TallyAnswer). k.answer) p; leaves = ap (λ (k : Output TallyAnswer). (fills (seen false (lent a.1.0.now a.1.1.0.now a.1.1.1.1.0.now)) k).memory) p }

pub does_write_image_in : (κs : Lfts 3) (a : K.Dens κs write-image-in-kinds.ps) (r : (K.res_t write-image-in-kinds.r κs).Denot) (s : AtExit (K.ended_of 3 write-image-in-kinds.ps write-image-in-kinds.r) κs)
    → write-image-in-reads.Post κs a r s
    → Does a.1.1.0 (write_image_lem) a.0 (lent a.1.0.now a.1.1.1.0.now a.1.1.1.1.0.now) (write_answer r)
    (lent a.1.0.now a.1.1.1.0.now s.1.1.1.1.0.now)
unfolding result
does_write_image_in κs a r s p = record { answers = ap (λ (k : Output WriteAnswer). k.answer) p; leaves = ap (λ (k : Output WriteAnswer). (fills (seen a.1.1.0 (lent a.1.0.now a.1.1.1.0.now a.1.1.1.1.0.now)) k).memory) p }

pub does_write_image : (κs : Lfts 3) (a : K.Dens κs write-image-kinds.ps) (r : (K.res_t write-image-kinds.r κs).Denot) (s : AtExit (K.ended_of 3 write-image-kinds.ps write-image-kinds.r) κs)
    → write-image-reads.Post κs a r s
    → Does false (write_image_lem) a.0 (lent a.1.0.now a.1.1.0.now a.1.1.1.0.now) (write_answer r)
    (lent a.1.0.now a.1.1.0.now s.1.1.1.0.now)
unfolding result as_eight
does_write_image κs a r s p = record { answers = ap (λ (k : Output WriteAnswer). k.answer) p; leaves = ap (λ (k : Output WriteAnswer). (fills (seen false (lent a.1.0.now a.1.1.0.now a.1.1.1.0.now)) k).memory) p }

pub does_open_write_image_in : (κs : Lfts 3) (a : K.Dens κs open-write-image-in-kinds.ps) (r : (K.res_t open-write-image-in-kinds.r κs).Denot) (s : AtExit (K.ended_of 3 open-write-image-in-kinds.ps open-write-image-in-kinds.r) κs)
    → open-write-image-in-reads.Post κs a r s
    → Does a.1.1.0 (open_write_image_lem) a.0 (lent a.1.0.now a.1.1.1.0.now a.1.1.1.1.0.now) (write_answer r)
    (lent a.1.0.now a.1.1.1.0.now s.1.1.1.1.0.now)
unfolding result
does_open_write_image_in κs a r s p = record { answers = ap (λ (k : Output WriteAnswer). k.answer) p; leaves = ap (λ (k : Output WriteAnswer). (fills (seen a.1.1.0 (lent a.1.0.now a.1.1.1.0.now a.1.1.1.1.0.now)) k).memory) p }

pub does_open_write_image : (κs : Lfts 3) (a : K.Dens κs open-write-image-kinds.ps) (r : (K.res_t open-write-image-kinds.r κs).Denot) (s : AtExit (K.ended_of 3 open-write-image-kinds.ps open-write-image-kinds.r) κs)
    → open-write-image-reads.Post κs a r s
    → Does false (open_write_image_lem) a.0 (lent a.1.0.now a.1.1.0.now a.1.1.1.0.now) (write_answer r)
    (lent a.1.0.now a.1.1.0.now s.1.1.1.0.now)
unfolding result as_eight
does_open_write_image κs a r s p = record { answers = ap (λ (k : Output WriteAnswer). k.answer) p; leaves = ap (λ (k : Output WriteAnswer). (fills (seen false (lent a.1.0.now a.1.1.0.now a.1.1.1.0.now)) k).memory) p }

pub does_read_image_in : (κs : Lfts 3) (a : K.Dens κs read-image-in-kinds.ps) (r : (K.res_t read-image-in-kinds.r κs).Denot) (s : AtExit (K.ended_of 3 read-image-in-kinds.ps read-image-in-kinds.r) κs)
    → read-image-in-reads.Post κs a r s
    → Does a.1.1.0 (read_image_lem a.1.1.1.1.0.now) a.0 (lent a.1.0.now a.1.1.1.0.now []) (build_answer a.0 r)
    (lent s.1.0.now s.1.1.1.0.now [])
unfolding result
does_read_image_in κs a r s p = record { answers = ap (λ (k : Effect BuildAnswer). k.answer) p; leaves = ap (λ (k : Effect BuildAnswer). (writes (seen a.1.1.0 (lent a.1.0.now a.1.1.1.0.now [])) k).memory) p }

pub does_read_image : (κs : Lfts 3) (a : K.Dens κs read-image-kinds.ps) (r : (K.res_t read-image-kinds.r κs).Denot) (s : AtExit (K.ended_of 3 read-image-kinds.ps read-image-kinds.r) κs)
    → read-image-reads.Post κs a r s
    → Does false (read_image_lem a.1.1.1.0.now) a.0 (lent a.1.0.now a.1.1.0.now []) (build_answer a.0 r)
    (lent s.1.0.now s.1.1.0.now [])
unfolding result as_eight
does_read_image κs a r s p = record { answers = ap (λ (k : Effect BuildAnswer). k.answer) p; leaves = ap (λ (k : Effect BuildAnswer). (writes (seen false (lent a.1.0.now a.1.1.0.now [])) k).memory) p }
