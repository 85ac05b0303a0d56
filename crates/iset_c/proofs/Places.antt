-- Each export, in the words of include/iset.h: which number it returns, exactly when, and what each
-- place of its answer holds. Said of whatever number r and slices at exit s its promise allows from
-- its arguments a.
use mathlib.Core.Path.{◌≡◌, refl, sym, ap, ◌∙◌}
use mathlib.Core.Bool.{Bool, true, cond}
use mathlib.Core.List.{List, [], ◌∷◌}
use Prim.Native.Nat.{ℕ, ◌<◌}
use native.Mathlib.Omega.{arith}
use lib.ListN.{length, take, drop}
use lib.Seq.{take_at, drop_at}
use lib.Dec.{ltb, leb}
use borrow.Author.Tests.{ltb-true, ltb-false, eq-eqb}
use contract.Lifetimes.{Lfts}
use borrow.Fn.Kinds as K
use denote.Triple.Clauses.{AtExit}
use Rattle.words.specs.Ix.{U}
use Rattle.words.specs.declared.interval.Interval.{Interval}
use Rattle.words.specs.declared.interval.Span.{Span}
use Rattle.words.specs.declared.node.Entry.{Entry}
use Rattle.iter.specs.Drains.{filled}
use Rattle.iter.specs.declared.Cursor.{Cursor}
use Rattle.iter.specs.declared.rules.Query.{Query}
use Rattle.iter.specs.declared.rules.Query.TheVariants.{Exact}
use Rattle.iset.specs.Build.{BuildAnswer, build_call}
use Rattle.iset.specs.Remove.{RemoveAnswer, remove_call}
use Rattle.iset.specs.Insert.{InsertAnswer, insert_call}
use Rattle.iset.specs.Unload.{UnloadAnswer, unload_call}
use Rattle.iset.specs.Lookup.{start_call, step_call, drain_call}
use Rattle.iset.specs.Plain.{plain_call}
use Rattle.iset.specs.Find.{find_all_call}
use Rattle.iset.specs.Maps.{map_of, map_at}
use Rattle.iset.specs.Refusals.{Rows, accept, refuse, Exactly, check_rows, build_rows, remove_rows, insert_rows, unload_rows, propose_rows, renumber_rows, read_rows, start_rows, step_rows, drain_rows, plain_rows, find_all_rows, write_image_rows, read_image_rows}
use Rattle.iset.specs.Effects.{Output}
use Rattle.iset.specs.Ticket.{read_call}
use Rattle.iset.specs.Tidy.{RenumberAnswer, renumber_call}
use Rattle.iset.specs.Image.{write_image_call, read_image_call}
use Rattle.iset.specs.declared.Map.{Map}
use Rattle.iset.proofs.Refusals.{Lacks, passed_row, failed_row, check_refusals, build_refusals, remove_refusals, insert_refusals, unload_refusals, read_refusals, start_refusals, step_refusals, drain_refusals, plain_refusals, find_all_refusals}
use Rattle.iset.specs.declared.ticket.Ticket.{Ticket}
use Rattle.iset.proofs.ImageRefusals.{write_image_refusals, read_image_refusals}
use Rattle.iset.proofs.TidyRefusals.{propose_refusals, renumber_refusals}
use Rattle.iset.proofs.BitRefusals.{Fails, le_fails, and_fails}
use Rattle.iset_c.specs.Replies.{Reply, Exit, exit, number, handed, exit_of, unload_reply, step_reply, drain_reply, tally_reply}
use Rattle.iset_c.specs.Ranges.{range_of, span_of, kinds}
use Rattle.iset_c.specs.Places.{Told, BadBound, step_places, drain_places, tally_places}
use Rattle.iset_c.proofs.exports.iset_check.Reads as check-reads
use Rattle.iset_c.proofs.exports.iset_check.Kinds as check-kinds
use Rattle.iset_c.proofs.exports.iset_build.Reads as build-reads
use Rattle.iset_c.proofs.exports.iset_build.Kinds as build-kinds
use Rattle.iset_c.proofs.exports.iset_remove.Reads as remove-reads
use Rattle.iset_c.proofs.exports.iset_remove.Kinds as remove-kinds
use Rattle.iset_c.proofs.exports.iset_insert.Reads as insert-reads
use Rattle.iset_c.proofs.exports.iset_insert.Kinds as insert-kinds
use Rattle.iset_c.proofs.exports.iset_unload.Reads as unload-reads
use Rattle.iset_c.proofs.exports.iset_unload.Kinds as unload-kinds
use Rattle.iset_c.proofs.exports.iset_propose.Reads as propose-reads
use Rattle.iset_c.proofs.exports.iset_propose.Kinds as propose-kinds
use Rattle.iset_c.proofs.exports.iset_renumber.Reads as renumber-reads
use Rattle.iset_c.proofs.exports.iset_renumber.Kinds as renumber-kinds
use Rattle.iset_c.proofs.exports.iset_read.Reads as read-reads
use Rattle.iset_c.proofs.exports.iset_read.Kinds as read-kinds
use Rattle.iset_c.proofs.lookup.iset_fresh.Reads as fresh-reads
use Rattle.iset_c.proofs.lookup.iset_fresh.Kinds as fresh-kinds
use Rattle.iset_c.proofs.exports.iset_fresh_exact.Reads as fresh-exact-reads
use Rattle.iset_c.proofs.exports.iset_fresh_exact.Kinds as fresh-exact-kinds
use Rattle.iset_c.proofs.exports.iset_step.Reads as step-reads
use Rattle.iset_c.proofs.exports.iset_step.Kinds as step-kinds
use Rattle.iset_c.proofs.exports.iset_step_exact.Reads as step-exact-reads
use Rattle.iset_c.proofs.exports.iset_step_exact.Kinds as step-exact-kinds
use Rattle.iset_c.proofs.exports.iset_drain.Reads as drain-reads
use Rattle.iset_c.proofs.exports.iset_drain.Kinds as drain-kinds
use Rattle.iset_c.proofs.exports.iset_write_image.Reads as write-image-reads
use Rattle.iset_c.proofs.exports.iset_write_image.Kinds as write-image-kinds
use Rattle.iset_c.proofs.exports.iset_read_image.Reads as read-image-reads
use Rattle.iset_c.proofs.exports.iset_read_image.Kinds as read-image-kinds
use Rattle.iset_c.proofs.exports.iset_drain_exact.Reads as drain-exact-reads
use Rattle.iset_c.proofs.exports.iset_drain_exact.Kinds as drain-exact-kinds
use Rattle.iset_c.proofs.exports.iset_plain.Reads as plain-reads
use Rattle.iset_c.proofs.exports.iset_plain.Kinds as plain-kinds
use Rattle.iset_c.proofs.exports.iset_plain_exact.Reads as plain-exact-reads
use Rattle.iset_c.proofs.exports.iset_plain_exact.Kinds as plain-exact-kinds
use Rattle.iset_c.proofs.exports.iset_find_all.Reads as find-all-reads
use Rattle.iset_c.proofs.exports.iset_find_all.Kinds as find-all-kinds
use Rattle.iset_c.proofs.exports.iset_find_all_exact.Reads as find-all-exact-reads
use Rattle.iset_c.proofs.exports.iset_find_all_exact.Kinds as find-all-exact-kinds

-- the reply of a call whose number the rows say; b is whether each bound has a kind
module _ (rows : Rows) (b : Bool) (R : Reply) (A X : List ℕ) (r : ℕ) where
  places_of : r ≡ number b A R → X ≡ handed b A R → r ≡ 0
      → (take (length R.numbers) X ≡ R.numbers) × (drop (length R.numbers) X ≡ drop (length R.numbers) A)
  unfolding handed filled
  places_of p q z =
      let X_is : X ≡ filled R.numbers A = q ∙ rw (eq-eqb (number b A R) 0 (sym p ∙ z)) in
      rw X_is (take_at R.numbers (drop (length R.numbers) A) _ refl, drop_at R.numbers (drop (length R.numbers) A) _ refl)

  told : Lacks 101 rows → Exactly rows (cond b R.no 102) → (l old new : List (List ℕ)) → exit r X l ≡ exit_of b A R old new
      → Told rows R.numbers A X r
  unfolding number
  told lacks e l old new p =
      let p_number : r ≡ number b A R = ap (λ (x : Exit). x.number) p in
      record {
        number =
            rw p_number
            (failed_row 101 (length A < length R.numbers) rows (cond b R.no 102) (ltb (length A) (length R.numbers)) lacks
            (ltb-true (length A) (length R.numbers)) (λ t h. omega (arith, ltb-false (length A) (length R.numbers) t)) (λ t. e));
        places = places_of p_number (ap (λ (x : Exit). x.answer) p);
      }

-- and of one with a range
module _ (rows : Rows) (R : Reply) (A X : List ℕ) (r lo-kind hi-kind : ℕ) where
  kinds_fail : Fails (kinds lo-kind hi-kind) (BadBound lo-kind hi-kind)
  unfolding kinds
  kinds_fail = and_fails (leb lo-kind 2) (leb hi-kind 2) (2 < lo-kind) (2 < hi-kind) (le_fails lo-kind 2) (le_fails hi-kind 2)

  told_ranged : Lacks 101 (refuse 102 (BadBound lo-kind hi-kind) rows) → Lacks 102 rows → Exactly rows R.no
      → (l old new : List (List ℕ)) → exit r X l ≡ exit_of (kinds lo-kind hi-kind) A R old new
      → Told (refuse 102 (BadBound lo-kind hi-kind) rows) R.numbers A X r
  told_ranged k lacks e =
      told (refuse 102 (BadBound lo-kind hi-kind) rows) (kinds lo-kind hi-kind) R A X r k
      (passed_row 102 (BadBound lo-kind hi-kind) rows R.no (kinds lo-kind hi-kind) lacks kinds_fail.0 kinds_fail.1 (λ t. e))

-- `iset_check`: its number is all
pub check_told : (κs : Lfts 2) (a : K.Dens κs check-kinds.ps) (r : (K.res_t check-kinds.r κs).Denot) (s : AtExit (K.ended_of 2 check-kinds.ps check-kinds.r) κs)
    → check-reads.Post κs a r s
    → Exactly (check_rows (map_of a.0 a.1.0) a.1.1.0.now a.1.1.1.0.now) r
check_told κs a r s p = rw p (check_refusals (map_of a.0 a.1.0) a.1.1.0.now a.1.1.1.0.now)

-- `iset_build`: count, root, version
pub build_told : (κs : Lfts 4) (a : K.Dens κs build-kinds.ps) (r : (K.res_t build-kinds.r κs).Denot) (s : AtExit (K.ended_of 4 build-kinds.ps build-kinds.r) κs)
    → build-reads.Post κs a r s
    → let m : Map = map_at 0 U a.0 in
    let W : List ℕ = a.1.0.now in
    let C : List ℕ = a.1.1.0.now in
    let S : List ℕ = a.1.1.1.0.now in
    let b : BuildAnswer = (build_call m W C S).answer in
    Told (build_rows W C S) (b.map.count ∷ b.map.root ∷ b.map.version ∷ []) a.1.1.1.1.0.now s.1.1.1.1.0.now r
build_told κs a r s p = told _ true _ _ _ r (omega arith) (build_refusals _ _ _ _) _ _ _ p

-- `iset_read_image`: count, root, version
pub read-image-told :
    (κs : Lfts 4) (a : K.Dens κs read-image-kinds.ps) (r : (K.res_t read-image-kinds.r κs).Denot) (s : AtExit (K.ended_of 4 read-image-kinds.ps read-image-kinds.r) κs)
    → read-image-reads.Post κs a r s
    → let m : Map = map_at 0 U a.0 in
    let W : List ℕ = a.1.0.now in
    let C : List ℕ = a.1.1.0.now in
    let I : List ℕ = a.1.1.1.0.now in
    let b : BuildAnswer = (read_image_call m W C I).answer in
    Told (read_image_rows W C I) (b.map.count ∷ b.map.root ∷ b.map.version ∷ []) a.1.1.1.1.0.now s.1.1.1.1.0.now r
read-image-told κs a r s p = told _ true _ _ _ r (omega arith) (read_image_refusals _ _ _ _) _ _ _ p

-- `iset_write_image`: the image's length
pub write-image-told :
    (κs : Lfts 4) (a : K.Dens κs write-image-kinds.ps) (r : (K.res_t write-image-kinds.r κs).Denot) (s : AtExit (K.ended_of 4 write-image-kinds.ps write-image-kinds.r) κs)
    → write-image-reads.Post κs a r s
    → let m : Map = map_of a.0 a.1.0 in
    let W : List ℕ = a.1.1.0.now in
    let C : List ℕ = a.1.1.1.0.now in
    let out : List ℕ = a.1.1.1.1.0.now in
    Told (write_image_rows m W C (length out)) ((write_image_call m W C out).answer.length ∷ []) a.1.1.1.1.1.0.now s.1.1.1.1.1.0.now r
write-image-told κs a r s p = told _ true _ _ _ r (omega arith) (write_image_refusals _ _ _ _) _ _ _ p

-- `iset_remove`: value, count, root, then three pairs, old slot, new slot, how many hulls changed,
-- and the version
pub remove_told : (κs : Lfts 3) (a : K.Dens κs remove-kinds.ps) (r : (K.res_t remove-kinds.r κs).Denot) (s : AtExit (K.ended_of 3 remove-kinds.ps remove-kinds.r) κs)
    → remove-reads.Post κs a r s
    → let m : Map = map_at a.0 a.1.0 a.1.1.0 in
    let W : List ℕ = a.1.1.1.0.now in
    let C : List ℕ = a.1.1.1.1.0.now in
    let slot : ℕ = a.1.1.1.1.1.0 in
    let b : RemoveAnswer = (remove_call m W C slot).answer in
    Told (remove_rows m W C slot)
    (b.value ∷ b.map.count ∷ b.map.root
    ∷ b.pairs.first.old ∷ b.pairs.first.new ∷ b.pairs.second.old ∷ b.pairs.second.new ∷ b.pairs.third.old ∷ b.pairs.third.new
    ∷ b.reach ∷ b.map.version ∷ [])
    a.1.1.1.1.1.1.0.now s.1.1.1.1.1.1.0.now r
remove_told κs a r s p = told _ true _ _ _ r (omega arith) (remove_refusals _ _ _ _) _ _ _ p

-- `iset_insert`: count, root, the new entry's slot, how many hulls changed, and the version
pub insert_told : (κs : Lfts 3) (a : K.Dens κs insert-kinds.ps) (r : (K.res_t insert-kinds.r κs).Denot) (s : AtExit (K.ended_of 3 insert-kinds.ps insert-kinds.r) κs)
    → insert-reads.Post κs a r s
    → let m : Map = map_at a.0 a.1.0 a.1.1.0 in
    let W : List ℕ = a.1.1.1.0.now in
    let C : List ℕ = a.1.1.1.1.0.now in
    let e : Entry = record { start = a.1.1.1.1.1.0; end = a.1.1.1.1.1.1.0; value = a.1.1.1.1.1.1.1.0 } in
    let b : InsertAnswer = (insert_call m W C e).answer in
    Told (insert_rows m W C e) (b.map.count ∷ b.map.root ∷ b.slot ∷ b.reach ∷ b.map.version ∷ [])
    a.1.1.1.1.1.1.1.1.0.now s.1.1.1.1.1.1.1.1.0.now r
insert_told κs a r s p = told _ true _ _ _ r (omega arith) (insert_refusals _ _ _ _) _ _ _ p

-- `iset_unload`: count, root, version, how many entries went; by rule 1
pub unload_told : (κs : Lfts 3) (a : K.Dens κs unload-kinds.ps) (r : (K.res_t unload-kinds.r κs).Denot) (s : AtExit (K.ended_of 3 unload-kinds.ps unload-kinds.r) κs)
    → unload-reads.Post κs a r s
    → let m : Map = map_at a.0 a.1.0 a.1.1.0 in
    let W : List ℕ = a.1.1.1.0.now in
    let C : List ℕ = a.1.1.1.1.0.now in
    let b = a.1.1.1.1.1 in
    let q : Span = span_of b.0 b.1.0 b.1.1.0 b.1.1.1.0 in
    let g : UnloadAnswer = (unload_call m W C 1 q).answer in
    Told (refuse 102 (BadBound b.0 b.1.1.0) (unload_rows m W C 1 q)) (g.map.count ∷ g.map.root ∷ g.map.version ∷ g.gone ∷ [])
    b.1.1.1.1.0.now s.1.1.1.1.1.1.1.1.1.0.now r
unload_told κs a r s p =
    let m : Map = map_at a.0 a.1.0 a.1.1.0 in
    let W : List ℕ = a.1.1.1.0.now in
    let C : List ℕ = a.1.1.1.1.0.now in
    let b = a.1.1.1.1.1 in
    let q : Span = span_of b.0 b.1.0 b.1.1.0 b.1.1.1.0 in
    told_ranged (unload_rows m W C 1 q) (unload_reply (unload_call m W C 1 q).answer) b.1.1.1.1.0.now s.1.1.1.1.1.1.1.1.1.0.now r
    b.0 b.1.1.0 (omega arith) (omega arith) (unload_refusals m W C 1 q) _ _ _ p

-- `iset_propose`: its number is all
pub propose_told : (κs : Lfts 3) (a : K.Dens κs propose-kinds.ps) (r : (K.res_t propose-kinds.r κs).Denot) (s : AtExit (K.ended_of 3 propose-kinds.ps propose-kinds.r) κs)
    → propose-reads.Post κs a r s
    → Exactly (propose_rows (map_of a.0 a.1.0) a.1.1.0.now a.1.1.1.0.now (length a.1.1.1.1.0.now)) r
propose_told κs a r s p =
    rw (ap (λ (x : Output ℕ). x.answer) p)
    (propose_refusals (map_of a.0 a.1.0) a.1.1.0.now a.1.1.1.0.now a.1.1.1.1.0.now)

-- `iset_renumber`: count, root, version
pub renumber_told : (κs : Lfts 4) (a : K.Dens κs renumber-kinds.ps) (r : (K.res_t renumber-kinds.r κs).Denot) (s : AtExit (K.ended_of 4 renumber-kinds.ps renumber-kinds.r) κs)
    → renumber-reads.Post κs a r s
    → let m : Map = map_at a.0 a.1.0 a.1.1.0 in
    let W : List ℕ = a.1.1.1.0.now in
    let C : List ℕ = a.1.1.1.1.0.now in
    let plan : List ℕ = a.1.1.1.1.1.0.now in
    let b : RenumberAnswer = (renumber_call m W C plan).answer in
    Told (renumber_rows m W C plan) (b.map.count ∷ b.map.root ∷ b.map.version ∷ [])
    a.1.1.1.1.1.1.0.now s.1.1.1.1.1.1.0.now r
renumber_told κs a r s p = told _ true _ _ _ r (omega arith) (renumber_refusals _ _ _ _) _ _ _ p

-- `iset_read`: start, end, value
pub read_told : (κs : Lfts 3) (a : K.Dens κs read-kinds.ps) (r : (K.res_t read-kinds.r κs).Denot) (s : AtExit (K.ended_of 3 read-kinds.ps read-kinds.r) κs)
    → read-reads.Post κs a r s
    → let m : Map = map_at a.0 a.1.0 a.1.1.0 in
    let W : List ℕ = a.1.1.1.0.now in
    let C : List ℕ = a.1.1.1.1.0.now in
    let t : Ticket = record { slot = a.1.1.1.1.1.0; version = a.1.1.1.1.1.1.0 } in
    let e : Entry = (read_call m W C t).entry in
    Told (read_rows m W C t) (e.start ∷ e.end ∷ e.value ∷ []) a.1.1.1.1.1.1.1.0.now s.1.1.1.1.1.1.1.0.now r
read_told κs a r s p = told _ true _ _ _ r (omega arith) (read_refusals _ _ _ _) _ _ _ p

-- `iset_fresh`: slot, levels, bits: the root, one level, 00. It has no refusal but 101.
pub fresh_told : (κs : Lfts 1) (a : K.Dens κs fresh-kinds.ps) (r : (K.res_t fresh-kinds.r κs).Denot) (s : AtExit (K.ended_of 1 fresh-kinds.ps fresh-kinds.r) κs)
    → fresh-reads.Post κs a r s → Told accept (a.1.0 ∷ 1 ∷ 0 ∷ []) a.1.1.0.now s.1.1.0.now r
fresh_told κs a r s p = told accept true _ _ _ r (omega arith) refl _ _ _ p

-- `iset_fresh_exact`: slot, levels, bits
pub fresh_exact_told : (κs : Lfts 3) (a : K.Dens κs fresh-exact-kinds.ps) (r : (K.res_t fresh-exact-kinds.r κs).Denot) (s : AtExit (K.ended_of 3 fresh-exact-kinds.ps fresh-exact-kinds.r) κs)
    → fresh-exact-reads.Post κs a r s
    → let m : Map = map_of a.0 a.1.0 in
    let W : List ℕ = a.1.1.0.now in
    let C : List ℕ = a.1.1.1.0.now in
    let x : Interval = record { start = a.1.1.1.1.0; end = a.1.1.1.1.1.0 } in
    let c : Cursor = (start_call m W C x).cursor in
    Told (start_rows m W C x) (c.slot ∷ c.levels ∷ c.bits ∷ []) a.1.1.1.1.1.1.0.now s.1.1.1.1.1.1.0.now r
fresh_exact_told κs a r s p = told _ true _ _ _ r (omega arith) (start_refusals _ _ _ _) _ _ _ p

-- `iset_step`
pub step_told : (κs : Lfts 3) (a : K.Dens κs step-kinds.ps) (r : (K.res_t step-kinds.r κs).Denot) (s : AtExit (K.ended_of 3 step-kinds.ps step-kinds.r) κs)
    → step-reads.Post κs a r s
    → let m : Map = map_of a.0 a.1.0 in
    let W : List ℕ = a.1.1.0.now in
    let C : List ℕ = a.1.1.1.0.now in
    let b = a.1.1.1.1 in
    let q : Query = range_of b.0 b.1.0 b.1.1.0 b.1.1.1.0 in
    let c : Cursor = record { slot = b.1.1.1.1.0; levels = b.1.1.1.1.1.0; bits = b.1.1.1.1.1.1.0 } in
    Told (refuse 102 (BadBound b.0 b.1.1.0) (step_rows m W C q c)) (step_places (step_call m W C q c))
    b.1.1.1.1.1.1.1.0.now s.1.1.1.1.1.1.1.1.1.1.1.0.now r
step_told κs a r s p =
    let m : Map = map_of a.0 a.1.0 in
    let W : List ℕ = a.1.1.0.now in
    let C : List ℕ = a.1.1.1.0.now in
    let b = a.1.1.1.1 in
    let q : Query = range_of b.0 b.1.0 b.1.1.0 b.1.1.1.0 in
    let c : Cursor = record { slot = b.1.1.1.1.0; levels = b.1.1.1.1.1.0; bits = b.1.1.1.1.1.1.0 } in
    told_ranged (step_rows m W C q c) (step_reply (step_call m W C q c)) b.1.1.1.1.1.1.1.0.now s.1.1.1.1.1.1.1.1.1.1.1.0.now r
    b.0 b.1.1.0 (omega arith) (omega arith) (step_refusals m W C c q) _ _ _ p

-- `iset_step_exact`
pub step_exact_told : (κs : Lfts 3) (a : K.Dens κs step-exact-kinds.ps) (r : (K.res_t step-exact-kinds.r κs).Denot) (s : AtExit (K.ended_of 3 step-exact-kinds.ps step-exact-kinds.r) κs)
    → step-exact-reads.Post κs a r s
    → let m : Map = map_of a.0 a.1.0 in
    let W : List ℕ = a.1.1.0.now in
    let C : List ℕ = a.1.1.1.0.now in
    let b = a.1.1.1.1 in
    let q : Query = Exact (record { start = b.0; end = b.1.0 }) in
    let c : Cursor = record { slot = b.1.1.0; levels = b.1.1.1.0; bits = b.1.1.1.1.0 } in
    Told (step_rows m W C q c) (step_places (step_call m W C q c)) b.1.1.1.1.1.0.now s.1.1.1.1.1.1.1.1.1.0.now r
step_exact_told κs a r s p =
    let m : Map = map_of a.0 a.1.0 in
    let W : List ℕ = a.1.1.0.now in
    let C : List ℕ = a.1.1.1.0.now in
    let b = a.1.1.1.1 in
    let q : Query = Exact (record { start = b.0; end = b.1.0 }) in
    let c : Cursor = record { slot = b.1.1.0; levels = b.1.1.1.0; bits = b.1.1.1.1.0 } in
    told (step_rows m W C q c) true (step_reply (step_call m W C q c)) b.1.1.1.1.1.0.now s.1.1.1.1.1.1.1.1.1.0.now r
    (omega arith) (step_refusals m W C c q) _ _ _ p

-- `iset_drain`
pub drain_told : (κs : Lfts 4) (a : K.Dens κs drain-kinds.ps) (r : (K.res_t drain-kinds.r κs).Denot) (s : AtExit (K.ended_of 4 drain-kinds.ps drain-kinds.r) κs)
    → drain-reads.Post κs a r s
    → let m : Map = map_of a.0 a.1.0 in
    let W : List ℕ = a.1.1.0.now in
    let C : List ℕ = a.1.1.1.0.now in
    let b = a.1.1.1.1 in
    let q : Query = range_of b.0 b.1.0 b.1.1.0 b.1.1.1.0 in
    let c : Cursor = record { slot = b.1.1.1.1.0; levels = b.1.1.1.1.1.0; bits = b.1.1.1.1.1.1.0 } in
    let limit : ℕ = b.1.1.1.1.1.1.1.0 in
    let out : List ℕ = b.1.1.1.1.1.1.1.1.0.now in
    Told (refuse 102 (BadBound b.0 b.1.1.0) (drain_rows m W C q c limit (length out))) (drain_places (drain_call m W C q c limit out).answer)
    b.1.1.1.1.1.1.1.1.1.0.now s.1.1.1.1.1.1.1.1.1.1.1.1.1.0.now r
drain_told κs a r s p =
    let m : Map = map_of a.0 a.1.0 in
    let W : List ℕ = a.1.1.0.now in
    let C : List ℕ = a.1.1.1.0.now in
    let b = a.1.1.1.1 in
    let q : Query = range_of b.0 b.1.0 b.1.1.0 b.1.1.1.0 in
    let c : Cursor = record { slot = b.1.1.1.1.0; levels = b.1.1.1.1.1.0; bits = b.1.1.1.1.1.1.0 } in
    let limit : ℕ = b.1.1.1.1.1.1.1.0 in
    let out : List ℕ = b.1.1.1.1.1.1.1.1.0.now in
    told_ranged (drain_rows m W C q c limit (length out)) (drain_reply (drain_call m W C q c limit out).answer)
    b.1.1.1.1.1.1.1.1.1.0.now s.1.1.1.1.1.1.1.1.1.1.1.1.1.0.now r
    b.0 b.1.1.0 (omega arith) (omega arith) (drain_refusals m W C c limit q out) _ _ _ p

-- `iset_drain_exact`
pub drain_exact_told : (κs : Lfts 4) (a : K.Dens κs drain-exact-kinds.ps) (r : (K.res_t drain-exact-kinds.r κs).Denot) (s : AtExit (K.ended_of 4 drain-exact-kinds.ps drain-exact-kinds.r) κs)
    → drain-exact-reads.Post κs a r s
    → let m : Map = map_of a.0 a.1.0 in
    let W : List ℕ = a.1.1.0.now in
    let C : List ℕ = a.1.1.1.0.now in
    let b = a.1.1.1.1 in
    let q : Query = Exact (record { start = b.0; end = b.1.0 }) in
    let c : Cursor = record { slot = b.1.1.0; levels = b.1.1.1.0; bits = b.1.1.1.1.0 } in
    let limit : ℕ = b.1.1.1.1.1.0 in
    let out : List ℕ = b.1.1.1.1.1.1.0.now in
    Told (drain_rows m W C q c limit (length out)) (drain_places (drain_call m W C q c limit out).answer)
    b.1.1.1.1.1.1.1.0.now s.1.1.1.1.1.1.1.1.1.1.1.0.now r
drain_exact_told κs a r s p =
    let m : Map = map_of a.0 a.1.0 in
    let W : List ℕ = a.1.1.0.now in
    let C : List ℕ = a.1.1.1.0.now in
    let b = a.1.1.1.1 in
    let q : Query = Exact (record { start = b.0; end = b.1.0 }) in
    let c : Cursor = record { slot = b.1.1.0; levels = b.1.1.1.0; bits = b.1.1.1.1.0 } in
    let limit : ℕ = b.1.1.1.1.1.0 in
    let out : List ℕ = b.1.1.1.1.1.1.0.now in
    told (drain_rows m W C q c limit (length out)) true (drain_reply (drain_call m W C q c limit out).answer)
    b.1.1.1.1.1.1.1.0.now s.1.1.1.1.1.1.1.1.1.1.1.0.now r
    (omega arith) (drain_refusals m W C c limit q out) _ _ _ p

-- `iset_plain`
pub plain_told : (κs : Lfts 4) (a : K.Dens κs plain-kinds.ps) (r : (K.res_t plain-kinds.r κs).Denot) (s : AtExit (K.ended_of 4 plain-kinds.ps plain-kinds.r) κs)
    → plain-reads.Post κs a r s
    → let m : Map = map_of a.0 a.1.0 in
    let W : List ℕ = a.1.1.0.now in
    let C : List ℕ = a.1.1.1.0.now in
    let b = a.1.1.1.1 in
    let q : Query = range_of b.0 b.1.0 b.1.1.0 b.1.1.1.0 in
    let out : List ℕ = b.1.1.1.1.0.now in
    Told (refuse 102 (BadBound b.0 b.1.1.0) (plain_rows m W C q (length out))) (tally_places (plain_call m W C q out).answer)
    b.1.1.1.1.1.0.now s.1.1.1.1.1.1.1.1.1.0.now r
plain_told κs a r s p =
    let m : Map = map_of a.0 a.1.0 in
    let W : List ℕ = a.1.1.0.now in
    let C : List ℕ = a.1.1.1.0.now in
    let b = a.1.1.1.1 in
    let q : Query = range_of b.0 b.1.0 b.1.1.0 b.1.1.1.0 in
    let out : List ℕ = b.1.1.1.1.0.now in
    told_ranged (plain_rows m W C q (length out)) (tally_reply (plain_call m W C q out).answer)
    b.1.1.1.1.1.0.now s.1.1.1.1.1.1.1.1.1.0.now r
    b.0 b.1.1.0 (omega arith) (omega arith) (plain_refusals m W C q out) _ _ _ p

-- `iset_plain_exact`
pub plain_exact_told : (κs : Lfts 4) (a : K.Dens κs plain-exact-kinds.ps) (r : (K.res_t plain-exact-kinds.r κs).Denot) (s : AtExit (K.ended_of 4 plain-exact-kinds.ps plain-exact-kinds.r) κs)
    → plain-exact-reads.Post κs a r s
    → let m : Map = map_of a.0 a.1.0 in
    let W : List ℕ = a.1.1.0.now in
    let C : List ℕ = a.1.1.1.0.now in
    let b = a.1.1.1.1 in
    let q : Query = Exact (record { start = b.0; end = b.1.0 }) in
    let out : List ℕ = b.1.1.0.now in
    Told (plain_rows m W C q (length out)) (tally_places (plain_call m W C q out).answer)
    b.1.1.1.0.now s.1.1.1.1.1.1.1.0.now r
plain_exact_told κs a r s p =
    let m : Map = map_of a.0 a.1.0 in
    let W : List ℕ = a.1.1.0.now in
    let C : List ℕ = a.1.1.1.0.now in
    let b = a.1.1.1.1 in
    let q : Query = Exact (record { start = b.0; end = b.1.0 }) in
    let out : List ℕ = b.1.1.0.now in
    told (plain_rows m W C q (length out)) true (tally_reply (plain_call m W C q out).answer)
    b.1.1.1.0.now s.1.1.1.1.1.1.1.0.now r
    (omega arith) (plain_refusals m W C q out) _ _ _ p

-- `iset_find_all`
pub find_all_told : (κs : Lfts 4) (a : K.Dens κs find-all-kinds.ps) (r : (K.res_t find-all-kinds.r κs).Denot) (s : AtExit (K.ended_of 4 find-all-kinds.ps find-all-kinds.r) κs)
    → find-all-reads.Post κs a r s
    → let m : Map = map_of a.0 a.1.0 in
    let W : List ℕ = a.1.1.0.now in
    let C : List ℕ = a.1.1.1.0.now in
    let b = a.1.1.1.1 in
    let q : Query = range_of b.0 b.1.0 b.1.1.0 b.1.1.1.0 in
    let out : List ℕ = b.1.1.1.1.0.now in
    Told (refuse 102 (BadBound b.0 b.1.1.0) (find_all_rows m W C q)) (tally_places (find_all_call m W C q out).answer)
    b.1.1.1.1.1.0.now s.1.1.1.1.1.1.1.1.1.0.now r
find_all_told κs a r s p =
    let m : Map = map_of a.0 a.1.0 in
    let W : List ℕ = a.1.1.0.now in
    let C : List ℕ = a.1.1.1.0.now in
    let b = a.1.1.1.1 in
    let q : Query = range_of b.0 b.1.0 b.1.1.0 b.1.1.1.0 in
    let out : List ℕ = b.1.1.1.1.0.now in
    told_ranged (find_all_rows m W C q) (tally_reply (find_all_call m W C q out).answer)
    b.1.1.1.1.1.0.now s.1.1.1.1.1.1.1.1.1.0.now r
    b.0 b.1.1.0 (omega arith) (omega arith) (find_all_refusals m W C q out) _ _ _ p

-- `iset_find_all_exact`
pub find_all_exact_told : (κs : Lfts 4) (a : K.Dens κs find-all-exact-kinds.ps) (r : (K.res_t find-all-exact-kinds.r κs).Denot) (s : AtExit (K.ended_of 4 find-all-exact-kinds.ps find-all-exact-kinds.r) κs)
    → find-all-exact-reads.Post κs a r s
    → let m : Map = map_of a.0 a.1.0 in
    let W : List ℕ = a.1.1.0.now in
    let C : List ℕ = a.1.1.1.0.now in
    let b = a.1.1.1.1 in
    let q : Query = Exact (record { start = b.0; end = b.1.0 }) in
    let out : List ℕ = b.1.1.0.now in
    Told (find_all_rows m W C q) (tally_places (find_all_call m W C q out).answer)
    b.1.1.1.0.now s.1.1.1.1.1.1.1.0.now r
find_all_exact_told κs a r s p =
    let m : Map = map_of a.0 a.1.0 in
    let W : List ℕ = a.1.1.0.now in
    let C : List ℕ = a.1.1.1.0.now in
    let b = a.1.1.1.1 in
    let q : Query = Exact (record { start = b.0; end = b.1.0 }) in
    let out : List ℕ = b.1.1.0.now in
    told (find_all_rows m W C q) true (tally_reply (find_all_call m W C q out).answer)
    b.1.1.1.0.now s.1.1.1.1.1.1.1.0.now r
    (omega arith) (find_all_refusals m W C q out) _ _ _ p
