-- The same of the calls of either layout: the eight-word form of the words says all of them.
use Rattle.std.proofs.Common.{◌≡◌, ℕ, Bool, List, sym, ap, ◌∙◌}
use contract.Lifetimes.{Lfts}
use borrow.Fn.Kinds as K
use denote.Triple.Clauses.{AtExit}
use Rattle.words.specs.Layouts.{as_eight}
use Rattle.words.proofs.Layouts.{eight_injective}
use Rattle.iset.specs.Effects.{Effect, effect}
use Rattle.iset.proofs.Determined.{same_effect, same_output, built_back, built_at, checked_back, checked_at, drain_back, drain_at, insertion_back, insertion_at, looked_back, looked_at, reading_back, reading_at, removal_back, removal_at, renumbering_back, renumbering_at, started_back, started_at, stepped_back, stepped_at, unloading_back, unloading_at, written_back, written_at}
use Rattle.iset.proofs.Map.check_in.Reads as check-reads
use Rattle.iset.proofs.Map.check_in.Kinds as check-kinds
use Rattle.iset.proofs.Map.build_in.Reads as build-reads
use Rattle.iset.proofs.Map.build_in.Kinds as build-kinds
use Rattle.iset.proofs.Map.insert_in.Reads as insert-reads
use Rattle.iset.proofs.Map.insert_in.Kinds as insert-kinds
use Rattle.iset.proofs.Map.open_insert_in.Reads as open-insert-reads
use Rattle.iset.proofs.Map.open_insert_in.Kinds as open-insert-kinds
use Rattle.iset.proofs.Map.remove_in.Reads as remove-reads
use Rattle.iset.proofs.Map.remove_in.Kinds as remove-kinds
use Rattle.iset.proofs.Map.open_remove_in.Reads as open-remove-reads
use Rattle.iset.proofs.Map.open_remove_in.Kinds as open-remove-kinds
use Rattle.iset.proofs.Map.unload_in.Reads as unload-reads
use Rattle.iset.proofs.Map.unload_in.Kinds as unload-kinds
use Rattle.iset.proofs.Map.open_unload_in.Reads as open-unload-reads
use Rattle.iset.proofs.Map.open_unload_in.Kinds as open-unload-kinds
use Rattle.iset.proofs.Map.propose_in.Reads as propose-reads
use Rattle.iset.proofs.Map.propose_in.Kinds as propose-kinds
use Rattle.iset.proofs.Map.open_propose_in.Reads as open-propose-reads
use Rattle.iset.proofs.Map.open_propose_in.Kinds as open-propose-kinds
use Rattle.iset.proofs.Map.renumber_in.Reads as renumber-reads
use Rattle.iset.proofs.Map.renumber_in.Kinds as renumber-kinds
use Rattle.iset.proofs.Map.open_renumber_in.Reads as open-renumber-reads
use Rattle.iset.proofs.Map.open_renumber_in.Kinds as open-renumber-kinds
use Rattle.iset.proofs.Map.read_in.Reads as read-reads
use Rattle.iset.proofs.Map.read_in.Kinds as read-kinds
use Rattle.iset.proofs.Map.open_read_in.Reads as open-read-reads
use Rattle.iset.proofs.Map.open_read_in.Kinds as open-read-kinds
use Rattle.iset.proofs.Map.fresh_exact_in.Reads as fresh-exact-reads
use Rattle.iset.proofs.Map.fresh_exact_in.Kinds as fresh-exact-kinds
use Rattle.iset.proofs.Map.open_fresh_exact_in.Reads as open-fresh-exact-reads
use Rattle.iset.proofs.Map.open_fresh_exact_in.Kinds as open-fresh-exact-kinds
use Rattle.iset.proofs.Map.step_in.Reads as step-reads
use Rattle.iset.proofs.Map.step_in.Kinds as step-kinds
use Rattle.iset.proofs.Map.open_step_in.Reads as open-step-reads
use Rattle.iset.proofs.Map.open_step_in.Kinds as open-step-kinds
use Rattle.iset.proofs.Map.drain_in.Reads as drain-reads
use Rattle.iset.proofs.Map.drain_in.Kinds as drain-kinds
use Rattle.iset.proofs.Map.open_drain_in.Reads as open-drain-reads
use Rattle.iset.proofs.Map.open_drain_in.Kinds as open-drain-kinds
use Rattle.iset.proofs.Map.find_all_in.Reads as find-all-reads
use Rattle.iset.proofs.Map.find_all_in.Kinds as find-all-kinds
use Rattle.iset.proofs.Map.open_find_all_in.Reads as open-find-all-reads
use Rattle.iset.proofs.Map.open_find_all_in.Kinds as open-find-all-kinds
use Rattle.iset.proofs.Map.plain_in.Reads as plain-reads
use Rattle.iset.proofs.Map.plain_in.Kinds as plain-kinds
use Rattle.iset.proofs.Map.open_plain_in.Reads as open-plain-reads
use Rattle.iset.proofs.Map.open_plain_in.Kinds as open-plain-kinds
use Rattle.iset.proofs.Map.write_image_in.Reads as write-image-reads
use Rattle.iset.proofs.Map.write_image_in.Kinds as write-image-kinds
use Rattle.iset.proofs.Map.open_write_image_in.Reads as open-write-image-reads
use Rattle.iset.proofs.Map.open_write_image_in.Kinds as open-write-image-kinds
use Rattle.iset.proofs.Map.read_image_in.Reads as read-image-reads
use Rattle.iset.proofs.Map.read_image_in.Kinds as read-image-kinds

pub same_effect_in : {A B : Type 0} {a a' : A} {r r' : B} {N N' C C' : List ℕ} {x : Effect A} (narrow : Bool) (at : A → B) → at a ≡ r → at a' ≡ r'
    → effect a (as_eight narrow N) C ≡ x → effect a' (as_eight narrow N') C' ≡ x → (r ≡ r') × (N ≡ N') × (C ≡ C')
same_effect_in {N = N} {N' = N'} narrow at b b' p q =
    let e = same_effect at b b' p q in (e.0, eight_injective narrow N N' e.1, e.2)

pub check-in-determined :
    (κs : Lfts 2) (a : K.Dens κs check-kinds.ps) (r r' : (K.res_t check-kinds.r κs).Denot) (s s' : AtExit (K.ended_of 2 check-kinds.ps check-kinds.r) κs)
    → check-reads.Post κs a r s → check-reads.Post κs a r' s' → r ≡ r'
check-in-determined κs a r r' s s' p q = sym (checked_back r) ∙ ap checked_at (p ∙ sym q) ∙ checked_back r'

pub build-in-determined :
    (κs : Lfts 3) (a : K.Dens κs build-kinds.ps) (r r' : (K.res_t build-kinds.r κs).Denot) (s s' : AtExit (K.ended_of 3 build-kinds.ps build-kinds.r) κs)
    → build-reads.Post κs a r s → build-reads.Post κs a r' s' → (r ≡ r') × (s.1.0.now ≡ s'.1.0.now) × (s.1.1.1.0.now ≡ s'.1.1.1.0.now)
build-in-determined κs a r r' s s' p q = same_effect_in a.1.1.0 built_at (built_back a.0 r) (built_back a.0 r') p q

pub insert-in-determined :
    (κs : Lfts 2) (a : K.Dens κs insert-kinds.ps) (r r' : (K.res_t insert-kinds.r κs).Denot) (s s' : AtExit (K.ended_of 2 insert-kinds.ps insert-kinds.r) κs)
    → insert-reads.Post κs a r s → insert-reads.Post κs a r' s' → (r ≡ r') × (s.1.0.now ≡ s'.1.0.now) × (s.1.1.1.0.now ≡ s'.1.1.1.0.now)
insert-in-determined κs a r r' s s' p q = same_effect_in a.1.1.0 insertion_at (insertion_back _ r) (insertion_back _ r') p q

pub open-insert-in-determined :
    (κs : Lfts 2) (a : K.Dens κs open-insert-kinds.ps) (r r' : (K.res_t open-insert-kinds.r κs).Denot) (s s' : AtExit (K.ended_of 2 open-insert-kinds.ps open-insert-kinds.r) κs)
    → open-insert-reads.Post κs a r s → open-insert-reads.Post κs a r' s' → (r ≡ r') × (s.1.0.now ≡ s'.1.0.now) × (s.1.1.1.0.now ≡ s'.1.1.1.0.now)
open-insert-in-determined κs a r r' s s' p q = same_effect_in a.1.1.0 insertion_at (insertion_back _ r) (insertion_back _ r') p q

pub remove-in-determined :
    (κs : Lfts 2) (a : K.Dens κs remove-kinds.ps) (r r' : (K.res_t remove-kinds.r κs).Denot) (s s' : AtExit (K.ended_of 2 remove-kinds.ps remove-kinds.r) κs)
    → remove-reads.Post κs a r s → remove-reads.Post κs a r' s' → (r ≡ r') × (s.1.0.now ≡ s'.1.0.now) × (s.1.1.1.0.now ≡ s'.1.1.1.0.now)
remove-in-determined κs a r r' s s' p q = same_effect_in a.1.1.0 removal_at (removal_back _ r) (removal_back _ r') p q

pub open-remove-in-determined :
    (κs : Lfts 2) (a : K.Dens κs open-remove-kinds.ps) (r r' : (K.res_t open-remove-kinds.r κs).Denot) (s s' : AtExit (K.ended_of 2 open-remove-kinds.ps open-remove-kinds.r) κs)
    → open-remove-reads.Post κs a r s → open-remove-reads.Post κs a r' s' → (r ≡ r') × (s.1.0.now ≡ s'.1.0.now) × (s.1.1.1.0.now ≡ s'.1.1.1.0.now)
open-remove-in-determined κs a r r' s s' p q = same_effect_in a.1.1.0 removal_at (removal_back _ r) (removal_back _ r') p q

pub unload-in-determined :
    (κs : Lfts 2) (a : K.Dens κs unload-kinds.ps) (r r' : (K.res_t unload-kinds.r κs).Denot) (s s' : AtExit (K.ended_of 2 unload-kinds.ps unload-kinds.r) κs)
    → unload-reads.Post κs a r s → unload-reads.Post κs a r' s' → (r ≡ r') × (s.1.0.now ≡ s'.1.0.now) × (s.1.1.1.0.now ≡ s'.1.1.1.0.now)
unload-in-determined κs a r r' s s' p q = same_effect_in a.1.1.0 unloading_at (unloading_back _ r) (unloading_back _ r') p q

pub open-unload-in-determined :
    (κs : Lfts 2) (a : K.Dens κs open-unload-kinds.ps) (r r' : (K.res_t open-unload-kinds.r κs).Denot) (s s' : AtExit (K.ended_of 2 open-unload-kinds.ps open-unload-kinds.r) κs)
    → open-unload-reads.Post κs a r s → open-unload-reads.Post κs a r' s' → (r ≡ r') × (s.1.0.now ≡ s'.1.0.now) × (s.1.1.1.0.now ≡ s'.1.1.1.0.now)
open-unload-in-determined κs a r r' s s' p q = same_effect_in a.1.1.0 unloading_at (unloading_back _ r) (unloading_back _ r') p q

pub propose-in-determined :
    (κs : Lfts 3) (a : K.Dens κs propose-kinds.ps) (r r' : (K.res_t propose-kinds.r κs).Denot) (s s' : AtExit (K.ended_of 3 propose-kinds.ps propose-kinds.r) κs)
    → propose-reads.Post κs a r s → propose-reads.Post κs a r' s' → (r ≡ r') × (s.1.1.1.1.0.now ≡ s'.1.1.1.1.0.now)
propose-in-determined κs a r r' s s' p q = same_output checked_at (checked_back r) (checked_back r') p q

pub open-propose-in-determined :
    (κs : Lfts 3) (a : K.Dens κs open-propose-kinds.ps) (r r' : (K.res_t open-propose-kinds.r κs).Denot) (s s' : AtExit (K.ended_of 3 open-propose-kinds.ps open-propose-kinds.r) κs)
    → open-propose-reads.Post κs a r s → open-propose-reads.Post κs a r' s' → (r ≡ r') × (s.1.1.1.1.0.now ≡ s'.1.1.1.1.0.now)
open-propose-in-determined κs a r r' s s' p q = same_output checked_at (checked_back r) (checked_back r') p q

pub renumber_in_determined :
    (κs : Lfts 3) (a : K.Dens κs renumber-kinds.ps) (r r' : (K.res_t renumber-kinds.r κs).Denot) (s s' : AtExit (K.ended_of 3 renumber-kinds.ps renumber-kinds.r) κs)
    → renumber-reads.Post κs a r s → renumber-reads.Post κs a r' s' → (r ≡ r') × (s.1.0.now ≡ s'.1.0.now) × (s.1.1.1.0.now ≡ s'.1.1.1.0.now)
renumber_in_determined κs a r r' s s' p q = same_effect_in a.1.1.0 renumbering_at (renumbering_back _ r) (renumbering_back _ r') p q

pub open-renumber-in-determined :
    (κs : Lfts 3) (a : K.Dens κs open-renumber-kinds.ps) (r r' : (K.res_t open-renumber-kinds.r κs).Denot) (s s' : AtExit (K.ended_of 3 open-renumber-kinds.ps open-renumber-kinds.r) κs)
    → open-renumber-reads.Post κs a r s → open-renumber-reads.Post κs a r' s' → (r ≡ r') × (s.1.0.now ≡ s'.1.0.now) × (s.1.1.1.0.now ≡ s'.1.1.1.0.now)
open-renumber-in-determined κs a r r' s s' p q = same_effect_in a.1.1.0 renumbering_at (renumbering_back _ r) (renumbering_back _ r') p q

pub read-in-determined :
    (κs : Lfts 2) (a : K.Dens κs read-kinds.ps) (r r' : (K.res_t read-kinds.r κs).Denot) (s s' : AtExit (K.ended_of 2 read-kinds.ps read-kinds.r) κs)
    → read-reads.Post κs a r s → read-reads.Post κs a r' s' → r ≡ r'
read-in-determined κs a r r' s s' p q = sym (reading_back r) ∙ ap reading_at (p ∙ sym q) ∙ reading_back r'

pub open-read-in-determined :
    (κs : Lfts 2) (a : K.Dens κs open-read-kinds.ps) (r r' : (K.res_t open-read-kinds.r κs).Denot) (s s' : AtExit (K.ended_of 2 open-read-kinds.ps open-read-kinds.r) κs)
    → open-read-reads.Post κs a r s → open-read-reads.Post κs a r' s' → r ≡ r'
open-read-in-determined κs a r r' s s' p q = sym (reading_back r) ∙ ap reading_at (p ∙ sym q) ∙ reading_back r'

pub fresh-exact-in-determined :
    (κs : Lfts 2) (a : K.Dens κs fresh-exact-kinds.ps) (r r' : (K.res_t fresh-exact-kinds.r κs).Denot) (s s' : AtExit (K.ended_of 2 fresh-exact-kinds.ps fresh-exact-kinds.r) κs)
    → fresh-exact-reads.Post κs a r s → fresh-exact-reads.Post κs a r' s' → r ≡ r'
fresh-exact-in-determined κs a r r' s s' p q = sym (started_back r) ∙ ap started_at (p ∙ sym q) ∙ started_back r'

pub open-fresh-exact-in-determined :
    (κs : Lfts 2) (a : K.Dens κs open-fresh-exact-kinds.ps) (r r' : (K.res_t open-fresh-exact-kinds.r κs).Denot) (s s' : AtExit (K.ended_of 2 open-fresh-exact-kinds.ps open-fresh-exact-kinds.r) κs)
    → open-fresh-exact-reads.Post κs a r s → open-fresh-exact-reads.Post κs a r' s' → r ≡ r'
open-fresh-exact-in-determined κs a r r' s s' p q = sym (started_back r) ∙ ap started_at (p ∙ sym q) ∙ started_back r'

pub step-in-determined :
    (κs : Lfts 2) (a : K.Dens κs step-kinds.ps) (r r' : (K.res_t step-kinds.r κs).Denot) (s s' : AtExit (K.ended_of 2 step-kinds.ps step-kinds.r) κs)
    → step-reads.Post κs a r s → step-reads.Post κs a r' s' → r ≡ r'
step-in-determined κs a r r' s s' p q = sym (stepped_back _ r) ∙ ap stepped_at (p ∙ sym q) ∙ stepped_back _ r'

pub open-step-in-determined :
    (κs : Lfts 2) (a : K.Dens κs open-step-kinds.ps) (r r' : (K.res_t open-step-kinds.r κs).Denot) (s s' : AtExit (K.ended_of 2 open-step-kinds.ps open-step-kinds.r) κs)
    → open-step-reads.Post κs a r s → open-step-reads.Post κs a r' s' → r ≡ r'
open-step-in-determined κs a r r' s s' p q = sym (stepped_back _ r) ∙ ap stepped_at (p ∙ sym q) ∙ stepped_back _ r'

pub drain-in-determined :
    (κs : Lfts 3) (a : K.Dens κs drain-kinds.ps) (r r' : (K.res_t drain-kinds.r κs).Denot) (s s' : AtExit (K.ended_of 3 drain-kinds.ps drain-kinds.r) κs)
    → drain-reads.Post κs a r s → drain-reads.Post κs a r' s' → (r ≡ r') × (s.1.1.1.1.1.1.1.0.now ≡ s'.1.1.1.1.1.1.1.0.now)
drain-in-determined κs a r r' s s' p q = same_output drain_at (drain_back _ r) (drain_back _ r') p q

pub open-drain-in-determined :
    (κs : Lfts 3) (a : K.Dens κs open-drain-kinds.ps) (r r' : (K.res_t open-drain-kinds.r κs).Denot) (s s' : AtExit (K.ended_of 3 open-drain-kinds.ps open-drain-kinds.r) κs)
    → open-drain-reads.Post κs a r s → open-drain-reads.Post κs a r' s' → (r ≡ r') × (s.1.1.1.1.1.1.1.0.now ≡ s'.1.1.1.1.1.1.1.0.now)
open-drain-in-determined κs a r r' s s' p q = same_output drain_at (drain_back _ r) (drain_back _ r') p q

pub find-all-in-determined :
    (κs : Lfts 3) (a : K.Dens κs find-all-kinds.ps) (r r' : (K.res_t find-all-kinds.r κs).Denot) (s s' : AtExit (K.ended_of 3 find-all-kinds.ps find-all-kinds.r) κs)
    → find-all-reads.Post κs a r s → find-all-reads.Post κs a r' s' → (r ≡ r') × (s.1.1.1.1.1.0.now ≡ s'.1.1.1.1.1.0.now)
find-all-in-determined κs a r r' s s' p q = same_output looked_at (looked_back r) (looked_back r') p q

pub open-find-all-in-determined :
    (κs : Lfts 3) (a : K.Dens κs open-find-all-kinds.ps) (r r' : (K.res_t open-find-all-kinds.r κs).Denot)
    (s s' : AtExit (K.ended_of 3 open-find-all-kinds.ps open-find-all-kinds.r) κs)
    → open-find-all-reads.Post κs a r s → open-find-all-reads.Post κs a r' s' → (r ≡ r') × (s.1.1.1.1.1.0.now ≡ s'.1.1.1.1.1.0.now)
open-find-all-in-determined κs a r r' s s' p q = same_output looked_at (looked_back r) (looked_back r') p q

pub plain-in-determined :
    (κs : Lfts 3) (a : K.Dens κs plain-kinds.ps) (r r' : (K.res_t plain-kinds.r κs).Denot) (s s' : AtExit (K.ended_of 3 plain-kinds.ps plain-kinds.r) κs)
    → plain-reads.Post κs a r s → plain-reads.Post κs a r' s' → (r ≡ r') × (s.1.1.1.1.1.0.now ≡ s'.1.1.1.1.1.0.now)
plain-in-determined κs a r r' s s' p q = same_output looked_at (looked_back r) (looked_back r') p q

pub open-plain-in-determined :
    (κs : Lfts 3) (a : K.Dens κs open-plain-kinds.ps) (r r' : (K.res_t open-plain-kinds.r κs).Denot) (s s' : AtExit (K.ended_of 3 open-plain-kinds.ps open-plain-kinds.r) κs)
    → open-plain-reads.Post κs a r s → open-plain-reads.Post κs a r' s' → (r ≡ r') × (s.1.1.1.1.1.0.now ≡ s'.1.1.1.1.1.0.now)
open-plain-in-determined κs a r r' s s' p q = same_output looked_at (looked_back r) (looked_back r') p q

pub write-image-in-determined :
    (κs : Lfts 3) (a : K.Dens κs write-image-kinds.ps) (r r' : (K.res_t write-image-kinds.r κs).Denot)
    (s s' : AtExit (K.ended_of 3 write-image-kinds.ps write-image-kinds.r) κs)
    → write-image-reads.Post κs a r s → write-image-reads.Post κs a r' s' → (r ≡ r') × (s.1.1.1.1.0.now ≡ s'.1.1.1.1.0.now)
write-image-in-determined κs a r r' s s' p q = same_output written_at (written_back r) (written_back r') p q

pub open-write-image-in-determined :
    (κs : Lfts 3) (a : K.Dens κs open-write-image-kinds.ps) (r r' : (K.res_t open-write-image-kinds.r κs).Denot)
    (s s' : AtExit (K.ended_of 3 open-write-image-kinds.ps open-write-image-kinds.r) κs)
    → open-write-image-reads.Post κs a r s → open-write-image-reads.Post κs a r' s' → (r ≡ r') × (s.1.1.1.1.0.now ≡ s'.1.1.1.1.0.now)
open-write-image-in-determined κs a r r' s s' p q = same_output written_at (written_back r) (written_back r') p q

pub read-image-in-determined :
    (κs : Lfts 3) (a : K.Dens κs read-image-kinds.ps) (r r' : (K.res_t read-image-kinds.r κs).Denot)
    (s s' : AtExit (K.ended_of 3 read-image-kinds.ps read-image-kinds.r) κs)
    → read-image-reads.Post κs a r s → read-image-reads.Post κs a r' s' → (r ≡ r') × (s.1.0.now ≡ s'.1.0.now) × (s.1.1.1.0.now ≡ s'.1.1.1.0.now)
read-image-in-determined κs a r r' s s' p q = same_effect_in a.1.1.0 built_at (built_back a.0 r) (built_back a.0 r') p q
