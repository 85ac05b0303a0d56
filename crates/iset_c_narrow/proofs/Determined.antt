-- Any two numbers, and any two contents of each lent slice at exit, that an export's promise allows
-- are equal. Of the words the promise speaks by their eight-word form, which says all of them.
use mathlib.Core.Path.{◌≡◌, sym, ◌∙◌}
use mathlib.Core.List.{List, [], ◌∷◌}
use Prim.Native.Nat.{ℕ}
use contract.Lifetimes.{Lfts}
use borrow.Fn.Kinds as K
use denote.Triple.Clauses.{AtExit}
use Rattle.words.specs.Layouts.{unpack}
use Rattle.iset.proofs.Layouts.{unpack_injective}
use Rattle.iset_c.specs.Replies.{Exit, exit}
use Rattle.iset_c.proofs.Exits.{same_answer, same_effect, same_output, same_number}
use Rattle.iset_c_narrow.proofs.closed.iset_narrow_check.Reads as check-reads
use Rattle.iset_c_narrow.proofs.closed.iset_narrow_check.Kinds as check-kinds
use Rattle.iset_c_narrow.proofs.closed.iset_narrow_build.Reads as build-reads
use Rattle.iset_c_narrow.proofs.closed.iset_narrow_build.Kinds as build-kinds
use Rattle.iset_c_narrow.proofs.closed.iset_narrow_remove.Reads as remove-reads
use Rattle.iset_c_narrow.proofs.closed.iset_narrow_remove.Kinds as remove-kinds
use Rattle.iset_c_narrow.proofs.closed.iset_narrow_insert.Reads as insert-reads
use Rattle.iset_c_narrow.proofs.closed.iset_narrow_insert.Kinds as insert-kinds
use Rattle.iset_c_narrow.proofs.closed.iset_narrow_unload.Reads as unload-reads
use Rattle.iset_c_narrow.proofs.closed.iset_narrow_unload.Kinds as unload-kinds
use Rattle.iset_c_narrow.proofs.closed.iset_narrow_propose.Reads as propose-reads
use Rattle.iset_c_narrow.proofs.closed.iset_narrow_propose.Kinds as propose-kinds
use Rattle.iset_c_narrow.proofs.closed.iset_narrow_renumber.Reads as renumber-reads
use Rattle.iset_c_narrow.proofs.closed.iset_narrow_renumber.Kinds as renumber-kinds
use Rattle.iset_c_narrow.proofs.closed.iset_narrow_read.Reads as read-reads
use Rattle.iset_c_narrow.proofs.closed.iset_narrow_read.Kinds as read-kinds
use Rattle.iset_c_narrow.proofs.closed.iset_narrow_write_image.Reads as write-image-reads
use Rattle.iset_c_narrow.proofs.closed.iset_narrow_write_image.Kinds as write-image-kinds
use Rattle.iset_c_narrow.proofs.closed.iset_narrow_read_image.Reads as read-image-reads
use Rattle.iset_c_narrow.proofs.closed.iset_narrow_read_image.Kinds as read-image-kinds
use Rattle.iset_c_narrow.proofs.closed.iset_narrow_fresh_exact.Reads as fresh-exact-reads
use Rattle.iset_c_narrow.proofs.closed.iset_narrow_fresh_exact.Kinds as fresh-exact-kinds
use Rattle.iset_c_narrow.proofs.closed.iset_narrow_step.Reads as step-reads
use Rattle.iset_c_narrow.proofs.closed.iset_narrow_step.Kinds as step-kinds
use Rattle.iset_c_narrow.proofs.closed.iset_narrow_step_exact.Reads as step-exact-reads
use Rattle.iset_c_narrow.proofs.closed.iset_narrow_step_exact.Kinds as step-exact-kinds
use Rattle.iset_c_narrow.proofs.closed.iset_narrow_drain.Reads as drain-reads
use Rattle.iset_c_narrow.proofs.closed.iset_narrow_drain.Kinds as drain-kinds
use Rattle.iset_c_narrow.proofs.closed.iset_narrow_drain_exact.Reads as drain-exact-reads
use Rattle.iset_c_narrow.proofs.closed.iset_narrow_drain_exact.Kinds as drain-exact-kinds
use Rattle.iset_c_narrow.proofs.closed.iset_narrow_plain.Reads as plain-reads
use Rattle.iset_c_narrow.proofs.closed.iset_narrow_plain.Kinds as plain-kinds
use Rattle.iset_c_narrow.proofs.closed.iset_narrow_plain_exact.Reads as plain-exact-reads
use Rattle.iset_c_narrow.proofs.closed.iset_narrow_plain_exact.Kinds as plain-exact-kinds
use Rattle.iset_c_narrow.proofs.closed.iset_narrow_find_all.Reads as find-all-reads
use Rattle.iset_c_narrow.proofs.closed.iset_narrow_find_all.Kinds as find-all-kinds
use Rattle.iset_c_narrow.proofs.closed.iset_narrow_find_all_exact.Reads as find-all-exact-reads
use Rattle.iset_c_narrow.proofs.closed.iset_narrow_find_all_exact.Kinds as find-all-exact-kinds
use Rattle.iset_c_narrow.proofs.opened.iset_narrow_open_remove.Reads as open-remove-reads
use Rattle.iset_c_narrow.proofs.opened.iset_narrow_open_remove.Kinds as open-remove-kinds
use Rattle.iset_c_narrow.proofs.opened.iset_narrow_open_insert.Reads as open-insert-reads
use Rattle.iset_c_narrow.proofs.opened.iset_narrow_open_insert.Kinds as open-insert-kinds
use Rattle.iset_c_narrow.proofs.opened.iset_narrow_open_unload.Reads as open-unload-reads
use Rattle.iset_c_narrow.proofs.opened.iset_narrow_open_unload.Kinds as open-unload-kinds
use Rattle.iset_c_narrow.proofs.opened.iset_narrow_open_propose.Reads as open-propose-reads
use Rattle.iset_c_narrow.proofs.opened.iset_narrow_open_propose.Kinds as open-propose-kinds
use Rattle.iset_c_narrow.proofs.opened.iset_narrow_open_renumber.Reads as open-renumber-reads
use Rattle.iset_c_narrow.proofs.opened.iset_narrow_open_renumber.Kinds as open-renumber-kinds
use Rattle.iset_c_narrow.proofs.opened.iset_narrow_open_read.Reads as open-read-reads
use Rattle.iset_c_narrow.proofs.opened.iset_narrow_open_read.Kinds as open-read-kinds
use Rattle.iset_c_narrow.proofs.opened.iset_narrow_open_write_image.Reads as open-write-image-reads
use Rattle.iset_c_narrow.proofs.opened.iset_narrow_open_write_image.Kinds as open-write-image-kinds
use Rattle.iset_c_narrow.proofs.opened.iset_narrow_open_fresh_exact.Reads as open-fresh-exact-reads
use Rattle.iset_c_narrow.proofs.opened.iset_narrow_open_fresh_exact.Kinds as open-fresh-exact-kinds
use Rattle.iset_c_narrow.proofs.opened.iset_narrow_open_step.Reads as open-step-reads
use Rattle.iset_c_narrow.proofs.opened.iset_narrow_open_step.Kinds as open-step-kinds
use Rattle.iset_c_narrow.proofs.opened.iset_narrow_open_step_exact.Reads as open-step-exact-reads
use Rattle.iset_c_narrow.proofs.opened.iset_narrow_open_step_exact.Kinds as open-step-exact-kinds
use Rattle.iset_c_narrow.proofs.opened.iset_narrow_open_drain.Reads as open-drain-reads
use Rattle.iset_c_narrow.proofs.opened.iset_narrow_open_drain.Kinds as open-drain-kinds
use Rattle.iset_c_narrow.proofs.opened.iset_narrow_open_drain_exact.Reads as open-drain-exact-reads
use Rattle.iset_c_narrow.proofs.opened.iset_narrow_open_drain_exact.Kinds as open-drain-exact-kinds
use Rattle.iset_c_narrow.proofs.opened.iset_narrow_open_plain.Reads as open-plain-reads
use Rattle.iset_c_narrow.proofs.opened.iset_narrow_open_plain.Kinds as open-plain-kinds
use Rattle.iset_c_narrow.proofs.opened.iset_narrow_open_plain_exact.Reads as open-plain-exact-reads
use Rattle.iset_c_narrow.proofs.opened.iset_narrow_open_plain_exact.Kinds as open-plain-exact-kinds
use Rattle.iset_c_narrow.proofs.opened.iset_narrow_open_find_all.Reads as open-find-all-reads
use Rattle.iset_c_narrow.proofs.opened.iset_narrow_open_find_all.Kinds as open-find-all-kinds
use Rattle.iset_c_narrow.proofs.opened.iset_narrow_open_find_all_exact.Reads as open-find-all-exact-reads
use Rattle.iset_c_narrow.proofs.opened.iset_narrow_open_find_all_exact.Kinds as open-find-all-exact-kinds
use Rattle.iset_c_narrow.proofs.ruled.iset_narrow_step_ruled.Reads as step-ruled-reads
use Rattle.iset_c_narrow.proofs.ruled.iset_narrow_step_ruled.Kinds as step-ruled-kinds
use Rattle.iset_c_narrow.proofs.ruled.iset_narrow_drain_ruled.Reads as drain-ruled-reads
use Rattle.iset_c_narrow.proofs.ruled.iset_narrow_drain_ruled.Kinds as drain-ruled-kinds
use Rattle.iset_c_narrow.proofs.ruled.iset_narrow_plain_ruled.Reads as plain-ruled-reads
use Rattle.iset_c_narrow.proofs.ruled.iset_narrow_plain_ruled.Kinds as plain-ruled-kinds
use Rattle.iset_c_narrow.proofs.ruled.iset_narrow_find_all_ruled.Reads as find-all-ruled-reads
use Rattle.iset_c_narrow.proofs.ruled.iset_narrow_find_all_ruled.Kinds as find-all-ruled-kinds
use Rattle.iset_c_narrow.proofs.ruled.iset_narrow_unload_ruled.Reads as unload-ruled-reads
use Rattle.iset_c_narrow.proofs.ruled.iset_narrow_unload_ruled.Kinds as unload-ruled-kinds
use Rattle.iset_c_narrow.proofs.ruled.iset_narrow_open_step_ruled.Reads as open-step-ruled-reads
use Rattle.iset_c_narrow.proofs.ruled.iset_narrow_open_step_ruled.Kinds as open-step-ruled-kinds
use Rattle.iset_c_narrow.proofs.ruled.iset_narrow_open_drain_ruled.Reads as open-drain-ruled-reads
use Rattle.iset_c_narrow.proofs.ruled.iset_narrow_open_drain_ruled.Kinds as open-drain-ruled-kinds
use Rattle.iset_c_narrow.proofs.ruled.iset_narrow_open_plain_ruled.Reads as open-plain-ruled-reads
use Rattle.iset_c_narrow.proofs.ruled.iset_narrow_open_plain_ruled.Kinds as open-plain-ruled-kinds
use Rattle.iset_c_narrow.proofs.ruled.iset_narrow_open_find_all_ruled.Reads as open-find-all-ruled-reads
use Rattle.iset_c_narrow.proofs.ruled.iset_narrow_open_find_all_ruled.Kinds as open-find-all-ruled-kinds
use Rattle.iset_c_narrow.proofs.ruled.iset_narrow_open_unload_ruled.Reads as open-unload-ruled-reads
use Rattle.iset_c_narrow.proofs.ruled.iset_narrow_open_unload_ruled.Kinds as open-unload-ruled-kinds
use Rattle.iset_c_narrow.proofs.apart.iset_narrow_disjoint_check.Reads as disjoint-check-reads
use Rattle.iset_c_narrow.proofs.apart.iset_narrow_disjoint_check.Kinds as disjoint-check-kinds
use Rattle.iset_c_narrow.proofs.apart.iset_narrow_disjoint_point.Reads as disjoint-point-reads
use Rattle.iset_c_narrow.proofs.apart.iset_narrow_disjoint_point.Kinds as disjoint-point-kinds
use Rattle.iset_c_narrow.proofs.apart.iset_narrow_disjoint_insert.Reads as disjoint-insert-reads
use Rattle.iset_c_narrow.proofs.apart.iset_narrow_disjoint_insert.Kinds as disjoint-insert-kinds
use Rattle.iset_c_narrow.proofs.apart.iset_narrow_disjoint_remove.Reads as disjoint-remove-reads
use Rattle.iset_c_narrow.proofs.apart.iset_narrow_disjoint_remove.Kinds as disjoint-remove-kinds
use Rattle.iset_c_narrow.proofs.apart.iset_narrow_open_disjoint_point.Reads as open-disjoint-point-reads
use Rattle.iset_c_narrow.proofs.apart.iset_narrow_open_disjoint_point.Kinds as open-disjoint-point-kinds
use Rattle.iset_c_narrow.proofs.apart.iset_narrow_open_disjoint_insert.Reads as open-disjoint-insert-reads
use Rattle.iset_c_narrow.proofs.apart.iset_narrow_open_disjoint_insert.Kinds as open-disjoint-insert-kinds
use Rattle.iset_c_narrow.proofs.apart.iset_narrow_open_disjoint_remove.Reads as open-disjoint-remove-reads
use Rattle.iset_c_narrow.proofs.apart.iset_narrow_open_disjoint_remove.Kinds as open-disjoint-remove-kinds

same_six : {n k : ℕ} {A B N M C D : List ℕ} {x : Exit} → exit n A (unpack N ∷ C ∷ []) ≡ x → exit k B (unpack M ∷ D ∷ []) ≡ x
    → (n ≡ k) × (A ≡ B) × (N ≡ M) × (C ≡ D)
same_six {N = N} {M = M} p q = let e = same_effect p q in (e.0, e.1, unpack_injective N M e.2, e.3)

-- the exits are a product by parameter: the slice of parameter k is at `.1`, k times, then `.0`

pub check-determined :
    (κs : Lfts 2) (a : K.Dens κs check-kinds.ps) (r r' : (K.res_t check-kinds.r κs).Denot)
    (s s' : AtExit (K.ended_of 2 check-kinds.ps check-kinds.r) κs)
    → check-reads.Post κs a r s → check-reads.Post κs a r' s' → r ≡ r'
check-determined κs a r r' s s' p q = p ∙ sym q

pub build-determined :
    (κs : Lfts 4) (a : K.Dens κs build-kinds.ps) (r r' : (K.res_t build-kinds.r κs).Denot)
    (s s' : AtExit (K.ended_of 4 build-kinds.ps build-kinds.r) κs)
    → build-reads.Post κs a r s → build-reads.Post κs a r' s'
    → (r ≡ r')
    × (s.1.1.1.1.0.now ≡ s'.1.1.1.1.0.now)
    × (s.1.0.now ≡ s'.1.0.now)
    × (s.1.1.0.now ≡ s'.1.1.0.now)
build-determined κs a r r' s s' p q = same_six p q

pub remove-determined :
    (κs : Lfts 3) (a : K.Dens κs remove-kinds.ps) (r r' : (K.res_t remove-kinds.r κs).Denot)
    (s s' : AtExit (K.ended_of 3 remove-kinds.ps remove-kinds.r) κs)
    → remove-reads.Post κs a r s → remove-reads.Post κs a r' s'
    → (r ≡ r')
    × (s.1.1.1.1.1.1.0.now ≡ s'.1.1.1.1.1.1.0.now)
    × (s.1.1.1.0.now ≡ s'.1.1.1.0.now)
    × (s.1.1.1.1.0.now ≡ s'.1.1.1.1.0.now)
remove-determined κs a r r' s s' p q = same_six p q

pub insert-determined :
    (κs : Lfts 3) (a : K.Dens κs insert-kinds.ps) (r r' : (K.res_t insert-kinds.r κs).Denot)
    (s s' : AtExit (K.ended_of 3 insert-kinds.ps insert-kinds.r) κs)
    → insert-reads.Post κs a r s → insert-reads.Post κs a r' s'
    → (r ≡ r')
    × (s.1.1.1.1.1.1.1.1.0.now ≡ s'.1.1.1.1.1.1.1.1.0.now)
    × (s.1.1.1.0.now ≡ s'.1.1.1.0.now)
    × (s.1.1.1.1.0.now ≡ s'.1.1.1.1.0.now)
insert-determined κs a r r' s s' p q = same_six p q

pub unload-determined :
    (κs : Lfts 3) (a : K.Dens κs unload-kinds.ps) (r r' : (K.res_t unload-kinds.r κs).Denot)
    (s s' : AtExit (K.ended_of 3 unload-kinds.ps unload-kinds.r) κs)
    → unload-reads.Post κs a r s → unload-reads.Post κs a r' s'
    → (r ≡ r')
    × (s.1.1.1.1.1.1.1.1.1.0.now ≡ s'.1.1.1.1.1.1.1.1.1.0.now)
    × (s.1.1.1.0.now ≡ s'.1.1.1.0.now)
    × (s.1.1.1.1.0.now ≡ s'.1.1.1.1.0.now)
unload-determined κs a r r' s s' p q = same_six p q

pub propose-determined :
    (κs : Lfts 3) (a : K.Dens κs propose-kinds.ps) (r r' : (K.res_t propose-kinds.r κs).Denot)
    (s s' : AtExit (K.ended_of 3 propose-kinds.ps propose-kinds.r) κs)
    → propose-reads.Post κs a r s → propose-reads.Post κs a r' s'
    → (r ≡ r')
    × (s.1.1.1.1.0.now ≡ s'.1.1.1.1.0.now)
propose-determined κs a r r' s s' p q = same_number p q

pub renumber-determined :
    (κs : Lfts 4) (a : K.Dens κs renumber-kinds.ps) (r r' : (K.res_t renumber-kinds.r κs).Denot)
    (s s' : AtExit (K.ended_of 4 renumber-kinds.ps renumber-kinds.r) κs)
    → renumber-reads.Post κs a r s → renumber-reads.Post κs a r' s'
    → (r ≡ r')
    × (s.1.1.1.1.1.1.0.now ≡ s'.1.1.1.1.1.1.0.now)
    × (s.1.1.1.0.now ≡ s'.1.1.1.0.now)
    × (s.1.1.1.1.0.now ≡ s'.1.1.1.1.0.now)
renumber-determined κs a r r' s s' p q = same_six p q

pub read-determined :
    (κs : Lfts 3) (a : K.Dens κs read-kinds.ps) (r r' : (K.res_t read-kinds.r κs).Denot)
    (s s' : AtExit (K.ended_of 3 read-kinds.ps read-kinds.r) κs)
    → read-reads.Post κs a r s → read-reads.Post κs a r' s'
    → (r ≡ r')
    × (s.1.1.1.1.1.1.1.0.now ≡ s'.1.1.1.1.1.1.1.0.now)
read-determined κs a r r' s s' p q = same_answer p q

pub write-image-determined :
    (κs : Lfts 4) (a : K.Dens κs write-image-kinds.ps) (r r' : (K.res_t write-image-kinds.r κs).Denot)
    (s s' : AtExit (K.ended_of 4 write-image-kinds.ps write-image-kinds.r) κs)
    → write-image-reads.Post κs a r s → write-image-reads.Post κs a r' s'
    → (r ≡ r')
    × (s.1.1.1.1.1.0.now ≡ s'.1.1.1.1.1.0.now)
    × (s.1.1.1.1.0.now ≡ s'.1.1.1.1.0.now)
write-image-determined κs a r r' s s' p q = same_output p q

pub read-image-determined :
    (κs : Lfts 4) (a : K.Dens κs read-image-kinds.ps) (r r' : (K.res_t read-image-kinds.r κs).Denot)
    (s s' : AtExit (K.ended_of 4 read-image-kinds.ps read-image-kinds.r) κs)
    → read-image-reads.Post κs a r s → read-image-reads.Post κs a r' s'
    → (r ≡ r')
    × (s.1.1.1.1.0.now ≡ s'.1.1.1.1.0.now)
    × (s.1.0.now ≡ s'.1.0.now)
    × (s.1.1.0.now ≡ s'.1.1.0.now)
read-image-determined κs a r r' s s' p q = same_six p q

pub fresh-exact-determined :
    (κs : Lfts 3) (a : K.Dens κs fresh-exact-kinds.ps) (r r' : (K.res_t fresh-exact-kinds.r κs).Denot)
    (s s' : AtExit (K.ended_of 3 fresh-exact-kinds.ps fresh-exact-kinds.r) κs)
    → fresh-exact-reads.Post κs a r s → fresh-exact-reads.Post κs a r' s'
    → (r ≡ r')
    × (s.1.1.1.1.1.1.0.now ≡ s'.1.1.1.1.1.1.0.now)
fresh-exact-determined κs a r r' s s' p q = same_answer p q

pub step-determined :
    (κs : Lfts 3) (a : K.Dens κs step-kinds.ps) (r r' : (K.res_t step-kinds.r κs).Denot)
    (s s' : AtExit (K.ended_of 3 step-kinds.ps step-kinds.r) κs)
    → step-reads.Post κs a r s → step-reads.Post κs a r' s'
    → (r ≡ r')
    × (s.1.1.1.1.1.1.1.1.1.1.1.0.now ≡ s'.1.1.1.1.1.1.1.1.1.1.1.0.now)
step-determined κs a r r' s s' p q = same_answer p q

pub step-exact-determined :
    (κs : Lfts 3) (a : K.Dens κs step-exact-kinds.ps) (r r' : (K.res_t step-exact-kinds.r κs).Denot)
    (s s' : AtExit (K.ended_of 3 step-exact-kinds.ps step-exact-kinds.r) κs)
    → step-exact-reads.Post κs a r s → step-exact-reads.Post κs a r' s'
    → (r ≡ r')
    × (s.1.1.1.1.1.1.1.1.1.0.now ≡ s'.1.1.1.1.1.1.1.1.1.0.now)
step-exact-determined κs a r r' s s' p q = same_answer p q

pub drain-determined :
    (κs : Lfts 4) (a : K.Dens κs drain-kinds.ps) (r r' : (K.res_t drain-kinds.r κs).Denot)
    (s s' : AtExit (K.ended_of 4 drain-kinds.ps drain-kinds.r) κs)
    → drain-reads.Post κs a r s → drain-reads.Post κs a r' s'
    → (r ≡ r')
    × (s.1.1.1.1.1.1.1.1.1.1.1.1.1.0.now ≡ s'.1.1.1.1.1.1.1.1.1.1.1.1.1.0.now)
    × (s.1.1.1.1.1.1.1.1.1.1.1.1.0.now ≡ s'.1.1.1.1.1.1.1.1.1.1.1.1.0.now)
drain-determined κs a r r' s s' p q = same_output p q

pub drain-exact-determined :
    (κs : Lfts 4) (a : K.Dens κs drain-exact-kinds.ps) (r r' : (K.res_t drain-exact-kinds.r κs).Denot)
    (s s' : AtExit (K.ended_of 4 drain-exact-kinds.ps drain-exact-kinds.r) κs)
    → drain-exact-reads.Post κs a r s → drain-exact-reads.Post κs a r' s'
    → (r ≡ r')
    × (s.1.1.1.1.1.1.1.1.1.1.1.0.now ≡ s'.1.1.1.1.1.1.1.1.1.1.1.0.now)
    × (s.1.1.1.1.1.1.1.1.1.1.0.now ≡ s'.1.1.1.1.1.1.1.1.1.1.0.now)
drain-exact-determined κs a r r' s s' p q = same_output p q

pub plain-determined :
    (κs : Lfts 4) (a : K.Dens κs plain-kinds.ps) (r r' : (K.res_t plain-kinds.r κs).Denot)
    (s s' : AtExit (K.ended_of 4 plain-kinds.ps plain-kinds.r) κs)
    → plain-reads.Post κs a r s → plain-reads.Post κs a r' s'
    → (r ≡ r')
    × (s.1.1.1.1.1.1.1.1.1.0.now ≡ s'.1.1.1.1.1.1.1.1.1.0.now)
    × (s.1.1.1.1.1.1.1.1.0.now ≡ s'.1.1.1.1.1.1.1.1.0.now)
plain-determined κs a r r' s s' p q = same_output p q

pub plain-exact-determined :
    (κs : Lfts 4) (a : K.Dens κs plain-exact-kinds.ps) (r r' : (K.res_t plain-exact-kinds.r κs).Denot)
    (s s' : AtExit (K.ended_of 4 plain-exact-kinds.ps plain-exact-kinds.r) κs)
    → plain-exact-reads.Post κs a r s → plain-exact-reads.Post κs a r' s'
    → (r ≡ r')
    × (s.1.1.1.1.1.1.1.0.now ≡ s'.1.1.1.1.1.1.1.0.now)
    × (s.1.1.1.1.1.1.0.now ≡ s'.1.1.1.1.1.1.0.now)
plain-exact-determined κs a r r' s s' p q = same_output p q

pub find-all-determined :
    (κs : Lfts 4) (a : K.Dens κs find-all-kinds.ps) (r r' : (K.res_t find-all-kinds.r κs).Denot)
    (s s' : AtExit (K.ended_of 4 find-all-kinds.ps find-all-kinds.r) κs)
    → find-all-reads.Post κs a r s → find-all-reads.Post κs a r' s'
    → (r ≡ r')
    × (s.1.1.1.1.1.1.1.1.1.0.now ≡ s'.1.1.1.1.1.1.1.1.1.0.now)
    × (s.1.1.1.1.1.1.1.1.0.now ≡ s'.1.1.1.1.1.1.1.1.0.now)
find-all-determined κs a r r' s s' p q = same_output p q

pub find-all-exact-determined :
    (κs : Lfts 4) (a : K.Dens κs find-all-exact-kinds.ps) (r r' : (K.res_t find-all-exact-kinds.r κs).Denot)
    (s s' : AtExit (K.ended_of 4 find-all-exact-kinds.ps find-all-exact-kinds.r) κs)
    → find-all-exact-reads.Post κs a r s → find-all-exact-reads.Post κs a r' s'
    → (r ≡ r')
    × (s.1.1.1.1.1.1.1.0.now ≡ s'.1.1.1.1.1.1.1.0.now)
    × (s.1.1.1.1.1.1.0.now ≡ s'.1.1.1.1.1.1.0.now)
find-all-exact-determined κs a r r' s s' p q = same_output p q

pub open-remove-determined :
    (κs : Lfts 3) (a : K.Dens κs open-remove-kinds.ps) (r r' : (K.res_t open-remove-kinds.r κs).Denot)
    (s s' : AtExit (K.ended_of 3 open-remove-kinds.ps open-remove-kinds.r) κs)
    → open-remove-reads.Post κs a r s → open-remove-reads.Post κs a r' s'
    → (r ≡ r')
    × (s.1.1.1.1.1.1.0.now ≡ s'.1.1.1.1.1.1.0.now)
    × (s.1.1.1.0.now ≡ s'.1.1.1.0.now)
    × (s.1.1.1.1.0.now ≡ s'.1.1.1.1.0.now)
open-remove-determined κs a r r' s s' p q = same_six p q

pub open-insert-determined :
    (κs : Lfts 3) (a : K.Dens κs open-insert-kinds.ps) (r r' : (K.res_t open-insert-kinds.r κs).Denot)
    (s s' : AtExit (K.ended_of 3 open-insert-kinds.ps open-insert-kinds.r) κs)
    → open-insert-reads.Post κs a r s → open-insert-reads.Post κs a r' s'
    → (r ≡ r')
    × (s.1.1.1.1.1.1.1.1.0.now ≡ s'.1.1.1.1.1.1.1.1.0.now)
    × (s.1.1.1.0.now ≡ s'.1.1.1.0.now)
    × (s.1.1.1.1.0.now ≡ s'.1.1.1.1.0.now)
open-insert-determined κs a r r' s s' p q = same_six p q

pub open-unload-determined :
    (κs : Lfts 3) (a : K.Dens κs open-unload-kinds.ps) (r r' : (K.res_t open-unload-kinds.r κs).Denot)
    (s s' : AtExit (K.ended_of 3 open-unload-kinds.ps open-unload-kinds.r) κs)
    → open-unload-reads.Post κs a r s → open-unload-reads.Post κs a r' s'
    → (r ≡ r')
    × (s.1.1.1.1.1.1.1.1.1.0.now ≡ s'.1.1.1.1.1.1.1.1.1.0.now)
    × (s.1.1.1.0.now ≡ s'.1.1.1.0.now)
    × (s.1.1.1.1.0.now ≡ s'.1.1.1.1.0.now)
open-unload-determined κs a r r' s s' p q = same_six p q

pub open-propose-determined :
    (κs : Lfts 3) (a : K.Dens κs open-propose-kinds.ps) (r r' : (K.res_t open-propose-kinds.r κs).Denot)
    (s s' : AtExit (K.ended_of 3 open-propose-kinds.ps open-propose-kinds.r) κs)
    → open-propose-reads.Post κs a r s → open-propose-reads.Post κs a r' s'
    → (r ≡ r')
    × (s.1.1.1.1.0.now ≡ s'.1.1.1.1.0.now)
open-propose-determined κs a r r' s s' p q = same_number p q

pub open-renumber-determined :
    (κs : Lfts 4) (a : K.Dens κs open-renumber-kinds.ps) (r r' : (K.res_t open-renumber-kinds.r κs).Denot)
    (s s' : AtExit (K.ended_of 4 open-renumber-kinds.ps open-renumber-kinds.r) κs)
    → open-renumber-reads.Post κs a r s → open-renumber-reads.Post κs a r' s'
    → (r ≡ r')
    × (s.1.1.1.1.1.1.0.now ≡ s'.1.1.1.1.1.1.0.now)
    × (s.1.1.1.0.now ≡ s'.1.1.1.0.now)
    × (s.1.1.1.1.0.now ≡ s'.1.1.1.1.0.now)
open-renumber-determined κs a r r' s s' p q = same_six p q

pub open-read-determined :
    (κs : Lfts 3) (a : K.Dens κs open-read-kinds.ps) (r r' : (K.res_t open-read-kinds.r κs).Denot)
    (s s' : AtExit (K.ended_of 3 open-read-kinds.ps open-read-kinds.r) κs)
    → open-read-reads.Post κs a r s → open-read-reads.Post κs a r' s'
    → (r ≡ r')
    × (s.1.1.1.1.1.1.1.0.now ≡ s'.1.1.1.1.1.1.1.0.now)
open-read-determined κs a r r' s s' p q = same_answer p q

pub open-write-image-determined :
    (κs : Lfts 4) (a : K.Dens κs open-write-image-kinds.ps) (r r' : (K.res_t open-write-image-kinds.r κs).Denot)
    (s s' : AtExit (K.ended_of 4 open-write-image-kinds.ps open-write-image-kinds.r) κs)
    → open-write-image-reads.Post κs a r s → open-write-image-reads.Post κs a r' s'
    → (r ≡ r')
    × (s.1.1.1.1.1.0.now ≡ s'.1.1.1.1.1.0.now)
    × (s.1.1.1.1.0.now ≡ s'.1.1.1.1.0.now)
open-write-image-determined κs a r r' s s' p q = same_output p q

pub open-fresh-exact-determined :
    (κs : Lfts 3) (a : K.Dens κs open-fresh-exact-kinds.ps) (r r' : (K.res_t open-fresh-exact-kinds.r κs).Denot)
    (s s' : AtExit (K.ended_of 3 open-fresh-exact-kinds.ps open-fresh-exact-kinds.r) κs)
    → open-fresh-exact-reads.Post κs a r s → open-fresh-exact-reads.Post κs a r' s'
    → (r ≡ r')
    × (s.1.1.1.1.1.1.0.now ≡ s'.1.1.1.1.1.1.0.now)
open-fresh-exact-determined κs a r r' s s' p q = same_answer p q

pub open-step-determined :
    (κs : Lfts 3) (a : K.Dens κs open-step-kinds.ps) (r r' : (K.res_t open-step-kinds.r κs).Denot)
    (s s' : AtExit (K.ended_of 3 open-step-kinds.ps open-step-kinds.r) κs)
    → open-step-reads.Post κs a r s → open-step-reads.Post κs a r' s'
    → (r ≡ r')
    × (s.1.1.1.1.1.1.1.1.1.1.1.0.now ≡ s'.1.1.1.1.1.1.1.1.1.1.1.0.now)
open-step-determined κs a r r' s s' p q = same_answer p q

pub open-step-exact-determined :
    (κs : Lfts 3) (a : K.Dens κs open-step-exact-kinds.ps) (r r' : (K.res_t open-step-exact-kinds.r κs).Denot)
    (s s' : AtExit (K.ended_of 3 open-step-exact-kinds.ps open-step-exact-kinds.r) κs)
    → open-step-exact-reads.Post κs a r s → open-step-exact-reads.Post κs a r' s'
    → (r ≡ r')
    × (s.1.1.1.1.1.1.1.1.1.0.now ≡ s'.1.1.1.1.1.1.1.1.1.0.now)
open-step-exact-determined κs a r r' s s' p q = same_answer p q

pub open-drain-determined :
    (κs : Lfts 4) (a : K.Dens κs open-drain-kinds.ps) (r r' : (K.res_t open-drain-kinds.r κs).Denot)
    (s s' : AtExit (K.ended_of 4 open-drain-kinds.ps open-drain-kinds.r) κs)
    → open-drain-reads.Post κs a r s → open-drain-reads.Post κs a r' s'
    → (r ≡ r')
    × (s.1.1.1.1.1.1.1.1.1.1.1.1.1.0.now ≡ s'.1.1.1.1.1.1.1.1.1.1.1.1.1.0.now)
    × (s.1.1.1.1.1.1.1.1.1.1.1.1.0.now ≡ s'.1.1.1.1.1.1.1.1.1.1.1.1.0.now)
open-drain-determined κs a r r' s s' p q = same_output p q

pub open-drain-exact-determined :
    (κs : Lfts 4) (a : K.Dens κs open-drain-exact-kinds.ps) (r r' : (K.res_t open-drain-exact-kinds.r κs).Denot)
    (s s' : AtExit (K.ended_of 4 open-drain-exact-kinds.ps open-drain-exact-kinds.r) κs)
    → open-drain-exact-reads.Post κs a r s → open-drain-exact-reads.Post κs a r' s'
    → (r ≡ r')
    × (s.1.1.1.1.1.1.1.1.1.1.1.0.now ≡ s'.1.1.1.1.1.1.1.1.1.1.1.0.now)
    × (s.1.1.1.1.1.1.1.1.1.1.0.now ≡ s'.1.1.1.1.1.1.1.1.1.1.0.now)
open-drain-exact-determined κs a r r' s s' p q = same_output p q

pub open-plain-determined :
    (κs : Lfts 4) (a : K.Dens κs open-plain-kinds.ps) (r r' : (K.res_t open-plain-kinds.r κs).Denot)
    (s s' : AtExit (K.ended_of 4 open-plain-kinds.ps open-plain-kinds.r) κs)
    → open-plain-reads.Post κs a r s → open-plain-reads.Post κs a r' s'
    → (r ≡ r')
    × (s.1.1.1.1.1.1.1.1.1.0.now ≡ s'.1.1.1.1.1.1.1.1.1.0.now)
    × (s.1.1.1.1.1.1.1.1.0.now ≡ s'.1.1.1.1.1.1.1.1.0.now)
open-plain-determined κs a r r' s s' p q = same_output p q

pub open-plain-exact-determined :
    (κs : Lfts 4) (a : K.Dens κs open-plain-exact-kinds.ps) (r r' : (K.res_t open-plain-exact-kinds.r κs).Denot)
    (s s' : AtExit (K.ended_of 4 open-plain-exact-kinds.ps open-plain-exact-kinds.r) κs)
    → open-plain-exact-reads.Post κs a r s → open-plain-exact-reads.Post κs a r' s'
    → (r ≡ r')
    × (s.1.1.1.1.1.1.1.0.now ≡ s'.1.1.1.1.1.1.1.0.now)
    × (s.1.1.1.1.1.1.0.now ≡ s'.1.1.1.1.1.1.0.now)
open-plain-exact-determined κs a r r' s s' p q = same_output p q

pub open-find-all-determined :
    (κs : Lfts 4) (a : K.Dens κs open-find-all-kinds.ps) (r r' : (K.res_t open-find-all-kinds.r κs).Denot)
    (s s' : AtExit (K.ended_of 4 open-find-all-kinds.ps open-find-all-kinds.r) κs)
    → open-find-all-reads.Post κs a r s → open-find-all-reads.Post κs a r' s'
    → (r ≡ r')
    × (s.1.1.1.1.1.1.1.1.1.0.now ≡ s'.1.1.1.1.1.1.1.1.1.0.now)
    × (s.1.1.1.1.1.1.1.1.0.now ≡ s'.1.1.1.1.1.1.1.1.0.now)
open-find-all-determined κs a r r' s s' p q = same_output p q

pub open-find-all-exact-determined :
    (κs : Lfts 4) (a : K.Dens κs open-find-all-exact-kinds.ps) (r r' : (K.res_t open-find-all-exact-kinds.r κs).Denot)
    (s s' : AtExit (K.ended_of 4 open-find-all-exact-kinds.ps open-find-all-exact-kinds.r) κs)
    → open-find-all-exact-reads.Post κs a r s → open-find-all-exact-reads.Post κs a r' s'
    → (r ≡ r')
    × (s.1.1.1.1.1.1.1.0.now ≡ s'.1.1.1.1.1.1.1.0.now)
    × (s.1.1.1.1.1.1.0.now ≡ s'.1.1.1.1.1.1.0.now)
open-find-all-exact-determined κs a r r' s s' p q = same_output p q

pub step-ruled-determined :
    (κs : Lfts 3) (a : K.Dens κs step-ruled-kinds.ps) (r r' : (K.res_t step-ruled-kinds.r κs).Denot)
    (s s' : AtExit (K.ended_of 3 step-ruled-kinds.ps step-ruled-kinds.r) κs)
    → step-ruled-reads.Post κs a r s → step-ruled-reads.Post κs a r' s'
    → (r ≡ r')
    × (s.1.1.1.1.1.1.1.1.1.1.1.1.0.now ≡ s'.1.1.1.1.1.1.1.1.1.1.1.1.0.now)
step-ruled-determined κs a r r' s s' p q = same_answer p q

pub drain-ruled-determined :
    (κs : Lfts 4) (a : K.Dens κs drain-ruled-kinds.ps) (r r' : (K.res_t drain-ruled-kinds.r κs).Denot)
    (s s' : AtExit (K.ended_of 4 drain-ruled-kinds.ps drain-ruled-kinds.r) κs)
    → drain-ruled-reads.Post κs a r s → drain-ruled-reads.Post κs a r' s'
    → (r ≡ r')
    × (s.1.1.1.1.1.1.1.1.1.1.1.1.1.1.0.now ≡ s'.1.1.1.1.1.1.1.1.1.1.1.1.1.1.0.now)
    × (s.1.1.1.1.1.1.1.1.1.1.1.1.1.0.now ≡ s'.1.1.1.1.1.1.1.1.1.1.1.1.1.0.now)
drain-ruled-determined κs a r r' s s' p q = same_output p q

pub plain-ruled-determined :
    (κs : Lfts 4) (a : K.Dens κs plain-ruled-kinds.ps) (r r' : (K.res_t plain-ruled-kinds.r κs).Denot)
    (s s' : AtExit (K.ended_of 4 plain-ruled-kinds.ps plain-ruled-kinds.r) κs)
    → plain-ruled-reads.Post κs a r s → plain-ruled-reads.Post κs a r' s'
    → (r ≡ r')
    × (s.1.1.1.1.1.1.1.1.1.1.0.now ≡ s'.1.1.1.1.1.1.1.1.1.1.0.now)
    × (s.1.1.1.1.1.1.1.1.1.0.now ≡ s'.1.1.1.1.1.1.1.1.1.0.now)
plain-ruled-determined κs a r r' s s' p q = same_output p q

pub find-all-ruled-determined :
    (κs : Lfts 4) (a : K.Dens κs find-all-ruled-kinds.ps) (r r' : (K.res_t find-all-ruled-kinds.r κs).Denot)
    (s s' : AtExit (K.ended_of 4 find-all-ruled-kinds.ps find-all-ruled-kinds.r) κs)
    → find-all-ruled-reads.Post κs a r s → find-all-ruled-reads.Post κs a r' s'
    → (r ≡ r')
    × (s.1.1.1.1.1.1.1.1.1.1.0.now ≡ s'.1.1.1.1.1.1.1.1.1.1.0.now)
    × (s.1.1.1.1.1.1.1.1.1.0.now ≡ s'.1.1.1.1.1.1.1.1.1.0.now)
find-all-ruled-determined κs a r r' s s' p q = same_output p q

pub unload-ruled-determined :
    (κs : Lfts 3) (a : K.Dens κs unload-ruled-kinds.ps) (r r' : (K.res_t unload-ruled-kinds.r κs).Denot)
    (s s' : AtExit (K.ended_of 3 unload-ruled-kinds.ps unload-ruled-kinds.r) κs)
    → unload-ruled-reads.Post κs a r s → unload-ruled-reads.Post κs a r' s'
    → (r ≡ r')
    × (s.1.1.1.1.1.1.1.1.1.1.0.now ≡ s'.1.1.1.1.1.1.1.1.1.1.0.now)
    × (s.1.1.1.0.now ≡ s'.1.1.1.0.now)
    × (s.1.1.1.1.0.now ≡ s'.1.1.1.1.0.now)
unload-ruled-determined κs a r r' s s' p q = same_six p q

pub open-step-ruled-determined :
    (κs : Lfts 3) (a : K.Dens κs open-step-ruled-kinds.ps) (r r' : (K.res_t open-step-ruled-kinds.r κs).Denot)
    (s s' : AtExit (K.ended_of 3 open-step-ruled-kinds.ps open-step-ruled-kinds.r) κs)
    → open-step-ruled-reads.Post κs a r s → open-step-ruled-reads.Post κs a r' s'
    → (r ≡ r')
    × (s.1.1.1.1.1.1.1.1.1.1.1.1.0.now ≡ s'.1.1.1.1.1.1.1.1.1.1.1.1.0.now)
open-step-ruled-determined κs a r r' s s' p q = same_answer p q

pub open-drain-ruled-determined :
    (κs : Lfts 4) (a : K.Dens κs open-drain-ruled-kinds.ps) (r r' : (K.res_t open-drain-ruled-kinds.r κs).Denot)
    (s s' : AtExit (K.ended_of 4 open-drain-ruled-kinds.ps open-drain-ruled-kinds.r) κs)
    → open-drain-ruled-reads.Post κs a r s → open-drain-ruled-reads.Post κs a r' s'
    → (r ≡ r')
    × (s.1.1.1.1.1.1.1.1.1.1.1.1.1.1.0.now ≡ s'.1.1.1.1.1.1.1.1.1.1.1.1.1.1.0.now)
    × (s.1.1.1.1.1.1.1.1.1.1.1.1.1.0.now ≡ s'.1.1.1.1.1.1.1.1.1.1.1.1.1.0.now)
open-drain-ruled-determined κs a r r' s s' p q = same_output p q

pub open-plain-ruled-determined :
    (κs : Lfts 4) (a : K.Dens κs open-plain-ruled-kinds.ps) (r r' : (K.res_t open-plain-ruled-kinds.r κs).Denot)
    (s s' : AtExit (K.ended_of 4 open-plain-ruled-kinds.ps open-plain-ruled-kinds.r) κs)
    → open-plain-ruled-reads.Post κs a r s → open-plain-ruled-reads.Post κs a r' s'
    → (r ≡ r')
    × (s.1.1.1.1.1.1.1.1.1.1.0.now ≡ s'.1.1.1.1.1.1.1.1.1.1.0.now)
    × (s.1.1.1.1.1.1.1.1.1.0.now ≡ s'.1.1.1.1.1.1.1.1.1.0.now)
open-plain-ruled-determined κs a r r' s s' p q = same_output p q

pub open-find-all-ruled-determined :
    (κs : Lfts 4) (a : K.Dens κs open-find-all-ruled-kinds.ps) (r r' : (K.res_t open-find-all-ruled-kinds.r κs).Denot)
    (s s' : AtExit (K.ended_of 4 open-find-all-ruled-kinds.ps open-find-all-ruled-kinds.r) κs)
    → open-find-all-ruled-reads.Post κs a r s → open-find-all-ruled-reads.Post κs a r' s'
    → (r ≡ r')
    × (s.1.1.1.1.1.1.1.1.1.1.0.now ≡ s'.1.1.1.1.1.1.1.1.1.1.0.now)
    × (s.1.1.1.1.1.1.1.1.1.0.now ≡ s'.1.1.1.1.1.1.1.1.1.0.now)
open-find-all-ruled-determined κs a r r' s s' p q = same_output p q

pub open-unload-ruled-determined :
    (κs : Lfts 3) (a : K.Dens κs open-unload-ruled-kinds.ps) (r r' : (K.res_t open-unload-ruled-kinds.r κs).Denot)
    (s s' : AtExit (K.ended_of 3 open-unload-ruled-kinds.ps open-unload-ruled-kinds.r) κs)
    → open-unload-ruled-reads.Post κs a r s → open-unload-ruled-reads.Post κs a r' s'
    → (r ≡ r')
    × (s.1.1.1.1.1.1.1.1.1.1.0.now ≡ s'.1.1.1.1.1.1.1.1.1.1.0.now)
    × (s.1.1.1.0.now ≡ s'.1.1.1.0.now)
    × (s.1.1.1.1.0.now ≡ s'.1.1.1.1.0.now)
open-unload-ruled-determined κs a r r' s s' p q = same_six p q

pub disjoint-check-determined :
    (κs : Lfts 2) (a : K.Dens κs disjoint-check-kinds.ps) (r r' : (K.res_t disjoint-check-kinds.r κs).Denot)
    (s s' : AtExit (K.ended_of 2 disjoint-check-kinds.ps disjoint-check-kinds.r) κs)
    → disjoint-check-reads.Post κs a r s → disjoint-check-reads.Post κs a r' s' → r ≡ r'
disjoint-check-determined κs a r r' s s' p q = p ∙ sym q

pub disjoint-point-determined :
    (κs : Lfts 3) (a : K.Dens κs disjoint-point-kinds.ps) (r r' : (K.res_t disjoint-point-kinds.r κs).Denot)
    (s s' : AtExit (K.ended_of 3 disjoint-point-kinds.ps disjoint-point-kinds.r) κs)
    → disjoint-point-reads.Post κs a r s → disjoint-point-reads.Post κs a r' s'
    → (r ≡ r')
    × (s.1.1.1.1.1.0.now ≡ s'.1.1.1.1.1.0.now)
disjoint-point-determined κs a r r' s s' p q = same_answer p q

pub disjoint-insert-determined :
    (κs : Lfts 3) (a : K.Dens κs disjoint-insert-kinds.ps) (r r' : (K.res_t disjoint-insert-kinds.r κs).Denot)
    (s s' : AtExit (K.ended_of 3 disjoint-insert-kinds.ps disjoint-insert-kinds.r) κs)
    → disjoint-insert-reads.Post κs a r s → disjoint-insert-reads.Post κs a r' s'
    → (r ≡ r')
    × (s.1.1.1.1.1.1.1.1.0.now ≡ s'.1.1.1.1.1.1.1.1.0.now)
    × (s.1.1.1.0.now ≡ s'.1.1.1.0.now)
    × (s.1.1.1.1.0.now ≡ s'.1.1.1.1.0.now)
disjoint-insert-determined κs a r r' s s' p q = same_six p q

pub disjoint-remove-determined :
    (κs : Lfts 3) (a : K.Dens κs disjoint-remove-kinds.ps) (r r' : (K.res_t disjoint-remove-kinds.r κs).Denot)
    (s s' : AtExit (K.ended_of 3 disjoint-remove-kinds.ps disjoint-remove-kinds.r) κs)
    → disjoint-remove-reads.Post κs a r s → disjoint-remove-reads.Post κs a r' s'
    → (r ≡ r')
    × (s.1.1.1.1.1.1.0.now ≡ s'.1.1.1.1.1.1.0.now)
    × (s.1.1.1.0.now ≡ s'.1.1.1.0.now)
    × (s.1.1.1.1.0.now ≡ s'.1.1.1.1.0.now)
disjoint-remove-determined κs a r r' s s' p q = same_six p q

pub open-disjoint-point-determined :
    (κs : Lfts 3) (a : K.Dens κs open-disjoint-point-kinds.ps) (r r' : (K.res_t open-disjoint-point-kinds.r κs).Denot)
    (s s' : AtExit (K.ended_of 3 open-disjoint-point-kinds.ps open-disjoint-point-kinds.r) κs)
    → open-disjoint-point-reads.Post κs a r s → open-disjoint-point-reads.Post κs a r' s'
    → (r ≡ r')
    × (s.1.1.1.1.1.0.now ≡ s'.1.1.1.1.1.0.now)
open-disjoint-point-determined κs a r r' s s' p q = same_answer p q

pub open-disjoint-insert-determined :
    (κs : Lfts 3) (a : K.Dens κs open-disjoint-insert-kinds.ps) (r r' : (K.res_t open-disjoint-insert-kinds.r κs).Denot)
    (s s' : AtExit (K.ended_of 3 open-disjoint-insert-kinds.ps open-disjoint-insert-kinds.r) κs)
    → open-disjoint-insert-reads.Post κs a r s → open-disjoint-insert-reads.Post κs a r' s'
    → (r ≡ r')
    × (s.1.1.1.1.1.1.1.1.0.now ≡ s'.1.1.1.1.1.1.1.1.0.now)
    × (s.1.1.1.0.now ≡ s'.1.1.1.0.now)
    × (s.1.1.1.1.0.now ≡ s'.1.1.1.1.0.now)
open-disjoint-insert-determined κs a r r' s s' p q = same_six p q

pub open-disjoint-remove-determined :
    (κs : Lfts 3) (a : K.Dens κs open-disjoint-remove-kinds.ps) (r r' : (K.res_t open-disjoint-remove-kinds.r κs).Denot)
    (s s' : AtExit (K.ended_of 3 open-disjoint-remove-kinds.ps open-disjoint-remove-kinds.r) κs)
    → open-disjoint-remove-reads.Post κs a r s → open-disjoint-remove-reads.Post κs a r' s'
    → (r ≡ r')
    × (s.1.1.1.1.1.1.0.now ≡ s'.1.1.1.1.1.1.0.now)
    × (s.1.1.1.0.now ≡ s'.1.1.1.0.now)
    × (s.1.1.1.1.0.now ≡ s'.1.1.1.1.0.now)
open-disjoint-remove-determined κs a r r' s s' p q = same_six p q
