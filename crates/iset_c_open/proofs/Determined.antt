-- Any two numbers, and any two contents of each lent slice at exit, that an export's promise allows
-- are equal.
use mathlib.Core.Path.{◌≡◌}
use contract.Lifetimes.{Lfts}
use borrow.Fn.Kinds as K
use denote.Triple.Clauses.{AtExit}
use Rattle.iset_c.proofs.Exits.{same_answer, same_effect, same_effect_in, same_output, same_number}
use Rattle.iset_c_open.proofs.exports.iset_open_remove.Reads as remove-reads
use Rattle.iset_c_open.proofs.exports.iset_open_remove.Kinds as remove-kinds
use Rattle.iset_c_open.proofs.exports.iset_open_insert.Reads as insert-reads
use Rattle.iset_c_open.proofs.exports.iset_open_insert.Kinds as insert-kinds
use Rattle.iset_c_open.proofs.exports.iset_open_unload.Reads as unload-reads
use Rattle.iset_c_open.proofs.exports.iset_open_unload.Kinds as unload-kinds
use Rattle.iset_c_open.proofs.exports.iset_open_propose.Reads as propose-reads
use Rattle.iset_c_open.proofs.exports.iset_open_propose.Kinds as propose-kinds
use Rattle.iset_c_open.proofs.exports.iset_open_renumber.Reads as renumber-reads
use Rattle.iset_c_open.proofs.exports.iset_open_renumber.Kinds as renumber-kinds
use Rattle.iset_c_open.proofs.exports.iset_open_write_image.Reads as write-image-reads
use Rattle.iset_c_open.proofs.exports.iset_open_write_image.Kinds as write-image-kinds
use Rattle.iset_c_open.proofs.exports.iset_open_read.Reads as read-reads
use Rattle.iset_c_open.proofs.exports.iset_open_read.Kinds as read-kinds
use Rattle.iset_c_open.proofs.call.step.Reads as call-step-reads
use Rattle.iset_c_open.proofs.call.step.Kinds as call-step-kinds
use Rattle.iset_c_open.proofs.call.drain.Reads as call-drain-reads
use Rattle.iset_c_open.proofs.call.drain.Kinds as call-drain-kinds
use Rattle.iset_c_open.proofs.call.unload.Reads as call-unload-reads
use Rattle.iset_c_open.proofs.call.unload.Kinds as call-unload-kinds
use Rattle.iset_c_open.proofs.exports.iset_open_fresh_exact.Reads as fresh-exact-reads
use Rattle.iset_c_open.proofs.exports.iset_open_fresh_exact.Kinds as fresh-exact-kinds
use Rattle.iset_c_open.proofs.exports.iset_open_step.Reads as step-reads
use Rattle.iset_c_open.proofs.exports.iset_open_step.Kinds as step-kinds
use Rattle.iset_c_open.proofs.exports.iset_open_step_exact.Reads as step-exact-reads
use Rattle.iset_c_open.proofs.exports.iset_open_step_exact.Kinds as step-exact-kinds
use Rattle.iset_c_open.proofs.exports.iset_open_drain.Reads as drain-reads
use Rattle.iset_c_open.proofs.exports.iset_open_drain.Kinds as drain-kinds
use Rattle.iset_c_open.proofs.exports.iset_open_drain_exact.Reads as drain-exact-reads
use Rattle.iset_c_open.proofs.exports.iset_open_drain_exact.Kinds as drain-exact-kinds
use Rattle.iset_c_open.proofs.exports.iset_open_plain.Reads as plain-reads
use Rattle.iset_c_open.proofs.exports.iset_open_plain.Kinds as plain-kinds
use Rattle.iset_c_open.proofs.exports.iset_open_plain_exact.Reads as plain-exact-reads
use Rattle.iset_c_open.proofs.exports.iset_open_plain_exact.Kinds as plain-exact-kinds
use Rattle.iset_c_open.proofs.exports.iset_open_find_all.Reads as find-all-reads
use Rattle.iset_c_open.proofs.exports.iset_open_find_all.Kinds as find-all-kinds
use Rattle.iset_c_open.proofs.exports.iset_open_find_all_exact.Reads as find-all-exact-reads
use Rattle.iset_c_open.proofs.exports.iset_open_find_all_exact.Kinds as find-all-exact-kinds

-- the exits are a product by parameter: the slice of parameter k is at `.1`, k times, then `.0`

pub remove-determined :
    (κs : Lfts 3) (a : K.Dens κs remove-kinds.ps) (r r' : (K.res_t remove-kinds.r κs).Denot)
    (s s' : AtExit (K.ended_of 3 remove-kinds.ps remove-kinds.r) κs)
    → remove-reads.Post κs a r s → remove-reads.Post κs a r' s'
    → (r ≡ r')
    × (s.1.1.1.1.1.1.0.now ≡ s'.1.1.1.1.1.1.0.now)
    × (s.1.1.1.0.now ≡ s'.1.1.1.0.now)
    × (s.1.1.1.1.0.now ≡ s'.1.1.1.1.0.now)
remove-determined κs a r r' s s' p q = same_effect p q

pub insert-determined :
    (κs : Lfts 3) (a : K.Dens κs insert-kinds.ps) (r r' : (K.res_t insert-kinds.r κs).Denot)
    (s s' : AtExit (K.ended_of 3 insert-kinds.ps insert-kinds.r) κs)
    → insert-reads.Post κs a r s → insert-reads.Post κs a r' s'
    → (r ≡ r')
    × (s.1.1.1.1.1.1.1.1.0.now ≡ s'.1.1.1.1.1.1.1.1.0.now)
    × (s.1.1.1.0.now ≡ s'.1.1.1.0.now)
    × (s.1.1.1.1.0.now ≡ s'.1.1.1.1.0.now)
insert-determined κs a r r' s s' p q = same_effect p q

pub unload-determined :
    (κs : Lfts 3) (a : K.Dens κs unload-kinds.ps) (r r' : (K.res_t unload-kinds.r κs).Denot)
    (s s' : AtExit (K.ended_of 3 unload-kinds.ps unload-kinds.r) κs)
    → unload-reads.Post κs a r s → unload-reads.Post κs a r' s'
    → (r ≡ r')
    × (s.1.1.1.1.1.1.1.1.1.0.now ≡ s'.1.1.1.1.1.1.1.1.1.0.now)
    × (s.1.1.1.0.now ≡ s'.1.1.1.0.now)
    × (s.1.1.1.1.0.now ≡ s'.1.1.1.1.0.now)
unload-determined κs a r r' s s' p q = same_effect p q

pub propose-determined :
    (κs : Lfts 3) (a : K.Dens κs propose-kinds.ps) (r r' : (K.res_t propose-kinds.r κs).Denot)
    (s s' : AtExit (K.ended_of 3 propose-kinds.ps propose-kinds.r) κs)
    → propose-reads.Post κs a r s → propose-reads.Post κs a r' s'
    → (r ≡ r')
    × (s.1.1.1.1.0.now ≡ s'.1.1.1.1.0.now)
propose-determined κs a r r' s s' p q = same_number p q

pub renumber-determined :
    (κs : Lfts 4) (a : K.Dens κs renumber-kinds.ps) (r r' : (K.res_t renumber-kinds.r κs).Denot)
    (s s' : AtExit (K.ended_of 4 renumber-kinds.ps renumber-kinds.r) κs)
    → renumber-reads.Post κs a r s → renumber-reads.Post κs a r' s'
    → (r ≡ r')
    × (s.1.1.1.1.1.1.0.now ≡ s'.1.1.1.1.1.1.0.now)
    × (s.1.1.1.0.now ≡ s'.1.1.1.0.now)
    × (s.1.1.1.1.0.now ≡ s'.1.1.1.1.0.now)
renumber-determined κs a r r' s s' p q = same_effect p q

pub write-image-determined :
    (κs : Lfts 4) (a : K.Dens κs write-image-kinds.ps) (r r' : (K.res_t write-image-kinds.r κs).Denot)
    (s s' : AtExit (K.ended_of 4 write-image-kinds.ps write-image-kinds.r) κs)
    → write-image-reads.Post κs a r s → write-image-reads.Post κs a r' s'
    → (r ≡ r')
    × (s.1.1.1.1.1.0.now ≡ s'.1.1.1.1.1.0.now)
    × (s.1.1.1.1.0.now ≡ s'.1.1.1.1.0.now)
write-image-determined κs a r r' s s' p q = same_output p q

pub read-determined :
    (κs : Lfts 3) (a : K.Dens κs read-kinds.ps) (r r' : (K.res_t read-kinds.r κs).Denot)
    (s s' : AtExit (K.ended_of 3 read-kinds.ps read-kinds.r) κs)
    → read-reads.Post κs a r s → read-reads.Post κs a r' s'
    → (r ≡ r')
    × (s.1.1.1.1.1.1.1.0.now ≡ s'.1.1.1.1.1.1.1.0.now)
read-determined κs a r r' s s' p q = same_answer p q

pub fresh-exact-determined :
    (κs : Lfts 3) (a : K.Dens κs fresh-exact-kinds.ps) (r r' : (K.res_t fresh-exact-kinds.r κs).Denot)
    (s s' : AtExit (K.ended_of 3 fresh-exact-kinds.ps fresh-exact-kinds.r) κs)
    → fresh-exact-reads.Post κs a r s → fresh-exact-reads.Post κs a r' s'
    → (r ≡ r')
    × (s.1.1.1.1.1.1.0.now ≡ s'.1.1.1.1.1.1.0.now)
fresh-exact-determined κs a r r' s s' p q = same_answer p q

pub step-determined :
    (κs : Lfts 3) (a : K.Dens κs step-kinds.ps) (r r' : (K.res_t step-kinds.r κs).Denot)
    (s s' : AtExit (K.ended_of 3 step-kinds.ps step-kinds.r) κs)
    → step-reads.Post κs a r s → step-reads.Post κs a r' s'
    → (r ≡ r')
    × (s.1.1.1.1.1.1.1.1.1.1.1.0.now ≡ s'.1.1.1.1.1.1.1.1.1.1.1.0.now)
step-determined κs a r r' s s' p q = same_answer p q

pub step-exact-determined :
    (κs : Lfts 3) (a : K.Dens κs step-exact-kinds.ps) (r r' : (K.res_t step-exact-kinds.r κs).Denot)
    (s s' : AtExit (K.ended_of 3 step-exact-kinds.ps step-exact-kinds.r) κs)
    → step-exact-reads.Post κs a r s → step-exact-reads.Post κs a r' s'
    → (r ≡ r')
    × (s.1.1.1.1.1.1.1.1.1.0.now ≡ s'.1.1.1.1.1.1.1.1.1.0.now)
step-exact-determined κs a r r' s s' p q = same_answer p q

pub drain-determined :
    (κs : Lfts 4) (a : K.Dens κs drain-kinds.ps) (r r' : (K.res_t drain-kinds.r κs).Denot)
    (s s' : AtExit (K.ended_of 4 drain-kinds.ps drain-kinds.r) κs)
    → drain-reads.Post κs a r s → drain-reads.Post κs a r' s'
    → (r ≡ r')
    × (s.1.1.1.1.1.1.1.1.1.1.1.1.1.0.now ≡ s'.1.1.1.1.1.1.1.1.1.1.1.1.1.0.now)
    × (s.1.1.1.1.1.1.1.1.1.1.1.1.0.now ≡ s'.1.1.1.1.1.1.1.1.1.1.1.1.0.now)
drain-determined κs a r r' s s' p q = same_output p q

pub drain-exact-determined :
    (κs : Lfts 4) (a : K.Dens κs drain-exact-kinds.ps) (r r' : (K.res_t drain-exact-kinds.r κs).Denot)
    (s s' : AtExit (K.ended_of 4 drain-exact-kinds.ps drain-exact-kinds.r) κs)
    → drain-exact-reads.Post κs a r s → drain-exact-reads.Post κs a r' s'
    → (r ≡ r')
    × (s.1.1.1.1.1.1.1.1.1.1.1.0.now ≡ s'.1.1.1.1.1.1.1.1.1.1.1.0.now)
    × (s.1.1.1.1.1.1.1.1.1.1.0.now ≡ s'.1.1.1.1.1.1.1.1.1.1.0.now)
drain-exact-determined κs a r r' s s' p q = same_output p q

pub plain-determined :
    (κs : Lfts 4) (a : K.Dens κs plain-kinds.ps) (r r' : (K.res_t plain-kinds.r κs).Denot)
    (s s' : AtExit (K.ended_of 4 plain-kinds.ps plain-kinds.r) κs)
    → plain-reads.Post κs a r s → plain-reads.Post κs a r' s'
    → (r ≡ r')
    × (s.1.1.1.1.1.1.1.1.1.0.now ≡ s'.1.1.1.1.1.1.1.1.1.0.now)
    × (s.1.1.1.1.1.1.1.1.0.now ≡ s'.1.1.1.1.1.1.1.1.0.now)
plain-determined κs a r r' s s' p q = same_output p q

pub plain-exact-determined :
    (κs : Lfts 4) (a : K.Dens κs plain-exact-kinds.ps) (r r' : (K.res_t plain-exact-kinds.r κs).Denot)
    (s s' : AtExit (K.ended_of 4 plain-exact-kinds.ps plain-exact-kinds.r) κs)
    → plain-exact-reads.Post κs a r s → plain-exact-reads.Post κs a r' s'
    → (r ≡ r')
    × (s.1.1.1.1.1.1.1.0.now ≡ s'.1.1.1.1.1.1.1.0.now)
    × (s.1.1.1.1.1.1.0.now ≡ s'.1.1.1.1.1.1.0.now)
plain-exact-determined κs a r r' s s' p q = same_output p q

pub find-all-determined :
    (κs : Lfts 4) (a : K.Dens κs find-all-kinds.ps) (r r' : (K.res_t find-all-kinds.r κs).Denot)
    (s s' : AtExit (K.ended_of 4 find-all-kinds.ps find-all-kinds.r) κs)
    → find-all-reads.Post κs a r s → find-all-reads.Post κs a r' s'
    → (r ≡ r')
    × (s.1.1.1.1.1.1.1.1.1.0.now ≡ s'.1.1.1.1.1.1.1.1.1.0.now)
    × (s.1.1.1.1.1.1.1.1.0.now ≡ s'.1.1.1.1.1.1.1.1.0.now)
find-all-determined κs a r r' s s' p q = same_output p q

pub find-all-exact-determined :
    (κs : Lfts 4) (a : K.Dens κs find-all-exact-kinds.ps) (r r' : (K.res_t find-all-exact-kinds.r κs).Denot)
    (s s' : AtExit (K.ended_of 4 find-all-exact-kinds.ps find-all-exact-kinds.r) κs)
    → find-all-exact-reads.Post κs a r s → find-all-exact-reads.Post κs a r' s'
    → (r ≡ r')
    × (s.1.1.1.1.1.1.1.0.now ≡ s'.1.1.1.1.1.1.1.0.now)
    × (s.1.1.1.1.1.1.0.now ≡ s'.1.1.1.1.1.1.0.now)
find-all-exact-determined κs a r r' s s' p q = same_output p q

-- what they share with the exports by a rule
pub call-step-determined :
    (κs : Lfts 3) (a : K.Dens κs call-step-kinds.ps) (r r' : (K.res_t call-step-kinds.r κs).Denot)
    (s s' : AtExit (K.ended_of 3 call-step-kinds.ps call-step-kinds.r) κs)
    → call-step-reads.Post κs a r s → call-step-reads.Post κs a r' s'
    → (r ≡ r')
    × (s.1.1.1.1.1.1.0.now ≡ s'.1.1.1.1.1.1.0.now)
call-step-determined κs a r r' s s' p q = same_answer p q

pub call-drain-determined :
    (κs : Lfts 4) (a : K.Dens κs call-drain-kinds.ps) (r r' : (K.res_t call-drain-kinds.r κs).Denot)
    (s s' : AtExit (K.ended_of 4 call-drain-kinds.ps call-drain-kinds.r) κs)
    → call-drain-reads.Post κs a r s → call-drain-reads.Post κs a r' s'
    → (r ≡ r')
    × (s.1.1.1.1.1.1.1.1.0.now ≡ s'.1.1.1.1.1.1.1.1.0.now)
    × (s.1.1.1.1.1.1.1.0.now ≡ s'.1.1.1.1.1.1.1.0.now)
call-drain-determined κs a r r' s s' p q = same_output p q

pub call-unload-determined :
    (κs : Lfts 3) (a : K.Dens κs call-unload-kinds.ps) (r r' : (K.res_t call-unload-kinds.r κs).Denot)
    (s s' : AtExit (K.ended_of 3 call-unload-kinds.ps call-unload-kinds.r) κs)
    → call-unload-reads.Post κs a r s → call-unload-reads.Post κs a r' s'
    → (r ≡ r')
    × (s.1.1.1.1.1.1.0.now ≡ s'.1.1.1.1.1.1.0.now)
    × (s.1.0.now ≡ s'.1.0.now)
    × (s.1.1.1.0.now ≡ s'.1.1.1.0.now)
call-unload-determined κs a r r' s s' p q = same_effect_in a.1.1.0 p q
