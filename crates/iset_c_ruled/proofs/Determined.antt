-- Any two numbers, and any two contents of each lent slice at exit, that an export's promise allows
-- are equal.
use mathlib.Core.Path.{◌≡◌}
use contract.Lifetimes.{Lfts}
use borrow.Fn.Kinds as K
use denote.Triple.Clauses.{AtExit}
use Rattle.iset_c.proofs.Exits.{same_answer, same_effect, same_output}
use Rattle.iset_c_ruled.proofs.exports.iset_step_ruled.Reads as step-reads
use Rattle.iset_c_ruled.proofs.exports.iset_step_ruled.Kinds as step-kinds
use Rattle.iset_c_ruled.proofs.exports.iset_drain_ruled.Reads as drain-reads
use Rattle.iset_c_ruled.proofs.exports.iset_drain_ruled.Kinds as drain-kinds
use Rattle.iset_c_ruled.proofs.exports.iset_plain_ruled.Reads as plain-reads
use Rattle.iset_c_ruled.proofs.exports.iset_plain_ruled.Kinds as plain-kinds
use Rattle.iset_c_ruled.proofs.exports.iset_find_all_ruled.Reads as find-all-reads
use Rattle.iset_c_ruled.proofs.exports.iset_find_all_ruled.Kinds as find-all-kinds
use Rattle.iset_c_ruled.proofs.exports.iset_unload_ruled.Reads as unload-reads
use Rattle.iset_c_ruled.proofs.exports.iset_unload_ruled.Kinds as unload-kinds
use Rattle.iset_c_ruled.proofs.exports.iset_open_step_ruled.Reads as open-step-reads
use Rattle.iset_c_ruled.proofs.exports.iset_open_step_ruled.Kinds as open-step-kinds
use Rattle.iset_c_ruled.proofs.exports.iset_open_drain_ruled.Reads as open-drain-reads
use Rattle.iset_c_ruled.proofs.exports.iset_open_drain_ruled.Kinds as open-drain-kinds
use Rattle.iset_c_ruled.proofs.exports.iset_open_plain_ruled.Reads as open-plain-reads
use Rattle.iset_c_ruled.proofs.exports.iset_open_plain_ruled.Kinds as open-plain-kinds
use Rattle.iset_c_ruled.proofs.exports.iset_open_find_all_ruled.Reads as open-find-all-reads
use Rattle.iset_c_ruled.proofs.exports.iset_open_find_all_ruled.Kinds as open-find-all-kinds
use Rattle.iset_c_ruled.proofs.exports.iset_open_unload_ruled.Reads as open-unload-reads
use Rattle.iset_c_ruled.proofs.exports.iset_open_unload_ruled.Kinds as open-unload-kinds

-- the exits are a product by parameter: the slice of parameter k is at `.1`, k times, then `.0`

pub step-determined :
    (κs : Lfts 3) (a : K.Dens κs step-kinds.ps) (r r' : (K.res_t step-kinds.r κs).Denot)
    (s s' : AtExit (K.ended_of 3 step-kinds.ps step-kinds.r) κs)
    → step-reads.Post κs a r s → step-reads.Post κs a r' s'
    → (r ≡ r')
    × (s.1.1.1.1.1.1.1.1.1.1.1.1.0.now ≡ s'.1.1.1.1.1.1.1.1.1.1.1.1.0.now)
step-determined κs a r r' s s' p q = same_answer p q

pub drain-determined :
    (κs : Lfts 4) (a : K.Dens κs drain-kinds.ps) (r r' : (K.res_t drain-kinds.r κs).Denot)
    (s s' : AtExit (K.ended_of 4 drain-kinds.ps drain-kinds.r) κs)
    → drain-reads.Post κs a r s → drain-reads.Post κs a r' s'
    → (r ≡ r')
    × (s.1.1.1.1.1.1.1.1.1.1.1.1.1.1.0.now ≡ s'.1.1.1.1.1.1.1.1.1.1.1.1.1.1.0.now)
    × (s.1.1.1.1.1.1.1.1.1.1.1.1.1.0.now ≡ s'.1.1.1.1.1.1.1.1.1.1.1.1.1.0.now)
drain-determined κs a r r' s s' p q = same_output p q

pub plain-determined :
    (κs : Lfts 4) (a : K.Dens κs plain-kinds.ps) (r r' : (K.res_t plain-kinds.r κs).Denot)
    (s s' : AtExit (K.ended_of 4 plain-kinds.ps plain-kinds.r) κs)
    → plain-reads.Post κs a r s → plain-reads.Post κs a r' s'
    → (r ≡ r')
    × (s.1.1.1.1.1.1.1.1.1.1.0.now ≡ s'.1.1.1.1.1.1.1.1.1.1.0.now)
    × (s.1.1.1.1.1.1.1.1.1.0.now ≡ s'.1.1.1.1.1.1.1.1.1.0.now)
plain-determined κs a r r' s s' p q = same_output p q

pub find-all-determined :
    (κs : Lfts 4) (a : K.Dens κs find-all-kinds.ps) (r r' : (K.res_t find-all-kinds.r κs).Denot)
    (s s' : AtExit (K.ended_of 4 find-all-kinds.ps find-all-kinds.r) κs)
    → find-all-reads.Post κs a r s → find-all-reads.Post κs a r' s'
    → (r ≡ r')
    × (s.1.1.1.1.1.1.1.1.1.1.0.now ≡ s'.1.1.1.1.1.1.1.1.1.1.0.now)
    × (s.1.1.1.1.1.1.1.1.1.0.now ≡ s'.1.1.1.1.1.1.1.1.1.0.now)
find-all-determined κs a r r' s s' p q = same_output p q

pub unload-determined :
    (κs : Lfts 3) (a : K.Dens κs unload-kinds.ps) (r r' : (K.res_t unload-kinds.r κs).Denot)
    (s s' : AtExit (K.ended_of 3 unload-kinds.ps unload-kinds.r) κs)
    → unload-reads.Post κs a r s → unload-reads.Post κs a r' s'
    → (r ≡ r')
    × (s.1.1.1.1.1.1.1.1.1.1.0.now ≡ s'.1.1.1.1.1.1.1.1.1.1.0.now)
    × (s.1.1.1.0.now ≡ s'.1.1.1.0.now)
    × (s.1.1.1.1.0.now ≡ s'.1.1.1.1.0.now)
unload-determined κs a r r' s s' p q = same_effect p q

pub open-step-determined :
    (κs : Lfts 3) (a : K.Dens κs open-step-kinds.ps) (r r' : (K.res_t open-step-kinds.r κs).Denot)
    (s s' : AtExit (K.ended_of 3 open-step-kinds.ps open-step-kinds.r) κs)
    → open-step-reads.Post κs a r s → open-step-reads.Post κs a r' s'
    → (r ≡ r')
    × (s.1.1.1.1.1.1.1.1.1.1.1.1.0.now ≡ s'.1.1.1.1.1.1.1.1.1.1.1.1.0.now)
open-step-determined κs a r r' s s' p q = same_answer p q

pub open-drain-determined :
    (κs : Lfts 4) (a : K.Dens κs open-drain-kinds.ps) (r r' : (K.res_t open-drain-kinds.r κs).Denot)
    (s s' : AtExit (K.ended_of 4 open-drain-kinds.ps open-drain-kinds.r) κs)
    → open-drain-reads.Post κs a r s → open-drain-reads.Post κs a r' s'
    → (r ≡ r')
    × (s.1.1.1.1.1.1.1.1.1.1.1.1.1.1.0.now ≡ s'.1.1.1.1.1.1.1.1.1.1.1.1.1.1.0.now)
    × (s.1.1.1.1.1.1.1.1.1.1.1.1.1.0.now ≡ s'.1.1.1.1.1.1.1.1.1.1.1.1.1.0.now)
open-drain-determined κs a r r' s s' p q = same_output p q

pub open-plain-determined :
    (κs : Lfts 4) (a : K.Dens κs open-plain-kinds.ps) (r r' : (K.res_t open-plain-kinds.r κs).Denot)
    (s s' : AtExit (K.ended_of 4 open-plain-kinds.ps open-plain-kinds.r) κs)
    → open-plain-reads.Post κs a r s → open-plain-reads.Post κs a r' s'
    → (r ≡ r')
    × (s.1.1.1.1.1.1.1.1.1.1.0.now ≡ s'.1.1.1.1.1.1.1.1.1.1.0.now)
    × (s.1.1.1.1.1.1.1.1.1.0.now ≡ s'.1.1.1.1.1.1.1.1.1.0.now)
open-plain-determined κs a r r' s s' p q = same_output p q

pub open-find-all-determined :
    (κs : Lfts 4) (a : K.Dens κs open-find-all-kinds.ps) (r r' : (K.res_t open-find-all-kinds.r κs).Denot)
    (s s' : AtExit (K.ended_of 4 open-find-all-kinds.ps open-find-all-kinds.r) κs)
    → open-find-all-reads.Post κs a r s → open-find-all-reads.Post κs a r' s'
    → (r ≡ r')
    × (s.1.1.1.1.1.1.1.1.1.1.0.now ≡ s'.1.1.1.1.1.1.1.1.1.1.0.now)
    × (s.1.1.1.1.1.1.1.1.1.0.now ≡ s'.1.1.1.1.1.1.1.1.1.0.now)
open-find-all-determined κs a r r' s s' p q = same_output p q

pub open-unload-determined :
    (κs : Lfts 3) (a : K.Dens κs open-unload-kinds.ps) (r r' : (K.res_t open-unload-kinds.r κs).Denot)
    (s s' : AtExit (K.ended_of 3 open-unload-kinds.ps open-unload-kinds.r) κs)
    → open-unload-reads.Post κs a r s → open-unload-reads.Post κs a r' s'
    → (r ≡ r')
    × (s.1.1.1.1.1.1.1.1.1.1.0.now ≡ s'.1.1.1.1.1.1.1.1.1.1.0.now)
    × (s.1.1.1.0.now ≡ s'.1.1.1.0.now)
    × (s.1.1.1.1.0.now ≡ s'.1.1.1.1.0.now)
open-unload-determined κs a r r' s s' p q = same_effect p q
