-- Any two numbers, and any two contents of each lent slice at exit, that an export's promise allows
-- are equal.
use mathlib.Core.Path.{◌≡◌, sym, ◌∙◌}
use contract.Lifetimes.{Lfts}
use borrow.Fn.Kinds as K
use denote.Triple.Clauses.{AtExit}
use Rattle.iset_c.proofs.Exits.{same_answer, same_effect}
use Rattle.iset_c_disjoint.proofs.exports.iset_disjoint_check.Reads as check-reads
use Rattle.iset_c_disjoint.proofs.exports.iset_disjoint_check.Kinds as check-kinds
use Rattle.iset_c_disjoint.proofs.exports.iset_disjoint_point.Reads as point-reads
use Rattle.iset_c_disjoint.proofs.exports.iset_disjoint_point.Kinds as point-kinds
use Rattle.iset_c_disjoint.proofs.exports.iset_open_disjoint_point.Reads as open-point-reads
use Rattle.iset_c_disjoint.proofs.exports.iset_open_disjoint_point.Kinds as open-point-kinds
use Rattle.iset_c_disjoint.proofs.exports.iset_disjoint_insert.Reads as insert-reads
use Rattle.iset_c_disjoint.proofs.exports.iset_disjoint_insert.Kinds as insert-kinds
use Rattle.iset_c_disjoint.proofs.exports.iset_open_disjoint_insert.Reads as open-insert-reads
use Rattle.iset_c_disjoint.proofs.exports.iset_open_disjoint_insert.Kinds as open-insert-kinds
use Rattle.iset_c_disjoint.proofs.exports.iset_disjoint_remove.Reads as remove-reads
use Rattle.iset_c_disjoint.proofs.exports.iset_disjoint_remove.Kinds as remove-kinds
use Rattle.iset_c_disjoint.proofs.exports.iset_open_disjoint_remove.Reads as open-remove-reads
use Rattle.iset_c_disjoint.proofs.exports.iset_open_disjoint_remove.Kinds as open-remove-kinds

-- the exits are a product by parameter: the slice of parameter k is at `.1`, k times, then `.0`

pub check-determined :
    (κs : Lfts 2) (a : K.Dens κs check-kinds.ps) (r r' : (K.res_t check-kinds.r κs).Denot)
    (s s' : AtExit (K.ended_of 2 check-kinds.ps check-kinds.r) κs)
    → check-reads.Post κs a r s → check-reads.Post κs a r' s' → r ≡ r'
check-determined κs a r r' s s' p q = p ∙ sym q

pub point-determined :
    (κs : Lfts 3) (a : K.Dens κs point-kinds.ps) (r r' : (K.res_t point-kinds.r κs).Denot)
    (s s' : AtExit (K.ended_of 3 point-kinds.ps point-kinds.r) κs)
    → point-reads.Post κs a r s → point-reads.Post κs a r' s'
    → (r ≡ r')
    × (s.1.1.1.1.1.0.now ≡ s'.1.1.1.1.1.0.now)
point-determined κs a r r' s s' p q = same_answer p q

pub open-point-determined :
    (κs : Lfts 3) (a : K.Dens κs open-point-kinds.ps) (r r' : (K.res_t open-point-kinds.r κs).Denot)
    (s s' : AtExit (K.ended_of 3 open-point-kinds.ps open-point-kinds.r) κs)
    → open-point-reads.Post κs a r s → open-point-reads.Post κs a r' s'
    → (r ≡ r')
    × (s.1.1.1.1.1.0.now ≡ s'.1.1.1.1.1.0.now)
open-point-determined κs a r r' s s' p q = same_answer p q

pub insert-determined :
    (κs : Lfts 3) (a : K.Dens κs insert-kinds.ps) (r r' : (K.res_t insert-kinds.r κs).Denot)
    (s s' : AtExit (K.ended_of 3 insert-kinds.ps insert-kinds.r) κs)
    → insert-reads.Post κs a r s → insert-reads.Post κs a r' s'
    → (r ≡ r')
    × (s.1.1.1.1.1.1.1.1.0.now ≡ s'.1.1.1.1.1.1.1.1.0.now)
    × (s.1.1.1.0.now ≡ s'.1.1.1.0.now)
    × (s.1.1.1.1.0.now ≡ s'.1.1.1.1.0.now)
insert-determined κs a r r' s s' p q = same_effect p q

pub open-insert-determined :
    (κs : Lfts 3) (a : K.Dens κs open-insert-kinds.ps) (r r' : (K.res_t open-insert-kinds.r κs).Denot)
    (s s' : AtExit (K.ended_of 3 open-insert-kinds.ps open-insert-kinds.r) κs)
    → open-insert-reads.Post κs a r s → open-insert-reads.Post κs a r' s'
    → (r ≡ r')
    × (s.1.1.1.1.1.1.1.1.0.now ≡ s'.1.1.1.1.1.1.1.1.0.now)
    × (s.1.1.1.0.now ≡ s'.1.1.1.0.now)
    × (s.1.1.1.1.0.now ≡ s'.1.1.1.1.0.now)
open-insert-determined κs a r r' s s' p q = same_effect p q

pub remove-determined :
    (κs : Lfts 3) (a : K.Dens κs remove-kinds.ps) (r r' : (K.res_t remove-kinds.r κs).Denot)
    (s s' : AtExit (K.ended_of 3 remove-kinds.ps remove-kinds.r) κs)
    → remove-reads.Post κs a r s → remove-reads.Post κs a r' s'
    → (r ≡ r')
    × (s.1.1.1.1.1.1.0.now ≡ s'.1.1.1.1.1.1.0.now)
    × (s.1.1.1.0.now ≡ s'.1.1.1.0.now)
    × (s.1.1.1.1.0.now ≡ s'.1.1.1.1.0.now)
remove-determined κs a r r' s s' p q = same_effect p q

pub open-remove-determined :
    (κs : Lfts 3) (a : K.Dens κs open-remove-kinds.ps) (r r' : (K.res_t open-remove-kinds.r κs).Denot)
    (s s' : AtExit (K.ended_of 3 open-remove-kinds.ps open-remove-kinds.r) κs)
    → open-remove-reads.Post κs a r s → open-remove-reads.Post κs a r' s'
    → (r ≡ r')
    × (s.1.1.1.1.1.1.0.now ≡ s'.1.1.1.1.1.1.0.now)
    × (s.1.1.1.0.now ≡ s'.1.1.1.0.now)
    × (s.1.1.1.1.0.now ≡ s'.1.1.1.1.0.now)
open-remove-determined κs a r r' s s' p q = same_effect p q
