-- The same of the calls of either layout.
use mathlib.Core.Path.{◌≡◌, sym, ap, ◌∙◌}
use contract.Lifetimes.{Lfts}
use borrow.Fn.Kinds as K
use denote.Triple.Clauses.{AtExit}
use Rattle.iset.proofs.Determined.{checked_at, checked_back, removal_at, removal_back}
use Rattle.iset.proofs.DeterminedIn.{same_effect_in}
use Rattle.disjoint.proofs.Determined.{pointed_at, pointed_back, placement_at, placement_back}
use Rattle.disjoint.proofs.DisjointMap.check_in.Reads as check-reads
use Rattle.disjoint.proofs.DisjointMap.check_in.Kinds as check-kinds
use Rattle.disjoint.proofs.DisjointMap.point_in.Reads as point-reads
use Rattle.disjoint.proofs.DisjointMap.point_in.Kinds as point-kinds
use Rattle.disjoint.proofs.DisjointMap.open_point_in.Reads as open-point-reads
use Rattle.disjoint.proofs.DisjointMap.open_point_in.Kinds as open-point-kinds
use Rattle.disjoint.proofs.DisjointMap.insert_in.Reads as insert-reads
use Rattle.disjoint.proofs.DisjointMap.insert_in.Kinds as insert-kinds
use Rattle.disjoint.proofs.DisjointMap.open_insert_in.Reads as open-insert-reads
use Rattle.disjoint.proofs.DisjointMap.open_insert_in.Kinds as open-insert-kinds
use Rattle.disjoint.proofs.DisjointMap.remove_in.Reads as remove-reads
use Rattle.disjoint.proofs.DisjointMap.remove_in.Kinds as remove-kinds
use Rattle.disjoint.proofs.DisjointMap.open_remove_in.Reads as open-remove-reads
use Rattle.disjoint.proofs.DisjointMap.open_remove_in.Kinds as open-remove-kinds

pub check-in-determined :
    (κs : Lfts 2) (a : K.Dens κs check-kinds.ps) (r r' : (K.res_t check-kinds.r κs).Denot) (s s' : AtExit (K.ended_of 2 check-kinds.ps check-kinds.r) κs)
    → check-reads.Post κs a r s → check-reads.Post κs a r' s' → r ≡ r'
check-in-determined κs a r r' s s' p q = sym (checked_back r) ∙ ap checked_at (p ∙ sym q) ∙ checked_back r'

pub point-in-determined :
    (κs : Lfts 2) (a : K.Dens κs point-kinds.ps) (r r' : (K.res_t point-kinds.r κs).Denot) (s s' : AtExit (K.ended_of 2 point-kinds.ps point-kinds.r) κs)
    → point-reads.Post κs a r s → point-reads.Post κs a r' s' → r ≡ r'
point-in-determined κs a r r' s s' p q = sym (pointed_back r) ∙ ap pointed_at (p ∙ sym q) ∙ pointed_back r'

pub open-point-in-determined :
    (κs : Lfts 2) (a : K.Dens κs open-point-kinds.ps) (r r' : (K.res_t open-point-kinds.r κs).Denot)
    (s s' : AtExit (K.ended_of 2 open-point-kinds.ps open-point-kinds.r) κs)
    → open-point-reads.Post κs a r s → open-point-reads.Post κs a r' s' → r ≡ r'
open-point-in-determined κs a r r' s s' p q = sym (pointed_back r) ∙ ap pointed_at (p ∙ sym q) ∙ pointed_back r'

pub insert-in-determined :
    (κs : Lfts 2) (a : K.Dens κs insert-kinds.ps) (r r' : (K.res_t insert-kinds.r κs).Denot) (s s' : AtExit (K.ended_of 2 insert-kinds.ps insert-kinds.r) κs)
    → insert-reads.Post κs a r s → insert-reads.Post κs a r' s' → (r ≡ r') × (s.1.0.now ≡ s'.1.0.now) × (s.1.1.1.0.now ≡ s'.1.1.1.0.now)
insert-in-determined κs a r r' s s' p q = same_effect_in a.1.1.0 placement_at (placement_back _ r) (placement_back _ r') p q

pub open-insert-in-determined :
    (κs : Lfts 2) (a : K.Dens κs open-insert-kinds.ps) (r r' : (K.res_t open-insert-kinds.r κs).Denot)
    (s s' : AtExit (K.ended_of 2 open-insert-kinds.ps open-insert-kinds.r) κs)
    → open-insert-reads.Post κs a r s → open-insert-reads.Post κs a r' s' → (r ≡ r') × (s.1.0.now ≡ s'.1.0.now) × (s.1.1.1.0.now ≡ s'.1.1.1.0.now)
open-insert-in-determined κs a r r' s s' p q = same_effect_in a.1.1.0 placement_at (placement_back _ r) (placement_back _ r') p q

pub remove-in-determined :
    (κs : Lfts 2) (a : K.Dens κs remove-kinds.ps) (r r' : (K.res_t remove-kinds.r κs).Denot) (s s' : AtExit (K.ended_of 2 remove-kinds.ps remove-kinds.r) κs)
    → remove-reads.Post κs a r s → remove-reads.Post κs a r' s' → (r ≡ r') × (s.1.0.now ≡ s'.1.0.now) × (s.1.1.1.0.now ≡ s'.1.1.1.0.now)
remove-in-determined κs a r r' s s' p q = same_effect_in a.1.1.0 removal_at (removal_back _ r) (removal_back _ r') p q

pub open-remove-in-determined :
    (κs : Lfts 2) (a : K.Dens κs open-remove-kinds.ps) (r r' : (K.res_t open-remove-kinds.r κs).Denot)
    (s s' : AtExit (K.ended_of 2 open-remove-kinds.ps open-remove-kinds.r) κs)
    → open-remove-reads.Post κs a r s → open-remove-reads.Post κs a r' s' → (r ≡ r') × (s.1.0.now ≡ s'.1.0.now) × (s.1.1.1.0.now ≡ s'.1.1.1.0.now)
open-remove-in-determined κs a r r' s s' p q = same_effect_in a.1.1.0 removal_at (removal_back _ r) (removal_back _ r') p q
