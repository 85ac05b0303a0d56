-- Any two answers, and any two contents of each lent slice at exit, that a promise allows are
-- equal.
use Rattle.std.specs.Prelude.{Result, Ok, Err}
use mathlib.Core.Path.{◌≡◌, refl, sym, ap, ◌∙◌}
use mathlib.Core.Bool.{cond}
use native.Mathlib.Omega.{arith}
use lib.Dec.{eqb}
use borrow.Author.Tests.{ne_eqb}
use contract.Lifetimes.{Lfts}
use borrow.Fn.Kinds as K
use denote.Triple.Clauses.{AtExit}
use Rattle.words.specs.Refusals.{refusal_number}
use Rattle.words.specs.declared.refusal.Refusal.{Refusal}
use Rattle.words.proofs.Refusals.{refusal_at, at_number, number_pos}
use Rattle.iset.specs.Insert.{InsertAnswer}
use Rattle.iset.specs.declared.Map.{Map}
use Rattle.iset.specs.declared.insert.Inserted.{Inserted}
use Rattle.iset.proofs.Determined.{same_effect, checked_at, checked_back, removal_at, removal_back}
use Rattle.disjoint.specs.Point.{PointAnswer, point_answer}
use Rattle.disjoint.specs.Place.{place_answer}
use Rattle.disjoint_core.specs.declared.point.Spot.{Spot}
use Rattle.disjoint.specs.declared.insert.Blocked.{Blocked}
use Rattle.disjoint.proofs.DisjointMap.check.Reads as check-reads
use Rattle.disjoint.proofs.DisjointMap.check.Kinds as check-kinds
use Rattle.disjoint.proofs.DisjointMap.point.Reads as point-reads
use Rattle.disjoint.proofs.DisjointMap.point.Kinds as point-kinds
use Rattle.disjoint.proofs.DisjointMap.open_point.Reads as open-point-reads
use Rattle.disjoint.proofs.DisjointMap.open_point.Kinds as open-point-kinds
use Rattle.disjoint.proofs.DisjointMap.insert.Reads as insert-reads
use Rattle.disjoint.proofs.DisjointMap.insert.Kinds as insert-kinds
use Rattle.disjoint.proofs.DisjointMap.open_insert.Reads as open-insert-reads
use Rattle.disjoint.proofs.DisjointMap.open_insert.Kinds as open-insert-kinds
use Rattle.disjoint.proofs.DisjointMap.remove.Reads as remove-reads
use Rattle.disjoint.proofs.DisjointMap.remove.Kinds as remove-kinds
use Rattle.disjoint.proofs.DisjointMap.open_remove.Reads as open-remove-reads
use Rattle.disjoint.proofs.DisjointMap.open_remove.Kinds as open-remove-kinds

pub check-determined :
    (κs : Lfts 2) (a : K.Dens κs check-kinds.ps) (r r' : (K.res_t check-kinds.r κs).Denot) (s s' : AtExit (K.ended_of 2 check-kinds.ps check-kinds.r) κs)
    → check-reads.Post κs a r s → check-reads.Post κs a r' s' → r ≡ r'
check-determined κs a r r' s s' p q = sym (checked_back r) ∙ ap checked_at (p ∙ sym q) ∙ checked_back r'

-- a point lookup's
abbrev pub pointed_at : PointAnswer → Result Spot Refusal
pointed_at x = cond (eqb x.no 0) (Ok (record { slot = x.slot; entered = x.entered })) (Err (refusal_at x.no))

pub pointed_back : (r : Result Spot Refusal) → pointed_at (point_answer r) ≡ r
pointed_back (Ok a) = refl
pointed_back (Err y) = rw (ne_eqb (refusal_number y) 0 (omega (arith, number_pos y)), at_number y)

pub point-determined :
    (κs : Lfts 2) (a : K.Dens κs point-kinds.ps) (r r' : (K.res_t point-kinds.r κs).Denot) (s s' : AtExit (K.ended_of 2 point-kinds.ps point-kinds.r) κs)
    → point-reads.Post κs a r s → point-reads.Post κs a r' s' → r ≡ r'
point-determined κs a r r' s s' p q = sym (pointed_back r) ∙ ap pointed_at (p ∙ sym q) ∙ pointed_back r'

pub open-point-determined :
    (κs : Lfts 2) (a : K.Dens κs open-point-kinds.ps) (r r' : (K.res_t open-point-kinds.r κs).Denot)
    (s s' : AtExit (K.ended_of 2 open-point-kinds.ps open-point-kinds.r) κs)
    → open-point-reads.Post κs a r s → open-point-reads.Post κs a r' s' → r ≡ r'
open-point-determined κs a r r' s s' p q = sym (pointed_back r) ∙ ap pointed_at (p ∙ sym q) ∙ pointed_back r'

-- an insertion's, with the slot that a refusal names
abbrev pub placement_at : InsertAnswer → Result Inserted Blocked
placement_at x =
    cond (eqb x.no 0)
    (Ok (record { map = x.map; slot = x.slot; reach = x.reach }))
    (Err (record { why = refusal_at x.no; slot = x.slot }))

pub placement_back : (m : Map) (r : Result Inserted Blocked) → placement_at (place_answer m r) ≡ r
placement_back m (Ok g) = refl
placement_back m (Err y) = rw (ne_eqb (refusal_number y.why) 0 (omega (arith, number_pos y.why)), at_number y.why)

pub insert-determined :
    (κs : Lfts 2) (a : K.Dens κs insert-kinds.ps) (r r' : (K.res_t insert-kinds.r κs).Denot) (s s' : AtExit (K.ended_of 2 insert-kinds.ps insert-kinds.r) κs)
    → insert-reads.Post κs a r s → insert-reads.Post κs a r' s' → (r ≡ r') × (s.1.0.now ≡ s'.1.0.now) × (s.1.1.0.now ≡ s'.1.1.0.now)
insert-determined κs a r r' s s' p q = same_effect placement_at (placement_back _ r) (placement_back _ r') p q

pub open-insert-determined :
    (κs : Lfts 2) (a : K.Dens κs open-insert-kinds.ps) (r r' : (K.res_t open-insert-kinds.r κs).Denot)
    (s s' : AtExit (K.ended_of 2 open-insert-kinds.ps open-insert-kinds.r) κs)
    → open-insert-reads.Post κs a r s → open-insert-reads.Post κs a r' s' → (r ≡ r') × (s.1.0.now ≡ s'.1.0.now) × (s.1.1.0.now ≡ s'.1.1.0.now)
open-insert-determined κs a r r' s s' p q = same_effect placement_at (placement_back _ r) (placement_back _ r') p q

pub remove-determined :
    (κs : Lfts 2) (a : K.Dens κs remove-kinds.ps) (r r' : (K.res_t remove-kinds.r κs).Denot) (s s' : AtExit (K.ended_of 2 remove-kinds.ps remove-kinds.r) κs)
    → remove-reads.Post κs a r s → remove-reads.Post κs a r' s' → (r ≡ r') × (s.1.0.now ≡ s'.1.0.now) × (s.1.1.0.now ≡ s'.1.1.0.now)
remove-determined κs a r r' s s' p q = same_effect removal_at (removal_back _ r) (removal_back _ r') p q

pub open-remove-determined :
    (κs : Lfts 2) (a : K.Dens κs open-remove-kinds.ps) (r r' : (K.res_t open-remove-kinds.r κs).Denot)
    (s s' : AtExit (K.ended_of 2 open-remove-kinds.ps open-remove-kinds.r) κs)
    → open-remove-reads.Post κs a r s → open-remove-reads.Post κs a r' s' → (r ≡ r') × (s.1.0.now ≡ s'.1.0.now) × (s.1.1.0.now ≡ s'.1.1.0.now)
open-remove-determined κs a r r' s s' p q = same_effect removal_at (removal_back _ r) (removal_back _ r') p q
