-- The same of the calls of crate disjoint. Its removal from an opened store is that of crate iset.
use mathlib.Core.Path.{◌≡◌, refl, ap}
use mathlib.Core.Bool.{true, false}
use mathlib.Core.List.{List, []}
use Prim.Native.Nat.{ℕ}
use contract.Lifetimes.{Lfts}
use borrow.Fn.Kinds as K
use denote.Triple.Clauses.{AtExit}
use Rattle.words.specs.Layouts.{as_eight}
use Rattle.iset.specs.Effects.{Effect}
use Rattle.iset.specs.Check.{check_number}
use Rattle.iset.specs.Insert.{entry_of, InsertAnswer}
use Rattle.iset.specs.Remove.{RemoveAnswer, remove_answer}
use Rattle.disjoint.specs.Point.{point_answer}
use Rattle.disjoint.specs.Place.{place_answer}
use Rattle.layouts.specs.Operations.{Memory, writes, result, check_disjoint, point, open_point_lem, place, open_place, take, open_remove_lem}
use Rattle.layouts.specs.Does.{seen, Does}
use Rattle.disjoint.proofs.DisjointMap.check_in.Reads as disjoint-check-in-reads
use Rattle.disjoint.proofs.DisjointMap.check_in.Kinds as disjoint-check-in-kinds
use Rattle.disjoint.proofs.DisjointMap.check.Reads as disjoint-check-reads
use Rattle.disjoint.proofs.DisjointMap.check.Kinds as disjoint-check-kinds
use Rattle.disjoint.proofs.DisjointMap.point_in.Reads as disjoint-point-in-reads
use Rattle.disjoint.proofs.DisjointMap.point_in.Kinds as disjoint-point-in-kinds
use Rattle.disjoint.proofs.DisjointMap.point.Reads as disjoint-point-reads
use Rattle.disjoint.proofs.DisjointMap.point.Kinds as disjoint-point-kinds
use Rattle.disjoint.proofs.DisjointMap.open_point_in.Reads as disjoint-open-point-in-reads
use Rattle.disjoint.proofs.DisjointMap.open_point_in.Kinds as disjoint-open-point-in-kinds
use Rattle.disjoint.proofs.DisjointMap.open_point.Reads as disjoint-open-point-reads
use Rattle.disjoint.proofs.DisjointMap.open_point.Kinds as disjoint-open-point-kinds
use Rattle.disjoint.proofs.DisjointMap.insert_in.Reads as disjoint-insert-in-reads
use Rattle.disjoint.proofs.DisjointMap.insert_in.Kinds as disjoint-insert-in-kinds
use Rattle.disjoint.proofs.DisjointMap.insert.Reads as disjoint-insert-reads
use Rattle.disjoint.proofs.DisjointMap.insert.Kinds as disjoint-insert-kinds
use Rattle.disjoint.proofs.DisjointMap.open_insert_in.Reads as disjoint-open-insert-in-reads
use Rattle.disjoint.proofs.DisjointMap.open_insert_in.Kinds as disjoint-open-insert-in-kinds
use Rattle.disjoint.proofs.DisjointMap.open_insert.Reads as disjoint-open-insert-reads
use Rattle.disjoint.proofs.DisjointMap.open_insert.Kinds as disjoint-open-insert-kinds
use Rattle.disjoint.proofs.DisjointMap.remove_in.Reads as disjoint-remove-in-reads
use Rattle.disjoint.proofs.DisjointMap.remove_in.Kinds as disjoint-remove-in-kinds
use Rattle.disjoint.proofs.DisjointMap.remove.Reads as disjoint-remove-reads
use Rattle.disjoint.proofs.DisjointMap.remove.Kinds as disjoint-remove-kinds
use Rattle.disjoint.proofs.DisjointMap.open_remove_in.Reads as disjoint-open-remove-in-reads
use Rattle.disjoint.proofs.DisjointMap.open_remove_in.Kinds as disjoint-open-remove-in-kinds
use Rattle.disjoint.proofs.DisjointMap.open_remove.Reads as disjoint-open-remove-reads
use Rattle.disjoint.proofs.DisjointMap.open_remove.Kinds as disjoint-open-remove-kinds

-- what is lent to a call
abbrev lent : List ℕ → List ℕ → List ℕ → Memory
lent W C out = record { words = W; colours = C; out = out }

pub does_disjoint_check_in : (κs : Lfts 2) (a : K.Dens κs disjoint-check-in-kinds.ps) (r : (K.res_t disjoint-check-in-kinds.r κs).Denot) (s : AtExit (K.ended_of 2 disjoint-check-in-kinds.ps disjoint-check-in-kinds.r) κs)
    → disjoint-check-in-reads.Post κs a r s
    → Does a.1.1.0 (check_disjoint) a.0.map (lent a.1.0.now a.1.1.1.0.now []) (check_number r)
    (lent a.1.0.now a.1.1.1.0.now [])
unfolding result
does_disjoint_check_in κs a r s p = record { answers = p; leaves = refl }

pub does_disjoint_check : (κs : Lfts 2) (a : K.Dens κs disjoint-check-kinds.ps) (r : (K.res_t disjoint-check-kinds.r κs).Denot) (s : AtExit (K.ended_of 2 disjoint-check-kinds.ps disjoint-check-kinds.r) κs)
    → disjoint-check-reads.Post κs a r s
    → Does false (check_disjoint) a.0.map (lent a.1.0.now a.1.1.0.now []) (check_number r)
    (lent a.1.0.now a.1.1.0.now [])
unfolding result as_eight
does_disjoint_check κs a r s p = record { answers = p; leaves = refl }

pub does_disjoint_point_in : (κs : Lfts 2) (a : K.Dens κs disjoint-point-in-kinds.ps) (r : (K.res_t disjoint-point-in-kinds.r κs).Denot) (s : AtExit (K.ended_of 2 disjoint-point-in-kinds.ps disjoint-point-in-kinds.r) κs)
    → disjoint-point-in-reads.Post κs a r s
    → Does a.1.1.0 (point a.1.1.1.1.0) a.0.map (lent a.1.0.now a.1.1.1.0.now []) (point_answer r)
    (lent a.1.0.now a.1.1.1.0.now [])
unfolding result
does_disjoint_point_in κs a r s p = record { answers = p; leaves = refl }

pub does_disjoint_point : (κs : Lfts 2) (a : K.Dens κs disjoint-point-kinds.ps) (r : (K.res_t disjoint-point-kinds.r κs).Denot) (s : AtExit (K.ended_of 2 disjoint-point-kinds.ps disjoint-point-kinds.r) κs)
    → disjoint-point-reads.Post κs a r s
    → Does false (point a.1.1.1.0) a.0.map (lent a.1.0.now a.1.1.0.now []) (point_answer r)
    (lent a.1.0.now a.1.1.0.now [])
unfolding result as_eight
does_disjoint_point κs a r s p = record { answers = p; leaves = refl }

pub does_disjoint_open_point_in : (κs : Lfts 2) (a : K.Dens κs disjoint-open-point-in-kinds.ps) (r : (K.res_t disjoint-open-point-in-kinds.r κs).Denot) (s : AtExit (K.ended_of 2 disjoint-open-point-in-kinds.ps disjoint-open-point-in-kinds.r) κs)
    → disjoint-open-point-in-reads.Post κs a r s
    → Does a.1.1.0 (open_point_lem a.1.1.1.1.0) a.0.map (lent a.1.0.now a.1.1.1.0.now []) (point_answer r)
    (lent a.1.0.now a.1.1.1.0.now [])
unfolding result
does_disjoint_open_point_in κs a r s p = record { answers = p; leaves = refl }

pub does_disjoint_open_point : (κs : Lfts 2) (a : K.Dens κs disjoint-open-point-kinds.ps) (r : (K.res_t disjoint-open-point-kinds.r κs).Denot) (s : AtExit (K.ended_of 2 disjoint-open-point-kinds.ps disjoint-open-point-kinds.r) κs)
    → disjoint-open-point-reads.Post κs a r s
    → Does false (open_point_lem a.1.1.1.0) a.0.map (lent a.1.0.now a.1.1.0.now []) (point_answer r)
    (lent a.1.0.now a.1.1.0.now [])
unfolding result as_eight
does_disjoint_open_point κs a r s p = record { answers = p; leaves = refl }

pub does_disjoint_insert_in : (κs : Lfts 2) (a : K.Dens κs disjoint-insert-in-kinds.ps) (r : (K.res_t disjoint-insert-in-kinds.r κs).Denot) (s : AtExit (K.ended_of 2 disjoint-insert-in-kinds.ps disjoint-insert-in-kinds.r) κs)
    → disjoint-insert-in-reads.Post κs a r s
    → Does a.1.1.0 (place (entry_of a.1.1.1.1.0 a.1.1.1.1.1.0 a.1.1.1.1.1.1.0)) a.0.map (lent a.1.0.now a.1.1.1.0.now []) (place_answer a.0.map r)
    (lent s.1.0.now s.1.1.1.0.now [])
unfolding result
does_disjoint_insert_in κs a r s p = record { answers = ap (λ (k : Effect InsertAnswer). k.answer) p; leaves = ap (λ (k : Effect InsertAnswer). (writes (seen a.1.1.0 (lent a.1.0.now a.1.1.1.0.now [])) k).memory) p }

pub does_disjoint_insert : (κs : Lfts 2) (a : K.Dens κs disjoint-insert-kinds.ps) (r : (K.res_t disjoint-insert-kinds.r κs).Denot) (s : AtExit (K.ended_of 2 disjoint-insert-kinds.ps disjoint-insert-kinds.r) κs)
    → disjoint-insert-reads.Post κs a r s
    → Does false (place (entry_of a.1.1.1.0 a.1.1.1.1.0 a.1.1.1.1.1.0)) a.0.map (lent a.1.0.now a.1.1.0.now []) (place_answer a.0.map r)
    (lent s.1.0.now s.1.1.0.now [])
unfolding result as_eight
does_disjoint_insert κs a r s p = record { answers = ap (λ (k : Effect InsertAnswer). k.answer) p; leaves = ap (λ (k : Effect InsertAnswer). (writes (seen false (lent a.1.0.now a.1.1.0.now [])) k).memory) p }

pub does_disjoint_open_insert_in : (κs : Lfts 2) (a : K.Dens κs disjoint-open-insert-in-kinds.ps) (r : (K.res_t disjoint-open-insert-in-kinds.r κs).Denot) (s : AtExit (K.ended_of 2 disjoint-open-insert-in-kinds.ps disjoint-open-insert-in-kinds.r) κs)
    → disjoint-open-insert-in-reads.Post κs a r s
    → Does a.1.1.0 (open_place (entry_of a.1.1.1.1.0 a.1.1.1.1.1.0 a.1.1.1.1.1.1.0)) a.0.map (lent a.1.0.now a.1.1.1.0.now []) (place_answer a.0.map r)
    (lent s.1.0.now s.1.1.1.0.now [])
unfolding result
does_disjoint_open_insert_in κs a r s p = record { answers = ap (λ (k : Effect InsertAnswer). k.answer) p; leaves = ap (λ (k : Effect InsertAnswer). (writes (seen a.1.1.0 (lent a.1.0.now a.1.1.1.0.now [])) k).memory) p }

pub does_disjoint_open_insert : (κs : Lfts 2) (a : K.Dens κs disjoint-open-insert-kinds.ps) (r : (K.res_t disjoint-open-insert-kinds.r κs).Denot) (s : AtExit (K.ended_of 2 disjoint-open-insert-kinds.ps disjoint-open-insert-kinds.r) κs)
    → disjoint-open-insert-reads.Post κs a r s
    → Does false (open_place (entry_of a.1.1.1.0 a.1.1.1.1.0 a.1.1.1.1.1.0)) a.0.map (lent a.1.0.now a.1.1.0.now []) (place_answer a.0.map r)
    (lent s.1.0.now s.1.1.0.now [])
unfolding result as_eight
does_disjoint_open_insert κs a r s p = record { answers = ap (λ (k : Effect InsertAnswer). k.answer) p; leaves = ap (λ (k : Effect InsertAnswer). (writes (seen false (lent a.1.0.now a.1.1.0.now [])) k).memory) p }

pub does_disjoint_remove_in : (κs : Lfts 2) (a : K.Dens κs disjoint-remove-in-kinds.ps) (r : (K.res_t disjoint-remove-in-kinds.r κs).Denot) (s : AtExit (K.ended_of 2 disjoint-remove-in-kinds.ps disjoint-remove-in-kinds.r) κs)
    → disjoint-remove-in-reads.Post κs a r s
    → Does a.1.1.0 (take a.1.1.1.1.0) a.0.map (lent a.1.0.now a.1.1.1.0.now []) (remove_answer a.0.map r)
    (lent s.1.0.now s.1.1.1.0.now [])
unfolding result
does_disjoint_remove_in κs a r s p = record { answers = ap (λ (k : Effect RemoveAnswer). k.answer) p; leaves = ap (λ (k : Effect RemoveAnswer). (writes (seen a.1.1.0 (lent a.1.0.now a.1.1.1.0.now [])) k).memory) p }

pub does_disjoint_remove : (κs : Lfts 2) (a : K.Dens κs disjoint-remove-kinds.ps) (r : (K.res_t disjoint-remove-kinds.r κs).Denot) (s : AtExit (K.ended_of 2 disjoint-remove-kinds.ps disjoint-remove-kinds.r) κs)
    → disjoint-remove-reads.Post κs a r s
    → Does false (take a.1.1.1.0) a.0.map (lent a.1.0.now a.1.1.0.now []) (remove_answer a.0.map r)
    (lent s.1.0.now s.1.1.0.now [])
unfolding result as_eight
does_disjoint_remove κs a r s p = record { answers = ap (λ (k : Effect RemoveAnswer). k.answer) p; leaves = ap (λ (k : Effect RemoveAnswer). (writes (seen false (lent a.1.0.now a.1.1.0.now [])) k).memory) p }

pub does_disjoint_open_remove_in : (κs : Lfts 2) (a : K.Dens κs disjoint-open-remove-in-kinds.ps) (r : (K.res_t disjoint-open-remove-in-kinds.r κs).Denot) (s : AtExit (K.ended_of 2 disjoint-open-remove-in-kinds.ps disjoint-open-remove-in-kinds.r) κs)
    → disjoint-open-remove-in-reads.Post κs a r s
    → Does a.1.1.0 (open_remove_lem a.1.1.1.1.0) a.0.map (lent a.1.0.now a.1.1.1.0.now []) (remove_answer a.0.map r)
    (lent s.1.0.now s.1.1.1.0.now [])
unfolding result
does_disjoint_open_remove_in κs a r s p = record { answers = ap (λ (k : Effect RemoveAnswer). k.answer) p; leaves = ap (λ (k : Effect RemoveAnswer). (writes (seen a.1.1.0 (lent a.1.0.now a.1.1.1.0.now [])) k).memory) p }

pub does_disjoint_open_remove : (κs : Lfts 2) (a : K.Dens κs disjoint-open-remove-kinds.ps) (r : (K.res_t disjoint-open-remove-kinds.r κs).Denot) (s : AtExit (K.ended_of 2 disjoint-open-remove-kinds.ps disjoint-open-remove-kinds.r) κs)
    → disjoint-open-remove-reads.Post κs a r s
    → Does false (open_remove_lem a.1.1.1.0) a.0.map (lent a.1.0.now a.1.1.0.now []) (remove_answer a.0.map r)
    (lent s.1.0.now s.1.1.0.now [])
unfolding result as_eight
does_disjoint_open_remove κs a r s p = record { answers = ap (λ (k : Effect RemoveAnswer). k.answer) p; leaves = ap (λ (k : Effect RemoveAnswer). (writes (seen false (lent a.1.0.now a.1.1.0.now [])) k).memory) p }
