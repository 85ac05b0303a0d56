-- The plain lookup: what its tests leave, in the form that `search` takes; and document 02's item
-- 5, of the public call.
use Rattle.std.proofs.Common.{◌≡◌, ℕ, ◌≤◌, Bool, cond, leb, List, [], length, sym, ◌∙◌, eq-eqb, le-leb}
use Rattle.words.specs.Lists.{filter}
use Rattle.words.specs.Layouts.{as_eight, HoldsIn}
use Rattle.tree.specs.Tree.{slots}
use Rattle.tree.specs.Passes.{Passes}
use Rattle.iter.specs.Cursors.{fresh}
use Rattle.iter.specs.Drains.{filled}
use Rattle.iter.specs.Queries.{rules}
use Rattle.iter.specs.declared.Cursor.{Cursor}
use Rattle.iter.specs.declared.rules.Query.{Query}
use Rattle.iter.specs.declared.rules.Query.TheVariants.{Overlap, Exact}
use Rattle.plain_rule.specs.Tour as tour
use Rattle.plain_rule.proofs.Tours.{entries_are, entered_all}
use Rattle.iset.specs.Effects.{output}
use Rattle.iset.specs.Lookup.{start_number, open_start_number}
use Rattle.iset.specs.Plain.{open_plain_number, plain_number, plain_call}
use Rattle.iset.specs.AtOnce.{handed_out}
use Rattle.iset.specs.PlainRuns.{PlainRun, Request5}
use Rattle.iset.specs.Runs.{Ask, Lookup, OnceEach}
use Rattle.iset.specs.declared.Map.{Map}
use Rattle.iset.proofs.AtOnces.{counted, first_places, found_at_once}
use Rattle.iset.proofs.Checks.{both_zero, places_held}
use Rattle.iset.proofs.Found.{few}
use Rattle.iset.proofs.Lookups.{startable}
use Rattle.iset.proofs.Orders.{plain_order}
use Rattle.iset.proofs.Runs.{range_started, interval_started, overlap_runs, exact_runs}

-- what the tests of an opened lookup leave: slices with places, and an output with a place for
-- every entry
pub findable : (m : Map) (narrow : Bool) (N C : List ℕ) (q : Query) (places : ℕ) → 0 ≡ open_plain_number m (as_eight narrow N) C q places
    → HoldsIn narrow N m.count × (m.count ≤ places)
unfolding open_plain_number
findable m narrow N C q places e =
    let W : List ℕ = as_eight narrow N in
    let z : (open_start_number m W C q ≡ 0) × (◌≡◌ {A = ℕ} (cond (leb m.count places) 0 9) 0) =
    both_zero (open_start_number m W C q) (cond (leb m.count places) 0 9) (sym e) in
    ((startable m narrow N C q (sym z.0)).0, places_held m.count places z.1)

-- An accepted lookup into an output that holds every entry. The store's tree is that of P, and L is
-- a lookup of the same by steps and drains.
module _ (m : Map) (W C : List ℕ) (q : Query) (e : start_number m W C q ≡ 0) (P : Passes W C m.count m.root) (out : List ℕ) (h : m.count ≤ length out) where
  abbrev found : List ℕ
  found = filter (rules W m.count q).match (slots P.tree)

  plain_zero : plain_number m W C q (length out) ≡ 0
  plain_zero = plain_order m W C q (length out) ∙ rw (e, le-leb m.count (length out) h)

  plain_found : tour.plain m.count W (rules W m.count q) m.root ≡ found
  unfolding tour.plain
  plain_found = rw (entries_are W C m.count m.root (few m W C q e) P)

  plain_told : plain_call m W C q out ≡ output (record { no = 0; hits = length found; entered = m.count }) (filled found out)
  unfolding plain_call
  plain_told =
      rw (eq-eqb (plain_number m W C q (length out)) 0 plain_zero)
      (counted (λ (l : List ℕ). filled l out) plain_found (entered_all W C m.count m.root (few m W C q e) P))

  pub plain_slots : handed_out (plain_call m W C q out) ≡ found
  plain_slots = rw plain_told (first_places found out)

  pub plain_run : (c : Cursor) (named : List Ask → List ℕ) → ((l : List Ask) → Lookup m W C q c found (named l) l)
      → OnceEach m.count (rules W m.count q).match found → PlainRun m W C q c (rules W m.count q).match P.tree out
  plain_run c named L o =
      record {
        told = plain_told;
        at_once = found_at_once m W C q c (rules W m.count q).match P.tree named L (plain_call m W C q out) plain_slots o;
      }

pub request_5 : (m : Map) (W C : List ℕ) → Request5 m W C
unfolding rules
request_5 m W C =
    record {
      overlap = λ sound q d P out h.
          plain_run m W C (Overlap q) (range_started m W C sound q d) P out h (fresh m.root) _ (λ l. (overlap_runs m W C q sound d P l).lookup)
          (overlap_runs m W C q sound d P []).once_each;
      exact = λ sound x d P out h.
          plain_run m W C (Exact x) (interval_started m W C sound x d) P out h _ _ (λ l. (exact_runs m W C x sound d P l).lookup)
          (exact_runs m W C x sound d P []).once_each;
    }
