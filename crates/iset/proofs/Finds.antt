-- The fast lookup, of the public call: it finds what the other lookups find, and the nodes that it
-- enters are among those that steps and drains enter.
use Rattle.std.proofs.Common.{◌≡◌, ℕ, ◌<◌, ◌≤◌, List, [], ◌∷◌, ◌++◌, length, sym, refl, ◌∙◌, append-nil, arith, take_all, eq-eqb}
use Rattle.words.specs.Lists.{filter}
use Rattle.tree.specs.Tree.{slots, times}
use Rattle.tree.specs.Passes.{Passes}
use Rattle.iter.specs.Cursors.{fresh, ended}
use Rattle.iter.specs.Drains.{calls}
use Rattle.iter.specs.Queries.{rules}
use Rattle.iter.specs.declared.Cursor.{Cursor}
use Rattle.iter.specs.declared.rules.Query.{Query}
use Rattle.iter.specs.declared.rules.Query.TheVariants.{Overlap, Ruled, Exact}
use Rattle.iter.proofs.Drains.{drain_count}
use Rattle.fast_rule.specs.Fast.{start_at, fast_nodes, fast_hits, fitted}
use Rattle.fast_rule.proofs.Runs.{fast_overlap, fast_ruled, fast_exact, fast_once, fast_among, fast_entered}
use Rattle.iset.specs.Effects.{output}
use Rattle.iset.specs.Lookup.{start_number, drain_call}
use Rattle.iset.specs.Find.{find_all_call}
use Rattle.iset.specs.AtOnce.{handed_out}
use Rattle.iset.specs.FindRuns.{FindAllRun, FastLookup}
use Rattle.iset.specs.Runs.{Ask, drain, run, Lookup, OnceEach}
use Rattle.iset.specs.declared.Map.{Map}
use Rattle.iset.proofs.AtOnces.{counted, first_places, total_one, found_at_once}
use Rattle.iset.proofs.Found.{few}
use Rattle.iset.proofs.Plains.{plain_slots}
use Rattle.iset.proofs.Runs.{range_started, interval_started, exact_fresh, overlap_runs, exact_runs, exact_lookups}

-- An accepted lookup in a store with the tree of P.
module _ (m : Map) (W C : List ℕ) (q : Query) (e : start_number m W C q ≡ 0) (P : Passes W C m.count m.root) where
  abbrev found : List ℕ
  found = filter (rules W m.count q).match (slots P.tree)

  abbrev nodes : List ℕ
  nodes = fast_nodes W m.count q m.root

  hits_of : (q : Query) → m.count ≤ 65535 → fast_hits W m.count q m.root ≡ filter (rules W m.count q).match (slots P.tree)
  unfolding rules
  hits_of (Overlap q) small = fast_overlap W C m.count m.root small P q
  hits_of (Ruled k q) small = fast_ruled W C m.count m.root small P k q
  hits_of (Exact x) small = fast_exact W C m.count m.root small P x

  hits_are : fast_hits W m.count q m.root ≡ found
  hits_are = hits_of q (few m W C q e)

  find_told : (out : List ℕ) → find_all_call m W C q out ≡ output (record { no = 0; hits = length found; entered = length nodes }) (fitted found out)
  unfolding find_all_call
  find_told out = rw (eq-eqb (start_number m W C q) 0 e) (counted (λ (l : List ℕ). fitted l out) hits_are refl)

  find_slots : (out : List ℕ) → length found ≤ length out → handed_out (find_all_call m W C q out) ≡ found
  find_slots out h = rw (find_told out, take_all (length out) found h) (first_places found out)

  -- beside a lookup of the same by steps and drains from the cursor c
  module _ (c : Cursor) (begins : c ≡ fresh (start_at W m.count q m.root)) (named : List ℕ) (L : (l : List Ask) → Lookup m W C q c found named l) where
    -- one drain into a place more than there are hits
    abbrev places : List ℕ
    places = 0 ∷ found

    abbrev whole : List Ask
    whole = drain 0 places ∷ []

    whole_ends : (run m W C q c whole).next ≡ ended
    whole_ends = (L whole).ends (rw (total_one 0 places (omega arith)) (omega arith))

    whole_nodes : calls W m.count (rules W m.count q) (length places) (fresh (start_at W m.count q m.root)) ≡ named
    whole_nodes =
        let z : (drain_call m W C q c 0 places).answer.no ≡ 0 = ((L whole).none_refused (omega arith, tt)).0 in
        let i : calls W m.count (rules W m.count q) (length places) c ++ [] ≡ named = rw z at ((L whole).nodes_all whole_ends) in
        rw (← begins) (sym (append-nil (calls W m.count (rules W m.count q) (length places) c)) ∙ i)

    enough : length (fast_hits W m.count q m.root) < length places
    enough = rw hits_are (omega arith)

    among_named : (s : ℕ) → times s nodes ≤ times s named
    among_named s = rw (← whole_nodes) (fast_among W C m.count m.root (few m W C q e) P q (length places) enough s)

    no_more_named : length nodes ≤ length named
    no_more_named =
        rw (← whole_nodes, ← (drain_count W m.count (rules W m.count q) (length places) (fresh (start_at W m.count q m.root))))
        (fast_entered W C m.count m.root (few m W C q e) P q (length places) enough)

    pub find_run : OnceEach m.count (rules W m.count q).match found → (out : List ℕ)
        → FindAllRun m W C q c (rules W m.count q).match P.tree out
    find_run o out =
        record {
          told = find_told out;
          at_once = λ h.
              found_at_once m W C q c (rules W m.count q).match P.tree (λ l. named) L (find_all_call m W C q out) (find_slots out h) o;
          plain_agrees = λ h wide i. find_slots out h ∙ sym (plain_slots m W C q e P wide i);
          nodes_once = fast_once W C m.count m.root (few m W C q e) P q;
          among = λ l i s. rw ((L l).nodes_all i) (among_named s);
          no_more = λ l i. rw (find_told out, (L l).counted, (L l).nodes_all i) no_more_named;
        }

pub fast_lookup : (m : Map) (W C : List ℕ) → FastLookup m W C
unfolding rules start_at
fast_lookup m W C =
    record {
      overlap = λ sound q d P out.
          find_run m W C (Overlap q) (range_started m W C sound q d) P (fresh m.root) refl _ (λ l. (overlap_runs m W C q sound d P l).lookup)
          (overlap_runs m W C q sound d P []).once_each out;
      exact = λ sound x d P out.
          let e : start_number m W C (Exact x) ≡ 0 = interval_started m W C sound x d in
          exact_lookups m W C x e P (λ named L.
          find_run m W C (Exact x) e P _ (exact_fresh m W C x e) named L (exact_runs m W C x sound d P []).once_each out);
    }
