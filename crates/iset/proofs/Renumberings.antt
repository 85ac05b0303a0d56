-- Document 02, item 14, of the public calls.
use Rattle.std.proofs.Common.{◌≡◌, ℕ, ◌<◌, ◌≤◌, List, length, get_or, take, sym, refl, ap, ◌∙◌, arith, length-take-le, eq-eqb, le-leb}
use Rattle.words.specs.Nodes.{capacity}
use Rattle.tree.specs.Tree.{slots}
use Rattle.plain_rule.specs.Tour.{entries}
use Rattle.plain_rule.proofs.Tours.{entries_are}
use Rattle.tidy_rule.specs.Plan.{renamed, proposed}
use Rattle.tidy_rule.specs.Tidy.{Both, tidied}
use Rattle.tidy_rule.specs.Tidied.{Tidied}
use Rattle.tidy_rule.proofs.Plans.{Fits, is_fits}
use Rattle.tidy_rule.proofs.Renumbers as renumbers
use Rattle.tidy_rule.proofs.Proposals.{take_proposed, length_proposed, proposed_kept, proposed_place, proposal_fits, tidy_slots, no_move}
use Rattle.iset.specs.Check.{check_rule}
use Rattle.iset.specs.Maps.{next_map}
use Rattle.iset.specs.Renumbered.{propose_in_lem, renumber_in_lem, proposal_of, tidied_by, ReadsAs, Renumbered, Request14}
use Rattle.iset.specs.Sequence.{renumber, State, answered}
use Rattle.iset.specs.Tidy.{propose_number, propose_call, renumber_number, renumber_call}
use Rattle.iset.specs.Unloaded.{Good}
use Rattle.iset.specs.declared.Map.{Map}
use Rattle.iset.proofs.Checks.{check_zero, zero_check}
use Rattle.iset.proofs.Opened.{propose_is, renumber_is}
use Rattle.iset.proofs.Orders.{propose_order, renumber_order}
use Rattle.iset.proofs.Tidyings.{propose_accepts, renumber_accepts, plan_fits, tree_before, by_rule_law}
use Rattle.iset.proofs.TidyRefusals.{propose_no, propose_refusals, propose_leaves, renumber_no, renumber_refusals, renumber_leaves}

module _ (S : State) where
  abbrev m : Map
  m = S.map

  abbrev n : ℕ
  n = S.map.count

  abbrev W : List ℕ
  W = S.words

  abbrev C : List ℕ
  C = S.colours

  -- an accepted plan
  module _ (plan : List ℕ) (e : (renumber_in_lem S plan).answer.no ≡ 0) where
    abbrev T : State
    T = answered S (renumber plan)

    abbrev R : Both
    R = tidied n plan W C

    zero : renumber_number m W C plan ≡ 0
    zero = sym (renumber_no m W C plan) ∙ e

    w : Fits n plan
    w = plan_fits m W C plan zero

    held : n ≤ capacity (length W) (length C)
    held = (check_zero m W C (renumber_accepts m W C plan zero).0).0

    few : n ≤ 65535
    few = omega (arith, held)

    after : T ≡ record { map = next_map m n (renamed n plan m.root); words = R.words; colours = R.colours }
    unfolding renumber_call
    after = rw (eq-eqb (renumber_number m W C plan) 0 zero) refl

    pub moves : Tidied n plan W C T.words T.colours
    unfolding renumber_call
    moves = rw (eq-eqb (renumber_number m W C plan) 0 zero) (by_rule_law m W C plan zero)

    pub map_is : T.map ≡ next_map m n (renamed n plan m.root)
    map_is = ap (λ (X : State). X.map) after

    is_renumbered : (P : Good S) → Renumbered S T P plan
    unfolding renumber_call
    is_renumbered P =
        rw (eq-eqb (renumber_number m W C plan) 0 zero)
        (let o : Tidied n plan W C R.words R.colours = by_rule_law m W C plan zero in
        record {
          moves = o;
          unique = λ X D k. let u = renumbers.tidied_unique n plan W C R.words R.colours w o X D k in record { words = u.0; colours = u.1 };
          passes = renumbers.renumbered n plan W C R.words R.colours w o m.root few P;
          shape = renumbers.renumbered_tree n plan W C R.words R.colours w o m.root few P;
          entries = renumbers.renumbered_entries n plan W C R.words R.colours w o m.root few P;
          map_is = refl;
        })

    still : ((s : ℕ) → s < n → get_or plan s 0 ≡ s) → ReadsAs T W C
    still same =
        let i = renumbers.idle n plan W C T.words T.colours w moves m.root few (tree_before m W C plan zero) same in
        record { words = i.0; colours = i.1 }

    after_passes : check_rule T.map T.words T.colours ≡ 0
    unfolding renumber_call
    after_passes =
        rw (eq-eqb (renumber_number m W C plan) 0 zero)
        (let o : Tidied n plan W C R.words R.colours = by_rule_law m W C plan zero in
        zero_check (next_map m n (renamed n plan m.root)) R.words R.colours (rw (o.words_length, o.colours_length) held)
        (renumbers.renumbered n plan W C R.words R.colours w o m.root few (tree_before m W C plan zero)))

  -- an output that is long enough
  module _ (out : List ℕ) (e : (propose_in_lem S out).answer ≡ 0) where
    asked : propose_number m W C (length out) ≡ 0
    asked = sym (propose_no m W C out) ∙ e

    long : n ≤ length out
    long = (propose_accepts m W C (length out) asked).1

    sound : check_rule m W C ≡ 0
    sound = (propose_accepts m W C (length out) asked).0

    pub few_slots : n ≤ 65535
    few_slots = omega (arith, (check_zero m W C sound).0)

    written : (propose_in_lem S out).output ≡ proposed n W m.root out
    unfolding propose_call
    written = rw (eq-eqb (propose_number m W C (length out)) 0 asked) refl

    places : (P : Good S) (i : ℕ) → i < n → get_or (propose_in_lem S out).output (get_or (slots P.tree) i 0) 0 ≡ i
    places P i h =
        rw (written, ← entries_are W C n m.root few_slots P) (proposed_place W C n m.root few_slots P out long i h)

    kept_places : (length (propose_in_lem S out).output ≡ length out) × ((s : ℕ) → n ≤ s → get_or (propose_in_lem S out).output s 0 ≡ get_or out s 0)
    kept_places =
        rw written
        (length_proposed n W m.root out, λ s h. proposed_kept W C n m.root few_slots (check_zero m W C sound).1 out s h)

    abbrev P : List ℕ
    P = proposal_of S out

    proposal : P ≡ proposed n W m.root (take n out)
    proposal = ap (take n) written ∙ take_proposed n n W m.root out

    whole : length P ≡ n
    whole = rw proposal (length_proposed n W m.root (take n out) ∙ length-take-le n out long)

    good : Good S
    good = (check_zero m W C sound).1

    accepted : (renumber_in_lem S P).answer.no ≡ 0
    accepted =
        renumber_no m W C P ∙ renumber_order m W C P
        ∙ rw (sound, is_fits n P (proposal_fits W C n m.root few_slots good P whole (take n out) proposal)) refl

    abbrev A : State
    A = tidied_by S out

    in_row : (i : ℕ) → i < n → get_or (entries n A.words (renamed n P m.root)) i 0 ≡ i
    in_row i h = tidy_slots W C n m.root few_slots good P whole (take n out) proposal A.words A.colours (moves P accepted) i h

    same_map : A.map ≡ next_map m n (renamed n P m.root)
    same_map = map_is P accepted

    same_count : A.map.count ≡ n
    same_count = ap (λ (k : Map). k.count) same_map

    ordered : (Q : Good A) (i : ℕ) → i < n → get_or (slots Q.tree) i 0 ≡ i
    ordered Q i h =
        ap (λ (l : List ℕ). get_or l i 0)
        (sym (entries_are A.words A.colours A.map.count A.map.root (omega (arith, few_slots, same_count)) Q)
        ∙ ap (λ (k : Map). entries k.count A.words k.root) same_map)
        ∙ in_row i h

    proposed_again : (more : List ℕ) → n ≤ length more → (s : ℕ) → s < n → get_or (proposed A.map.count A.words A.map.root more) s 0 ≡ s
    proposed_again more h s i =
        ap (λ (k : Map). get_or (proposed k.count A.words k.root more) s 0) same_map
        ∙ no_move W C n m.root few_slots good P whole (take n out) proposal A.words A.colours (moves P accepted) more h s i

    again_asked : (more : List ℕ) → n ≤ length more → (propose_in_lem A more).answer ≡ 0
    again_asked more h =
        propose_no A.map A.words A.colours more ∙ propose_order A.map A.words A.colours (length more)
        ∙ rw (after_passes P accepted, le-leb A.map.count (length more) (omega (arith, same_count))) refl

again : (S : State) (out : List ℕ) (e : (propose_in_lem S out).answer ≡ 0) (more : List ℕ) → S.map.count ≤ length more
    → ((propose_in_lem (tidied_by S out) more).answer ≡ 0) × ((s : ℕ) → s < S.map.count → get_or (propose_in_lem (tidied_by S out) more).output s 0 ≡ s)
again S out e more h =
    let z = again_asked S out e more h in
    (z, λ s i. ap (λ (l : List ℕ). get_or l s 0) (written (tidied_by S out) more z) ∙ proposed_again S out e more h s i)

pub request_14 : (S : State) → Request14 S
request_14 S =
    record {
      propose_refusals = λ out. propose_refusals S.map S.words S.colours out;
      propose_refused = λ out. propose_leaves S.map S.words S.colours out;
      proposes = λ out e. places S out e;
      proposes_below = λ out e. kept_places S out e;
      renumber_refusals = λ plan. renumber_refusals S.map S.words S.colours plan;
      renumber_refused = λ plan. renumber_leaves S.map S.words S.colours plan;
      renumbers = λ plan e. is_renumbered S plan e;
      passes = λ plan e. after_passes S plan e;
      idle = λ plan e. still S plan e;
      accepted = λ out e. accepted S out e;
      in_order = λ out e. ordered S out e;
      no_move = λ out more e. again S out e more;
      opened_propose = λ out h. propose_is S.map S.words S.colours h out;
      opened_renumber = λ plan h. renumber_is S.map S.words S.colours h plan;
    }
