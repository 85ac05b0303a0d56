-- The work in lent memory is the work of document 01's words.
use mathlib.Core.Path.{◌≡◌, refl, sym, ap, subst, ◌∙◌}
use mathlib.Core.Bool.{Bool, true, false, cond}
use mathlib.Core.List.{List, [], ◌∷◌, ◌++◌}
use Prim.Native.Nat.{ℕ, ◌+◌, ◌*◌, ◌/◌, ◌<◌, ◌≤◌, min}
use native.Mathlib.Omega.{arith}
use lib.ListN.{length, take, drop, length-append}
use lib.Seq.{sets, sets-eq, length-sets, take_at, length-take-le}
use lib.Dec.{eqb, ltb, leb}
use borrow.Author.Tests.{ltb-true, eqb-true, eq-eqb, le-leb}
use Rattle.tree_rm_rule.specs.Remove.{remove_rule}
use Rattle.tree_edit.specs.Inside.{Inside}
use Rattle.tree_rm_rule.proofs.Inside.{removed_inside}
use Rattle.iset.specs.Effects.{Effect}
use Rattle.iset.specs.Build.{BuildAnswer, build_call}
use Rattle.iset.specs.Remove.{RemoveAnswer, remove_number, remove_call}
use Rattle.iset.specs.Maps.{empty_map}
use Rattle.iset.specs.declared.Map.{Map}
use Rattle.iset.proofs.Answers.{build_answers}
use Rattle.iset.proofs.Builds.{Accepted, accepted}
use Rattle.iset.proofs.Refusals.{build_no, remove_no}
use Rattle.iset.proofs.Removals.{accepts}
use Rattle.slotlist_core.specs.Printed.{Stand, listed, mapped, refused, left, built, settled, removal, removed, entered, wrong, after}
use Rattle.slotlist_core.specs.Working.{Desk, desk, room_for, entered_work, entered_list, listed_in, work_left}
use Rattle.slotlist_core.specs.Working.{built_in, removal_in, settled_by, removed_by, wrong_in, on_desk, line_in}
use Rattle.slotlist_core.specs.Feeding.{settled_desk}
use Rattle.slotlist_core.specs.declared.reading.Said.{Said}
use Rattle.slotlist_core.specs.declared.reading.Said.TheVariants.{Entry, Remove, Other}
use Rattle.slotlist_core.specs.Working.{Job, Listing, Mapped, Refused}
use Rattle.words.specs.Nodes.{Holds}

-- what the lines led to, read off the work and its memory
abbrev pub stand_of : Job → List ℕ → List ℕ → List ℕ → Stand
stand_of (Listing n) X K E = listed (listed_in n E)
stand_of (Mapped m) X K E = mapped m X K
stand_of (Refused why) X K E = refused why

-- The work stands in memory that was W and C at first and is so while entries are listed; 256
-- entries at most are listed and held.
abbrev pub Kept : List ℕ → List ℕ → Job → List ℕ → List ℕ → Type 0
Kept W C (Listing n) X K = (n ≤ 256) × (X ≡ W) × (K ≡ C)
Kept W C (Mapped m) X K = (m.count ≤ 256) × Holds X m.count
Kept W C (Refused why) X K = Unit {0}

-- the work w in the memory X, K and E is the stand t
pub record Stands (W C : List ℕ) (d : Desk) (t : Stand) : Type 0 where
  pub same : stand_of d.work d.nodes d.colours d.entries ≡ t
  pub kept : Kept W C d.work d.nodes d.colours
  pub long : 768 ≤ length d.entries

-- n entries are listed
module _ (n : ℕ) (E : List ℕ) (h : n ≤ 256) (long : 768 ≤ length E) where
  list_take : listed_in n E ≡ take (n * 3) E
  unfolding listed_in
  list_take = let e : min n (length E / 3) * 3 ≡ n * 3 = omega arith in rw e

  list_length : length (listed_in n E) ≡ n * 3
  list_length = ap length list_take ∙ length-take-le (n * 3) E (omega arith)

list_more : (n a b c : ℕ) (E : List ℕ) → n < 256 → 768 ≤ length E
    → listed_in (n + 1) (sets E (n * 3) (a ∷ b ∷ c ∷ [])) ≡ listed_in n E ++ (a ∷ b ∷ c ∷ [])
list_more n a b c E h long =
    let v : List ℕ = a ∷ b ∷ c ∷ [] in
    let g : 768 ≤ length (sets E (n * 3) v) = rw (length-sets E (n * 3) v) long in
    let e : sets E (n * 3) v ≡ take (n * 3) E ++ v ++ drop (n * 3 + 3) E = sets-eq v E (n * 3) (omega arith) in
    let f : (n + 1) * 3 ≡ n * 3 + 3 = omega arith in
    let l : length (take (n * 3) E ++ v) ≡ n * 3 + 3 =
    length-append (take (n * 3) E) v ∙ ap (λ (k : ℕ). k + 3) (length-take-le (n * 3) E (omega arith)) in
    list_take (n + 1) (sets E (n * 3) v) (omega arith) g
    ∙ ap (λ (k : ℕ). take k (sets E (n * 3) v)) f
    ∙ ap (λ (s : List ℕ). take (n * 3 + 3) s) e
    ∙ take_at (take (n * 3) E ++ v) (drop (n * 3 + 3) E) (n * 3 + 3) l
    ∙ ap (λ (s : List ℕ). s ++ v) (sym (list_take n E (omega arith) long))

-- what a call leaves: the number of a refusal, or the map, whose entries the words hold
module _ (W C : List ℕ) (why : ℕ) (m : Map) (X K E : List ℕ) (long : 768 ≤ length E) where
  call_left : (why ≡ 0 → (m.count ≤ 256) × Holds X m.count) → Stands W C (desk (work_left why m) X K E) (left why m X K)
  call_left f = go (eqb why 0) refl
    where
      go : (t : Bool) → eqb why 0 ≡ t → Stands W C (desk (cond t (Mapped m) (Refused why)) X K E) (cond t (mapped m X K) (refused why))
      go true e = record { same = refl; kept = f (eqb-true why 0 e); long = long }
      go false e = record { same = refl; kept = tt; long = long }

-- what an accepted build answers, and an accepted removal
build_held : (W C S : List ℕ) → length S ≤ 768 → (build_call empty_map W C S).answer.no ≡ 0
    → ((build_call empty_map W C S).answer.map.count ≤ 256) × ((build_call empty_map W C S).answer.map.count * 8 ≤ length (build_call empty_map W C S).words)
build_held W C S h e =
    let a : Accepted (length W) (length C) S = accepted (length W) (length C) S (sym (build_no empty_map W C S) ∙ e) in
    let b = build_answers empty_map W C S e in
    (omega (arith, b.0), omega (arith, b.0, b.1.words_length, a.room_for_lem))

remove_mapped_lem : (m : Map) (W C : List ℕ) (k : ℕ) → m.count ≤ 256 → Holds W m.count → (remove_call m W C k).answer.no ≡ 0
    → ((remove_call m W C k).answer.map.count ≤ 256) × ((remove_call m W C k).answer.map.count * 8 ≤ length (remove_call m W C k).words)
unfolding remove_call
remove_mapped_lem m W C k h g e =
    let z : remove_number m W C k ≡ 0 = sym (remove_no m W C k) ∙ e in
    let i : Inside m.count W C (remove_rule W C m.count m.root k).store =
    removed_inside W C m.count m.root k (accepts m W C k z).1 in
    rw (eq-eqb (remove_number m W C k) 0 z, i.words_length) (omega arith, omega arith)

-- Each kind of line, on work that stands in memory.
module _ (W C : List ℕ) where
  built_stands : (S E : List ℕ) → length S ≤ 768 → 768 ≤ length E → Stands W C (on_desk (built_in W C S) E) (built W C S)
  unfolding built_in built
  built_stands S E h long =
      let r : Effect BuildAnswer = build_call empty_map W C S in
      call_left W C r.answer.no r.answer.map r.words r.colours E long (build_held W C S h)

  settled_of : (w : Job) (X K E : List ℕ) → Kept W C w X K → 768 ≤ length E
      → Stands W C (on_desk (settled_by E w X K) E) (settled W C (stand_of w X K E))
  settled_of (Listing n) X K E p long =
      rw (p.1, p.2) (built_stands (listed_in n E) E (omega (arith, list_length n E p.0 long)) long)
  settled_of (Mapped m) X K E p long = record { same = refl; kept = p; long = long }
  settled_of (Refused why) X K E p long = record { same = refl; kept = p; long = long }

  removal_stands : (m : Map) (X K E : List ℕ) (k : ℕ) → m.count ≤ 256 → Holds X m.count → 768 ≤ length E
      → Stands W C (on_desk (removal_in m X K k) E) (removal m X K k)
  unfolding removal_in removal
  removal_stands m X K E k h g long =
      let r : Effect RemoveAnswer = remove_call m X K k in
      call_left W C r.answer.no r.answer.map r.words r.colours E long (remove_mapped_lem m X K k h g)

  removed_of : (k : ℕ) (w : Job) (X K E : List ℕ) → Kept W C w X K → 768 ≤ length E
      → Stands W C (on_desk (removed_by k w X K) E) (removed k (stand_of w X K E))
  removed_of k (Listing n) X K E p long = record { same = refl; kept = p; long = long }
  removed_of k (Mapped m) X K E p long = removal_stands m X K E k p.0 p.1 long
  removed_of k (Refused why) X K E p long = record { same = refl; kept = p; long = long }

  entered_of : (a b c : ℕ) (w : Job) (X K E : List ℕ) → Kept W C w X K → 768 ≤ length E
      → Stands W C (desk (entered_work w (length E)) X K (entered_list w a b c E)) (entered a b c (stand_of w X K E))
  unfolding room_for
  entered_of a b c (Listing n) X K E p long =
      let e : length (listed_in n E) / 3 ≡ n = omega (arith, list_length n E p.0 long) in
      rw e (go (ltb n 256) refl)
    where
      go : (t : Bool) → ltb n 256 ≡ t
          → Stands W C (desk (cond (cond t (leb (n * 3 + 3) (length E)) false) (Listing (n + 1)) (Refused 1)) X K
          (cond (cond t (leb (n * 3 + 3) (length E)) false) (sets E (n * 3) (a ∷ b ∷ c ∷ [])) E))
          (cond t (listed (listed_in n E ++ (a ∷ b ∷ c ∷ []))) (refused 1))
      go true f =
          let h : n < 256 = ltb-true n 256 f in
          let l : leb (n * 3 + 3) (length E) ≡ true = le-leb (n * 3 + 3) (length E) (omega arith) in
          rw l (record {
            same = ap listed (list_more n a b c E h long);
            kept = (omega arith, p.1, p.2);
            long = rw (length-sets E (n * 3) (a ∷ b ∷ c ∷ [])) long;
          })
      go false f = record { same = refl; kept = tt; long = long }
  entered_of a b c (Mapped m) X K E p long = record { same = refl; kept = tt; long = long }
  entered_of a b c (Refused why) X K E p long = record { same = refl; kept = tt; long = long }

  wrong_of : (w : Job) (X K E : List ℕ) → Kept W C w X K → 768 ≤ length E
      → Stands W C (desk (wrong_in w) X K E) (wrong (stand_of w X K E))
  wrong_of (Listing n) X K E p long = record { same = refl; kept = tt; long = long }
  wrong_of (Mapped m) X K E p long = record { same = refl; kept = tt; long = long }
  wrong_of (Refused why) X K E p long = record { same = refl; kept = tt; long = long }

  -- the end of the list
  pub stands_settled : (d : Desk) (t : Stand) → Stands W C d t → Stands W C (settled_desk d) (settled W C t)
  stands_settled d t s =
      subst (λ (u : Stand). Stands W C (settled_desk d) (settled W C u)) s.same
      (settled_of d.work d.nodes d.colours d.entries s.kept s.long)

  -- one line
  pub stands_line : (o : Said) (d : Desk) (t : Stand) → Stands W C d t → Stands W C (line_in o d) (after W C o t)
  unfolding line_in
  stands_line (Entry a b c) d t s =
      subst (λ (u : Stand). Stands W C (line_in (Entry a b c) d) (entered a b c u)) s.same
      (entered_of a b c d.work d.nodes d.colours d.entries s.kept s.long)
  stands_line (Remove k) d t s =
      let e : Desk = settled_desk d in
      let r : Stands W C e (settled W C t) = stands_settled d t s in
      subst (λ (u : Stand). Stands W C (line_in (Remove k) d) (removed k u)) r.same
      (removed_of k e.work e.nodes e.colours e.entries r.kept r.long)
  stands_line Other d t s =
      subst (λ (u : Stand). Stands W C (line_in Other d) (wrong u)) s.same
      (wrong_of d.work d.nodes d.colours d.entries s.kept s.long)
