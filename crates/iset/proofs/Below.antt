-- "Slots from count up are not read": on two stores that agree below the count each public call
-- answers the same and writes the same into its output, and a removal or an insertion leaves stores
-- that agree below the count that it answers.
use Rattle.std.proofs.Common.{◌≡◌, ℕ, zero, suc, ◌+◌, ◌-◌, ◌/◌, ◌^◌, ◌<◌, ◌≤◌, Bool, true, false, cond, ◌&&◌, eqb, ltb, leb, List, [], ◌∷◌, ◌++◌, length, sym, refl, ◌∙◌, arith, ltb-true, ne_eqb}
use Rattle.words.specs.Ix.{U}
use Rattle.words.specs.Lists.{filter}
use Rattle.words.specs.Nodes.{capacity, hi, lo, kid, par, hull, entry}
use Rattle.words.specs.Intervals.{reached, admits, contains}
use Rattle.words.specs.declared.interval.Interval.{Interval}
use Rattle.words.specs.declared.interval.Span.{Span}
use Rattle.words.specs.declared.node.Entry.{Entry}
use Rattle.words.specs.declared.node.Field.TheVariants.{Start, End, Value, HullStart, HullEnd, Child, Parent}
use Rattle.audit.proofs.Unread.{whole_below}
use Rattle.tree_rm_rule.specs.Remove.{remove_rule}
use Rattle.tree.specs.Below.{Agree}
use Rattle.tree_edit.specs.Links.{leftmost}
use Rattle.tree_edit.specs.Below.{Alike}
use Rattle.tree_edit.proofs.Below.{link_same}
use Rattle.tree_rm_rule.proofs.Below.{SameRemoved, removed_below}
use Rattle.tree_rm_rule.proofs.Below as removal
use Rattle.tree_in_rule.specs.Insert.{insert_rule}
use Rattle.tree_in_rule.proofs.Below.{inserted_below}
use Rattle.tree_in_rule.proofs.Below as insertion
use Rattle.stack.specs.States.{top, state_at_lem}
use Rattle.iter.specs.Cursors.{stack_of}
use Rattle.iter.specs.Walk.{Rules, deeper, down, move, hits, ending, hitting, counts, seek, fuel, step}
use Rattle.iter.specs.Drains.{drain, limit_of_lem}
use Rattle.iter.specs.Forms.{on_side, formed, held_form, form_of}
use Rattle.iter.specs.Lists.{when}
use Rattle.iter.specs.Ranges.{by_rule_lem}
use Rattle.iter.specs.Overlap.{meets, should_go}
use Rattle.iter.specs.Exact.{equals, toward, should_go_exact, exact, find}
use Rattle.iter.specs.Queries.{rules}
use Rattle.iter.specs.declared.Cursor.{Cursor}
use Rattle.iter.specs.declared.rules.Query.{Query}
use Rattle.iter.specs.declared.rules.Query.TheVariants.{Overlap, Ruled, Exact}
use Rattle.words.proofs.Lists.{filter_append}
use Rattle.iter_laws.proofs.Script.{Linked}
use Rattle.iter_laws.proofs.Walks.{links}
use Rattle.plain_rule.specs.Tour.{ascend, next_of, first_of, tour, plain}
use Rattle.plain_rule.specs.Tour as tours
use Rattle.fast_rule.specs.Fast.{nears, should_enter, fast_rules, start_at, entering, fast_nodes, fast_hits}
use Rattle.fast_rule.proofs.Narrow.{narrow_linked}
use Rattle.little.specs.Numbers.{Bytes}
use Rattle.image_rule.proofs.Below.{image_below}
use Rattle.iset.specs.Effects.{Effect, effect}
use Rattle.iset.specs.Check.{check_rule}
use Rattle.iset.specs.Build.{build_number, refused_build, build_list_lem, build_call}
use Rattle.iset.specs.Remove.{remove_number, RemoveAnswer, refused_removal, remove_reach, remove_slot_lem, remove_call}
use Rattle.iset.specs.Insert.{insert_number, InsertAnswer, refused_insertion, insert_reach, insert_entry_lem, insert_call}
use Rattle.unload_rule.proofs.Below as unloading
use Rattle.tidy_rule.proofs.Below as tidying
use Rattle.iset.specs.Tidy.{propose_number, propose_by, propose_call, renumber_number, RenumberAnswer, refused_renumbering, renumber_plan_lem, renumber_call}
use Rattle.iset.specs.Unload.{unload_number, UnloadAnswer, refused_unloading, unload_range_lem, unload_call}
use Rattle.iset.specs.Lookup.{beginning, start_number, step_number, drain_number, start_call, step_call, drain_call}
use Rattle.iset.specs.Plain.{plain_number, plain_call}
use Rattle.iset.specs.Find.{find_all_call}
use Rattle.iset.specs.Image.{write_image_number, write_image_call, read_image_number, read_store, read_image_call}
use Rattle.iset.specs.Ticket.{read_number_lem, read_by, read_call}
use Rattle.iset.specs.Below.{SameBelow, SameEffect}
use Rattle.iset.specs.declared.Map.{Map}
use Rattle.iset.specs.declared.ticket.Ticket.{Ticket}
use Rattle.iset.proofs.Checks.{check_zero}
use Rattle.iset.proofs.Orders.{propose_order, renumber_order, remove_order, read_order, write_image_order, insert_order, start_order, plain_order, step_order, drain_order}
use Rattle.iset.proofs.Removals as removals
use Rattle.iset.proofs.Insertions as insertions
use Rattle.iset.proofs.Readings as readings
use Rattle.iset.proofs.Unloadings as unloadings
use Rattle.iset.proofs.Tidyings as tidyings

-- the check
pub check_below : (m : Map) (W C X D : List ℕ) → SameBelow m.count W C X D → check_rule m W C ≡ check_rule m X D
unfolding check_rule
check_below m W C X D s = rw (s.words.0, s.colours.0, whole_below W C X D m.count s.words s.colours m.root)

-- a build reads no slot at all: its answer goes by the two lengths and the list
pub build_below : (m : Map) (W C X D S : List ℕ) → length W ≡ length X → length C ≡ length D → (build_call m W C S).answer ≡ (build_call m X D S).answer
unfolding build_call
build_below m W C X D S e f = rw (e, f) (go (eqb (build_number (length X) (length D) S) 0))
  where
    go : (t : Bool)
        → (cond t (build_list_lem m W C S) (effect (refused_build m (build_number (length X) (length D) S)) W C)).answer
        ≡ (cond t (build_list_lem m X D S) (effect (refused_build m (build_number (length X) (length D) S)) X D)).answer
    go true = refl
    go false = refl

-- nor does the reading of an image: its answer goes by the two lengths and the image
pub read_image_below : (m : Map) (W C X D I : List ℕ) → length W ≡ length X → length C ≡ length D → (read_image_call m W C I).answer ≡ (read_image_call m X D I).answer
unfolding read_image_call
read_image_below m W C X D I e f = rw (e, f) (go (eqb (read_image_number (length X) (length D) I) 0))
  where
    go : (t : Bool)
        → (cond t (read_store m W C I) (effect (refused_build m (read_image_number (length X) (length D) I)) W C)).answer
        ≡ (cond t (read_store m X D I) (effect (refused_build m (read_image_number (length X) (length D) I)) X D)).answer
    go true = refl
    go false = refl

-- the rules of a lookup, at a slot below the count
module _ (n : ℕ) (W X : List ℕ) (A : Agree n W X) where
  same_side : (q : Span) (b : Bool) (s : ℕ) → s < n → should_go W n q b s ≡ should_go X n q b s
  unfolding should_go
  same_side q true s l =
      rw (A.1 (Child true) s l)
      (link_same n {A = Bool} (λ i j. i ≡ j) (kid X true s) (λ a. reached q.lo (hi W a)) (λ a. reached q.lo (hi X a)) false false
      (λ h. rw (A.1 HullEnd (kid X true s) h)) refl)
  same_side q false s l =
      rw (A.1 (Child false) s l)
      (link_same n {A = Bool} (λ i j. i ≡ j) (kid X false s) (λ a. admits q.hi (lo W a)) (λ a. admits q.hi (lo X a)) false false
      (λ h. rw (A.1 HullStart (kid X false s) h)) refl)

  same_go : (q : Query) (b : Bool) (s : ℕ) → s < n → (rules W n q).go b s ≡ (rules X n q).go b s
  unfolding rules should_go_exact toward
  same_go (Overlap q) b s l = same_side q b s l
  same_go (Ruled k q) b s l = same_side q b s l
  same_go (Exact x) true s l =
      rw (A.1 (Child true) s l, A.1 Start s l, A.1 End s l)
      (link_same n {A = Bool} (λ i j. i ≡ j) (kid X true s) (λ a. toward X x true s && contains (hull W a) x) (λ a. toward X x true s && contains (hull X a) x) false false
      (λ h. rw (A.1 HullStart (kid X true s) h, A.1 HullEnd (kid X true s) h)) refl)
  same_go (Exact x) false s l =
      rw (A.1 (Child false) s l, A.1 Start s l, A.1 End s l)
      (link_same n {A = Bool} (λ i j. i ≡ j) (kid X false s) (λ a. toward X x false s && contains (hull W a) x) (λ a. toward X x false s && contains (hull X a) x) false false
      (λ h. rw (A.1 HullStart (kid X false s) h, A.1 HullEnd (kid X false s) h)) refl)

  same_match : (q : Query) (s : ℕ) → s < n → (rules W n q).match s ≡ (rules X n q).match s
  unfolding rules meets equals
  same_match (Overlap q) s l = rw (A.1 Start s l, A.1 End s l)
  same_match (Ruled k q) s l = rw (A.1 Start s l, A.1 End s l)
  same_match (Exact x) s l = rw (A.1 Start s l, A.1 End s l)

  -- the walk
  module _ (q : Query) where
    abbrev Q : Rules
    Q = rules W n q

    abbrev R : Rules
    R = rules X n q

    same_deeper : (b : Bool) (c : Cursor) → c.slot < n → deeper Q b c ≡ deeper R b c
    unfolding deeper
    same_deeper b c l = rw (same_go q b c.slot l)

    same_move : (c : Cursor) → c.slot < n → move W Q c ≡ move X R c
    unfolding move down
    same_move c l =
        rw (same_deeper true c l, same_deeper false c l, A.1 (Child true) c.slot l, A.1 (Child false) c.slot l, A.1 Parent c.slot l)

    same_hits : (c : Cursor) → hits n Q c ≡ hits n R c
    unfolding hits
    same_hits c = go (ltb c.slot n) refl
      where
        go : (t : Bool) → ltb c.slot n ≡ t → t && (eqb (top (stack_of c)) 1 && Q.match c.slot) ≡ t && (eqb (top (stack_of c)) 1 && R.match c.slot)
        go true e = rw (same_match q c.slot (ltb-true c.slot n e))
        go false e = refl

    same_seek : (f e : ℕ) (c : Cursor) → seek W n Q f e c ≡ seek X n R f e c
    unfolding seek
    same_seek zero e c = refl
    same_seek (suc f) e c = go (same_seek f) (ltb c.slot n) refl
      where
        go : ((e : ℕ) (c : Cursor) → seek W n Q f e c ≡ seek X n R f e c) → (t : Bool) → ltb c.slot n ≡ t
            → cond t (cond (hits n Q (move W Q c)) (hitting (move W Q c) e) (seek W n Q f (e + counts n (move W Q c)) (move W Q c))) (ending e)
            ≡ cond t (cond (hits n R (move X R c)) (hitting (move X R c) e) (seek X n R f (e + counts n (move X R c)) (move X R c))) (ending e)
        go rec true i = rw (same_move c (ltb-true c.slot n i), same_hits (move X R c), rec (e + counts n (move X R c)) (move X R c))
        go rec false i = refl

    same_step : (c : Cursor) → step W n Q c ≡ step X n R c
    unfolding step
    same_step c = same_seek (fuel n) (counts n c) c

    same_drain : (limit : ℕ) (c : Cursor) → drain W n Q limit c ≡ drain X n R limit c
    unfolding drain
    same_drain zero c = refl
    same_drain (suc limit) c = rw (same_step c, same_drain limit (step X n R c).next)

  -- where a lookup begins, and the forms of its cursors
  same_find : (x : Interval) (f k : ℕ) → find W n x f k ≡ find X n x f k
  unfolding find equals toward
  same_find x zero k = refl
  same_find x (suc f) k = go (same_find x f) (ltb k n) refl
    where
      go : ((k : ℕ) → find W n x f k ≡ find X n x f k) → (t : Bool) → ltb k n ≡ t
          → cond t (cond (equals W x k) k (find W n x f (kid W (toward W x true k) k))) U
          ≡ cond t (cond (equals X x k) k (find X n x f (kid X (toward X x true k) k))) U
      go rec false i = refl
      go rec true i =
          let l : k < n = ltb-true k n i in
          rw (A.1 Start k l, A.1 End k l, A.1 (Child (toward X x true k)) k l, rec (kid X (toward X x true k) k))

  same_formed : (k bits j s : ℕ) → s < n → formed W n k bits j s ≡ formed X n k bits j s
  unfolding formed on_side
  same_formed k bits zero s l = refl
  same_formed k bits (suc j) s l = rw (A.1 Parent s l) (go (same_formed k bits j) (ltb (par X s) n) refl)
    where
      go : ((s : ℕ) → s < n → formed W n k bits j s ≡ formed X n k bits j s) → (t : Bool) → ltb (par X s) n ≡ t
          → t && (on_side W (state_at_lem bits j) (par X s) s && formed W n k bits j (par X s))
          ≡ t && (on_side X (state_at_lem bits j) (par X s) s && formed X n k bits j (par X s))
      go rec false i = refl
      go rec true i =
          let p : par X s < n = ltb-true (par X s) n i in
          rw (A.1 (Child true) (par X s) p, A.1 (Child false) (par X s) p, rec (par X s) p)

  same_held : (k : ℕ) (c : Cursor) → held_form W n k c ≡ held_form X n k c
  unfolding held_form
  same_held k c = go (ltb c.slot n) refl
    where
      go : (t : Bool) → ltb c.slot n ≡ t
          → t && (leb 1 c.levels && (leb c.levels 32 && (eqb (c.bits / 4 ^ (c.levels - 1)) 1 && formed W n k c.bits (c.levels - 1) c.slot)))
          ≡ t && (leb 1 c.levels && (leb c.levels 32 && (eqb (c.bits / 4 ^ (c.levels - 1)) 1 && formed X n k c.bits (c.levels - 1) c.slot)))
      go false i = refl
      go true i = rw (same_formed k c.bits (c.levels - 1) c.slot (ltb-true c.slot n i))

  same_form : (k : ℕ) (c : Cursor) → form_of W n k c ≡ form_of X n k c
  unfolding form_of
  same_form k c = rw (same_held k c)

  -- the plain lookup: the tour by links, and those of its slots that a query asks for
  same_ascend : (height s : ℕ) → s < n → ascend n height W s ≡ ascend n height X s
  unfolding ascend
  same_ascend zero s l = refl
  same_ascend (suc height) s l =
      rw (A.1 Parent s l)
      (link_same n {A = ℕ} (λ i j. i ≡ j) (par X s) (λ p. cond (eqb (kid W true p) s) p (ascend n height W (par X s)))
      (λ p. cond (eqb (kid X true p) s) p (ascend n height X (par X s))) U U
      (λ h. rw (A.1 (Child true) (par X s) h, same_ascend height (par X s) h)) refl)

  same_leftmost : (k : ℕ) → k < n → leftmost n 32 W k ≡ leftmost n 32 X k
  same_leftmost k l = removal.same_leftmost n 32 W X k A l

  same_next : (s : ℕ) → s < n → next_of n W s ≡ next_of n X s
  unfolding next_of
  same_next s l =
      rw (A.1 (Child false) s l, same_ascend 32 s l)
      (link_same n {A = ℕ} (λ i j. i ≡ j) (kid X false s) (leftmost n 32 W) (leftmost n 32 X) (ascend n 32 X s) (ascend n 32 X s)
      (same_leftmost (kid X false s)) refl)

  same_tour : (left k : ℕ) → tour n left W k ≡ tour n left X k
  unfolding tour
  same_tour zero k = refl
  same_tour (suc left) k =
      link_same n {A = List ℕ} (λ i j. i ≡ j) k (λ s. k ∷ tour n left W (next_of n W k)) (λ s. k ∷ tour n left X (next_of n X k)) [] []
      (λ h. rw (same_next k h, same_tour left (next_of n X k))) refl

  same_entries : (r : ℕ) → tours.entries n W r ≡ tours.entries n X r
  unfolding tours.entries first_of
  same_entries r =
      rw (link_same n {A = ℕ} (λ i j. i ≡ j) r (leftmost n 32 W) (leftmost n 32 X) U U (same_leftmost r) refl)
      (same_tour n (first_of n X r))

  module _ (q : Query) where
    same_asked_for : (left k : ℕ) → filter (rules W n q).match (tour n left X k) ≡ filter (rules X n q).match (tour n left X k)
    unfolding tour
    same_asked_for zero k = refl
    same_asked_for (suc left) k =
        link_same n {A = List ℕ} (λ i j. filter (rules W n q).match i ≡ filter (rules X n q).match j) k (λ s. k ∷ tour n left X (next_of n X k))
        (λ s. k ∷ tour n left X (next_of n X k)) [] [] (λ h. rw (same_match q k h, same_asked_for left (next_of n X k))) refl

    same_plain : (r : ℕ) → plain n W (rules W n q) r ≡ plain n X (rules X n q) r
    unfolding plain tours.entries
    same_plain r = rw (same_entries r) (same_asked_for n (first_of n X r))

  -- the fast lookup
  module _ (q : Query) where
    abbrev F : Rules
    F = fast_rules W n q

    abbrev G : Rules
    G = fast_rules X n q

    same_near : (q : Span) (b : Bool) (s : ℕ) → s < n → should_enter W n q b s ≡ should_enter X n q b s
    unfolding should_enter
    same_near q b s l =
        rw (A.1 (Child b) s l)
        (link_same n {A = Bool} (λ i j. i ≡ j) (kid X b s) (nears W q) (nears X q) false false
        (λ h. rw (A.1 HullStart (kid X b s) h, A.1 HullEnd (kid X b s) h)) refl)

    same_enter : (q : Query) (b : Bool) (s : ℕ) → s < n → (fast_rules W n q).go b s ≡ (fast_rules X n q).go b s
    unfolding fast_rules rules
    same_enter (Overlap q) b s l = same_near q b s l
    same_enter (Ruled k q) b s l = same_near (by_rule_lem k q) b s l
    same_enter (Exact x) b s l = same_go (Exact x) b s l

    same_asked : (q : Query) (s : ℕ) → s < n → (fast_rules W n q).match s ≡ (fast_rules X n q).match s
    unfolding fast_rules rules
    same_asked (Overlap q) s l = same_match (Overlap q) s l
    same_asked (Ruled k q) s l = same_match (Ruled k q) s l
    same_asked (Exact x) s l = same_match (Exact x) s l

    enters_slots : (q : Query) → Linked X n (fast_rules X n q)
    unfolding fast_rules should_go_exact
    enters_slots (Overlap q) = narrow_linked X n q
    enters_slots (Ruled k q) = narrow_linked X n (by_rule_lem k q)
    enters_slots (Exact x) = links X n (exact X n x) (λ b s a. toward X x b s && contains (hull X a) x) (λ b s. refl)

    same_begin : (q : Query) (r : ℕ) → start_at W n q r ≡ start_at X n q r
    unfolding start_at
    same_begin (Overlap q) r = refl
    same_begin (Ruled k q) r = refl
    same_begin (Exact x) r = same_find x 32 r

    -- what f and g make of the nodes entered, part by part
    module _ (f g : List ℕ → List ℕ) (f-add : (k l : List ℕ) → f (k ++ l) ≡ f k ++ f l) (g-add : (k l : List ℕ) → g (k ++ l) ≡ g k ++ g l)
        (none : f [] ≡ g []) (one : (s : ℕ) → s < n → f (s ∷ []) ≡ g (s ∷ [])) where
      same_entering : (h s : ℕ) → s < n → f (entering W F h s) ≡ g (entering X G h s)
      unfolding entering
      same_entering zero s l = none
      same_entering (suc h) s l =
          rw (
            f-add (when (F.go true s) (entering W F h (kid W true s))) (s ∷ when (F.go false s) (entering W F h (kid W false s))),
            f-add (s ∷ []) (when (F.go false s) (entering W F h (kid W false s))),
            g-add (when (G.go true s) (entering X G h (kid X true s))) (s ∷ when (G.go false s) (entering X G h (kid X false s))),
            g-add (s ∷ []) (when (G.go false s) (entering X G h (kid X false s))),
            side true (same_entering h),
            one s l,
            side false (same_entering h),
          )
        where
          go : (b t : Bool) → (t ≡ true → kid X b s < n) → ((s : ℕ) → s < n → f (entering W F h s) ≡ g (entering X G h s))
              → f (when t (entering W F h (kid X b s))) ≡ g (when t (entering X G h (kid X b s)))
          go b true i rec = rec (kid X b s) (i refl)
          go b false i rec = none

          side : (b : Bool) → ((s : ℕ) → s < n → f (entering W F h s) ≡ g (entering X G h s))
              → f (when (F.go b s) (entering W F h (kid W b s))) ≡ g (when (G.go b s) (entering X G h (kid X b s)))
          side b rec = rw (same_enter q b s l, A.1 (Child b) s l) (go b (G.go b s) (enters_slots q b s) rec)

      same_entered : (r : ℕ) → f (fast_nodes W n q r) ≡ g (fast_nodes X n q r)
      unfolding fast_nodes
      same_entered r =
          rw (same_begin q r) (link_same n {A = List ℕ} (λ i j. f i ≡ g j) (start_at X n q r) (entering W F 32) (entering X G 32) [] [] (same_entering 32 (start_at X n q r)) none)

    same_fast_nodes : (r : ℕ) → fast_nodes W n q r ≡ fast_nodes X n q r
    same_fast_nodes r = same_entered (λ l. l) (λ l. l) (λ k l. refl) (λ k l. refl) refl (λ s l. refl) r

    same_fast_hits : (r : ℕ) → fast_hits W n q r ≡ fast_hits X n q r
    unfolding fast_hits
    same_fast_hits r =
        same_entered (filter F.match) (filter G.match) (filter_append F.match) (filter_append G.match) refl (λ s l. rw (same_asked q s l)) r

-- the public calls
module _ (m : Map) (W C X D : List ℕ) (s : SameBelow m.count W C X D) where
  abbrev n : ℕ
  n = m.count

  same_beginning : (q : Query) → beginning m W q ≡ beginning m X q
  same_beginning (Overlap q) = refl
  same_beginning (Ruled k q) = refl
  same_beginning (Exact x) = same_find n W X s.words x 32 m.root

  same_start : (q : Query) → start_number m W C q ≡ start_number m X D q
  same_start q = rw (start_order m W C q, start_order m X D q, check_below m W C X D s)

  pub start_below : (x : Interval) → start_call m W C x ≡ start_call m X D x
  unfolding start_call
  start_below x = rw (same_start (Exact x), same_find n W X s.words x 32 m.root)

  pub find_all_below : (q : Query) (out : List ℕ) → find_all_call m W C q out ≡ find_all_call m X D q out
  unfolding find_all_call
  find_all_below q out = rw (same_start q, same_fast_nodes n W X s.words q m.root, same_fast_hits n W X s.words q m.root)

  module _ (q : Query) where
    same_plain_number : (places : ℕ) → plain_number m W C q places ≡ plain_number m X D q places
    same_plain_number places = rw (plain_order m W C q places, plain_order m X D q places, same_start q)

    pub plain_below : (out : List ℕ) → plain_call m W C q out ≡ plain_call m X D q out
    unfolding plain_call
    plain_below out = rw (same_plain_number (length out), same_plain n W X s.words q m.root, same_entries n W X s.words m.root)

  module _ (q : Query) (c : Cursor) where
    same_step_number : step_number m W C q c ≡ step_number m X D q c
    same_step_number =
        rw (step_order m W C q c, step_order m X D q c, same_start q, same_beginning q, same_form n W X s.words (beginning m X q) c)

    pub step_below : step_call m W C q c ≡ step_call m X D q c
    unfolding step_call
    step_below = rw (same_step_number, same_step n W X s.words q c)

    module _ (limit : ℕ) where
      same_drain_number : (places : ℕ) → drain_number m W C q c limit places ≡ drain_number m X D q c limit places
      same_drain_number places = rw (drain_order m W C q c limit places, drain_order m X D q c limit places, same_step_number)

      pub drain_below : (out : List ℕ) → drain_call m W C q c limit out ≡ drain_call m X D q c limit out
      unfolding drain_call
      drain_below out = rw (same_drain_number (length out), same_drain n W X s.words q (limit_of_lem limit (length out)) c)

  -- a call that is refused, by the number k, or not; f is the count that an answer has
  by_number : {A : Type 0} (f : A → ℕ) (k : ℕ) (x y : Effect A) (a : A) → (k ≡ 0 → SameEffect (f x.answer) x y) → SameBelow (f a) W C X D
      → SameEffect (f (cond (eqb k 0) x (effect a W C)).answer) (cond (eqb k 0) x (effect a W C)) (cond (eqb k 0) y (effect a X D))
  by_number f zero x y a g h = g refl
  by_number f (suc k) x y a g h = rw (ne_eqb (suc k) 0 (λ z. omega arith)) (record { answers = refl; leaves = h })

  -- the image: the colour bytes are bytes, as in every lent slice of them
  same_write_image_number : (places : ℕ) → write_image_number m W C places ≡ write_image_number m X D places
  same_write_image_number places = rw (write_image_order m W C places, write_image_order m X D places, check_below m W C X D s)

  pub write_image_below : Bytes C → Bytes D → (out : List ℕ) → write_image_call m W C out ≡ write_image_call m X D out
  unfolding write_image_call
  write_image_below bytes too out =
      rw (same_write_image_number (length out), image_below n C D s.colours bytes too m.root W X s.words)

  -- a reading through a ticket
  module _ (t : Ticket) where
    same_entry : read_number_lem m W C t ≡ 0 → entry W t.slot ≡ entry X t.slot
    same_entry e =
        let l : t.slot < m.count = (readings.accepts m W C t e).2 in
        rw (s.words.1 Start t.slot l, s.words.1 End t.slot l, s.words.1 Value t.slot l)

    pub read_below : read_call m W C t ≡ read_call m X D t
    unfolding read_call
    read_below = rw (← same_number) (go (read_number_lem m W C t) refl)
      where
        same_number : read_number_lem m W C t ≡ read_number_lem m X D t
        same_number = rw (read_order m W C t, read_order m X D t, check_below m W C X D s)

        go : (k : ℕ) → read_number_lem m W C t ≡ k → read_by W t k ≡ read_by X t k
        go zero e = rw (same_entry e)
        go (suc k) e = rw (ne_eqb (suc k) 0 (λ z. omega arith)) refl

  -- a removal
  module _ (t : ℕ) where
    same_remove_number : remove_number m W C t ≡ remove_number m X D t
    same_remove_number = rw (remove_order m W C t, remove_order m X D t, check_below m W C X D s)

    rule_below : remove_number m W C t ≡ 0 → SameRemoved n (remove_rule W C n m.root t) (remove_rule X D n m.root t)
    rule_below e =
        let h : m.count ≤ capacity (length W) (length C) = (check_zero m W C (removals.accepts m W C t e).0).0 in
        removed_below W X C D n m.root t (omega arith) (removals.accepts m W C t e).1 s.words s.colours

    sum_below : remove_number m W C t ≡ 0 → remove_reach m W C t ≡ remove_reach m X D t
    sum_below e =
        let h : m.count ≤ capacity (length W) (length C) = (check_zero m W C (removals.accepts m W C t e).0).0 in
        removal.reach_below W X C D n m.root t (omega arith) (removals.accepts m W C t e).1 s.words s.colours

    pub remove_below : SameEffect n (remove_call m W C t) (remove_call m X D t)
    unfolding remove_call
    remove_below =
        rw (← same_remove_number)
        (by_number (λ (a : RemoveAnswer). n) (remove_number m W C t) (remove_slot_lem m W C t) (remove_slot_lem m X D t) (refused_removal m (remove_number m W C t))
        (λ e. let r = rule_below e in
        record { answers = rw (r.values, r.stores.2, r.pairs, sum_below e); leaves = record { words = r.stores.0; colours = r.stores.1 } }) s)

  -- an unloading
  module _ (k : ℕ) (q : Span) where
    same_unload_number : unload_number m W C k q ≡ unload_number m X D k q
    same_unload_number = rw (start_order m W C (Ruled k q), start_order m X D (Ruled k q), check_below m W C X D s)

    pub unload_below : SameEffect n (unload_call m W C k q) (unload_call m X D k q)
    unfolding unload_call
    unload_below =
        rw (← same_unload_number)
        (by_number (λ (a : UnloadAnswer). n) (unload_number m W C k q) (unload_range_lem m W C k q) (unload_range_lem m X D k q) (refused_unloading m (unload_number m W C k q))
        (λ e. let h : m.count ≤ capacity (length W) (length C) = (check_zero m W C (unloadings.accepts m W C k q e).0).0 in
        let r = unloading.unload_below W X C D n m.root (by_rule_lem k q) (omega arith) (s.words, s.colours, refl) in
        record { answers = rw (r.gones, r.counts, r.stores.2); leaves = record { words = r.stores.0; colours = r.stores.1 } }) s)

  -- the planner
  module _ (out : List ℕ) where
    same_propose_number : propose_number m W C (length out) ≡ propose_number m X D (length out)
    same_propose_number = rw (propose_order m W C (length out), propose_order m X D (length out), check_below m W C X D s)

    pub propose_below : propose_call m W C out ≡ propose_call m X D out
    unfolding propose_call
    propose_below = rw (← same_propose_number) (go (propose_number m W C (length out)) refl)
      where
        go : (k : ℕ) → propose_number m W C (length out) ≡ k → propose_by m W out k ≡ propose_by m X out k
        go zero e =
            let c = check_zero m W C (tidyings.propose_accepts m W C (length out) e).0 in
            let d = check_zero m X D (rw (← check_below m W C X D s) (tidyings.propose_accepts m W C (length out) e).0) in
            rw (tidying.proposed_below n W C X D s.words m.root (omega (arith, c.0)) c.1 d.1 out) refl
        go (suc k) e = rw (ne_eqb (suc k) 0 (λ z. omega arith)) refl

  -- a renumbering
  module _ (plan : List ℕ) where
    same_renumber_number : renumber_number m W C plan ≡ renumber_number m X D plan
    same_renumber_number = rw (renumber_order m W C plan, renumber_order m X D plan, check_below m W C X D s)

    pub renumber_below : SameEffect n (renumber_call m W C plan) (renumber_call m X D plan)
    unfolding renumber_call
    renumber_below =
        rw (← same_renumber_number)
        (by_number (λ (a : RenumberAnswer). n) (renumber_number m W C plan) (renumber_plan_lem m W C plan) (renumber_plan_lem m X D plan) (refused_renumbering m (renumber_number m W C plan))
        (λ e. let r = tidying.tidied_below n W C X D s.words plan _ _ _ _ (tidyings.plan_fits m W C plan e) s.colours
        (tidyings.by_rule_law m W C plan e) (tidyings.by_rule_law m X D plan (sym same_renumber_number ∙ e)) in
        record { answers = refl; leaves = record { words = r.0; colours = r.1 } }) s)

  -- an insertion: below the count that it answers
  module _ (e : Entry) where
    same_insert_number : insert_number m W C e ≡ insert_number m X D e
    same_insert_number =
        rw (insert_order m W C e, insert_order m X D e, check_below m W C X D s, s.words.0, s.colours.0)

    added_below : insert_number m W C e ≡ 0 → Alike (n + 1) (insert_rule W C n m.root e) (insert_rule X D n m.root e)
    added_below z =
        let h : m.count < capacity (length W) (length C) = (insertions.accepts m W C e z).0 in
        inserted_below W X C D n m.root e (omega arith) (omega arith) s.words s.colours

    added_sum_below : insert_number m W C e ≡ 0 → insert_reach m W C e ≡ insert_reach m X D e
    added_sum_below z =
        let h : m.count < capacity (length W) (length C) = (insertions.accepts m W C e z).0 in
        insertion.reach_below W X C D n m.root e (omega arith) (omega arith) s.words s.colours

    pub insert_below : SameEffect (insert_call m W C e).answer.map.count (insert_call m W C e) (insert_call m X D e)
    unfolding insert_call
    insert_below =
        rw (← same_insert_number)
        (by_number (λ (a : InsertAnswer). a.map.count) (insert_number m W C e) (insert_entry_lem m W C e) (insert_entry_lem m X D e)
        (refused_insertion m (insert_number m W C e))
        (λ z. let r = added_below z in record { answers = rw (r.2, added_sum_below z); leaves = record { words = r.0; colours = r.1 } }) s)
