-- Demand 3, said of the public calls: any steps and drains one after the other, in any mixture,
-- with any limits and any outputs, from the fresh cursor on an unchanged store that passes the
-- check, over a range, or for an interval, that is accepted.
use Rattle.std.proofs.Common.{◌≡◌, ℕ, ◌≤◌, Bool, true, false, cond, ltb, List, [], ◌∷◌, ◌++◌, length, sym, refl, ap, ◌∙◌, append-nil, add-zero, arith, le-ltb, lt-ltb, eq-eqb}
use lib.Seq.{take-append_seam}
use Rattle.words.specs.Ix.{U}
use Rattle.words.specs.Nodes.{par}
use Rattle.words.specs.Lists.{filter}
use Rattle.words.specs.declared.interval.Interval.{Interval}
use Rattle.words.specs.declared.interval.Span.{Span}
use Rattle.tree.specs.Tree.{Tree, leaf, node}
use Rattle.tree.specs.Tree as tree
use Rattle.tree.specs.Passes.{Passes}
use Rattle.tree.proofs.Checked.{tree_low}
use Rattle.iter.specs.Lists.{when}
use Rattle.iter.specs.Cursors.{fresh}
use Rattle.iter.specs.Forms.{form_of}
use Rattle.iter.specs.Ranges.{by_rule_lem}
use Rattle.iter.specs.Overlap.{meets, ruled}
use Rattle.iter.specs.Exact.{equals}
use Rattle.iter.specs.Walk.{Rules, Answer, fuel, call}
use Rattle.iter.specs.Walk as walk
use Rattle.iter.specs.Drains.{Drained, more, limit_of_lem, filled, calls}
use Rattle.iter.specs.Drains as drains
use Rattle.iter.specs.Queries.{rules}
use Rattle.iter.specs.declared.Cursor.{Cursor}
use Rattle.iter.specs.declared.Form.{Form}
use Rattle.iter.specs.declared.Form.TheVariants as form
use Rattle.iter.specs.declared.rules.Query.{Query}
use Rattle.iter.specs.declared.rules.Query.TheVariants.{Overlap, Ruled, Exact}
use Rattle.iter.proofs.Drains.{drain_count, drain_split}
use Rattle.iter_laws.specs.Entered.{entered, overlap_rule, exact_rule}
use Rattle.iter_laws.proofs.Walks.{Walk}
use Rattle.iter_laws.proofs.Fresh.{fresh_run, fresh_hits}
use Rattle.iter_laws.proofs.Parts.{calls_split, Formed, drain_formed, formed_low, slots_end, nodes_parts, nodes_end}
use Rattle.iter_laws.proofs.Overlaps.{overlap_walk}
use Rattle.iter_laws.proofs.OverlapRuns.{overlap_each, overlap_bound}
use Rattle.iter_laws.proofs.ExactRuns.{exact_start, exact_each, walk_below, all_below, walk_none}
use Rattle.iset.specs.Check.{check_rule}
use Rattle.iset.specs.Lookup.{ordered, accepts, query_number, beginning, form_number, start_number, step_number, drain_number, start_call, step_call, drain_call}
use Rattle.iset.specs.Runs.{Ask, step, drain, Given, given, Run, run, short, wanted, total, Sound, AllSound, Hold, NoneRefused, Lookup, RangeRun, OverlapRun, Begins, at_highest, no_equal, ExactRun}
use Rattle.iset.specs.Refusals.{BadRange, BadRuled, BadInterval}
use Rattle.iset.specs.declared.Map.{Map}
use Rattle.iset.proofs.Refusals.{disordered, not_accepted}
use Rattle.iset.proofs.Lookups.{step_accepts, not_bad}
use Rattle.iset.proofs.Found.{tree_of, few, fresh_accepted}
use Rattle.iset.proofs.Orders.{start_order, step_order, drain_order}

-- a drain of one hit, by its step's answer, which has a hit or not
abbrev one : Answer → Bool → Drained
one a b =
    cond b (more a.slot a.entered (record { slots = []; next = a.next; entered = 0 })) (record { slots = []; next = a.next; entered = a.entered })

-- calls from any cursor that is accepted, by the rules of drains
module _ (m : Map) (W C : List ℕ) (q : Query) (start : start_number m W C q ≡ 0) (E : Bool → ℕ → ℕ → Bool) (p : ℕ) (t : Tree)
    (w : Walk W m.count (rules W m.count q) E p (beginning m W q) t) where
  abbrev n : ℕ
  n = m.count

  abbrev Q : Rules
  Q = rules W n q

  abbrev k : ℕ
  k = beginning m W q

  abbrev Accepted : Cursor → Type 0
  Accepted c = step_number m W C q c ≡ 0

  formed : (c : Cursor) → Accepted c → Formed W n Q E p k t w c
  formed c e i = not_bad (form_of W n k c) (step_accepts m W C q c e).1 i

  accepted : (c : Cursor) → Formed W n Q E p k t w c → Accepted c
  accepted c f = rw (step_order m W C q c, eq-eqb (start_number m W C q) 0 start) (go (form_of W n k c) f)
    where
      go : (g : Form) → (g ≡ form.Bad → ⊥) → form_number g ≡ 0
      go form.Fresh d = refl
      go form.Held d = refl
      go form.Ended d = refl
      go form.Bad d = absurd (d refl)

  -- the cursor after a drain of i hits
  after_drain : (i : ℕ) (c : Cursor) → Accepted c → Accepted (drains.drain W n Q i c).next
  after_drain i c e = accepted (drains.drain W n Q i c).next (drain_formed W n Q E p k t w i c (formed c e))

  -- what a drain of i hits gives, by the rules
  abbrev part : ℕ → ℕ → Cursor → Given
  part z i c =
      record {
        no = z;
        slots = (drains.drain W n Q i c).slots;
        nodes = calls W n Q i c;
        entered = (drains.drain W n Q i c).entered;
        next = (drains.drain W n Q i c).next;
      }

  step_given : (c : Cursor) → Accepted c → given m W C q c step ≡ part 0 1 c
  unfolding step_call drains.drain calls
  step_given c e =
      rw (eq-eqb (step_number m W C q c) 0 e) (go (walk.step W n Q c) (call W n Q (fuel n) c) (ltb (walk.step W n Q c).slot n))
    where
      go : (a : Answer) (l : List ℕ) (b : Bool)
          → ◌≡◌ {A = Given} (record { no = 0; slots = when b (a.slot ∷ []); nodes = l; entered = a.entered; next = a.next })
          (record { no = 0; slots = (one a b).slots; nodes = l ++ cond b [] []; entered = (one a b).entered; next = (one a b).next })
      go a l true = rw (append-nil, add-zero)
      go a l false = rw append-nil

  module _ (limit : ℕ) (out : List ℕ) (c : Cursor) (e : Accepted c) where
    drain_number_lem : drain_number m W C q c limit (length out) ≡ cond (ltb (length out) (limit_of_lem limit (length out))) 9 0
    drain_number_lem = rw (drain_order m W C q c limit (length out), eq-eqb (step_number m W C q c) 0 e)

    drain_short : ltb (length out) (limit_of_lem limit (length out)) ≡ true → given m W C q c (drain limit out) ≡ part 9 0 c
    unfolding drain_call drains.drain calls
    drain_short i = rw (drain_number_lem, i)

    drain_given : ltb (length out) (limit_of_lem limit (length out)) ≡ false → given m W C q c (drain limit out) ≡ part 0 (limit_of_lem limit (length out)) c
    unfolding drain_call filled
    drain_given i = rw (drain_number_lem, i, take-append_seam)

    either : (b : Bool) → ltb (length out) (limit_of_lem limit (length out)) ≡ b → given m W C q c (drain limit out) ≡ part (cond b 9 0) (cond b 0 (limit_of_lem limit (length out))) c
    either true i = drain_short i
    either false i = drain_given i

  given_is : (x : Ask) (c : Cursor) → Accepted c → given m W C q c x ≡ part (short x) (wanted x) c
  given_is step c e = step_given c e
  given_is (drain limit out) c e = either limit out c e (ltb (length out) (limit_of_lem limit (length out))) refl

  next_is : (x : Ask) (c : Cursor) → Accepted c → (given m W C q c x).next ≡ (drains.drain W n Q (wanted x) c).next
  next_is x c e = ap (λ (g : Given). g.next) (given_is x c e)

  -- every answered cursor is accepted
  pub next_accepted : (x : Ask) (c : Cursor) → Accepted c → Accepted (given m W C q c x).next
  next_accepted x c e = rw (next_is x c e) (after_drain (wanted x) c e)

  call_sound : (x : Ask) (c : Cursor) → Accepted c → Sound m W C q c x
  call_sound x c e =
      record {
        number = ap (λ (g : Given). g.no) (given_is x c e);
        counted = rw (given_is x c e) (drain_count W n Q (wanted x) c);
        accepted = next_accepted x c e;
        low = formed_low W n Q E p k t w c (formed c e);
      }

  all_sound : (l : List Ask) (c : Cursor) → Accepted c → AllSound m W C q c l
  all_sound [] c e = tt
  all_sound (x ∷ l) c e = (call_sound x c e, all_sound l (given m W C q c x).next (next_accepted x c e))

  all_accepted : (l : List Ask) (c : Cursor) → Accepted c → Hold l → NoneRefused m W C q c l
  all_accepted [] c e h = tt
  all_accepted (step ∷ l) c e h = ((call_sound step c e).number, all_accepted l (given m W C q c step).next (next_accepted step c e) h)
  all_accepted (drain limit out ∷ l) c e h = (
    (call_sound (drain limit out) c e).number ∙ rw (le-ltb (length out) (limit_of_lem limit (length out)) h.0),
    all_accepted l (given m W C q c (drain limit out)).next (next_accepted (drain limit out) c e) h.1,
  )

  -- all calls together are one drain
  abbrev whole : ℕ → Cursor → Run
  whole i c =
      record {
        slots = (drains.drain W n Q i c).slots;
        nodes = calls W n Q i c;
        entered = (drains.drain W n Q i c).entered;
        next = (drains.drain W n Q i c).next;
      }

  run_is : (l : List Ask) (c : Cursor) → Accepted c → run m W C q c l ≡ whole (total l) c
  unfolding drains.drain calls
  run_is [] c e = refl
  run_is (x ∷ l) c e =
      rw (
        given_is x c e,
        run_is l (drains.drain W n Q (wanted x) c).next (after_drain (wanted x) c e),
        drain_split W n Q w.small (wanted x) (total l) c,
        calls_split W n Q w.small (wanted x) (total l) c,
      )

  -- from the fresh cursor
  pub looked : (l : List Ask) → Lookup m W C q (fresh k) (filter Q.match (tree.slots t)) (entered E t) l
  looked l =
      let a : Accepted (fresh k) = fresh_accepted m W C q start in
      let is : run m W C q (fresh k) l ≡ whole (total l) (fresh k) = run_is l (fresh k) a in
      record {
        sound = all_sound l (fresh k) a;
        none_refused = all_accepted l (fresh k) a;
        slots_first = rw is (fresh_hits W n Q E p k t w (total l));
        slots_all = λ i. rw is (slots_end W n Q E p k t w (total l) (rw is at i));
        nodes_first = rw is (_, nodes_parts W n Q E p k t w (total l));
        nodes_all = λ i. rw is (nodes_end W n Q E p k t w (total l) (rw is at i));
        counted = rw is (drain_count W n Q (total l) (fresh k));
        ends = λ i. rw (is, fresh_run W n Q E p k t w (total l) i);
      }

-- what is accepted
module _ (m : Map) (W C : List ℕ) (sound : check_rule m W C ≡ 0) where
  started : (q : Query) → query_number q ≡ 0 → start_number m W C q ≡ 0
  started q e = rw (start_order m W C q, sound, e)

  pub range_started : (q : Span) → (BadRange q.lo q.hi → ⊥) → start_number m W C (Overlap q) ≡ 0
  range_started q d = started (Overlap q) (go (ordered q.lo q.hi) refl)
    where
      go : (b : Bool) → ordered q.lo q.hi ≡ b → ◌≡◌ {A = ℕ} (cond b 0 4) 0
      go true e = refl
      go false e = absurd (d (disordered q.lo q.hi e))

  pub ruled_started : (k : ℕ) (q : Span) → (BadRuled k q → ⊥) → start_number m W C (Ruled k q) ≡ 0
  ruled_started k q d = started (Ruled k q) (go (accepts k q.lo q.hi) refl)
    where
      go : (b : Bool) → accepts k q.lo q.hi ≡ b → ◌≡◌ {A = ℕ} (cond b 0 4) 0
      go true e = refl
      go false e = absurd (d (not_accepted k q e))

  pub interval_started : (x : Interval) → (BadInterval x.start x.end → ⊥) → start_number m W C (Exact x) ≡ 0
  interval_started x d = started (Exact x) (rw (lt-ltb x.start x.end (omega arith)))

-- the queries for the entries of a range: by rule 1, and by the rule of a number
pub data ForRange : Query → ℕ → Span → Type 0 where
  by_default : (q : Span) → ForRange (Overlap q) 1 q
  by_number : (k : ℕ) (q : Span) → ForRange (Ruled k q) k q

-- overlap lookup
module _ (m : Map) (W C : List ℕ) (P : Passes W C m.count m.root) where
  range_w : (query : Query) (k : ℕ) (q : Span) → ForRange query k q → start_number m W C query ≡ 0
      → Walk W m.count (rules W m.count query) (overlap_rule W q) U (beginning m W query) P.tree
  unfolding rules
  range_w _ _ _ (by_default q) e = overlap_walk W C m.count m.root 1 q (few m W C (Overlap q) e) P
  range_w _ _ _ (by_number k q) e = overlap_walk W C m.count m.root k q (few m W C (Ruled k q) e) P

  module _ (query : Query) (k : ℕ) (q : Span) (R : ForRange query k q) (e : start_number m W C query ≡ 0) (l : List Ask) where
    range_lookup : Lookup m W C query (fresh m.root) (filter (meets W (by_rule_lem k q)) (tree.slots P.tree)) (entered (overlap_rule W q) P.tree) l
    unfolding rules
    range_lookup = go query k q R e
      where
        go : (query : Query) (k : ℕ) (q : Span) → ForRange query k q → start_number m W C query ≡ 0
            → Lookup m W C query (fresh m.root) (filter (meets W (by_rule_lem k q)) (tree.slots P.tree)) (entered (overlap_rule W q) P.tree) l
        go _ _ _ (by_default q) e = looked m W C (Overlap q) e (overlap_rule W q) U P.tree (range_w (Overlap q) 1 q (by_default q) e) l
        go _ _ _ (by_number k q) e = looked m W C (Ruled k q) e (overlap_rule W q) U P.tree (range_w (Ruled k q) k q (by_number k q) e) l

    entered_is : (run m W C query (fresh m.root) l).entered ≡ (drains.drain W m.count (ruled W m.count k q) (total l) (fresh m.root)).entered
    unfolding rules
    entered_is = go query k q R e
      where
        go : (query : Query) (k : ℕ) (q : Span) → ForRange query k q → start_number m W C query ≡ 0
            → (run m W C query (fresh m.root) l).entered ≡ (drains.drain W m.count (ruled W m.count k q) (total l) (fresh m.root)).entered
        go _ _ _ (by_default q) e =
            ap (λ (r : Run). r.entered) (run_is m W C (Overlap q) e (overlap_rule W q) U P.tree (range_w (Overlap q) 1 q (by_default q) e) l (fresh m.root)
            (fresh_accepted m W C (Overlap q) e))
        go _ _ _ (by_number k q) e =
            ap (λ (r : Run). r.entered) (run_is m W C (Ruled k q) e (overlap_rule W q) U P.tree (range_w (Ruled k q) k q (by_number k q) e) l (fresh m.root)
            (fresh_accepted m W C (Ruled k q) e))

    -- Demand 3, of the public calls.
    pub range_runs : RangeRun m W C query k q P.tree l
    range_runs =
        let f : m.count ≤ 65535 = few m W C query e in
        record {
          lookup = range_lookup;
          once_each = overlap_each W C m.count m.root k q f P;
          bound = rw (← range_lookup.counted, entered_is) (overlap_bound W C m.count m.root k q f P (total l));
          low = tree_low W C m.count m.root P f;
        }

pub overlap_runs : (m : Map) (W C : List ℕ) (q : Span) → check_rule m W C ≡ 0 → (BadRange q.lo q.hi → ⊥)
    → (P : Passes W C m.count m.root) (l : List Ask) → OverlapRun m W C q P.tree l
overlap_runs m W C q sound ranged P l = range_runs m W C P (Overlap q) 1 q (by_default q) (range_started m W C sound q ranged) l

-- exact lookup: it "starts at the highest equal node"
pub exact_fresh : (m : Map) (W C : List ℕ) (x : Interval) → start_number m W C (Exact x) ≡ 0 → (start_call m W C x).cursor ≡ fresh (beginning m W (Exact x))
unfolding start_call
exact_fresh m W C x e = rw (eq-eqb (start_number m W C (Exact x)) 0 e)

module _ (m : Map) (W C : List ℕ) (x : Interval) (e : start_number m W C (Exact x) ≡ 0) (P : Passes W C m.count m.root) where
  abbrev b : ℕ
  b = beginning m W (Exact x)

  abbrev Z : Rules
  Z = rules W m.count (Exact x)

  small : m.count ≤ 65535
  small = few m W C (Exact x) e

  -- the tree that it goes through, and the walk through it; all equal entries are in it
  from_tree : {X : Type 0} → ((p : ℕ) (t : Tree) → Begins W x P.tree b t → Walk W m.count Z (exact_rule W x) p b t
      → filter (equals W x) (tree.slots t) ≡ filter (equals W x) (tree.slots P.tree) → X) → X
  unfolding rules
  from_tree f =
      exact_start W C m.count m.root x small P
      (λ i a. f U leaf (no_equal i a) (walk_none W C m.count m.root x small P b i) (sym a))
      (λ h. f (par W b) (node h.left b h.right) (at_highest h) (walk_below W C m.count m.root x small P b h)
      (all_below W C m.count m.root x small P b h))

  -- so the same nodes are named whatever the calls are
  pub exact_lookups : {X : Type 0}
      → ((named : List ℕ) → ((l : List Ask) → Lookup m W C (Exact x) (start_call m W C x).cursor (filter (equals W x) (tree.slots P.tree)) named l) → X) → X
  unfolding rules
  exact_lookups f =
      from_tree (λ p t B w same. f (entered (exact_rule W x) t) (λ l. rw (exact_fresh m W C x e, ← same) (looked m W C (Exact x) e (exact_rule W x) p t w l)))

pub exact_runs : (m : Map) (W C : List ℕ) (x : Interval) → check_rule m W C ≡ 0 → (BadInterval x.start x.end → ⊥)
    → (P : Passes W C m.count m.root) (l : List Ask) → ExactRun m W C x P.tree l
unfolding rules
exact_runs m W C x sound proper P l =
    let e : start_number m W C (Exact x) ≡ 0 = interval_started m W C sound x proper in
    let f : m.count ≤ 65535 = few m W C (Exact x) e in
    from_tree m W C x e P (λ p t B w same.
    record {
      below = t;
      begins = B;
      lookup = rw (exact_fresh m W C x e, ← same) (looked m W C (Exact x) e (exact_rule W x) p t w l);
      once_each = exact_each W C m.count m.root x f P;
      low = tree_low W C m.count m.root P f;
    })

-- a cursor that is accepted leads to one that is accepted, by any call that is made of it
pub cursor_accepted : (m : Map) (W C : List ℕ) (q : Query) (c : Cursor) (x : Ask) → step_number m W C q c ≡ 0
    → step_number m W C q (given m W C q c x).next ≡ 0
cursor_accepted m W C (Overlap q) c x e =
    let s : start_number m W C (Overlap q) ≡ 0 = (step_accepts m W C (Overlap q) c e).0 in
    let P = tree_of m W C (Overlap q) s in
    next_accepted m W C (Overlap q) s (overlap_rule W q) U P.tree (range_w m W C P (Overlap q) 1 q (by_default q) s) x c e
cursor_accepted m W C (Ruled k q) c x e =
    let s : start_number m W C (Ruled k q) ≡ 0 = (step_accepts m W C (Ruled k q) c e).0 in
    let P = tree_of m W C (Ruled k q) s in
    next_accepted m W C (Ruled k q) s (overlap_rule W q) U P.tree (range_w m W C P (Ruled k q) k q (by_number k q) s) x c e
cursor_accepted m W C (Exact i) c x e =
    let s : start_number m W C (Exact i) ≡ 0 = (step_accepts m W C (Exact i) c e).0 in
    from_tree m W C i s (tree_of m W C (Exact i) s) (λ p t B w z. next_accepted m W C (Exact i) s (exact_rule W i) p t w x c e)
