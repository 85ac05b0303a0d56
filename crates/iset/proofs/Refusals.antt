-- Demand 1 of each public call: it is refused exactly as document 01's table says, both ways, with
-- the first refusal in its order; and a refused call leaves all that was lent, and answers the map
-- or the cursor as given.
use Rattle.std.proofs.Common.{◌≡◌, ℕ, zero, suc, ◌+◌, ◌-◌, ◌/◌, ◌%◌, ◌<◌, ◌≤◌, Bool, true, false, cond, eqb, ltb, leb, ◌↔◌, List, length, sym, refl, ap, ◌∙◌, true≢false, add-one, arith, ltb-false, ltb-true, eq-eqb, ne_eqb, eqb-true, leb-false, leb-true, Result, Err}
use contract.Lifetimes.{Lfts}
use borrow.Fn.Kinds as K
use denote.Triple.Clauses.{AtExit}
use Rattle.words.specs.Ix.{U}
use Rattle.words.specs.Nodes.{capacity}
use Rattle.std.specs.declared.ops.Bound.{Bound}
use Rattle.std.specs.declared.ops.Bound.TheVariants.{Included, Excluded, Unbounded}
use Rattle.words.specs.declared.interval.Interval.{Interval}
use Rattle.words.specs.declared.interval.Span.{Span}
use Rattle.words.specs.declared.node.Entry.{Entry}
use Rattle.tree.specs.Tree.{leaf}
use Rattle.tree.specs.Order.{NotAfter}
use Rattle.tree.specs.Passes.{Passes}
use Rattle.tree.proofs.Orders.{le_sound, le_complete}
use Rattle.tree_rm_rule.specs.Pairs.{none}
use Rattle.builder.specs.Input.{start_of, end_of, interval_of_lem, count, every, proper_at, in_order_lem, all_proper_lem, sorted}
use Rattle.builder_laws.proofs.Tests.{every_sound}
use Rattle.iter.specs.Ranges.{first_from, any_whole}
use Rattle.iter.specs.Cursors.{ended}
use Rattle.iter.specs.Drains.{limit_of_lem}
use Rattle.iter.specs.Forms.{form_of}
use Rattle.iter.specs.declared.Cursor.{Cursor}
use Rattle.iter.specs.declared.Form.{Form}
use Rattle.iter.specs.declared.Form.TheVariants as form
use Rattle.iter.specs.declared.rules.Query.{Query}
use Rattle.iter.specs.declared.rules.Query.TheVariants.{Overlap, Ruled, Exact}
use Rattle.iter_laws.proofs.Whole.{any_holds, holds_any}
use Rattle.iter_laws.proofs.OverlapRuns.{overlap_fresh_form, overlap_ended_form, overlap_held_form, overlap_bad_form}
use Rattle.iter_laws.proofs.ExactRuns.{exact_start, exact_fresh_form, exact_ended_form, exact_held_form, exact_bad_form, exact_none_held}
use Rattle.iter_laws.proofs.Forms.{fresh_form, ended_form, bad_form}
use Rattle.iset.specs.Effects.{Effect, effect, Output, output}
use Rattle.iset.specs.Build.{build_number, BuildAnswer, build_answer, build_call}
use Rattle.iset.specs.Check.{check_rule, first}
use Rattle.iset.specs.Remove.{remove_number, RemoveAnswer, remove_answer, remove_call}
use Rattle.iset.specs.Insert.{entry_of, insert_number, InsertAnswer, insert_answer, insert_call}
use Rattle.iset.specs.Lookup.{ordered, accepts, query_number, beginning, form_number, start_number, step_number, drain_number, StartAnswer, start_call, StepAnswer, step_call, DrainAnswer, drain_answer, drain_call}
use Rattle.iset.specs.Tallies.{TallyAnswer, tally_answer, refused_tally}
use Rattle.iset.specs.Plain.{plain_number, plain_call}
use Rattle.iset.specs.Find.{find_all_call}
use Rattle.iset.specs.Unload.{UnloadAnswer, unload_number, refused_unloading, unload_answer, unload_call}
use Rattle.iset.specs.Refusals.{Rows, accept, refuse, Exactly, NoSuch, Stale, BadRange, BadRuled, BadInterval, NoForm, BadCursor, ShortOutput, check_rows, build_rows, remove_rows, insert_rows, read_rows, start_rows, step_rows, drain_rows, plain_rows, find_all_rows, unload_rows}
use Rattle.iset.specs.Ticket.{age, ticket_number, read_number_lem, ReadAnswer, read_call}
use Rattle.iset.specs.declared.Map.{Map}
use Rattle.iset.specs.declared.ticket.Ticket.{Ticket}
use Rattle.words.specs.Refusals.{refusal_number}
use Rattle.words.specs.declared.refusal.Refusal.{Refusal}
use Rattle.words.proofs.Refusals.{number_pos}
use Rattle.iset.specs.declared.remove.Removed.{Removed}
use Rattle.iset.specs.declared.insert.Inserted.{Inserted}
use Rattle.iset.specs.declared.unload.Unloaded.{Unloaded}
use Rattle.iter.specs.declared.drain.Drained.{Drained}
use Rattle.plain.specs.declared.Tally.{Tally}
use Rattle.iset.proofs.Map.insert.Reads as insert-reads
use Rattle.iset.proofs.Map.insert.Kinds as insert-kinds
use Rattle.iset.proofs.Map.remove.Reads as remove-reads
use Rattle.iset.proofs.Map.remove.Kinds as remove-kinds
use Rattle.iset.proofs.Map.unload.Reads as unload-reads
use Rattle.iset.proofs.Map.unload.Kinds as unload-kinds
use Rattle.iset.proofs.Map.drain.Reads as drain-reads
use Rattle.iset.proofs.Map.drain.Kinds as drain-kinds
use Rattle.iset.proofs.Map.plain.Reads as plain-reads
use Rattle.iset.proofs.Map.plain.Kinds as plain-kinds
use Rattle.iset.proofs.Map.find_all.Reads as find-all-reads
use Rattle.iset.proofs.Map.find_all.Kinds as find-all-kinds
use Rattle.iset.proofs.Map.build.Reads as build-reads
use Rattle.iset.proofs.Map.build.Kinds as build-kinds
use Rattle.iset.proofs.Checks.{cases, check_one, one_check, check_two, two_check}
use Rattle.iset.proofs.Found.{tree_of, few}
use Rattle.iset.proofs.Orders.{remove_order, read_order, insert_order, start_order, step_order, drain_order, plain_order}

-- Tables. One after another:
abbrev pub followed : Rows → Rows → Rows
followed accept T = T
followed (refuse a P R) T = refuse a P (followed R T)

-- a number that no row of a table has
abbrev pub Lacks : ℕ → Rows → Type 0
Lacks a accept = a ≡ 0 → ⊥
Lacks a (refuse b P R) = (a ≡ b → ⊥) × Lacks a R

abbrev pub Apart : Rows → Rows → Type 0
Apart accept T = Unit {0}
Apart (refuse a P R) T = Lacks a T × (a ≡ 0 → ⊥) × Apart R T

never : (a : ℕ) (R : Rows) (k : ℕ) → Lacks a R → Exactly R k → k ≡ a → ⊥
never a accept k l e i = l (sym i ∙ e)
never a (refuse b P R) k l e i = never a R k l.1 (e.1 (λ p. l.0 (sym i ∙ e.0.1 p))) i

-- a call that tests by the one table and, where that refuses nothing, by the other
pub first_then : (R T : Rows) (a b : ℕ) → Apart R T → Exactly R a → (a ≡ 0 → Exactly T b) → Exactly (followed R T) (cond (eqb a 0) b a)
first_then accept T a b d e f = rw (eq-eqb a 0 e) (f e)
first_then (refuse c P R) T a b d e f = (
  (λ j. go a refl j, λ p. let i : a ≡ c = e.0.1 p in rw (ne_eqb a 0 (λ z. d.1 (sym i ∙ z))) i),
  λ z. first_then R T a b d.2 (e.1 z) f,
)
  where
    go : (k : ℕ) → a ≡ k → cond (eqb k 0) b k ≡ c → P
    go zero i j = absurd (never c T b d.0 (f i) j)
    go (suc k) i j = let y : suc k ≡ c = rw (ne_eqb (suc k) 0 (λ z. omega arith)) at j in e.0.0 (i ∙ y)

-- a row before a table, by a test that is passed, or by one that is not
pub passed_row : (a : ℕ) (P : Type 0) (R : Rows) (k : ℕ) (t : Bool) → Lacks a R → (t ≡ true → P → ⊥) → (t ≡ false → P) → (t ≡ true → Exactly R k)
    → Exactly (refuse a P R) (cond t k a)
passed_row a P R k true l f g h = ((λ i. absurd (never a R k l (h refl) i), λ p. absurd (f refl p)), λ z. h refl)
passed_row a P R k false l f g h = ((λ i. g refl, λ p. refl), λ z. absurd (z (g refl)))

pub failed_row : (a : ℕ) (P : Type 0) (R : Rows) (k : ℕ) (t : Bool) → Lacks a R → (t ≡ true → P) → (t ≡ false → P → ⊥) → (t ≡ false → Exactly R k)
    → Exactly (refuse a P R) (cond t a k)
failed_row a P R k false l f g h = ((λ i. absurd (never a R k l (h refl) i), λ p. absurd (g refl p)), λ z. h refl)
failed_row a P R k true l f g h = ((λ i. f refl, λ p. refl), λ z. absurd (z (f refl)))

-- an answer by the number k has that number, and a refused one is the refusal's
pub number_is : {A : Type 0} (f : A → ℕ) (k : ℕ) (x y : A) → f x ≡ 0 → f y ≡ k → f (cond (eqb k 0) x y) ≡ k
number_is f zero x y p q = p
number_is f (suc k) x y p q = rw (ne_eqb (suc k) 0 (λ z. omega arith)) q

pub kept : {A : Type 0} (k : ℕ) (x y : A) → (k ≡ 0 → ⊥) → cond (eqb k 0) x y ≡ y
kept k x y d = rw (ne_eqb k 0 d)

-- The check.
pub check_refusals : (m : Map) (W C : List ℕ) → Exactly (check_rows m W C) (check_rule m W C)
check_refusals m W C = (
  (check_one m W C, one_check m W C),
  λ o. (
    (λ e. (check_two m W C e).1, two_check m W C (omega arith)),
    λ b. cases m W C (check_rule m W C) refl (λ h z. absurd (o h)) (λ h s z. sym z) (λ h s z. absurd (b s)),
  ),
)

-- A build.
every_fails : (p : ℕ → Bool) (m k : ℕ) → every p k m ≡ false → (j : ℕ) × (k ≤ j) × (j < k + m) × (p j ≡ false)
unfolding every
every_fails p zero k e = absurd (true≢false e)
every_fails p (suc m) k e = go (p k) refl e (every_fails p m (suc k))
  where
    go : (t : Bool) → p k ≡ t → cond t (every p (suc k) m) false ≡ false
        → (every p (suc k) m ≡ false → (j : ℕ) × (suc k ≤ j) × (j < suc k + m) × (p j ≡ false)) → (j : ℕ) × (k ≤ j) × (j < k + suc m) × (p j ≡ false)
    go true i q r = let (j, x, y, z) = r q in (j, omega arith, omega arith, z)
    go false i q r = (k, omega arith, omega arith, i)

module _ (m : Map) (W C S : List ℕ) where
  abbrev Improper : Type 0
  Improper = (k : ℕ) × (k < length S / 3) × BadInterval (start_of S k) (end_of S k)

  abbrev Falls : Type 0
  Falls = (k : ℕ) × (suc k < length S / 3) × (NotAfter (interval_of_lem S k) (interval_of_lem S (suc k)) → ⊥)

  proper_not : all_proper_lem S ≡ true → Improper → ⊥
  unfolding all_proper_lem proper_at
  proper_not e x = omega (arith, ltb-true (start_of S x.0) (end_of S x.0) (every_sound (proper_at S) (count S) 0 e x.0 (omega arith) (omega (arith, x.1))), x.2)

  improper : all_proper_lem S ≡ false → Improper
  unfolding all_proper_lem proper_at
  improper e = let (k, a, b, f) = every_fails (proper_at S) (count S) 0 e in (k, omega arith, ltb-false (start_of S k) (end_of S k) f)

  sorted_not : sorted S ≡ true → Falls → ⊥
  unfolding sorted in_order_lem
  sorted_not e x =
      x.2 (rw (← add-one x.0)
      (le_sound (interval_of_lem S x.0) (interval_of_lem S (x.0 + 1)) (every_sound (in_order_lem S) (count S - 1) 0 e x.0 (omega arith) (omega (arith, x.1)))))

  falls : sorted S ≡ false → Falls
  unfolding sorted in_order_lem
  falls e =
      let (k, a, b, f) = every_fails (in_order_lem S) (count S - 1) 0 e in
      (k, omega arith, λ h. true≢false (sym (le_complete (interval_of_lem S k) (interval_of_lem S (k + 1)) (rw (add-one k) h)) ∙ f))

  pub build_no : (build_call m W C S).answer.no ≡ build_number (length W) (length C) S
  unfolding build_call
  build_no = number_is (λ (a : Effect BuildAnswer). a.answer.no) (build_number (length W) (length C) S) _ _ refl refl

  -- the tables from each row on
  abbrev from_6 : Rows
  from_6 = refuse 6 Falls accept

  abbrev from_5 : Rows
  from_5 = refuse 5 Improper from_6

  abbrev from_1 : Rows
  from_1 = refuse 1 (capacity (length W) (length C) < length S / 3) from_5

  build_5 : Exactly from_5 (cond (all_proper_lem S) (cond (sorted S) 0 6) 5)
  build_5 =
      passed_row 5 Improper from_6 (cond (sorted S) 0 6) (all_proper_lem S) (omega arith) proper_not improper
      (λ v. passed_row 6 Falls accept 0 (sorted S) (omega arith) sorted_not falls (λ w. refl))

  build_1 : Exactly from_1 (cond (ltb (capacity (length W) (length C)) (length S / 3)) 1 (cond (all_proper_lem S) (cond (sorted S) 0 6) 5))
  build_1 =
      failed_row 1 (capacity (length W) (length C) < length S / 3) from_5 (cond (all_proper_lem S) (cond (sorted S) 0 6) 5)
      (ltb (capacity (length W) (length C)) (length S / 3)) (omega arith)
      (λ u. ltb-true (capacity (length W) (length C)) (length S / 3) u)
      (λ u p. omega (arith, ltb-false (capacity (length W) (length C)) (length S / 3) u)) (λ u. build_5)

  pub build_refusals : Exactly (build_rows W C S) (build_call m W C S).answer.no
  unfolding build_number
  build_refusals =
      rw build_no
      (passed_row 8 (length S % 3 ≡ 0 → ⊥) from_1
      (cond (ltb (capacity (length W) (length C)) (length S / 3)) 1 (cond (all_proper_lem S) (cond (sorted S) 0 6) 5)) (eqb (length S % 3) 0) (omega arith)
      (λ t p. p (eqb-true (length S % 3) 0 t)) (λ t i. true≢false (sym (eq-eqb (length S % 3) 0 i) ∙ t)) (λ t. build_1))

  -- "a refused build: count 0, root U", and document 02, item 4: "a refusal leaves the version"
  pub build_leaves : ((build_call m W C S).answer.no ≡ 0 → ⊥)
      → build_call m W C S ≡ effect (record { no = (build_call m W C S).answer.no; map = record { count = 0; root = U; version = m.version } }) W C
  unfolding build_call
  build_leaves d = rw build_no (kept (build_number (length W) (length C) S) _ _ (λ e. d (build_no ∙ e)))

-- A removal.
module _ (m : Map) (W C : List ℕ) (s : ℕ) where
  pub remove_no : (remove_call m W C s).answer.no ≡ remove_number m W C s
  unfolding remove_call
  remove_no = number_is (λ (a : Effect RemoveAnswer). a.answer.no) (remove_number m W C s) _ _ refl refl

  pub remove_refusals : Exactly (remove_rows m W C s) (remove_call m W C s).answer.no
  remove_refusals =
      rw (remove_no, remove_order m W C s)
      (first_then (check_rows m W C) (refuse 3 (NoSuch m s) accept) (check_rule m W C) (cond (ltb s m.count) 0 3) (omega arith)
      (check_refusals m W C)
      (λ e. passed_row 3 (NoSuch m s) accept 0 (ltb s m.count) (omega arith)
      (λ t p. omega (arith, ltb-true s m.count t)) (ltb-false s m.count) (λ t. refl)))

  -- "the map .. as given .., value and counts 0, .. pairs U", and document 02, item 9: "a refusal
  -- 0"
  pub remove_leaves : ((remove_call m W C s).answer.no ≡ 0 → ⊥)
      → remove_call m W C s
      ≡ effect (record {
        no = (remove_call m W C s).answer.no;
        value = 0;
        map = m;
        pairs = record { first = none; second = none; third = none };
        reach = 0;
      }) W C
  unfolding remove_call
  remove_leaves d = rw remove_no (kept (remove_number m W C s) _ _ (λ e. d (remove_no ∙ e)))

-- A reading through a ticket.
module _ (m : Map) (W C : List ℕ) (t : Ticket) where
  pub read_no : (read_call m W C t).no ≡ read_number_lem m W C t
  unfolding read_call
  read_no = number_is (λ (a : ReadAnswer). a.no) (read_number_lem m W C t) _ _ refl refl

  ticket_row : Exactly (refuse 11 (Stale m t) (refuse 3 (NoSuch m t.slot) accept)) (ticket_number m t)
  unfolding ticket_number
  ticket_row =
      passed_row 11 (Stale m t) (refuse 3 (NoSuch m t.slot) accept) (cond (ltb t.slot m.count) 0 3) (eqb (age m.version t.version) 0) (omega arith)
      (λ i p. p (eqb-true (age m.version t.version) 0 i)) (λ i z. true≢false (sym (eq-eqb (age m.version t.version) 0 z) ∙ i))
      (λ i. passed_row 3 (NoSuch m t.slot) accept 0 (ltb t.slot m.count) (omega arith)
      (λ j p. omega (arith, ltb-true t.slot m.count j)) (ltb-false t.slot m.count) (λ j. refl))

  pub read_refusals : Exactly (read_rows m W C t) (read_call m W C t).no
  read_refusals =
      rw (read_no, read_order m W C t)
      (first_then (check_rows m W C) (refuse 11 (Stale m t) (refuse 3 (NoSuch m t.slot) accept)) (check_rule m W C) (ticket_number m t) (omega arith)
      (check_refusals m W C) (λ e. ticket_row))

  -- "value and counts 0"
  pub read_leaves : ((read_call m W C t).no ≡ 0 → ⊥) → read_call m W C t ≡ record { no = (read_call m W C t).no; entry = record { start = 0; end = 0; value = 0 } }
  unfolding read_call
  read_leaves d = rw read_no (kept (read_number_lem m W C t) _ _ (λ e. d (read_no ∙ e)))

-- An insertion.
module _ (m : Map) (W C : List ℕ) (e : Entry) where
  abbrev held : ℕ
  held = capacity (length W) (length C)

  pub insert_no : (insert_call m W C e).answer.no ≡ insert_number m W C e
  unfolding insert_call
  insert_no = number_is (λ (a : Effect InsertAnswer). a.answer.no) (insert_number m W C e) _ _ refl refl

  -- the refusals after that of a full store
  abbrev after_room : ℕ
  after_room = first (check_rule m W C) (cond (ltb e.start e.end) 0 5)

  proper_row : Exactly (followed (check_rows m W C) (refuse 5 (BadInterval e.start e.end) accept)) after_room
  proper_row =
      first_then (check_rows m W C) (refuse 5 (BadInterval e.start e.end) accept) (check_rule m W C) (cond (ltb e.start e.end) 0 5) (omega arith)
      (check_refusals m W C)
      (λ z. passed_row 5 (BadInterval e.start e.end) accept 0 (ltb e.start e.end) (omega arith)
      (λ t p. omega (arith, ltb-true e.start e.end t)) (ltb-false e.start e.end) (λ t. refl))

  pub insert_refusals : Exactly (insert_rows m W C e) (insert_call m W C e).answer.no
  insert_refusals = rw (insert_no, insert_order m W C e) (go (ltb m.count held) refl)
    where
      go : (t : Bool) → ltb m.count held ≡ t → Exactly (insert_rows m W C e) (cond t after_room 1)
      go true i =
          let h : m.count < held = ltb-true m.count held i in
          ((λ z. absurd (omega (arith, proper_row.0.0 z)), λ p. absurd (omega arith)), λ z. proper_row.1 (λ p. omega arith))
      go false i = ((λ z. ltb-false m.count held i, λ p. refl), λ z. absurd (z (ltb-false m.count held i)))

  -- "the map .. as given .., slot .. U"
  pub insert_leaves : ((insert_call m W C e).answer.no ≡ 0 → ⊥)
      → insert_call m W C e ≡ effect (record { no = (insert_call m W C e).answer.no; slot = U; map = m; reach = 0 }) W C
  unfolding insert_call
  insert_leaves d = rw insert_no (kept (insert_number m W C e) _ _ (λ z. d (insert_no ∙ z)))

-- BadRange, as the test of the bounds has it
pub ordered_not : (x y : Bound ℕ) → ordered x y ≡ true → BadRange x y → ⊥
ordered_not (Included a) (Included b) e p = omega (arith, leb-true a b e)
ordered_not (Included a) (Excluded b) e p = omega (arith, ltb-true a b e)
ordered_not (Included a) Unbounded e p = p
ordered_not (Excluded a) (Included b) e p = omega (arith, ltb-true a b e)
ordered_not (Excluded a) (Excluded b) e p = omega (arith, ltb-true a b e)
ordered_not (Excluded a) Unbounded e p = p
ordered_not Unbounded y e p = p

pub disordered : (x y : Bound ℕ) → ordered x y ≡ false → BadRange x y
disordered (Included a) (Included b) e = leb-false a b e
disordered (Included a) (Excluded b) e = ltb-false a b e
disordered (Included a) Unbounded e = absurd (true≢false e)
disordered (Excluded a) (Included b) e = ltb-false a b e
disordered (Excluded a) (Excluded b) e = ltb-false a b e
disordered (Excluded a) Unbounded e = absurd (true≢false e)
disordered Unbounded y e = absurd (true≢false e)

-- a range by the rule of a number
module _ (k : ℕ) (q : Span) where
  accepted_not : accepts k q.lo q.hi ≡ true → BadRuled k q → ⊥
  accepted_not e b = go (eqb k 1) refl (eqb k 2) refl e
    where
      go : (t : Bool) → eqb k 1 ≡ t → (u : Bool) → eqb k 2 ≡ u → cond t (ordered q.lo q.hi) (cond u (any_whole q.lo q.hi) false) ≡ true → ⊥
      go true i u j p = ordered_not q.lo q.hi p (b.0 (eqb-true k 1 i))
      go false i true j p = b.1 (eqb-true k 2 j) (first_from q.lo) (any_holds q.lo q.hi p)
      go false i false j p = true≢false (sym p)

  pub not_accepted : accepts k q.lo q.hi ≡ false → BadRuled k q
  not_accepted e = (
    λ i. disordered q.lo q.hi (rw i at e),
    λ i a h. true≢false (sym (holds_any q.lo q.hi a h) ∙ (rw i at e)),
  )

-- A lookup's range or interval, and its cursor.
module _ (m : Map) (W C : List ℕ) where
  -- the rows of a query alone
  abbrev query_row : Query → Rows
  query_row (Overlap q) = refuse 4 (BadRange q.lo q.hi) accept
  query_row (Ruled k q) = refuse 4 (BadRuled k q) accept
  query_row (Exact x) = refuse 5 (BadInterval x.start x.end) accept

  query_row_lem : (q : Query) → Exactly (query_row q) (query_number q)
  query_row_lem (Overlap q) =
      passed_row 4 (BadRange q.lo q.hi) accept 0 (ordered q.lo q.hi) (omega arith)
      (ordered_not q.lo q.hi) (disordered q.lo q.hi) (λ t. refl)
  query_row_lem (Ruled k q) =
      passed_row 4 (BadRuled k q) accept 0 (accepts k q.lo q.hi) (omega arith) (accepted_not k q) (not_accepted k q) (λ t. refl)
  query_row_lem (Exact x) =
      passed_row 5 (BadInterval x.start x.end) accept 0 (ltb x.start x.end) (omega arith)
      (λ t p. omega (arith, ltb-true x.start x.end t)) (ltb-false x.start x.end) (λ t. refl)

  start_row : (q : Query) → Exactly (followed (check_rows m W C) (query_row q)) (start_number m W C q)
  start_row q =
      rw (start_order m W C q)
      (first_then (check_rows m W C) (query_row q) (check_rule m W C) (query_number q) (apart q) (check_refusals m W C) (λ e. query_row_lem q))
    where
      apart : (q : Query) → Apart (check_rows m W C) (query_row q)
      apart (Overlap q) = omega arith
      apart (Ruled k q) = omega arith
      apart (Exact x) = omega arith

  -- the fresh cursor of an exact lookup
  pub start_no : (x : Interval) → (start_call m W C x).no ≡ start_number m W C (Exact x)
  unfolding start_call
  start_no x = number_is (λ (a : StartAnswer). a.no) (start_number m W C (Exact x)) _ _ refl refl

  pub start_refusals : (x : Interval) → Exactly (start_rows m W C x) (start_call m W C x).no
  start_refusals x = rw (start_no x) (start_row (Exact x))

  -- "a fresh cursor that is refused is the ended one"
  pub start_leaves : (x : Interval) → ((start_call m W C x).no ≡ 0 → ⊥) → start_call m W C x ≡ record { no = (start_call m W C x).no; cursor = ended }
  unfolding start_call
  start_leaves x d = rw (start_no x) (kept (start_number m W C (Exact x)) _ _ (λ e. d (start_no x ∙ e)))

  -- the plain lookup: the query, then an output with a place for every entry
  places_row : (places : ℕ) → Exactly (refuse 9 (places < m.count) accept) (cond (leb m.count places) 0 9)
  places_row places =
      passed_row 9 (places < m.count) accept 0 (leb m.count places) (omega arith)
      (λ t p. omega (arith, leb-true m.count places t)) (leb-false m.count places) (λ t. refl)

  plain_any : (q : Query) (places : ℕ) → Apart (followed (check_rows m W C) (query_row q)) (refuse 9 (places < m.count) accept)
      → Exactly (followed (followed (check_rows m W C) (query_row q)) (refuse 9 (places < m.count) accept)) (plain_number m W C q places)
  plain_any q places a =
      rw (plain_order m W C q places)
      (first_then (followed (check_rows m W C) (query_row q)) (refuse 9 (places < m.count) accept) (start_number m W C q)
      (cond (leb m.count places) 0 9) a (start_row q) (λ e. places_row places))

  plain_row : (q : Query) (places : ℕ) → Exactly (plain_rows m W C q places) (plain_number m W C q places)
  plain_row (Overlap q) places = plain_any (Overlap q) places (omega arith)
  plain_row (Ruled k q) places = plain_any (Ruled k q) places (omega arith)
  plain_row (Exact x) places = plain_any (Exact x) places (omega arith)

  plain_no : (q : Query) (out : List ℕ) → (plain_call m W C q out).answer.no ≡ plain_number m W C q (length out)
  unfolding plain_call
  plain_no q out = number_is (λ (a : Output TallyAnswer). a.answer.no) (plain_number m W C q (length out)) _ _ refl refl

  pub plain_refusals : (q : Query) (out : List ℕ) → Exactly (plain_rows m W C q (length out)) (plain_call m W C q out).answer.no
  plain_refusals q out = rw (plain_no q out) (plain_row q (length out))

  pub plain_leaves : (q : Query) (out : List ℕ) → ((plain_call m W C q out).answer.no ≡ 0 → ⊥)
      → plain_call m W C q out ≡ output (record { no = (plain_call m W C q out).answer.no; hits = 0; entered = 0 }) out
  unfolding plain_call
  plain_leaves q out d = rw (plain_no q out) (kept (plain_number m W C q (length out)) _ _ (λ e. d (plain_no q out ∙ e)))

  -- the fast lookup: the query alone
  find_all_row : (q : Query) → Exactly (find_all_rows m W C q) (start_number m W C q)
  find_all_row (Overlap q) = start_row (Overlap q)
  find_all_row (Ruled k q) = start_row (Ruled k q)
  find_all_row (Exact x) = start_row (Exact x)

  find_all_no : (q : Query) (out : List ℕ) → (find_all_call m W C q out).answer.no ≡ start_number m W C q
  unfolding find_all_call
  find_all_no q out = number_is (λ (a : Output TallyAnswer). a.answer.no) (start_number m W C q) _ _ refl refl

  pub find_all_refusals : (q : Query) (out : List ℕ) → Exactly (find_all_rows m W C q) (find_all_call m W C q out).answer.no
  find_all_refusals q out = rw (find_all_no q out) (find_all_row q)

  pub find_all_leaves : (q : Query) (out : List ℕ) → ((find_all_call m W C q out).answer.no ≡ 0 → ⊥)
      → find_all_call m W C q out ≡ output (record { no = (find_all_call m W C q out).answer.no; hits = 0; entered = 0 }) out
  unfolding find_all_call
  find_all_leaves q out d = rw (find_all_no q out) (kept (start_number m W C q) _ _ (λ e. d (find_all_no q out ∙ e)))

  -- an unloading: its range alone
  pub unload_no : (k : ℕ) (q : Span) → (unload_call m W C k q).answer.no ≡ unload_number m W C k q
  unfolding unload_call
  unload_no k q = number_is (λ (a : Effect UnloadAnswer). a.answer.no) (unload_number m W C k q) _ _ refl refl

  pub unload_refusals : (k : ℕ) (q : Span) → Exactly (unload_rows m W C k q) (unload_call m W C k q).answer.no
  unload_refusals k q = rw (unload_no k q) (start_row (Ruled k q))

  pub unload_leaves : (k : ℕ) (q : Span) → ((unload_call m W C k q).answer.no ≡ 0 → ⊥)
      → unload_call m W C k q ≡ effect (refused_unloading m (unload_call m W C k q).answer.no) W C
  unfolding unload_call
  unload_leaves k q d = rw (unload_no k q) (kept (unload_number m W C k q) _ _ (λ e. d (unload_no k q ∙ e)))

  module _ (c : Cursor) where
    -- by the form that the test finds
    by_form : (f : Form) (B : Type 0) → (f ≡ form.Fresh → B → ⊥) → (f ≡ form.Held → B → ⊥) → (f ≡ form.Ended → B → ⊥) → (f ≡ form.Bad → B)
        → Exactly (refuse 7 B accept) (form_number f)
    by_form form.Fresh B x y z b = ((λ i. absurd (omega arith), λ p. absurd (x refl p)), λ n. refl)
    by_form form.Held B x y z b = ((λ i. absurd (omega arith), λ p. absurd (y refl p)), λ n. refl)
    by_form form.Ended B x y z b = ((λ i. absurd (omega arith), λ p. absurd (z refl p)), λ n. refl)
    by_form form.Bad B x y z b = ((λ i. b refl, λ p. refl), λ n. absurd (n (b refl)))

    -- the query is `Overlap q`, or `Ruled k q` for some k
    range_row : (query : Query) (q : Span) → start_number m W C query ≡ 0
        → Exactly (refuse 7 (NoForm m W C c) accept) (form_number (form_of W m.count m.root c))
    range_row query q e =
        let P : Passes W C m.count m.root = tree_of m W C query e in
        let f : m.count ≤ 65535 = few m W C query e in
        by_form (form_of W m.count m.root c) (NoForm m W C c)
        (λ i p. p.0 ((overlap_fresh_form W C m.count m.root 1 q f P c).0 i))
        (λ i p. p.2 P ((overlap_held_form W C m.count m.root 1 q f P c).0 i))
        (λ i p. p.1 ((overlap_ended_form W C m.count m.root 1 q f P c).0 i))
        (λ i. let b = overlap_bad_form W C m.count m.root 1 q f P c i in
        (b.0, b.1, λ P'. (overlap_bad_form W C m.count m.root 1 q f P' c i).2))

    form_row : (q : Query) → start_number m W C q ≡ 0
        → Exactly (refuse 7 (BadCursor m W C q c) accept) (form_number (form_of W m.count (beginning m W q) c))
    form_row (Overlap q) e = range_row (Overlap q) q e
    form_row (Ruled k q) e = range_row (Ruled k q) q e
    form_row (Exact x) e =
        let P : Passes W C m.count m.root = tree_of m W C (Exact x) e in
        let f : m.count ≤ 65535 = few m W C (Exact x) e in
        let k : ℕ = beginning m W (Exact x) in
        exact_start W C m.count m.root x f P
        (λ u a. by_form (form_of W m.count k c) (BadCursor m W C (Exact x) c)
        (λ i p. p.0 ((fresh_form W m.count f U k leaf u (omega arith) c).0 i))
        (λ i p. exact_none_held W C m.count m.root x f P c u i)
        (λ i p. p.1 ((ended_form W m.count f U k leaf u (omega arith) c).0 i))
        (λ i. let b = bad_form W m.count f U k leaf u (omega arith) c i in
        (b.0, b.1, λ P' h. (exact_bad_form W C m.count m.root x f P' k h c i).2)))
        (λ h. by_form (form_of W m.count k c) (BadCursor m W C (Exact x) c)
        (λ i p. p.0 ((exact_fresh_form W C m.count m.root x f P k h c).0 i))
        (λ i p. p.2 P h ((exact_held_form W C m.count m.root x f P k h c).0 i))
        (λ i p. p.1 ((exact_ended_form W C m.count m.root x f P k h c).0 i))
        (λ i. let b = exact_bad_form W C m.count m.root x f P k h c i in
        (b.0, b.1, λ P' h'. (exact_bad_form W C m.count m.root x f P' k h' c i).2)))

    step_any : (q : Query) → Apart (followed (check_rows m W C) (query_row q)) (refuse 7 (BadCursor m W C q c) accept)
        → Exactly (followed (followed (check_rows m W C) (query_row q)) (refuse 7 (BadCursor m W C q c) accept)) (step_number m W C q c)
    step_any q a =
        rw (step_order m W C q c)
        (first_then (followed (check_rows m W C) (query_row q)) (refuse 7 (BadCursor m W C q c) accept) (start_number m W C q)
        (form_number (form_of W m.count (beginning m W q) c)) a (start_row q) (form_row q))

    step_row : (q : Query) → Exactly (step_rows m W C q c) (step_number m W C q c)
    step_row (Overlap q) = step_any (Overlap q) (omega arith)
    step_row (Ruled k q) = step_any (Ruled k q) (omega arith)
    step_row (Exact x) = step_any (Exact x) (omega arith)

    step_no : (q : Query) → (step_call m W C q c).no ≡ step_number m W C q c
    unfolding step_call
    step_no q = number_is (λ (a : StepAnswer). a.no) (step_number m W C q c) _ _ refl refl

    pub step_refusals : (q : Query) → Exactly (step_rows m W C q c) (step_call m W C q c).no
    step_refusals q = rw (step_no q) (step_row q)

    -- "the .. cursor as given, .. counts 0, slot .. U"
    pub step_leaves : (q : Query) → ((step_call m W C q c).no ≡ 0 → ⊥)
        → step_call m W C q c ≡ record { no = (step_call m W C q c).no; hit = false; slot = U; next = c; entered = 0 }
    unfolding step_call
    step_leaves q d = rw (step_no q) (kept (step_number m W C q c) _ _ (λ e. d (step_no q ∙ e)))

    module _ (limit : ℕ) where
      short_is : (l places : ℕ) → ShortOutput l places ↔ (places < limit_of_lem l places)
      short_is zero places = (λ p. absurd p, λ p. omega arith)
      short_is (suc k) places = rw (ne_eqb (suc k) 0 (λ z. omega arith)) (λ p. p, λ p. p)

      room_row : (places : ℕ) → Exactly (refuse 9 (ShortOutput limit places) accept) (cond (ltb places (limit_of_lem limit places)) 9 0)
      room_row places =
          failed_row 9 (ShortOutput limit places) accept 0 (ltb places (limit_of_lem limit places)) (omega arith)
          (λ t. (short_is limit places).1 (ltb-true places (limit_of_lem limit places) t))
          (λ t p. omega (arith, ltb-false places (limit_of_lem limit places) t, (short_is limit places).0 p)) (λ t. refl)

      drain_any : (q : Query) (places : ℕ) → Apart (step_rows m W C q c) (refuse 9 (ShortOutput limit places) accept)
          → Exactly (followed (step_rows m W C q c) (refuse 9 (ShortOutput limit places) accept)) (drain_number m W C q c limit places)
      drain_any q places a =
          rw (drain_order m W C q c limit places)
          (first_then (step_rows m W C q c) (refuse 9 (ShortOutput limit places) accept) (step_number m W C q c)
          (cond (ltb places (limit_of_lem limit places)) 9 0) a (step_row q) (λ e. room_row places))

      drain_row : (q : Query) (places : ℕ) → Exactly (drain_rows m W C q c limit places) (drain_number m W C q c limit places)
      drain_row (Overlap q) places = drain_any (Overlap q) places (omega arith)
      drain_row (Ruled k q) places = drain_any (Ruled k q) places (omega arith)
      drain_row (Exact x) places = drain_any (Exact x) places (omega arith)

      drain_no : (q : Query) (out : List ℕ) → (drain_call m W C q c limit out).answer.no ≡ drain_number m W C q c limit (length out)
      unfolding drain_call
      drain_no q out = number_is (λ (a : Output DrainAnswer). a.answer.no) (drain_number m W C q c limit (length out)) _ _ refl refl

      pub drain_refusals : (q : Query) (out : List ℕ) → Exactly (drain_rows m W C q c limit (length out)) (drain_call m W C q c limit out).answer.no
      drain_refusals q out = rw (drain_no q out) (drain_row q (length out))

      pub drain_leaves : (q : Query) (out : List ℕ) → ((drain_call m W C q c limit out).answer.no ≡ 0 → ⊥)
          → drain_call m W C q c limit out ≡ output (record { no = (drain_call m W C q c limit out).answer.no; hits = 0; entered = 0; next = c }) out
      unfolding drain_call
      drain_leaves q out d = rw (drain_no q out) (kept (drain_number m W C q c limit (length out)) _ _ (λ e. d (drain_no q out ∙ e)))

-- Said of the code: whatever answer r and whatever slices at exit s a call's promise allows from
-- its arguments a, a refusal leaves what was lent.
pub refused_number : (k : ℕ) (y : Refusal) → refusal_number y ≡ k → k ≡ 0 → ⊥
refused_number k y e z = omega (arith, number_pos y)

pub store_left : {A : Type 0} (x y : Effect A) → x ≡ y → (x.words ≡ y.words) × (x.colours ≡ y.colours)
store_left {A = A} x y e = (ap (λ (c : Effect A). c.words) e, ap (λ (c : Effect A). c.colours) e)

pub build_code : (κs : Lfts 3) (a : K.Dens κs build-kinds.ps) (r : (K.res_t build-kinds.r κs).Denot) (s : AtExit (K.ended_of 3 build-kinds.ps build-kinds.r) κs)
    → build-reads.Post κs a r s → (y : Refusal) → r ≡ Err y → (s.1.0.now ≡ a.1.0.now) × (s.1.1.0.now ≡ a.1.1.0.now)
build_code κs a r s p y e =
    let m : Map = a.0 in
    let W : List ℕ = a.1.0.now in
    let C : List ℕ = a.1.1.0.now in
    let S : List ℕ = a.1.1.1.0.now in
    let k : refusal_number y ≡ (build_call m W C S).answer.no =
    ap (λ (x : Result Map Refusal). (build_answer m x).no) (sym e) ∙ ap (λ (x : Effect BuildAnswer). x.answer.no) p in
    store_left _ _ (p ∙ build_leaves m W C S (refused_number (build_call m W C S).answer.no y k))

pub remove_code : (κs : Lfts 2) (a : K.Dens κs remove-kinds.ps) (r : (K.res_t remove-kinds.r κs).Denot) (s : AtExit (K.ended_of 2 remove-kinds.ps remove-kinds.r) κs)
    → remove-reads.Post κs a r s → (y : Refusal) → r ≡ Err y → (s.1.0.now ≡ a.1.0.now) × (s.1.1.0.now ≡ a.1.1.0.now)
remove_code κs a r s p y e =
    let m : Map = a.0 in
    let W : List ℕ = a.1.0.now in
    let C : List ℕ = a.1.1.0.now in
    let t : ℕ = a.1.1.1.0 in
    let k : refusal_number y ≡ (remove_call m W C t).answer.no =
    ap (λ (x : Result Removed Refusal). (remove_answer m x).no) (sym e) ∙ ap (λ (x : Effect RemoveAnswer). x.answer.no) p in
    store_left _ _ (p ∙ remove_leaves m W C t (refused_number (remove_call m W C t).answer.no y k))

pub insert_code : (κs : Lfts 2) (a : K.Dens κs insert-kinds.ps) (r : (K.res_t insert-kinds.r κs).Denot) (s : AtExit (K.ended_of 2 insert-kinds.ps insert-kinds.r) κs)
    → insert-reads.Post κs a r s → (y : Refusal) → r ≡ Err y → (s.1.0.now ≡ a.1.0.now) × (s.1.1.0.now ≡ a.1.1.0.now)
insert_code κs a r s p y e =
    let m : Map = a.0 in
    let W : List ℕ = a.1.0.now in
    let C : List ℕ = a.1.1.0.now in
    let t : Entry = entry_of a.1.1.1.0 a.1.1.1.1.0 a.1.1.1.1.1.0 in
    let k : refusal_number y ≡ (insert_call m W C t).answer.no =
    ap (λ (x : Result Inserted Refusal). (insert_answer m x).no) (sym e) ∙ ap (λ (x : Effect InsertAnswer). x.answer.no) p in
    store_left _ _ (p ∙ insert_leaves m W C t (refused_number (insert_call m W C t).answer.no y k))

pub unload_code : (κs : Lfts 2) (a : K.Dens κs unload-kinds.ps) (r : (K.res_t unload-kinds.r κs).Denot) (s : AtExit (K.ended_of 2 unload-kinds.ps unload-kinds.r) κs)
    → unload-reads.Post κs a r s → (y : Refusal) → r ≡ Err y → (s.1.0.now ≡ a.1.0.now) × (s.1.1.0.now ≡ a.1.1.0.now)
unload_code κs a r s p y e =
    let m : Map = a.0 in
    let W : List ℕ = a.1.0.now in
    let C : List ℕ = a.1.1.0.now in
    let t : ℕ = a.1.1.1.0 in
    let q : Span = a.1.1.1.1.0 in
    let k : refusal_number y ≡ (unload_call m W C t q).answer.no =
    ap (λ (x : Result Unloaded Refusal). (unload_answer m x).no) (sym e) ∙ ap (λ (x : Effect UnloadAnswer). x.answer.no) p in
    store_left _ _ (p ∙ unload_leaves m W C t q (refused_number (unload_call m W C t q).answer.no y k))

pub drain_code : (κs : Lfts 3) (a : K.Dens κs drain-kinds.ps) (r : (K.res_t drain-kinds.r κs).Denot) (s : AtExit (K.ended_of 3 drain-kinds.ps drain-kinds.r) κs)
    → drain-reads.Post κs a r s → (y : Refusal) → r ≡ Err y → s.1.1.1.1.1.1.0.now ≡ a.1.1.1.1.1.1.0.now
drain_code κs a r s p y e =
    let m : Map = a.0 in
    let W : List ℕ = a.1.0.now in
    let C : List ℕ = a.1.1.0.now in
    let q : Query = a.1.1.1.0 in
    let c : Cursor = a.1.1.1.1.0 in
    let t : ℕ = a.1.1.1.1.1.0 in
    let out : List ℕ = a.1.1.1.1.1.1.0.now in
    let k : refusal_number y ≡ (drain_call m W C q c t out).answer.no =
    ap (λ (x : Result Drained Refusal). (drain_answer c x).no) (sym e) ∙ ap (λ (x : Output DrainAnswer). x.answer.no) p in
    ap (λ (x : Output DrainAnswer). x.output) (p ∙ drain_leaves m W C c t q out (refused_number (drain_call m W C q c t out).answer.no y k))

-- the plain lookup and the fast one
looked_code : (r : Result Tally Refusal) (X out : List ℕ) (c : Output TallyAnswer) → output (tally_answer r) X ≡ c
    → ((c.answer.no ≡ 0 → ⊥) → c ≡ output (refused_tally c.answer.no) out) → (y : Refusal) → r ≡ Err y → X ≡ out
looked_code r X out c p leaves y e =
    let k : refusal_number y ≡ c.answer.no =
    ap (λ (x : Result Tally Refusal). (tally_answer x).no) (sym e) ∙ ap (λ (x : Output TallyAnswer). x.answer.no) p in
    ap (λ (x : Output TallyAnswer). x.output) (p ∙ leaves (refused_number c.answer.no y k))

pub plain_code : (κs : Lfts 3) (a : K.Dens κs plain-kinds.ps) (r : (K.res_t plain-kinds.r κs).Denot) (s : AtExit (K.ended_of 3 plain-kinds.ps plain-kinds.r) κs)
    → plain-reads.Post κs a r s → (y : Refusal) → r ≡ Err y → s.1.1.1.1.0.now ≡ a.1.1.1.1.0.now
plain_code κs a r s p = looked_code r _ _ _ p (plain_leaves a.0 a.1.0.now a.1.1.0.now a.1.1.1.0 a.1.1.1.1.0.now)

pub find_all_code : (κs : Lfts 3) (a : K.Dens κs find-all-kinds.ps) (r : (K.res_t find-all-kinds.r κs).Denot) (s : AtExit (K.ended_of 3 find-all-kinds.ps find-all-kinds.r) κs)
    → find-all-reads.Post κs a r s → (y : Refusal) → r ≡ Err y → s.1.1.1.1.0.now ≡ a.1.1.1.1.0.now
find_all_code κs a r s p = looked_code r _ _ _ p (find_all_leaves a.0 a.1.0.now a.1.1.0.now a.1.1.1.0 a.1.1.1.1.0.now)
