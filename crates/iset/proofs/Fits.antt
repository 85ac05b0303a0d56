-- A drain's limit 0 means as many hits as fit.
use Rattle.std.proofs.Common.{◌≡◌, ℕ, zero, suc, ◌<◌, Bool, true, false, cond, List, [], length, sym, refl, ap, ◌∙◌, arith, le-ltb, ne_eqb}
use Rattle.words.specs.Intervals.{proper}
use Rattle.words.specs.Lists.{filter}
use Rattle.words.specs.declared.interval.Interval.{Interval}
use Rattle.words.specs.declared.interval.Span.{Span}
use Rattle.tree.specs.Tree.{slots}
use Rattle.tree.specs.Passes.{Passes}
use Rattle.iter.specs.Cursors.{fresh}
use Rattle.iter.specs.Drains as drains
use Rattle.iter.specs.Exact.{equals}
use Rattle.iter.specs.Forms.{form_of}
use Rattle.iter.specs.Overlap.{meets}
use Rattle.iter.specs.Queries.{rules}
use Rattle.iter.specs.declared.Cursor.{Cursor}
use Rattle.iter.specs.declared.Form.{Form}
use Rattle.iter.specs.declared.Form.TheVariants as form
use Rattle.iter.specs.declared.rules.Query.{Query}
use Rattle.iter.specs.declared.rules.Query.TheVariants.{Overlap, Ruled, Exact}
use Rattle.iter_laws.proofs.OverlapRuns.{overlap_first}
use Rattle.iter_laws.proofs.ExactRuns.{exact_first}
use Rattle.iset.specs.Effects.{output}
use Rattle.iset.specs.Check.{first, check_rule}
use Rattle.iset.specs.Fits.{Fits, Request8}
use Rattle.iset.specs.Lookup.{ordered, accepts, query_number, beginning, form_number, start_number, step_number, drain_number, start_call, drain_call}
use Rattle.iset.specs.Refusals.{BadRange, BadInterval}
use Rattle.iset.specs.declared.Map.{Map}
use Rattle.iset.proofs.Checks.{cases}
use Rattle.iset.proofs.Orders.{start_order, step_order, drain_order}
use Rattle.iset.proofs.Found.{few, fresh_accepted}
use Rattle.iset.proofs.Runs.{range_started, interval_started, exact_fresh}

-- the numbers that a step may answer
tested_low : (b : Bool) (k : ℕ) → k < 9 → cond b 0 k < 9
tested_low true k h = omega arith
tested_low false k h = h

first_low : (k x : ℕ) → k < 9 → x < 9 → first k x < 9
first_low zero x h i = i
first_low (suc k) x h i = rw (ne_eqb (suc k) 0 (λ z. omega arith)) h

module _ (m : Map) (W C : List ℕ) where
  check_low : check_rule m W C < 9
  check_low = cases m W C (check_rule m W C) refl (λ h z. omega arith) (λ h p z. omega arith) (λ h p z. omega arith)

  query_low : (q : Query) → query_number q < 9
  query_low (Overlap q) = tested_low (ordered q.lo q.hi) 4 (omega arith)
  query_low (Ruled k q) = tested_low (accepts k q.lo q.hi) 4 (omega arith)
  query_low (Exact x) = tested_low (proper x) 5 (omega arith)

  form_low : (f : Form) → form_number f < 9
  form_low form.Fresh = omega arith
  form_low form.Held = omega arith
  form_low form.Ended = omega arith
  form_low form.Bad = omega arith

  step_low : (q : Query) (c : Cursor) → step_number m W C q c < 9
  step_low q c =
      rw (step_order m W C q c, start_order m W C q)
      (first_low (first (check_rule m W C) (query_number q)) (form_number (form_of W m.count (beginning m W q) c))
      (first_low (check_rule m W C) (query_number q) check_low (query_low q)) (form_low (form_of W m.count (beginning m W q) c)))

  zero_number : (q : Query) (c : Cursor) (places : ℕ) → drain_number m W C q c 0 places ≡ step_number m W C q c
  zero_number q c places = drain_order m W C q c 0 places ∙ rw (le-ltb places places (omega arith)) (go (step_number m W C q c))
    where
      go : (k : ℕ) → first k 0 ≡ k
      go zero = refl
      go (suc k) = rw (ne_eqb (suc k) 0 (λ z. omega arith))

  no_room : (q : Query) (c : Cursor) → step_number m W C q c ≡ 0 → drain_call m W C q c 0 [] ≡ output (record { no = 0; hits = 0; entered = 0; next = c }) []
  unfolding drain_call drains.drain drains.filled
  no_room q c e = rw (zero_number q c 0, e) refl

  overlap_places : check_rule m W C ≡ 0 → (q : Span) → (BadRange q.lo q.hi → ⊥) → (P : Passes W C m.count m.root) (out : List ℕ)
      → Fits (drain_call m W C (Overlap q) (fresh m.root) 0 out) (filter (meets W q) (slots P.tree)) out
  unfolding drain_call rules
  overlap_places sound q ranged P out =
      let e : start_number m W C (Overlap q) ≡ 0 = range_started m W C sound q ranged in
      let z : drain_number m W C (Overlap q) (fresh m.root) 0 (length out) ≡ 0 = zero_number (Overlap q) (fresh m.root) (length out) ∙ fresh_accepted m W C (Overlap q) e in
      let f = overlap_first W C m.count m.root 1 q (few m W C (Overlap q) e) P (length out) in
      record { accepted = rw z refl; hits = rw z (ap length f); written = rw (z, f) refl }

  exact_places : check_rule m W C ≡ 0 → (x : Interval) → (BadInterval x.start x.end → ⊥) → (P : Passes W C m.count m.root) (out : List ℕ)
      → Fits (drain_call m W C (Exact x) (start_call m W C x).cursor 0 out) (filter (equals W x) (slots P.tree)) out
  unfolding drain_call rules
  exact_places sound x proper P out =
      let e : start_number m W C (Exact x) ≡ 0 = interval_started m W C sound x proper in
      let z : drain_number m W C (Exact x) (fresh (beginning m W (Exact x))) 0 (length out) ≡ 0 = zero_number (Exact x) (fresh (beginning m W (Exact x))) (length out) ∙ fresh_accepted m W C (Exact x) e in
      let f = exact_first W C m.count m.root x (few m W C (Exact x) e) P (length out) in
      rw (exact_fresh m W C x e) (record { accepted = rw z refl; hits = rw z (ap length f); written = rw (z, f) refl })

  pub request_8 : Request8 m W C
  request_8 =
      record {
        fits_number = zero_number;
        never_short = λ q c places e. omega (arith, step_low q c, sym (zero_number q c places) ∙ e);
        overlap_fits = overlap_places;
        exact_fits = exact_places;
        no_places = no_room;
        as_before = λ places. refl;
        others_as_before = λ k places. rw (ne_eqb (suc k) 0 (λ z. omega arith));
      }
