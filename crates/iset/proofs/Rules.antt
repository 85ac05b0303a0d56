-- Request 11, of the public calls.
use Rattle.std.proofs.Common.{◌≡◌, ℕ, ◌+◌, ◌*◌, ◌<◌, max, Bool, true, false, leb, ◌↔◌, List, [], refl, arith, ltb-true, lt-ltb, leb-true}
use Rattle.words.specs.Intervals.{admits}
use Rattle.words.specs.Nodes.{word, start, interval}
use Rattle.std.specs.declared.ops.Bound.{Bound}
use Rattle.std.specs.declared.ops.Bound.TheVariants.{Included, Excluded, Unbounded}
use Rattle.words.specs.declared.interval.Span.{Span}
use Rattle.tree.specs.Passes.{Passes}
use Rattle.image_rule.specs.Written.{Words}
use Rattle.iter.specs.Ranges.{last, first_from, by_rule_lem, any_whole}
use Rattle.iter.specs.Cursors.{fresh}
use Rattle.iter.specs.Overlap.{meets}
use Rattle.iter.specs.Queries.{rules}
use Rattle.iter.specs.declared.rules.Query.TheVariants.{Ruled}
use Rattle.iter.proofs.Bools.{and_right}
use Rattle.iter_laws.specs.Addresses.{Shared}
use Rattle.iter_laws.proofs.Whole.{holds_any, ruled_less, ruled_shared, shared_ruled}
use Rattle.fast_rule.specs.Fast.{fast_rules, start_at, fast_nodes, fast_hits}
use Rattle.iset.specs.Lookup.{open_start_number, open_step_number, open_drain_number, start_number, step_number, drain_number, step_call, drain_call, ordered}
use Rattle.iset.specs.Plain.{open_plain_number, plain_number, plain_call}
use Rattle.iset.specs.Find.{find_all_call}
use Rattle.iset.specs.Refusals.{BadRuled}
use Rattle.iset.specs.Ruled.{Request11}
use Rattle.iset.specs.declared.Map.{Map}
use Rattle.iset.proofs.Refusals.{ordered_not, not_accepted}
use Rattle.iset.proofs.Runs.{by_number, range_runs, ruled_started}
use Rattle.iset.proofs.Plains.{plain_run}
use Rattle.iset.proofs.Finds.{find_run}

-- a range that rule 2 accepts
accepted_two : (q : Span) → (BadRuled 2 q → ⊥) → any_whole q.lo q.hi ≡ true
accepted_two q d = go (any_whole q.lo q.hi) refl
  where
    go : (b : Bool) → any_whole q.lo q.hi ≡ b → b ≡ true
    go true e = refl
    go false e = absurd (d (not_accepted 2 q e))

-- a range that holds a whole address is ordered, by the first address that its lower bound lets
-- pass
admits_ordered : (lo hi : Bound ℕ) → admits hi (first_from lo) ≡ true → ordered lo hi ≡ true
admits_ordered (Included x) (Included y) h = h
admits_ordered (Included x) (Excluded y) h = h
admits_ordered (Included x) Unbounded h = refl
admits_ordered (Excluded x) (Included y) h = lt-ltb x y (omega (arith, leb-true (x + 1) y h))
admits_ordered (Excluded x) (Excluded y) h = lt-ltb x y (omega (arith, ltb-true (x + 1) y h))
admits_ordered (Excluded x) Unbounded h = refl
admits_ordered Unbounded y h = refl

pub whole_ordered : (lo hi : Bound ℕ) → any_whole lo hi ≡ true → ordered lo hi ≡ true
whole_ordered lo hi e = admits_ordered lo hi (and_right (leb (first_from lo) last) (admits hi (first_from lo)) e)

-- so rule 2 refuses what rule 1 refuses
refused_both : (q : Span) → BadRuled 1 q → BadRuled 2 q
refused_both q b = (
  λ i. b.0 refl,
  λ i a h. ordered_not q.lo q.hi (whole_ordered q.lo q.hi (holds_any q.lo q.hi a h)) (b.0 refl),
)

module _ (m : Map) (W C : List ℕ) where
  whole_shared : Passes W C m.count m.root → Words W → (q : Span) → (BadRuled 2 q → ⊥) → (s : ℕ) → s < m.count
      → (meets W (by_rule_lem 2 q) s ≡ true) ↔ ((a : ℕ) × Shared q (interval W s) a)
  unfolding meets word
  whole_shared P small q d s l = (
    λ e. (max (start W s) (first_from q.lo), ruled_shared q (interval W s) (accepted_two q d) (P.proper s l) (omega (arith, small (s * 8 + 1))) e),
    λ h. shared_ruled q (interval W s) h.0 h.1,
  )

  part_of : (k : ℕ) (q : Span) (s : ℕ) → meets W (by_rule_lem k q) s ≡ true → meets W q s ≡ true
  unfolding meets
  part_of k q s e = ruled_less k q (interval W s) e

  pub request_11 : Request11 m W C
  unfolding open_start_number open_step_number open_drain_number open_plain_number start_number step_number drain_number plain_number step_call drain_call plain_call find_all_call rules fast_rules start_at fast_nodes fast_hits
  request_11 =
      record {
        default_step = λ q c. refl;
        default_drain = λ q c limit out. refl;
        default_plain = λ q out. refl;
        default_find = λ q out. refl;
        ruled = λ sound k q d P l. range_runs m W C P (Ruled k q) k q (by_number k q) (ruled_started m W C sound k q d) l;
        plain = λ sound k q d P out h.
            let e = ruled_started m W C sound k q d in
            let R = range_runs m W C P (Ruled k q) k q (by_number k q) e in
            plain_run m W C (Ruled k q) e P out h (fresh m.root) _ (λ l. (R l).lookup) (R []).once_each;
        fast = λ sound k q d P out.
            let e = ruled_started m W C sound k q d in
            let R = range_runs m W C P (Ruled k q) k q (by_number k q) e in
            find_run m W C (Ruled k q) e P (fresh m.root) refl _ (λ l. (R l).lookup) (R []).once_each out;
        whole = whole_shared;
        part = part_of;
        stricter = refused_both;
      }
