-- Demand 3, of overlap lookup by any rule, on a store that passes the check. The list of hits goes
-- by the rule k. The nodes entered and their bound are the same under every rule.
use mathlib.Core.Path.{◌≡◌, refl, sym, ◌∙◌}
use mathlib.Core.Logic.{◌↔◌}
use mathlib.Core.Bool.{Bool, cond}
use mathlib.Core.List.{List, ◌++◌}
use Prim.Native.Nat.{ℕ, ◌+◌, ◌-◌, ◌*◌, ◌/◌, ◌<◌, ◌≤◌}
use native.Mathlib.Omega.{arith}
use lib.ListN.{length, take}
use lib.Dec.{eqb}
use Rattle.words.specs.Ix.{U}
use Rattle.words.specs.Nodes.{par}
use Rattle.words.specs.Lists.{filter}
use Rattle.words.specs.declared.interval.Span.{Span}
use Rattle.tree.specs.Tree.{slots, height, times}
use Rattle.tree.specs.Passes.{Passes}
use Rattle.iter.specs.Cursors.{ended, fresh}
use Rattle.iter.specs.Walk.{Rules, counts, deeper, fuel, seek, step, after}
use Rattle.iter.specs.Drains.{drain, calls}
use Rattle.iter.specs.Forms.{form_of}
use Rattle.iter.specs.Ranges.{by_rule_lem}
use Rattle.iter.specs.Overlap.{meets, should_go, ruled}
use Rattle.iter.specs.declared.Cursor.{Cursor}
use Rattle.iter.specs.declared.Form.TheVariants as form
use Rattle.iter.specs.Lists.{first_or}
use Rattle.iter_laws.specs.Place.{Held, later}
use Rattle.iter_laws.specs.Entered.{overlap_rule, entered, entered_from, touching}
use Rattle.iter_laws.proofs.Trees.{each_once_lem}
use Rattle.iter_laws.proofs.Walks.{Walk}
use Rattle.iter_laws.proofs.Places.{Stands, stands_top, fresh_top, stands_low, fresh_low, stands_room, fresh_room, step_held, held_stands, fresh_held}
use Rattle.iter_laws.proofs.Fresh.{fresh_step, fresh_run, fresh_nodes, fresh_hits, fresh_most, fresh_ends, fresh_enough}
use Rattle.iter_laws.proofs.Later.{held_step, held_run, held_nodes, held_hits, held_ends, held_enough}
use Rattle.iter_laws.proofs.Forms.{fresh_form, ended_form, held_form_lem, bad_form}
use Rattle.iter_laws.proofs.Overlaps.{overlap_walk}
use Rattle.iter_laws.proofs.Count.{bound}

halves : (d e h q : ℕ) → d ≤ e → 2 * e ≤ 2 * h + q → d ≤ h + q / 2
halves d e h q i j = omega arith

module _ (W C : List ℕ) (n r k : ℕ) (q : Span) (small : n ≤ 65535) (P : Passes W C n r) where
  abbrev Q : Rules
  Q = ruled W n k q

  -- the slots of the intersecting entries, in tree order
  abbrev pub all : List ℕ
  all = filter (meets W (by_rule_lem k q)) (slots P.tree)

  walk : Walk W n (ruled W n k q) (overlap_rule W q) U r P.tree
  walk = overlap_walk W C n r k q small P

  -- from fresh to the end: exactly the intersecting entries, in tree order, and as many nodes
  -- entered as the entered rule says
  pub overlap_run : (limit : ℕ) → length all < limit
      → drain W n Q limit (fresh r) ≡ record { slots = all; next = ended; entered = length (entered (overlap_rule W q) P.tree) }
  overlap_run = fresh_run W n Q (overlap_rule W q) U r P.tree walk

  -- each slot once if its entry intersects, and else not at all
  pub overlap_each : (s : ℕ) → s < n → times s all ≡ cond (meets W (by_rule_lem k q) s) 1 0
  overlap_each = each_once_lem W C n r P (meets W (by_rule_lem k q))

  -- those nodes, in order
  pub overlap_nodes : (limit : ℕ) → length all < limit → calls W n Q limit (fresh r) ≡ entered (overlap_rule W q) P.tree
  overlap_nodes = fresh_nodes W n Q (overlap_rule W q) U r P.tree walk

  -- a step answers the first of them, U where there is none
  pub overlap_step : (step W n Q (fresh r)).slot ≡ first_or U all
  overlap_step = fresh_step W n Q (overlap_rule W q) U r P.tree walk

  -- a drain with any limit hands out the first of them
  pub overlap_first : (limit : ℕ) → (drain W n Q limit (fresh r)).slots ≡ take limit all
  overlap_first = fresh_hits W n Q (overlap_rule W q) U r P.tree walk

  -- demand 3's bound, for a drain with any limit
  pub overlap_bound : (limit : ℕ)
      → (drain W n Q limit (fresh r)).entered
      ≤ height P.tree + touching W q P.tree * (height P.tree * (height P.tree - 1)) / 2
  overlap_bound limit =
      halves (drain W n Q limit (fresh r)).entered (length (entered (overlap_rule W q) P.tree)) (height P.tree)
      (touching W q P.tree * (height P.tree * (height P.tree - 1)))
      (fresh_most W n Q (overlap_rule W q) U r P.tree walk limit)
      (bound W q P.tree (height P.tree) P.hulls P.rising (omega arith))

  -- the fuel suffices: after so many moves the walk is at its end, and more fuel changes no answer
  pub overlap_ends : (f : ℕ) → fuel n ≤ f → n ≤ (after W n Q f (fresh r)).slot
  overlap_ends = fresh_ends W n Q (overlap_rule W q) U r P.tree walk

  pub overlap_enough : (f : ℕ) → fuel n ≤ f → seek W n Q f (counts n (fresh r)) (fresh r) ≡ step W n Q (fresh r)
  overlap_enough = fresh_enough W n Q (overlap_rule W q) U r P.tree walk

  -- no push is refused: after any number of moves there are at most 32 levels
  pub overlap_low : (m : ℕ) → (after W n Q m (fresh r)).levels ≤ 32
  overlap_low = fresh_low W n Q (overlap_rule W q) U r P.tree walk

  -- and the rules alone decide whether it goes down
  pub overlap_room : (m : ℕ) → (after W n Q m (fresh r)).slot < n → (b : Bool)
      → deeper Q b (after W n Q m (fresh r)) ≡ should_go W n q b (after W n Q m (fresh r)).slot
  overlap_room = fresh_room W n Q (overlap_rule W q) U r P.tree walk

  -- at every state the parent link is U if the stack becomes empty: the walk may end by either
  pub overlap_top : (m : ℕ) → (after W n Q m (fresh r)).slot < n
      → cond (eqb (after W n Q m (fresh r)).levels 1) U (par W (after W n Q m (fresh r)).slot) ≡ par W (after W n Q m (fresh r)).slot
  overlap_top = fresh_top W n Q (overlap_rule W q) U r P.tree walk refl

  -- the cursor after a hit is that hit's held form
  pub overlap_next : (step W n Q (fresh r)).slot < n
      → Held P.tree (step W n Q (fresh r)).next × ((step W n Q (fresh r)).next.slot ≡ (step W n Q (fresh r)).slot)
  overlap_next = fresh_held W n Q (overlap_rule W q) U r P.tree walk

  -- the form test
  module _ (c : Cursor) where
    pub overlap_fresh_form : (form_of W n r c ≡ form.Fresh) ↔ (c ≡ fresh r)
    overlap_fresh_form = fresh_form W n small U r P.tree P.shape walk.low c

    pub overlap_ended_form : (form_of W n r c ≡ form.Ended) ↔ (c ≡ ended)
    overlap_ended_form = ended_form W n small U r P.tree P.shape walk.low c

    pub overlap_held_form : (form_of W n r c ≡ form.Held) ↔ Held P.tree c
    overlap_held_form = held_form_lem W n small U r P.tree P.shape walk.low c

    pub overlap_bad_form : form_of W n r c ≡ form.Bad → (c ≡ fresh r → ⊥) × (c ≡ ended → ⊥) × (Held P.tree c → ⊥)
    overlap_bad_form = bad_form W n small U r P.tree P.shape walk.low c

  -- From here of a held cursor.
  module _ (c : Cursor) (h : Held P.tree c) where
    stands : Stands P.tree c
    stands = held_stands W n Q (overlap_rule W q) U r P.tree walk c h

    -- the slots of the intersecting entries after its slot
    abbrev pub after_it : List ℕ
    after_it = filter (meets W (by_rule_lem k q)) (slots h.right ++ later h.way)

    pub overlap_held : (limit : ℕ) → length after_it < limit
        → drain W n Q limit c
        ≡ record { slots = after_it; next = ended; entered = length (entered_from (overlap_rule W q) h.slot h.right h.way) }
    overlap_held = held_run W n Q (overlap_rule W q) U r P.tree walk c h

    pub overlap_held_nodes : (limit : ℕ) → length after_it < limit
        → calls W n Q limit c ≡ entered_from (overlap_rule W q) h.slot h.right h.way
    overlap_held_nodes = held_nodes W n Q (overlap_rule W q) U r P.tree walk c h

    pub overlap_held_step : (step W n Q c).slot ≡ first_or U after_it
    overlap_held_step = held_step W n Q (overlap_rule W q) U r P.tree walk c h

    pub overlap_held_first : (limit : ℕ) → (drain W n Q limit c).slots ≡ take limit after_it
    overlap_held_first = held_hits W n Q (overlap_rule W q) U r P.tree walk c h

    pub overlap_held_ends : (f : ℕ) → fuel n ≤ f → n ≤ (after W n Q f c).slot
    overlap_held_ends = held_ends W n Q (overlap_rule W q) U r P.tree walk c h

    pub overlap_held_enough : (f : ℕ) → fuel n ≤ f → seek W n Q f (counts n c) c ≡ step W n Q c
    overlap_held_enough = held_enough W n Q (overlap_rule W q) U r P.tree walk c h

    pub overlap_held_low : (m : ℕ) → (after W n Q m c).levels ≤ 32
    overlap_held_low = stands_low W n Q (overlap_rule W q) U r P.tree walk c stands

    pub overlap_held_room : (m : ℕ) → (after W n Q m c).slot < n → (b : Bool)
        → deeper Q b (after W n Q m c) ≡ should_go W n q b (after W n Q m c).slot
    overlap_held_room = stands_room W n Q (overlap_rule W q) U r P.tree walk c stands

    pub overlap_held_top : (m : ℕ)
        → cond (eqb (after W n Q m c).levels 1) U (par W (after W n Q m c).slot) ≡ par W (after W n Q m c).slot
    overlap_held_top = stands_top W n Q (overlap_rule W q) U r P.tree walk refl c stands

    pub overlap_held_next : (step W n Q c).slot < n
        → Held P.tree (step W n Q c).next × ((step W n Q c).next.slot ≡ (step W n Q c).slot)
    overlap_held_next = step_held W n Q (overlap_rule W q) U r P.tree walk c stands

-- the rule changes no node that is entered
module _ (W C : List ℕ) (n r : ℕ) (q : Span) (small : n ≤ 65535) (P : Passes W C n r) where
  pub overlap_alike : (j k limit : ℕ) → length (all W C n r j q small P) < limit → length (all W C n r k q small P) < limit
      → calls W n (ruled W n j q) limit (fresh r) ≡ calls W n (ruled W n k q) limit (fresh r)
  overlap_alike j k limit h i = overlap_nodes W C n r j q small P limit h ∙ sym (overlap_nodes W C n r k q small P limit i)
