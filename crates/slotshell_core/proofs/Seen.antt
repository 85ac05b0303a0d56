-- What is shown of a map is its own: the image is the one that `Map::write_image` left.
use mathlib.Core.Path.{◌≡◌, sym, ◌∙◌}
use mathlib.Core.List.{List}
use Prim.Native.Nat.{ℕ, ◌+◌, ◌-◌, ◌*◌, ◌/◌, ◌≤◌}
use native.Mathlib.Omega.{arith}
use lib.ListN.{length}
use Rattle.words.specs.Nodes.{HoldsBits}
use Rattle.words.specs.declared.interval.Interval.{Interval}
use Rattle.words.specs.declared.interval.Span.{Span}
use Rattle.tree.specs.Tree.{Tree}
use Rattle.tree.specs.Passes.{Passes}
use Rattle.image_rule.specs.Written.{Words}
use Rattle.image_rule.proofs.Fitting.{fits}
use Rattle.iter.specs.Cursors.{fresh, ended}
use Rattle.iter.specs.declared.rules.Query.TheVariants.{Overlap, Exact}
use Rattle.iter_laws.specs.Entered.{entered, exact_rule}
use Rattle.iset.specs.Check.{check_rule}
use Rattle.iset.specs.Image.{write_image_call}
use Rattle.iset.specs.Saved.{image_left}
use Rattle.iset.specs.Refusals.{BadRange, BadInterval}
use Rattle.iset.specs.Lookup.{start_call, beginning}
use Rattle.iset.specs.Runs.{Ask, run, Begins, ExactRun}
use Rattle.iset.specs.Runs.Begins.{at_highest, no_equal}
use Rattle.iset.specs.declared.Map.{Map}
use Rattle.iset.proofs.Checks.{both_zero, check_zero}
use Rattle.iset.proofs.Orders.{write_image_order}
use Rattle.iset.proofs.ImageRefusals.{write_image_no}
use Rattle.iset.proofs.Saves.{request_6}
use Rattle.iset.proofs.Demands.{demand_3}
use Rattle.slotshell_view.specs.View.{height_shown, touching_shown, trail_shown}
use Rattle.slotshell_view.specs.Shown.{Shown, noticed}
use Rattle.slotshell_view.proofs.Shown.{shown}

module _ (m : Map) (W C out : List ℕ) (accepted : (write_image_call m W C out).answer.no ≡ 0) where
  sound : check_rule m W C ≡ 0
  sound = (both_zero (check_rule m W C) _ (sym (write_image_order m W C (length out)) ∙ sym (write_image_no m W C out) ∙ accepted)).0

  few : m.count ≤ 65535
  few = omega (arith, (check_zero m W C sound).0)

  bits : HoldsBits C m.count
  bits = omega (arith, (check_zero m W C sound).0)

  module _ (wide : Words W) (P : Passes W C m.count m.root) where
    pub shown_written : Shown (image_left m W C out) W C m.count m.root P.tree
    shown_written =
        rw ((request_6 m W C).writes out accepted).1
        (shown W C m.count m.root P (fits W C m.count m.root few wide P) bits)

    -- the nodes that are marked as entered, and counted by `trace`, are those that the public drains
    -- of an overlap lookup enter, from fresh to the end
    pub trail_entered : (q : Span) → (BadRange q.lo q.hi → ⊥) → (l : List Ask) → (run m W C (Overlap q) (fresh m.root) l).next ≡ ended
        → (list : List ℕ) → m.count ≤ length list
        → noticed (trail_shown (image_left m W C out) m.count (Overlap q) m.root list) ≡ (run m W C (Overlap q) (fresh m.root) l).nodes
    trail_entered q good l done list room =
        shown_written.overlap_trail q list room ∙ sym (((demand_3 m W C).overlap sound q good P l).lookup.nodes_all done)

    -- of an exact lookup, from the slot of the cursor that `Map::fresh_exact` returns
    module _ (x : Interval) (list : List ℕ) (room : m.count ≤ length list) where
      begun : (k : ℕ) (t : Tree) → Begins W x P.tree k t
          → noticed (trail_shown (image_left m W C out) m.count (Exact x) k list) ≡ entered (exact_rule W x) t
      begun k t (at_highest h) = shown_written.exact_trail x h.way h.left k h.right list h.there room
      begun k t (no_equal e none) = rw e (shown_written.none_trail (Exact x) list)

      pub exact_entered : (BadInterval x.start x.end → ⊥) → (l : List Ask) → (run m W C (Exact x) (start_call m W C x).cursor l).next ≡ ended
          → noticed (trail_shown (image_left m W C out) m.count (Exact x) (beginning m W (Exact x)) list)
          ≡ (run m W C (Exact x) (start_call m W C x).cursor l).nodes
      exact_entered good l done =
          let d : ExactRun m W C x P.tree l = (demand_3 m W C).exact sound x good P l in
          begun (beginning m W (Exact x)) d.below d.begins ∙ sym (d.lookup.nodes_all done)

    -- the bound that `find` tells, of the height and the number of entries that it tells
    pub bound_told : (q : Span) → (BadRange q.lo q.hi → ⊥) → (l : List Ask)
        → let I = image_left m W C out in
        let h : ℕ = height_shown I m.count m.root in
        length (run m W C (Overlap q) (fresh m.root) l).nodes ≤ h + touching_shown I m.count q m.root * (h * (h - 1)) / 2
    bound_told q good l = rw (shown_written.height_is, shown_written.touching_is q) ((demand_3 m W C).overlap sound q good P l).bound
