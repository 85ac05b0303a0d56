-- The whole insertion. Four separate arguments meet here.
-- Shape and slots: HungWords, Hang, Rotate. Entries and order: Ways, Between. Hulls: Partly.
-- Colours: Reds.
-- They are joined along the rule: Hang up to the repair, Loop and InsertRepaired for the repair
-- itself. Inside holds on any words, whatever tree there is.
use mathlib.Core.Path.{◌≡◌, refl, ap, ◌∙◌}
use mathlib.Core.Logic.{◌≢◌}
use mathlib.Core.Bool.{Bool, true, false}
use mathlib.Core.List.{List, [], ◌∷◌, ◌++◌, map, map-append}
use Prim.Native.Nat.{ℕ, ◌+◌, ◌<◌, ◌≤◌}
use native.Mathlib.Omega.{arith}
use lib.ListN.{length}
use Rattle.words.specs.Ix.{U}
use Rattle.words.specs.Nodes.{start, stop, interval, entry, Holds, HoldsBits}
use Rattle.words.specs.declared.interval.Interval.{Interval}
use Rattle.words.specs.declared.node.Entry.{Entry}
use Rattle.bitvec.specs.Colours.{red, paint}
use Rattle.bitvec.proofs.Bytes.{length_set_bit}
use Rattle.tree.specs.Tree.{Tree, leaf, node, slots, hit, occ, size, height, Shape, times}
use Rattle.tree.specs.Zipper.{Frame, frame, plug, occs, Above}
use Rattle.tree.specs.Order.{RisingAt}
use Rattle.tree.specs.Hulls.{Hulls}
use Rattle.tree.specs.Passes.{Passes}
use Rattle.tree.proofs.Cases.{not_any}
use Rattle.tree.proofs.Slots.{hit_same, hit_cases, hit_zero, occ_plug, times_append, times_slots}
use Rattle.tree.proofs.Frames.{shape_live, unplug_shape, find, way_height}
use Rattle.tree.proofs.Sizes.{size_le}
use Rattle.tree.proofs.Balance.{height_30, height_32}
use Rattle.tree.proofs.Checked.{slot_live, slot_once, tree_size}
use Rattle.tree_edit.specs.Links.{fix_up}
use Rattle.tree_edit.specs.Rounds.{Next, done, again, ending}
use Rattle.tree_edit.specs.Store.{Store}
use Rattle.tree_edit.proofs.Upward.{fix_up_more, hulls_upward}
use Rattle.tree_edit.proofs.Colours.{with_colour, with_colour_same, red_paint}
use Rattle.tree_edit.proofs.Fits.{plug_fits}
use Rattle.tree_edit.proofs.Beside.{HullsBy, occs_parts, by_same, hulls_by}
use Rattle.tree_edit.proofs.Rows.{map_same}
use Rattle.tree_in_rule.specs.Descent.{under}
use Rattle.tree_in_rule.specs.InsertRepair.{insert_repair_lem, insert_round}
use Rattle.tree_in_rule.specs.Insert.{own, hung_words, hung_root, hung, insert_at_lem, insert_rule}
use Rattle.tree_in_rule.specs.InsertionGuarantee.{not_greater, greater, InsertionGuarantee, insert_with}
use Rattle.tree_in_rule.proofs.Ways.{front, back, slots_way, front_le, back_gt}
use Rattle.tree_in_rule.proofs.Between.{first_part, second_part, rising_between, upto_map, before_map}
use Rattle.tree_in_rule.proofs.Partly.{partly_hulls, partly_way}
use Rattle.tree_in_rule.proofs.Reds.{BlackRoot, reddened, with_colour_fits}
use Rattle.tree_in_rule.proofs.HungWords.{kept_hung}
use Rattle.tree_in_rule.proofs.Hang.{Hung, hangs, under_more}
use Rattle.tree_in_rule.proofs.Loop.{LoopInvariant, Settled, rooted}
use Rattle.tree_in_rule.proofs.InsertRepaired.{Finished, insert_repaired}
use Rattle.tree_in_rule.proofs.Inside.{entry_stays, entry_comes}
use Rattle.tree_edit.proofs.Rounds.{Ended, loop_more}

-- what is left when the repair is at its end
settled_of : (n z : ℕ) (base : List ℕ) (s : Next) → Finished n z base s
    → Settled n z base (ending s).words (red (ending s).colours) (ending s).root
settled_of n z base (done W C r) h = h.0
settled_of n z base (again W C r x) h = absurd h

ended_of : (n z : ℕ) (base : List ℕ) (s : Next) → Finished n z base s → Ended s
ended_of n z base (done W C r) h = tt
ended_of n z base (again W C r x) h = absurd h

-- hulls worked out from the slot z, which is in the tree, up to the root
module _ (n z : ℕ) (base W : List ℕ) (K : ℕ → Bool) (r : ℕ) (small : n ≤ 65535) (h : Settled n z base W K r) where
  abbrev u : Tree
  u = h.tree

  short : (c : List Frame) (t : Tree) → u ≡ plug c t → length c ≤ 32
  short c t e =
      let s : size u ≤ n = size_le n u (λ a o. shape_live W n U r u a h.shape o) h.once in
      let l : height u ≤ 32 = height_32 K u h.red_black h.top (omega arith) in
      omega (arith, way_height c t, ap height e)

  -- the way from z up
  record Way : Type 0 where
    q : List Frame
    l : Tree
    k : Tree
    link : ℕ
    is : u ≡ plug q (node l z k)
    one : (a : ℕ) → occs a q + (occ a l + hit a z + occ a k) ≤ 1
    above : Above W n r (frame true z k ∷ q) z link
    below : Shape W n z link l

  way : 0 < occ z u → Way
  way o = find z u [] o go
    where
      go : (q : List Frame) (l k : Tree) → u ≡ plug q (node l z k) → Way
      go q l k e =
          let (m, x, a, s) = unplug_shape W n r (frame true z k ∷ q) l (rw e at h.shape) in
          record {
            q = q;
            l = l;
            k = k;
            link = x;
            is = e;
            one = λ a. let i : occ a (plug q (node l z k)) ≤ 1 = rw e at (h.once a) in omega (arith, occ_plug a q (node l z k));
            above = rw a.at at a;
            below = rw a.at at s;
          }

  walked : 0 < occ z u → Hulls (fix_up n 32 W z) u × Shape (fix_up n 32 W z) n U r u
  walked o =
      let y : Way = way o in
      let one = y.one in
      let (g, p) = partly_way W z y.q (node y.l z y.k) one (omega (arith, hit_same z)) (rw y.is at h.partly) in
      let i = hulls_upward 32 W n r (frame true z y.k ∷ y.q) z y.link y.l small h.room (short (frame true z y.k ∷ y.q) y.l y.is)
      (λ a. omega (arith, one a)) y.above y.below
      (partly_hulls W z y.l p.1 (omega (arith, one z, hit_same z)))
      (partly_hulls W z y.k p.2 (omega (arith, one z, hit_same z)), g) in
      rw y.is i

  walk_more : 0 < occ z u → (m : ℕ) → 32 ≤ m → fix_up n m W z ≡ fix_up n 32 W z
  walk_more o m i =
      let y : Way = way o in
      let c : List Frame = frame true z y.k ∷ y.q in
      fix_up_more c 32 m W n r z y.link small (short c y.l y.is) i y.above

module _ (W C : List ℕ) (n r : ℕ) (e : Entry) (small : n + 1 ≤ 65535) (fit : Holds W (n + 1)) (bits : HoldsBits C (n + 1))
    (proper : e.start < e.end) (h : Passes W C n r) where
  abbrev t : Tree
  t = h.tree

  abbrev x : Interval
  x = own e

  abbrev p : ℕ
  p = under n W r x

  abbrev X : List ℕ
  X = hung_words W n e p

  abbrev Y : List ℕ
  Y = paint C n true

  abbrev q : ℕ
  q = hung_root n r p

  live : (a : ℕ) → 0 < occ a t → a < n
  live = slot_live W C n r h

  low : height t ≤ 30
  low = height_30 (red C) t h.red_black h.top (omega (arith, tree_size W C n r h))

  hang : Hung W n x t X q
  hang = hangs W n r e small fit t h.shape (slot_once W C n r h) (omega (arith, low)) h.rising

  abbrev c : List Frame
  c = hang.c

  abbrev new : Tree
  new = node leaf n leaf

  abbrev base : List ℕ
  base = slots (plug c new)

  -- the new slot is not in the old tree
  occs_are : (a : ℕ) → occs a c ≡ occ a t
  occs_are a = let o : occ a t ≡ occ a (plug c leaf) = ap (λ (u : Tree). occ a u) hang.tree_is in omega (arith, occ_plug a c leaf)

  not_yet : occs n c ≡ 0
  not_yet = not_any (occs n c) (λ o. omega (arith, live n (omega (arith, occs_are n))))

  off : (a : ℕ) → 0 < occs a c → a ≢ n
  off a o = let l : a < n = live a (omega (arith, occs_are a)) in omega arith

  colours : red Y ≡ with_colour (red C) n true
  colours = red_paint C n true (omega arith)

  invariant : LoopInvariant (n + 1) n base X (red Y) q n hang.p c new 0
  invariant =
      let f = (plug_fits (red C) c leaf (rw hang.tree_is at h.red_black) (rw hang.tree_is at h.top)).0 in
      let g : HullsBy W c = (hulls_by W c leaf (rw hang.tree_is at h.hulls)).0 in
      let k : red Y n ≡ true = rw colours (with_colour_same (red C) n true) in
      record {
        placed = record {
          stand = hang.stand;
          order = refl;
          hulls = by_same W X c (λ a o. kept_hung W n e p a (off a (omega (arith, occs_parts a c)))) g;
          partly = (λ z. absurd (omega (arith, hit_same n)), tt, tt);
          has = omega (arith, hit_same n);
        };
        root = rooted true leaf n leaf;
        red = k;
        equal_blacks = reddened (red Y) 0 true leaf n leaf k bare bare;
        fits = rw colours (with_colour_fits (red C) n true c 0 false not_yet f);
      }
    where
      bare : BlackRoot (red (paint C n true)) 0 leaf
      bare = record { equal_blacks = record { red_black = tt; count = refl }; black = refl }

  short_way : length c < 32
  short_way = omega (arith, low, way_height c leaf, ap height hang.tree_is)

  abbrev end : Next
  end = insert_repair_lem (n + 1) 32 X Y q n

  finished : Finished (n + 1) n base end
  finished =
      insert_repaired 32 (n + 1) n base X Y q n (rw length_set_bit bits)
      (record { c = c; t = new; m = 0; p = hang.p; invariant = invariant; short = short_way })

  settled : Settled (n + 1) n base (ending end).words (red (ending end).colours) (ending end).root
  settled = settled_of (n + 1) n base end finished

  abbrev S : Store
  S = insert_rule W C n r e

  abbrev v : Tree
  v = settled.tree

  -- how often a slot is in the new tree
  occ_v : (a : ℕ) → occ a v ≡ occ a t + hit a n
  occ_v a =
      let o : times a (slots v) ≡ times a base = ap (λ (l : List ℕ). times a l) settled.order in
      omega (arith, times_slots a v, times_slots a (plug c new), occ_plug a c new, occs_are a)

  once : (a : ℕ) → a < n + 1 → occ a v ≡ 1
  once a l =
      hit_cases a n
      (λ i. rw i (omega (arith, occ_v n, occs_are n, not_yet, hit_same n)))
      (λ z. let d : a ≢ n = hit_zero a n z in omega (arith, occ_v a, h.once a (omega arith)))

  abbrev A : List ℕ
  A = front c

  abbrev B : List ℕ
  B = back c

  old_slots : slots t ≡ A ++ B
  old_slots = ap slots hang.tree_is ∙ slots_way c leaf

  new_slots : slots v ≡ A ++ (n ∷ B)
  new_slots = settled.order ∙ slots_way c new

  not_greater_lem : not_greater W x (slots t) ≡ A
  not_greater_lem = rw old_slots (first_part W x A B (front_le W x c hang.parted) (back_gt W x c hang.parted))

  greater_ones : greater W x (slots t) ≡ B
  greater_ones = rw old_slots (second_part W x A B (front_le W x c hang.parted) (back_gt W x c hang.parted))

  -- the intervals
  stays : (a : ℕ) → a ≢ n → interval S.words a ≡ interval W a
  stays a d = ap own (entry_stays W C n r e a d)

  comes : interval S.words n ≡ x
  comes = ap own (entry_comes W C n r e fit)

  in_order : (a : ℕ) → 0 < times a (A ++ B) → a ≢ n
  in_order a o = let l : a < n = live a (omega (arith, times_slots a t, ap (λ (l : List ℕ). times a l) old_slots)) in omega arith

  -- whatever the old slots keep, in tree order
  mapped : {Z : Type 0} (f g : ℕ → Z) → ((a : ℕ) → a ≢ n → g a ≡ f a) → map g (slots v) ≡ map f A ++ (g n ∷ map f B)
  mapped f g k =
      let x : map g A ≡ map f A = map_same f g A (λ a o. k a (in_order a (omega (arith, times_append a A B)))) in
      let y : map g B ≡ map f B = map_same f g B (λ a o. k a (in_order a (omega (arith, times_append a A B)))) in
      rw (new_slots, map-append, x, y)

  rising : RisingAt S.words (slots v)
  rising =
      rw (mapped (interval W) (interval S.words) stays, comes)
      (rising_between (map (interval W) A) x (map (interval W) B) (rw (old_slots, map-append) at h.rising)
      (upto_map W x A (front_le W x c hang.parted)) (before_map W x B (back_gt W x c hang.parted)))

  all_proper_law : (a : ℕ) → a < n + 1 → start S.words a < stop S.words a
  all_proper_law a l =
      hit_cases a n
      (λ i. rw i (omega (arith, ap (λ (j : Interval). j.start) comes, ap (λ (j : Interval). j.end) comes)))
      (λ z. let d : a ≢ n = hit_zero a n z in
      omega (arith, h.proper a (omega arith), ap (λ (j : Interval). j.start) (stays a d), ap (λ (j : Interval). j.end) (stays a d)))

  there : 0 < occ n v
  there = omega (arith, once n (omega arith))

  passes : Passes S.words S.colours (n + 1) S.root
  unfolding insert_rule insert_at_lem hung
  passes =
      let (u, s) = walked (n + 1) n base (ending end).words (red (ending end).colours) (ending end).root small settled there in
      record {
        tree = v;
        shape = s;
        once = once;
        proper = all_proper_law;
        rising = rising;
        hulls = u;
        top = settled.top;
        red_black = settled.red_black;
      }

  pub inserted : InsertionGuarantee W C n r e h (insert_rule W C n r e)
  unfolding passes
  inserted =
      record {
        passes = passes;
        slots_were = rw (not_greater_lem, greater_ones) old_slots;
        slots_are = rw (not_greater_lem, greater_ones) new_slots;
        entries = rw (not_greater_lem, greater_ones)
            (mapped (entry W) (entry S.words) (entry_stays W C n r e) ∙ rw (entry_comes W C n r e fit));
        entries_kept = entry_stays W C n r e;
        entry_new = entry_comes W C n r e fit;
      }

  -- the rule's numbers suffice: any greater ones come to the same
  pub enough : (levels rounds height : ℕ) → 32 ≤ levels → 32 ≤ rounds → 32 ≤ height → insert_with levels rounds height W C n r e ≡ insert_rule W C n r e
  unfolding insert_with insert_rule insert_at_lem hung
  enough levels rounds height i j k =
      rw (
        under_more W n r e small fit t h.shape (omega (arith, low)) h.rising levels i,
        loop_more (insert_round (n + 1)) 32 rounds X Y q n j (ended_of (n + 1) n base end finished),
        walk_more (n + 1) n base (ending end).words (red (ending end).colours) (ending end).root small settled there height k,
      ) refl
