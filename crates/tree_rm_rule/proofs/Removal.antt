-- The whole removal. Four separate arguments meet here.
-- Shape and slots: Links, Stand, Rotations, Nephew, Moves. Entries and order: Carried, Rows,
-- Rename. Hulls: Beside, Upward. Colours: Paint, Fits, Recolour, Repaint.
-- They are joined along the rule: Vacate, Steps, Spot and Prepare up to the repair, Weight, Loop
-- and Repaired for the repair itself, Cut and Landing for what comes after it, PairLaws for the
-- pairs. Low, RepairInPlace and Inside hold on any words, whatever tree there is.
use mathlib.Core.Path.{◌≡◌, refl, ap, ◌∙◌}
use mathlib.Core.Logic.{◌≢◌}
use mathlib.Core.Bool.{Bool, true, false, cond}
use mathlib.Core.List.{List, ◌∷◌, ◌++◌, map, map-map}
use Prim.Native.Nat.{ℕ, ◌+◌, ◌-◌, ◌<◌, ◌≤◌}
use native.Mathlib.Omega.{arith}
use lib.Dec.{eqb}
use Rattle.words.specs.Ix.{U}
use Rattle.words.specs.Nodes.{entry, swap, Holds, HoldsBits}
use Rattle.words.specs.declared.node.Entry.{Entry}
use Rattle.bitvec.specs.Colours.{red}
use Rattle.tree.specs.Tree.{Tree, slots, without, hit, occ, height, Shape, leaf, times}
use Rattle.tree.specs.Zipper.{bin, occs}
use Rattle.tree.specs.Order.{RisingAt}
use Rattle.tree.specs.Passes.{Passes}
use Rattle.tree.proofs.Slots.{hit_same, occ_bin, occ_plug, times_append, times_slots}
use Rattle.tree.proofs.Frames.{Same, keep}
use Rattle.tree.proofs.Views.{root_red_view, entries_view, hulls_view, red_black_view}
use Rattle.tree.proofs.Checked.{slot_live, slot_once, tree_low}
use Rattle.tree_rm_rule.specs.Pairs.{moved_to, emptied, home, moved}
use Rattle.tree_rm_rule.specs.Remove.{vacated, exchanged, child, restructure, handed, above, cut_words, cut_root, swap_remove_lem, remove_from_lem, remove_rule, finish_with, remove_from_with, remove_with}
use Rattle.tree_edit.specs.Store.{Store}
use Rattle.tree_rm_rule.specs.Names.{changed, Names}
use Rattle.tree_rm_rule.specs.RemovalGuarantee.{RemovalGuarantee}
use Rattle.tree_rm_rule.proofs.Inside.{low_exchanged}
use Rattle.tree_rm_rule.proofs.Rows.{without_at, times_without, split, rising_without, rising_entries, proper_entries}
use Rattle.tree_edit.proofs.Rows.{map_same}
use Rattle.tree_rm_rule.proofs.Rename.{rename, slots_rename}
use Rattle.tree_rm_rule.proofs.Landing.{Landed, landed}
use Rattle.tree_rm_rule.proofs.Cut.{Cut, cut}
use Rattle.tree_rm_rule.proofs.Vacate.{Chosen, chosen}
use Rattle.tree_rm_rule.proofs.Spot.{Spot, child_apart}
use Rattle.tree_rm_rule.proofs.Prepare.{ReadyIn, same_swap, prepared}
use Rattle.tree_rm_rule.proofs.PairLaws.{moved_names}

same_exchanged : (W : List ℕ) (s x a : ℕ) → Same W (exchanged W s x) a
unfolding exchanged
same_exchanged W s x a = go (eqb x s)
  where
    go : (t : Bool) → Same W (cond t W (swap W s x)) a
    go true = (λ d. refl, refl)
    go false = same_swap W s x a

module _ (W C : List ℕ) (n r s : ℕ) (small : n ≤ 65535) (fit : Holds W n) (bits : HoldsBits C n) (ls : s < n) (h : Passes W C n r) where
  abbrev t : Tree
  t = h.tree

  live : (a : ℕ) → 0 < occ a t → a < n
  live = slot_live W C n r h

  most : (a : ℕ) → occ a t ≤ 1
  most = slot_once W C n r h

  tall : height t ≤ 32
  tall = tree_low W C n r h small

  pub count : (a : ℕ) → a < n → times a (slots t) ≡ 1
  count a q = times_slots a t ∙ h.once a q

  kept_rising : RisingAt W (without s (slots t))
  kept_rising =
      split s (slots t) (omega (arith, count s ls)) (λ A B e.
      let c : times s (A ++ (s ∷ B)) ≡ 1 = rw e at (count s ls) in
      let c' = times_append s A (s ∷ B) in
      rw (e, without_at s A B (omega (arith, hit_same s)) (omega (arith, hit_same s))) (rising_without W A s B (rw e at h.rising)))

  rows : (a : ℕ) → a < n → times a (without s (slots t)) + hit a s ≡ 1
  rows a q = times_without s a (slots t) (omega (arith, count s ls)) (omega (arith, count s ls)) ∙ count a q

  kept_live : (a : ℕ) → 0 < times a (without s (slots t)) → a < n
  kept_live a o =
      let q = times_without s a (slots t) (omega (arith, count s ls)) (omega (arith, count s ls)) in
      live a (omega (arith, times_slots a t))

  -- the slot x is vacated
  module _ (x : ℕ) (ch : Chosen s x t W (exchanged W s x)) where
    abbrev X : List ℕ
    X = exchanged W s x

    abbrev y : ℕ
    y = child X x

    abbrev S : Store
    S = restructure n X C r x y

    abbrev v : ℕ
    v = emptied n x y

    abbrev g : ℕ
    g = above n S.words x y

    abbrev Y : List ℕ
    Y = handed n S.words x y

    abbrev Z : List ℕ
    Z = cut_words n Y g v

    live_x : x < n
    live_x =
        live x (rw ch.tree_is (omega (arith, occ_plug x ch.c (bin ch.b ch.near x leaf), occ_bin x ch.b ch.near x leaf, hit_same x)))

    pub spot : Spot X C n r x ch.b ch.c ch.near
    spot =
        let sh : Shape X n U r t = keep W X n U r t (λ a o. same_exchanged W s x a) h.shape in
        record {
          small = small;
          fit = rw (low_exchanged n W s x ls live_x).0 fit;
          bits = bits;
          shape = rw ch.tree_is at sh;
          once = λ a. rw ch.tree_is at (most a);
          tall = rw ch.tree_is at tall;
          red_black = rw ch.tree_is at h.red_black;
          top = rw ch.tree_is at h.top;
          hulls = ch.hulls;
        }

    pub ready : ReadyIn n x y (slots t) X S
    ready = let p = prepared X C n r x ch.b ch.c ch.near spot in rw (← ch.tree_is) at p

    child_is : y < n → (a : ℕ) → 0 < occs a ch.c + hit a x → y ≢ a
    child_is = child_apart X C n r x ch.b ch.c ch.near spot

    off : Cut n v (slots t) Y Z (red S.colours) (cut_root n S.root g)
    off =
        let c = cut n v (slots t) Y (red S.colours) S.root small ready.live count ready.fixed in
        rw (← ready.above_is) at c

    abbrev R : Store
    R = swap_remove_lem n Z S.colours (cut_root n S.root g) (n - 1) v

    land : Landed Z S.colours (n - 1) v off.tree R
    land =
        landed n (n - 1) v Z S.colours (cut_root n S.root g) off.tree small (omega arith) ready.live off.room ready.bits off.shape off.once

    abbrev u : Tree
    u = rename (moved_to (n - 1) v) off.tree

    entries_u : map (entry R.words) (slots u) ≡ map (entry W) (without s (slots t))
    entries_u =
        entries_view Z (red S.colours) R.words (red R.colours) u off.tree land.view_is
        ∙ map_same (entry Y) (entry Z) (slots off.tree) (λ a o. off.entries a)
        ∙ ap (λ (l : List ℕ). map (entry Y) l) off.order
        ∙ ready.entries
        ∙ ch.entries

    passes_u : Passes R.words R.colours (n - 1) R.root
    passes_u =
        record {
          tree = u;
          shape = land.shape;
          once = land.once;
          proper = λ a q. proper_entries W R.words (without s (slots t)) (slots u) entries_u (λ b o. h.proper b (kept_live b o)) a
              (omega (arith, times_slots a u, land.once a q));
          rising = rising_entries W R.words (without s (slots t)) (slots u) entries_u kept_rising;
          hulls = hulls_view Z (red S.colours) R.words (red R.colours) u off.tree land.view_is off.hulls;
          top = root_red_view Z (red S.colours) R.words (red R.colours) u off.tree land.view_is ∙ off.top;
          red_black = red_black_view Z (red S.colours) R.words (red R.colours) u off.tree land.view_is off.red_black;
        }

    -- the slots of the entries that stay, where each went
    home_u : slots u ≡ map (home n (n - 1) s x y) (without s (slots t))
    unfolding home
    home_u =
        slots_rename (moved_to (n - 1) v) off.tree
        ∙ ap (λ (l : List ℕ). map (moved_to (n - 1) v) l)
        (off.order ∙ ready.slots_are ∙ ap (λ (l : List ℕ). map (moved_to y x) l) ch.slots_are
        ∙ map-map (moved_to y x) (moved_to x s) (without s (slots t)))
        ∙ map-map (moved_to (n - 1) v) (λ (a : ℕ). moved_to y x (moved_to x s a)) (without s (slots t))

    names_u : Names n (moved n (n - 1) s x y) (changed (without s (slots t)) (slots u))
    names_u =
        rw home_u
        (moved_names n (n - 1) s x y (without s (slots t)) small (omega arith) live_x
        (λ d. child_is d x (omega (arith, hit_same x))) (λ d. child_is d s ch.on_way) rows)

    removed_from : RemovalGuarantee W C n r s h (remove_from_lem W C n r s x)
    unfolding remove_from_with finish_with passes_u
    removed_from =
        record {
          passes = passes_u;
          entries = entries_u;
          value_is = ap (λ (e : Entry). e.value) (off.entries v ∙ ready.entry_is ∙ ch.entry_is);
          pairs = names_u;
        }

  pub removed : RemovalGuarantee W C n r s h (remove_rule W C n r s)
  unfolding remove_with
  removed =
      removed_from (vacated n W s) (chosen W n r s t small fit h.shape most h.hulls (omega (arith, h.once s ls)) tall)
