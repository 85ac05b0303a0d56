-- The rule's numbers of rounds, of links and of hulls suffice: on every store that passes the check
-- any greater ones come to the same store, value and pairs.
use mathlib.Core.Path.{◌≡◌, refl, sym, ◌∙◌}
use mathlib.Core.Bool.{Bool, true, false}
use mathlib.Core.List.{List, [], ◌∷◌}
use Prim.Native.Nat.{ℕ, ◌+◌, ◌<◌, ◌≤◌}
use native.Mathlib.Omega.{arith}
use borrow.Author.Tests.{le-leb}
use Rattle.words.specs.Ix.{U}
use Rattle.words.specs.Nodes.{kid, par, Holds, HoldsBits}
use Rattle.bitvec.specs.Colours.{red, paint}
use Rattle.tree.specs.Tree.{Tree, slots, occ, hit, height, Shape, leaf, node, times}
use Rattle.tree.specs.Zipper.{bin, Frame, plug, occs, Above}
use Rattle.tree.specs.Passes.{Passes}
use Rattle.tree.proofs.Slots.{hit_same}
use Rattle.tree.proofs.Frames.{unplug_shape, find, way_height}
use Rattle.tree.proofs.Checked.{slot_once, tree_low}
use Rattle.tree_edit.specs.Links.{redirect, root_after, leftmost}
use Rattle.tree_edit.specs.Rounds.{Next, done, again}
use Rattle.tree_rm_rule.specs.Repair.{round, repair}
use Rattle.tree_rm_rule.specs.Remove.{vacated, exchanged, child, restructure, handed, above, cut_words, remove_from_lem, remove_rule, cut_words_with, vacated_with, restructure_with, finish_with, remove_from_with, remove_with}
use Rattle.tree_edit.specs.Store.{Store, store}
use Rattle.tree_rm_rule.specs.Pairs.{emptied}
use Rattle.tree_edit.proofs.Links.{on_slot}
use Rattle.tree_edit.proofs.Upward.{fix_up_more}
use Rattle.tree_rm_rule.proofs.Moves.{cut_way}
use Rattle.tree_rm_rule.proofs.Vacate.{leftmost_at, Chosen, chosen}
use Rattle.tree_rm_rule.proofs.Steps.{restructure_child}
use Rattle.tree_rm_rule.proofs.Spot.{Spot, child_y}
use Rattle.tree_rm_rule.proofs.Loop.{Fixed}
use Rattle.tree_rm_rule.proofs.Repaired.{Finished, repaired}
use Rattle.tree_rm_rule.proofs.Prepare.{ReadyIn, live_y, reds, as_black}
use Rattle.tree_rm_rule.proofs.Cut.{two, place, short, cut_is}
use Rattle.tree_rm_rule.proofs.Removal.{count, spot, ready}
use Rattle.tree_edit.proofs.Rounds.{Ended, loop_more}

-- with its own numbers it is the rule, on any words
pub with_own : (W C : List ℕ) (n r s : ℕ) → remove_with 36 32 32 W C n r s ≡ remove_rule W C n r s
unfolding remove_with remove_from_with finish_with vacated_with restructure_with cut_words_with
with_own W C n r s = refl

-- the way down to the leftmost slot of a tree
leftmost_more : (W : List ℕ) (n : ℕ) → n ≤ 65535 → (i j p k : ℕ) (l : Tree) (s : ℕ) (r : Tree) → Shape W n p k (node l s r)
    → height (node l s r) ≤ i → height (node l s r) ≤ j → leftmost n i W k ≡ leftmost n j W k
leftmost_more W n small i j p k l s r h a b =
    leftmost_at W n small i p k l s r h a (λ m c y rest e f g.
    leftmost_at W n small j p k l s r h b (λ m' c' y' rest' e' f' g'.
    f ∙ first m m' rest rest' (sym g ∙ g') ∙ sym f'))
  where
    first : (m m' : ℕ) (rest rest' : List ℕ) → m ∷ rest ≡ m' ∷ rest' → m ≡ m'
    first m m' rest rest' e = cc

-- the repair came to its end
ended_of : (n x : ℕ) (base : List ℕ) (s : Next) → Finished n x base s → Ended s
ended_of n x base (done W C r) e = tt
ended_of n x base (again W C r ix) e = absurd e

module _ (n v : ℕ) (base W : List ℕ) (K : ℕ → Bool) (r : ℕ) (small : n ≤ 65535) (lv : v < n) (all : (s : ℕ) → s < n → times s base ≡ 1)
    (h : Fixed n v base W K r) where
  cut_more : (m : ℕ) → 32 ≤ m → cut_words_with m n W (par W v) v ≡ cut_words n W (par W v) v
  cut_more m i =
      let o : (s : ℕ) → occs s h.q + hit s v ≤ 1 = two n v base W K r small lv all h in
      let way : Above (redirect n W (par W v) v U) n (root_after n W r v U) h.q (par W v) U =
      cut_way W n r h.q v small h.room lv (omega (arith, o v, hit_same v)) (λ s. omega (arith, o s)) (place n v base W K r small lv all h) in
      cut_is m n W (par W v) v
      ∙ fix_up_more h.q 32 m (redirect n W (par W v) v U) n (root_after n W r v U) (par W v) U small (short n v base W K r small lv all h) i way
      ∙ sym (cut_is 32 n W (par W v) v)

-- the repair of the slot x, whose one child tree is `near`
child_with : (rounds n : ℕ) (W C : List ℕ) (r x y : ℕ) → red C x ≡ false → y < n → red C y ≡ true → restructure_with rounds n W C r x y ≡ store W (paint C y true) r
unfolding restructure_with
child_with rounds n W C r x y e h f = rw (e, on_slot n y h (λ s. red C s) false, f) refl

module _ (X C : List ℕ) (n r x : ℕ) (b : Bool) (c : List Frame) (near : Tree) (h : Spot X C n r x b c near) (rounds : ℕ) (i : 36 ≤ rounds) where
  abbrev base : List ℕ
  base = slots (plug c (bin b near x leaf))

  same_repair : near ≡ leaf → red C x ≡ false → repair n rounds X C r x ≡ repair n 36 X C r x
  same_repair e f =
      let (o, u) = as_black X C n r x b c near h e f in
      loop_more (round n) 36 rounds X C r x i (ended_of n x base (repair n 36 X C r x) (repaired 36 n x base X C r x h.bits o u))

  bare_more : near ≡ leaf → (y : ℕ) → restructure_with rounds n X C r x y ≡ restructure n X C r x y
  unfolding restructure_with
  bare_more e y = go (red C x) refl
    where
      go : (t : Bool) → red C x ≡ t → restructure_with rounds n X C r x y ≡ restructure n X C r x y
      go true f = rw f refl
      go false f = rw (same_repair e f) refl

  restructure_more : restructure_with rounds n X C r x (child X x) ≡ restructure n X C r x (child X x)
  restructure_more = go near refl
    where
      go : (u : Tree) → near ≡ u → restructure_with rounds n X C r x (child X x) ≡ restructure n X C r x (child X x)
      go leaf e = bare_more e (child X x)
      go (node l y l') e =
          let (f, g) = reds X C n r x b c near h l y l' e in
          let k : y < n = live_y X C n r x b c near h l y l' e in
          rw (child_y X C n r x b c near h l y l' e, restructure_child n X C r x y f k g) (child_with rounds n X C r x y f k g)

module _ (W C : List ℕ) (n r s : ℕ) (small : n ≤ 65535) (fit : Holds W n) (bits : HoldsBits C n) (ls : s < n) (h : Passes W C n r) where
  abbrev t : Tree
  t = h.tree

  tall : height t ≤ 32
  tall = tree_low W C n r h small

  here : 0 < occ s t
  here = omega (arith, h.once s ls)

  vacated_more : (links : ℕ) → 32 ≤ links → vacated_with links n W s ≡ vacated n W s
  unfolding vacated_with
  vacated_more links i = find s t [] here go
    where
      go : (d : List Frame) (l r' : Tree) → t ≡ plug d (node l s r') → vacated_with links n W s ≡ vacated n W s
      go d l leaf e =
          let (p, k, a, sh) = unplug_shape W n r d (node l s leaf) (rw e at h.shape) in
          rw (le-leb n (kid W false s) (omega (arith, sh.right))) refl
      go d l (node u v w) e =
          let (p, k, a, sh) = unplug_shape W n r d (node l s (node u v w)) (rw e at h.shape) in
          let low : height (plug d (node l s (node u v w))) ≤ 32 = rw e at tall in
          let q : height (node u v w) ≤ 32 = omega (arith, way_height d (node l s (node u v w))) in
          rw (leftmost_more W n small links 32 s (kid W false s) u v w sh.right (omega arith) q) refl

  module _ (x : ℕ) (ch : Chosen s x t W (exchanged W s x)) (rounds hulls : ℕ) (i : 36 ≤ rounds) (j : 32 ≤ hulls) where
    abbrev X : List ℕ
    X = exchanged W s x

    abbrev y : ℕ
    y = child X x

    abbrev S : Store
    S = restructure n X C r x y

    abbrev v : ℕ
    v = emptied n x y

    abbrev g : ℕ
    g = above n S.words x y

    same_store : restructure_with rounds n X C r x y ≡ S
    same_store = restructure_more X C n r x ch.b ch.c ch.near (spot W C n r s small fit bits ls h x ch) rounds i

    same_words : cut_words_with hulls n (handed n S.words x y) g v ≡ cut_words n (handed n S.words x y) g v
    same_words =
        let z : ReadyIn n x y (slots t) X S = ready W C n r s small fit bits ls h x ch in
        rw z.above_is
        (cut_more n v (slots t) (handed n S.words x y) (red S.colours) S.root small z.live (count W C n r s small fit bits ls h) z.fixed hulls j)

    from_more : remove_from_with rounds hulls W C n r s x ≡ remove_from_lem W C n r s x
    unfolding remove_from_with finish_with
    from_more = rw (same_store, same_words) refl

  -- greater numbers of rounds, of links and of hulls than the rule's 36, 32 and 32 come to the same
  -- store, value and pairs
  pub enough : (rounds links hulls : ℕ) → 36 ≤ rounds → 32 ≤ links → 32 ≤ hulls → remove_with rounds links hulls W C n r s ≡ remove_rule W C n r s
  unfolding remove_with
  enough rounds links hulls i j k =
      rw (vacated_more links j)
      (from_more (vacated n W s) (chosen W n r s t small fit h.shape (slot_once W C n r h) h.hulls here tall) rounds hulls i k)
