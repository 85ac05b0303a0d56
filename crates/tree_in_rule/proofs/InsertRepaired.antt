-- The repair, step by step on the bytes: each round goes up two slots or ends, so that 32 rounds
-- suffice.
use mathlib.Core.Path.{◌≡◌, refl, sym, ◌∙◌}
use mathlib.Core.Bool.{Bool, true, false, not}
use mathlib.Core.List.{List, [], ◌∷◌}
use Prim.Native.Nat.{ℕ, zero, suc, ◌+◌, ◌<◌, ◌≤◌}
use native.Mathlib.Omega.{arith}
use lib.ListN.{length}
use lib.Dec.{eqb}
use borrow.Author.Tests.{eq-eqb, ne_eqb}
use Rattle.words.specs.Nodes.{kid, par, HoldsBits}
use Rattle.bitvec.specs.Colours.{red, paint, red_at}
use Rattle.tree.specs.Tree.{Tree, leaf, node, occ}
use Rattle.tree.specs.Zipper.{bin, Frame, frame}
use Rattle.tree.specs.RedBlack.{root_red}
use Rattle.tree.proofs.Slots.{hit_same, occ_bin}
use Rattle.tree.proofs.Frames.{off_link, open_bin}
use Rattle.tree.proofs.Once.{root_par}
use Rattle.tree_edit.specs.Links.{root_after}
use Rattle.tree_edit.specs.Rounds.{Next, done, again, go_on, loop}
use Rattle.tree_edit.proofs.Links.{on_slot, on_none}
use Rattle.tree_edit.proofs.Stand.{Stand}
use Rattle.tree_edit.proofs.Rotations.{side_of}
use Rattle.tree_edit.proofs.Colours.{red_link, paint_one, paint_two, paint_three}
use Rattle.tree_in_rule.specs.InsertRepair.{rotated, outer, inner, recoloured, insert_round_at, insert_round_below, insert_round, insert_repair_lem}
use Rattle.tree_in_rule.proofs.Loop.{LoopInvariant, Settled, at_root, below_black, not_root, red_uncle, outer_child, inner_child}

-- what a round comes to
module _ (n : ℕ) (W C : List ℕ) (r x : ℕ) where
  round_root : n ≤ par W x → insert_round n W C r x ≡ done W (paint C x false) r
  unfolding insert_round
  round_root h = on_none n (par W x) h _ _

  module _ (P : ℕ) (ep : par W x ≡ P) (lp : P < n) where
    round_black : red C P ≡ false → insert_round n W C r x ≡ done W C r
    unfolding insert_round
    round_black k = rw (ep, on_slot n P lp, k) refl

    round_red : (G : ℕ) (b : Bool) → red C P ≡ true → par W P ≡ G → G < n → eqb (kid W true G) P ≡ b → insert_round n W C r x ≡ insert_round_at n W C r x P G b
    unfolding insert_round insert_round_below
    round_red G b k eg lg eb = rw (ep, on_slot n P lp, k, eg, on_slot n G lg, eb) refl

  module _ (P G : ℕ) (b : Bool) where
    at_uncle : (Q : ℕ) → kid W (not b) G ≡ Q → red_at n C (kid W (not b) G) ≡ true
        → insert_round_at n W C r x P G b ≡ again W (paint (paint (paint C P false) Q false) G true) r G
    unfolding insert_round_at recoloured
    at_uncle Q e k = rw (k, e) refl

    at_outer : red_at n C (kid W (not b) G) ≡ false → eqb (kid W (not b) P) x ≡ false
        → insert_round_at n W C r x P G b ≡ done (rotated n W (not b) G P) (paint (paint C P false) G true) (root_after n W r G P)
    unfolding insert_round_at outer
    at_outer k e = rw (k, e) refl

    at_inner : red_at n C (kid W (not b) G) ≡ false → eqb (kid W (not b) P) x ≡ true
        → insert_round_at n W C r x P G b
        ≡ done (rotated n (rotated n W b P x) (not b) G x) (paint (paint C x false) G true) (root_after n (rotated n W b P x) r G x)
    unfolding insert_round_at inner outer
    at_inner k e = rw (k, e) refl

-- where the loop stands, below fewer than d slots
pub record Loop (n z : ℕ) (base : List ℕ) (d : ℕ) (W : List ℕ) (K : ℕ → Bool) (r x : ℕ) : Type 0 where
  pub c : List Frame
  pub t : Tree
  pub m : ℕ
  pub p : ℕ
  pub invariant : LoopInvariant n z base W K r x p c t m
  pub short : length c < d

-- after a round: the end, or a place higher up
abbrev pub Good : ℕ → ℕ → List ℕ → ℕ → Next → Type 0
Good n z base d (done W C r) = Settled n z base W (red C) r × HoldsBits C n
Good n z base d (again W C r x) = Loop n z base d W (red C) r x × HoldsBits C n

-- the one side, or the other
sides : {A : Type 0} (d b : Bool) → (d ≡ b → A) → (d ≡ not b → A) → A
sides true true f g = f refl
sides true false f g = g refl
sides false true f g = g refl
sides false false f g = f refl

module _ (n z : ℕ) (base W C : List ℕ) (r x p : ℕ) (t : Tree) (m : ℕ) (bits : HoldsBits C n) where
  -- the slot x, as the root of the tree that stands there
  module _ (c : List Frame) (h : LoopInvariant n z base W (red C) r x p c t m) where
    abbrev stand : Stand W n r x p c t
    stand = h.placed.stand

    live_x : x < n
    live_x = let (A, B, e) = h.root true in (open_bin W n p x true A x B (rw e at stand.tree)).live

    has_x : 0 < occ x t
    has_x = let (A, B, e) = h.root true in rw e (omega (arith, occ_bin x true A x B, hit_same x))

    above_x : par W x ≡ p
    above_x = root_par W n stand.small p x t stand.tree live_x

  -- below the red P, on its side d, and P on the side b of G
  module _ (d : Bool) (P : ℕ) (Y : Tree) (b : Bool) (G : ℕ) (u : Tree) (c : List Frame)
      (h : LoopInvariant n z base W (red C) r x p (frame d P Y ∷ frame b G u ∷ c) t m) (kp : red C P ≡ true) where
    abbrev way : List Frame
    way = frame d P Y ∷ frame b G u ∷ c

    abbrev g : Stand W n r x p way t
    g = h.placed.stand

    lx : x < n
    lx = live_x way h

    lp : P < n
    lp = g.way.live

    lg : G < n
    lg = g.way.rest.live

    -- the link of P on the side that b is not leads to x, or not
    links_x : d ≡ not b → eqb (kid W (not b) P) x ≡ true
    links_x e = eq-eqb (kid W (not b) P) x (sym (rw e at g.way.here))

    misses_x : d ≡ b → eqb (kid W (not b) P) x ≡ false
    misses_x e =
        ne_eqb (kid W (not b) P) x (λ q.
        off_link W n P (kid W (not b) P) Y x g.small (rw e at g.way.far) lx (omega (arith, g.once x, has_x way h)) (sym q))

    here : insert_round n W C r x ≡ insert_round_at n W C r x P G b
    here =
        round_red n W C r x P (above_x way h ∙ g.way.at) lp G b kp g.way.rest.at lg
        (side_of W n G P b u g.small lp (omega (arith, g.once P, hit_same P)) g.way.rest.here g.way.rest.far)

    colour : red_at n C (kid W (not b) G) ≡ root_red (red C) u
    colour = red_link W C n g.small G (kid W (not b) G) u g.way.rest.far

    good_black : root_red (red C) u ≡ false → Good n z base (length way) (insert_round n W C r x)
    good_black k =
        sides d b
        (λ e. let (o, q) = paint_two n C P G false true bits lp lg in
        rw (here, at_outer n W C r x P G b (colour ∙ k) (misses_x e)) (
          rw q (outer_child n z base W (red C) r x p t m d P Y b G u c h kp e k),
          o,
        ))
        (λ e. let (o, q) = paint_two n C x G false true bits lx lg in
        rw (here, at_inner n W C r x P G b (colour ∙ k) (links_x e)) (
          rw q (inner_child n z base W (red C) r x p t m d P Y b G u c h kp e k),
          o,
        ))

    good_red : (v : Tree) (Q : ℕ) (w : Tree) → u ≡ node v Q w → red C Q ≡ true → Good n z base (length way) (insert_round n W C r x)
    good_red v Q w e k =
        let f = open_bin W n G (kid W (not b) G) true v Q w (rw e at g.way.rest.far) in
        let (o, q) = paint_three n C P Q G false false true bits lp f.live lg in
        let i : root_red (red C) u ≡ true = rw e k in
        rw (here, at_uncle n W C r x P G b Q f.here (colour ∙ i)) (
          record {
            c = c;
            t = bin b (bin d t P Y) G u;
            m = 1 + m;
            p = par W G;
            invariant = rw q (red_uncle n z base W (red C) r x p t m d P Y b G u c h kp v Q w e k);
            short = omega arith;
          },
          o,
        )

  black_parent : (d : Bool) (P : ℕ) (Y : Tree) (c : List Frame) → LoopInvariant n z base W (red C) r x p (frame d P Y ∷ c) t m → red C P ≡ false
      → Good n z base (suc (length c)) (insert_round n W C r x)
  black_parent d P Y c h k =
      let g = h.placed.stand in
      rw (round_black n W C r x P (above_x (frame d P Y ∷ c) h ∙ g.way.at) g.way.live k) (
        below_black n z base W (red C) r x p t m d P Y c h k,
        bits,
      )

  round_good : (c : List Frame) → LoopInvariant n z base W (red C) r x p c t m → Good n z base (length c) (insert_round n W C r x)
  round_good [] h =
      let (o, q) = paint_one n C bits x false (live_x [] h) in
      let g = h.placed.stand in
      rw (round_root n W C r x (omega (arith, above_x [] h, g.way.0, g.small))) (rw q (at_root n z base W (red C) r x p t m h), o)
  round_good (frame d P Y ∷ []) h = go (red C P) refl
    where
      go : (v : Bool) → red C P ≡ v → Good n z base 1 (insert_round n W C r x)
      go true k = not_root n z base W (red C) r x p t m d P Y h k
      go false k = black_parent d P Y [] h k
  round_good (frame d P Y ∷ frame b G u ∷ c) h = go (red C P) refl u h
    where
      uncle : (v : Tree) (Q : ℕ) (w : Tree) (i : Bool) → red C Q ≡ i → red C P ≡ true
          → LoopInvariant n z base W (red C) r x p (frame d P Y ∷ frame b G (node v Q w) ∷ c) t m
          → Good n z base (suc (suc (length c))) (insert_round n W C r x)
      uncle v Q w true e k h = good_red d P Y b G (node v Q w) c h k v Q w refl e
      uncle v Q w false e k h = good_black d P Y b G (node v Q w) c h k e

      go : (i : Bool) → red C P ≡ i → (u : Tree) → LoopInvariant n z base W (red C) r x p (frame d P Y ∷ frame b G u ∷ c) t m
          → Good n z base (suc (suc (length c))) (insert_round n W C r x)
      go false k u h = black_parent d P Y (frame b G u ∷ c) h k
      go true k leaf h = good_black d P Y b G leaf c h k refl
      go true k (node v Q w) h = uncle v Q w (red C Q) refl k h

-- the loop ends, and leaves an even tree with a black root
abbrev pub Finished : ℕ → ℕ → List ℕ → Next → Type 0
Finished n z base (done W C r) = Settled n z base W (red C) r × HoldsBits C n
Finished n z base (again W C r x) = ⊥

pub insert_repaired : (rounds n z : ℕ) (base W C : List ℕ) (r x : ℕ) → HoldsBits C n → Loop n z base rounds W (red C) r x
    → Finished n z base (insert_repair_lem n rounds W C r x)
unfolding loop
insert_repaired zero n z base W C r x bits l = absurd (omega (arith, l.short))
insert_repaired (suc rounds) n z base W C r x bits l =
    go (insert_repaired rounds n z base) (insert_round n W C r x) (round_good n z base W C r x l.p l.t l.m bits l.c l.invariant)
  where
    go : ((W C : List ℕ) (r x : ℕ) → HoldsBits C n → Loop n z base rounds W (red C) r x → Finished n z base (insert_repair_lem n rounds W C r x))
        → (s : Next) → Good n z base (length l.c) s → Finished n z base (go_on s (λ X D q i. insert_repair_lem n rounds X D q i))
    go rec (done W C r) g = g
    go rec (again W C r x) g =
        let i = g.0 in
        rec W C r x g.1 (record { c = i.c; t = i.t; m = i.m; p = i.p; invariant = i.invariant; short = omega (arith, i.short, l.short) })
