-- The repair, step by step on the bytes: each round keeps the loop's invariant and weighs less, so
-- that 36 rounds suffice.
use mathlib.Core.Path.{◌≡◌, refl, sym, ◌∙◌}
use mathlib.Core.Bool.{Bool, true, false, not, false≢true}
use mathlib.Core.List.{List, [], ◌∷◌}
use Prim.Native.Nat.{ℕ, zero, suc, ◌+◌, ◌<◌, ◌≤◌}
use native.Mathlib.Omega.{arith}
use lib.ListN.{length}
use lib.Dec.{eqb}
use Rattle.words.specs.Nodes.{kid, par, HoldsBits}
use Rattle.bitvec.specs.Colours.{red, paint_at}
use Rattle.tree.specs.Tree.{Tree, Node, Shape, leaf, node}
use Rattle.tree.specs.Zipper.{bin, Frame, plug, frame}
use Rattle.tree.specs.RedBlack.{root_red, RedBlackNode, RedBlack}
use Rattle.tree.proofs.Frames.{shape_root, open_bin}
use Rattle.tree.proofs.Once.{root_par}
use Rattle.tree_edit.specs.Rounds.{done, Next, go_on, again, loop}
use Rattle.tree_rm_rule.specs.Repair.{choose, act, round_of, round_at_lem, round, repair, one, two, three, four, five}
use Rattle.tree_edit.proofs.Links.{on_slot, on_none}
use Rattle.tree_edit.proofs.Stand.{Stand}
use Rattle.tree_edit.proofs.Rotations.{side_of}
use Rattle.tree_edit.proofs.Colours.{red_link, paint_one, paint_two, paint_three}
use Rattle.tree_edit.proofs.Fits.{open_red_black, root_bin}
use Rattle.tree_rm_rule.proofs.Weight.{weight_is, weigh, weight}
use Rattle.tree_rm_rule.proofs.Loop.{Bare, LoopInvariant, Loop, Lighter, Fixed, ended, good_1, good_2, good_3, good_4, good_5}

-- after a round: the end, or a lighter place
abbrev Good : ℕ → ℕ → List ℕ → ℕ → Next → Type 0
Good n x base w (done W C r) = Fixed n x base W (red C) r × HoldsBits C n
Good n x base w (again W C r ix) = Lighter n x base w W (red C) r ix × HoldsBits C n

red_live : (W : List ℕ) (K : ℕ → Bool) (n p k : ℕ) (t : Tree) → Shape W n p k t → root_red K t ≡ true → k < n
red_live W K n p k leaf h e = absurd (false≢true e)
red_live W K n p k (node l s r) h e = rw h.here h.live

-- one round, below P with the sibling S
module _ (n x : ℕ) (base W Y : List ℕ) (r ix : ℕ) (b : Bool) (P S : ℕ) (c : List Frame) (C D : Tree) (i : List Frame) (m : ℕ)
    (bits : HoldsBits Y n) (invariant : LoopInvariant n x base W (red Y) r ix P (frame b P (bin b C S D) ∷ c) i m) where
  abbrev h : Stand W n r ix P (frame b P (bin b C S D) ∷ c) (plug i (Bare x))
  h = invariant.stand

  sib : Node W n P (kid W (not b) P) S (Shape W n S (kid W b S) C) (Shape W n S (kid W (not b) S) D)
  sib = open_bin W n P (kid W (not b) P) b C S D h.way.far

  live_P : P < n
  live_P = h.way.live

  live_S : S < n
  live_S = sib.live

  abbrev near : ℕ
  near = kid W b S

  abbrev distant : ℕ
  distant = kid W (not b) S

  as_1 : red Y P ≡ false → red Y S ≡ false → root_red (red Y) C ≡ false → root_red (red Y) D ≡ false
      → Good n x base (4 + length c) (act n one W Y r ix b P S near distant)
  as_1 p s y z =
      let (o, e) = paint_one n Y bits S true live_S in
      (rw e (good_1 n x base W (red Y) r ix b P S c C D i m invariant p s y z), o)

  as_2 : red Y P ≡ false → red Y S ≡ true → Good n x base 3 (act n two W Y r ix b P S near distant)
  as_2 p s =
      let (o, e) = paint_two n Y P S true false bits live_P live_S in
      (rw e (good_2 n x base W (red Y) r ix b P S c C D i m invariant p s), o)

  as_3 : red Y P ≡ true → red Y S ≡ false → root_red (red Y) C ≡ false → root_red (red Y) D ≡ false
      → Good n x base 1 (act n three W Y r ix b P S near distant)
  as_3 p s y z =
      let (o, e) = paint_two n Y P S false true bits live_P live_S in
      (rw e (good_3 n x base W (red Y) r ix b P S c C D i m invariant p s y z), o)

  as_4 : red Y S ≡ false → root_red (red Y) C ≡ true → root_red (red Y) D ≡ false
      → Good n x base 2 (act n four W Y r ix b P S near distant)
  as_4 s y z =
      let (o, e) = paint_two n Y near S false true bits (red_live W (red Y) n S near C sib.left y) live_S in
      (rw e (good_4 n x base W (red Y) r ix b P S c C D i m invariant s y z), o)

  as_5 : red Y S ≡ false → root_red (red Y) D ≡ true → Good n x base 1 (act n five W Y r ix b P S near distant)
  unfolding paint_at
  as_5 s z =
      let q : distant < n = red_live W (red Y) n S distant D sib.right z in
      let (o, e) = paint_three n Y S P distant (red Y P) false false bits live_S live_P q in
      rw (on_slot n distant q) (rw e (good_5 n x base W (red Y) r ix b P S c C D i m invariant s z), o)

  round_good : Good n x base (weight (red Y) (frame b P (bin b C S D) ∷ c)) (round_of n W Y r ix P b S)
  unfolding round_of choose
  round_good =
      rw (weight_is (red Y) b P C S D c, red_link W Y n h.small S near C sib.left, red_link W Y n h.small S distant D sib.right)
      (go (red Y P) (red Y S) (root_red (red Y) C) (root_red (red Y) D) refl refl refl refl)
    where
      sibling_node : RedBlackNode (red Y) C S D (RedBlack (red Y) C) (RedBlack (red Y) D)
      sibling_node = open_red_black (red Y) b C S D invariant.fits.red_black

      no_C : {A : Type 0} → red Y S ≡ true → root_red (red Y) C ≡ true → A
      no_C s e = absurd (false≢true (sym (sibling_node.no_red_red s).0 ∙ e))

      no_D : {A : Type 0} → red Y S ≡ true → root_red (red Y) D ≡ true → A
      no_D s e = absurd (false≢true (sym (sibling_node.no_red_red s).1 ∙ e))

      no_P : {A : Type 0} → red Y P ≡ true → red Y S ≡ true → A
      no_P p s = absurd (false≢true (sym (invariant.fits.no_red_red p).1 ∙ root_bin (red Y) b C S D ∙ s))

      go : (kp ks kc kd : Bool) → red Y P ≡ kp → red Y S ≡ ks → root_red (red Y) C ≡ kc → root_red (red Y) D ≡ kd
          → Good n x base (weigh (choose kp ks kc kd) (length c)) (act n (choose kp ks kc kd) W Y r ix b P S near distant)
      go false false false false p s c d = as_1 p s c d
      go false false false true p s c d = as_5 s d
      go false false true false p s c d = as_4 s c d
      go false false true true p s c d = as_5 s d
      go false true false false p s c d = as_2 p s
      go false true false true p s c d = no_D s d
      go false true true kd p s c d = no_C s c
      go true false false false p s c d = as_3 p s c d
      go true false false true p s c d = as_5 s d
      go true false true false p s c d = as_4 s c d
      go true false true true p s c d = as_5 s d
      go true true kc kd p s c d = no_P p s

-- a step comes to a round where there are a parent and a sibling
step_is : (n : ℕ) (W C : List ℕ) (r ix P : ℕ) (b : Bool) (S : ℕ) → par W ix ≡ P → P < n → eqb (kid W true P) ix ≡ b → kid W (not b) P ≡ S → S < n
    → round n W C r ix ≡ round_of n W C r ix P b S
unfolding round round_at_lem
step_is n W C r ix P b S ep lp eb es ls =
    rw (ep, on_slot n P lp, eb, es, on_slot n S ls) refl

-- and to the end where there is no parent
step_end : (n : ℕ) (W C : List ℕ) (r ix : ℕ) → n ≤ par W ix → round n W C r ix ≡ done W C r
unfolding round
step_end n W C r ix h = on_none n (par W ix) h _ (done W C r)

module _ (n x : ℕ) (base W C : List ℕ) (r ix : ℕ) (bits : HoldsBits C n) where
  step_good : (l : Loop n x base W (red C) r ix) → Good n x base (weight (red C) l.c) (round n W C r ix)
  step_good l = go l.c l.invariant
    where
      t : Tree
      t = plug l.i (Bare x)

      at : par W ix ≡ l.p
      at = root_par W n l.invariant.stand.small l.p ix t l.invariant.stand.tree l.invariant.live

      -- at a parent
      up : (b : Bool) (P S : ℕ) (c : List Frame) (X Y : Tree) → LoopInvariant n x base W (red C) r ix l.p (frame b P (bin b X S Y) ∷ c) l.i l.m
          → Good n x base (weight (red C) (frame b P (bin b X S Y) ∷ c)) (round n W C r ix)
      up b P S c X Y g =
          let h = g.stand in
          let e_p : l.p ≡ P = h.way.at in
          let sd : eqb (kid W true P) ix ≡ b =
          side_of W n P ix b (bin b X S Y) h.small g.live
          (omega (arith, h.once ix, shape_root W n l.p ix t h.small g.live h.tree)) h.way.here h.way.far in
          let o = open_bin W n P (kid W (not b) P) b X S Y h.way.far in
          rw (step_is n W C r ix P b S (at ∙ e_p) h.way.live sd o.here o.live)
          (round_good n x base W C r ix b P S c X Y l.i l.m bits (rw e_p at g))

      go : (c : List Frame) → LoopInvariant n x base W (red C) r ix l.p c l.i l.m → Good n x base (weight (red C) c) (round n W C r ix)
      go [] g =
          let h = g.stand in
          rw (step_end n W C r ix (omega (arith, at, h.way.0, h.small))) (
            ended n x base W (red C) (red C) r ix l.p [] l.i l.m h refl (λ s q. refl) g.thin g.order g.hulls,
            bits,
          )
      go (frame b P leaf ∷ c) g = absurd (omega (arith, g.fits.equal_blacks))
      go (frame true P (node y S z) ∷ c) g = up true P S c y z g
      go (frame false P (node y S z) ∷ c) g = up false P S c z y g

abbrev pub Finished : ℕ → ℕ → List ℕ → Next → Type 0
Finished n x base (done W C r) = Fixed n x base W (red C) r × HoldsBits C n
Finished n x base (again W C r ix) = ⊥

-- the loop ends, and leaves a tree that is even once x is cut off
pub repaired : (rounds n x : ℕ) (base W C : List ℕ) (r ix : ℕ) → HoldsBits C n → (l : Loop n x base W (red C) r ix) → weight (red C) l.c < rounds
    → Finished n x base (repair n rounds W C r ix)
unfolding loop
repaired zero n x base W C r ix bits l h = absurd (omega arith)
repaired (suc rounds) n x base W C r ix bits l h = go (repaired rounds n x base) (round n W C r ix) (step_good n x base W C r ix bits l)
  where
    go : ((W C : List ℕ) (r ix : ℕ) → HoldsBits C n → (l : Loop n x base W (red C) r ix) → weight (red C) l.c < rounds → Finished n x base (repair n rounds W C r ix))
        → (s : Next) → Good n x base (weight (red C) l.c) s → Finished n x base (go_on s (λ X D q i. repair n rounds X D q i))
    go rec (done W C r) g = g
    go rec (again W C r ix) g = rec W C r ix g.1 g.0.0 (omega (arith, g.0.1))
