-- The rounds of the repair before a removal: the loop stands at a slot, and few hulls change in a
-- round.
use mathlib.Core.Path.{◌≡◌}
use mathlib.Core.Bool.{Bool, true, not}
use mathlib.Core.List.{List}
use Prim.Native.Nat.{ℕ, ◌<◌, ◌≤◌}
use native.Mathlib.Omega.{arith}
use lib.Dec.{eqb}
use Rattle.words.specs.Nodes.{kid, par}
use Rattle.bitvec.specs.Colours.{red, red_at}
use Rattle.tree_edit.specs.Rounds.{again}
use Rattle.tree_edit.specs.Reach.{changes}
use Rattle.tree_edit.proofs.Stays.{link_stays}
use Rattle.tree_rm_rule.specs.Repair.{Case, one, two, three, four, five, choose, act, round_of, round_at_lem, round}
use Rattle.tree_rm_rule.specs.Reach.{round_hulls}
use Rattle.tree_rm_rule.proofs.Reached.{round_le}

-- the loop stands at a slot
act_stays : (n : ℕ) (k : Case) (W C : List ℕ) (r ix : ℕ) (b : Bool) (P S c d : ℕ) (X D : List ℕ) (q i : ℕ) → ix < n → P < n
    → act n k W C r ix b P S c d ≡ again X D q i → i < n
act_stays n one W C r ix b P S c d X D q i h l e = let z : P ≡ i = cc in omega arith
act_stays n two W C r ix b P S c d X D q i h l e = let z : ix ≡ i = cc in omega arith
act_stays n three W C r ix b P S c d X D q i h l e = let z : ◌≡◌ {A = ℕ} 0 1 = cc in absurd (omega arith)
act_stays n four W C r ix b P S c d X D q i h l e = let z : ix ≡ i = cc in omega arith
act_stays n five W C r ix b P S c d X D q i h l e = let z : ◌≡◌ {A = ℕ} 0 1 = cc in absurd (omega arith)

pub round_stays : (n : ℕ) (W C : List ℕ) (r ix : ℕ) (X D : List ℕ) (q i : ℕ) → ix < n → round n W C r ix ≡ again X D q i → i < n
unfolding round round_at_lem round_of
round_stays n W C r ix X D q i h e =
    link_stays n (par W ix) (λ (P : ℕ). round_at_lem n W C r ix P (eqb (kid W true P) ix)) W C r X D q i
    (λ P l z. link_stays n (kid W (not (eqb (kid W true P) ix)) P) (λ (S : ℕ). round_of n W C r ix P (eqb (kid W true P) ix) S) W C r X D q i
    (λ S m y. at_round P (eqb (kid W true P) ix) S l y) z)
    e
  where
    at_round : (P : ℕ) (b : Bool) (S : ℕ) → P < n → round_of n W C r ix P b S ≡ again X D q i → i < n
    at_round P b S l z =
        act_stays n (choose (red C P) (red C S) (red_at n C (kid W b S)) (red_at n C (kid W (not b) S))) W C r ix b P S (kid W b S) (kid W (not b) S) X D q i h l z

pub most : (n : ℕ) (W C : List ℕ) (ix : ℕ) → changes n (round_hulls n W C ix) ≤ 4
most n W C ix = omega (arith, round_le n W C ix)
