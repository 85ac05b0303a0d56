-- The rounds of the repair after an insertion: the loop stands at a slot.
use mathlib.Core.Path.{◌≡◌}
use mathlib.Core.Bool.{Bool, true, false, cond, not}
use mathlib.Core.List.{List}
use Prim.Native.Nat.{ℕ, ◌<◌}
use native.Mathlib.Omega.{arith}
use lib.Dec.{eqb}
use Rattle.words.specs.Nodes.{kid, par}
use Rattle.bitvec.specs.Colours.{red, red_at, paint}
use Rattle.tree_edit.specs.Rounds.{done, again}
use Rattle.tree_edit.proofs.Stays.{link_stays}
use Rattle.tree_in_rule.specs.InsertRepair.{outer, inner, recoloured, insert_round_at, insert_round_below, insert_round}

-- the loop stands at a slot
pub insert_stays : (n : ℕ) (W C : List ℕ) (r x : ℕ) (X D : List ℕ) (q i : ℕ) → x < n → insert_round n W C r x ≡ again X D q i → i < n
unfolding insert_round insert_round_below insert_round_at recoloured inner outer
insert_stays n W C r x X D q i h e =
    link_stays n (par W x) (λ (P : ℕ). cond (red C P) (insert_round_below n W C r x P) (done W C r)) W (paint C x false) r X D q i
    (λ P l z. parent P (red C P) z) e
  where
    uncle : (P G : ℕ) (b t u : Bool) → G < n
        → cond t (recoloured W C r P (kid W (not b) G) G) (cond u (inner n W C r x b P G) (outer n W C r b P G)) ≡ again X D q i → i < n
    uncle P G b true u l z = let y : G ≡ i = cc in omega arith
    uncle P G b false true l z = let y : ◌≡◌ {A = ℕ} 0 1 = cc in absurd (omega arith)
    uncle P G b false false l z = let y : ◌≡◌ {A = ℕ} 0 1 = cc in absurd (omega arith)

    parent : (P : ℕ) (t : Bool) → cond t (insert_round_below n W C r x P) (done W C r) ≡ again X D q i → i < n
    parent P true z =
        link_stays n (par W P) (λ (G : ℕ). insert_round_at n W C r x P G (eqb (kid W true G) P)) W C r X D q i
        (λ G l y. uncle P G (eqb (kid W true G) P) (red_at n C (kid W (not (eqb (kid W true G) P)) G))
        (eqb (kid W (not (eqb (kid W true G) P)) P) x) l y) z
    parent P false z = let y : ◌≡◌ {A = ℕ} 0 1 = cc in absurd (omega arith)
