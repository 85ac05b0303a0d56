-- The repair on any words, whatever they hold: it writes to slots below the count alone, and moves
-- no entry.
use mathlib.Core.Path.{◌≡◌, refl, sym, ap, ◌∙◌}
use mathlib.Core.Bool.{Bool, true, false, cond, not, false≢true}
use mathlib.Core.List.{List}
use Prim.Native.Nat.{ℕ, ◌<◌}
use lib.Dec.{eqb}
use Rattle.words.specs.Nodes.{kid, par, fix}
use Rattle.bitvec.specs.Colours.{red, paint, red_at, paint_at}
use Rattle.tree_edit.specs.Rounds.{done, Next, again, ending}
use Rattle.tree_edit.specs.Rotations.{rotate, rotate_2, rotate_4}
use Rattle.tree_rm_rule.specs.Repair.{Case, choose, act, round_of, round_at_lem, round, repair, one, two, three, four, five}
use Rattle.tree_edit.specs.Store.{store}
use Rattle.tree_rm_rule.specs.Remove.{restructure, restructure_with}
use Rattle.tree_edit.proofs.Carried.{kept_entry}
use Rattle.tree_edit.proofs.Links.{by_link, kept_rotate, kept_rotate_2, kept_rotate_4}
use Rattle.tree_edit.proofs.Upward.{entry_fix}
use Rattle.tree_edit.proofs.Low.{low_refl, low_fix, low_three, low_rotate, low_rotate_2, low_rotate_4, LowColours, low_colours_refl, low_paint}
use Rattle.tree_edit.proofs.Colours.{red_slot}
use Rattle.tree_edit.proofs.InPlace.{InPlace, in_place_refl}
use Rattle.tree_edit.proofs.Rounds.{NextIn, loop_in_place}

abbrev is_four : Case → Bool
is_four one = false
is_four two = false
is_four three = false
is_four four = true
is_four five = false

not_four : (p s d : Bool) → is_four (choose p s false d) ≡ false
unfolding choose
not_four false false false = refl
not_four false false true = refl
not_four false true false = refl
not_four false true true = refl
not_four true false false = refl
not_four true false true = refl
not_four true true false = refl
not_four true true true = refl

-- the fourth case has a red close nephew
pub four_close : (p s c d : Bool) → choose p s c d ≡ four → c ≡ true
four_close p s true d e = refl
four_close p s false d e = absurd (false≢true (sym (not_four p s d) ∙ ap is_four e))

module _ (n : ℕ) where
  act_in_place : (k : Case) (W C : List ℕ) (r ix : ℕ) (b : Bool) (P S c d : ℕ) → P < n → S < n → (k ≡ four → c < n)
      → InPlace n W C (ending (act n k W C r ix b P S c d))
  unfolding paint_at
  act_in_place one W C r ix b P S c d lp ls lc =
      record { words_in = low_refl n W; colours_in = low_paint n C C S _ ls (low_colours_refl n C); entries = λ a. refl }
  act_in_place two W C r ix b P S c d lp ls lc =
      record {
        words_in = low_rotate_2 n W b P S lp ls;
        colours_in = low_paint n C _ S _ ls (low_paint n C C P _ lp (low_colours_refl n C));
        entries = λ a. kept_entry W (rotate_2 n W b P S) a (kept_rotate_2 n W b P S a);
      }
  act_in_place three W C r ix b P S c d lp ls lc =
      record { words_in = low_refl n W; colours_in = low_paint n C _ S _ ls (low_paint n C C P _ lp (low_colours_refl n C)); entries = λ a. refl }
  act_in_place four W C r ix b P S c d lp ls lc =
      let X : List ℕ = rotate_4 n W b P S c in
      record {
        words_in = low_three n W X _ _ (low_rotate_4 n W b P S lp ls c (lc refl)) (low_fix n X S ls) (low_fix n (fix n X S) c (lc refl));
        colours_in = low_paint n C _ S _ ls (low_paint n C C c _ (lc refl) (low_colours_refl n C));
        entries = λ a. entry_fix n (fix n X S) c a ∙ entry_fix n X S a ∙ kept_entry W X a (kept_rotate_4 n W b P S c a);
      }
  act_in_place five W C r ix b P S c d lp ls lc =
      let E : List ℕ = paint (paint C S (red C P)) P false in
      let e : LowColours n C E = low_paint n C _ P false lp (low_paint n C C S (red C P) ls (low_colours_refl n C)) in
      record {
        words_in = low_rotate n W b P S lp ls;
        colours_in = by_link n d (λ D. LowColours n C D) (λ s. paint E s false) E (λ u. low_paint n C E d false u e) (λ u. e);
        entries = λ a. kept_entry W (rotate n W b P S) a (kept_rotate n W b P S a);
      }

  round_at_in_place : (W C : List ℕ) (r ix P : ℕ) (b : Bool) → P < n → InPlace n W C (ending (round_at_lem n W C r ix P b))
  unfolding round_at_lem round_of
  round_at_in_place W C r ix P b lp =
      by_link n (kid W (not b) P) (λ s. InPlace n W C (ending s)) (λ S. round_of n W C r ix P b S) (done W C r)
      (λ ls. let S : ℕ = kid W (not b) P in
      act_in_place _ W C r ix b P S (kid W b S) (kid W (not b) S) lp ls
      (λ e. red_slot n C (kid W b S) (four_close (red C P) (red C S) (red_at n C (kid W b S)) (red_at n C (kid W (not b) S)) e)))
      (λ u. in_place_refl n W C r)

  round_in_place : (W C : List ℕ) (r ix : ℕ) → InPlace n W C (ending (round n W C r ix))
  unfolding round
  round_in_place W C r ix =
      by_link n (par W ix) (λ s. InPlace n W C (ending s)) (λ P. round_at_lem n W C r ix P (eqb (kid W true P) ix)) (done W C r)
      (λ lp. round_at_in_place W C r ix (par W ix) (eqb (kid W true (par W ix)) ix) lp)
      (λ u. in_place_refl n W C r)

  -- a round's end does not depend on where it stands
  next_in : (W C : List ℕ) (s : Next) → InPlace n W C (ending s) → NextIn n (λ i. Unit {0}) W C s
  next_in W C (done X D q) m = m
  next_in W C (again X D q i) m = (m, tt)

  pub repair_in_place : (rounds : ℕ) (W C : List ℕ) (r ix : ℕ) → InPlace n W C (ending (repair n rounds W C r ix))
  repair_in_place rounds W C r ix =
      loop_in_place (round n) n (λ i. Unit {0}) (λ W C r x p. next_in W C (round n W C r x) (round_in_place W C r x)) rounds W C r ix tt

  pub restructure_in_place : (W C : List ℕ) (r x y : ℕ) → InPlace n W C (restructure n W C r x y)
  unfolding restructure_with
  restructure_in_place W C r x y = go (red C x) (red_at n C y) refl
    where
      go : (s t : Bool) → red_at n C y ≡ t → InPlace n W C (cond s (store W C r) (cond t (store W (paint C y true) r) (ending (repair n 36 W C r x))))
      go true t e = in_place_refl n W C r
      go false true e =
          record { words_in = low_refl n W; colours_in = low_paint n C C y true (red_slot n C y e) (low_colours_refl n C); entries = λ a. refl }
      go false false e = repair_in_place 36 W C r x
