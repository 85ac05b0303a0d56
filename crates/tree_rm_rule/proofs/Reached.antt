-- Between the hulls that a removal works out, one after the other, no hull changes before its last
-- step. On any words.
use mathlib.Core.Path.{◌≡◌, refl}
use mathlib.Core.Bool.{Bool, true, false, cond, not}
use mathlib.Core.List.{List, [], ◌++◌}
use Prim.Native.Nat.{ℕ, ◌*◌, ◌≤◌}
use native.Mathlib.Omega.{arith}
use lib.ListN.{length}
use lib.Dec.{eqb}
use Rattle.words.specs.Ix.{U}
use Rattle.words.specs.Nodes.{kid, par, swap, put_kid}
use Rattle.words.specs.declared.node.Field.TheVariants.{HullStart, HullEnd, Child}
use Rattle.words.proofs.Nodes.{word_swap, word_put_field, in_links}
use Rattle.bitvec.specs.Colours.{red, red_at, paint}
use Rattle.tree_edit.specs.Links.{remove_child_lem, redirected, fix_up}
use Rattle.tree_rm_rule.specs.Pairs.{emptied}
use Rattle.tree_edit.specs.Rotations.{rotate, rotate_2, rotate_4}
use Rattle.tree_rm_rule.specs.Repair.{Case, one, two, three, four, five, choose, act, round_of, round_at_lem, round, repair}
use Rattle.tree_edit.specs.Rounds.{ending}
use Rattle.tree_rm_rule.specs.Remove.{vacated, exchanged, child, restructure, handed, above, cut_words, remove_rule, cut_words_with, finish_with, remove_from_with, remove_with, restructure_with}
use Rattle.tree_edit.specs.Store.{Store, store}
use Rattle.tree_edit.specs.Reach.{changes, up_hulls, Stays, Follows}
use Rattle.tree_rm_rule.specs.Reach.{act_hulls, round_of_hulls, round_at_hulls, round_hulls, repair_hulls, restructure_hulls, cut_hulls, vacate_hulls, remove_hulls_from, remove_hulls, cut_from, last_step}
use Rattle.tree_edit.proofs.Links.{by_link, kept_rotate, kept_rotate_2, kept_rotate_4}
use Rattle.tree_edit.proofs.Reached.{kept_stays, from, then, linked, linked_next, follows_up, changes_le, up_most}
use Rattle.tree_edit.proofs.Rounds.{follows_loop, loop_most}

module _ (n : ℕ) where
  -- a round of the repair
  follows_act : (k : Case) (W C : List ℕ) (r ix : ℕ) (b : Bool) (P S c d : ℕ)
      → Follows n W (act_hulls n k W b P S c) (ending (act n k W C r ix b P S c d)).words
  follows_act one W C r ix b P S c d = λ a. refl
  follows_act two W C r ix b P S c d = kept_stays W (rotate_2 n W b P S) (kept_rotate_2 n W b P S)
  follows_act three W C r ix b P S c d = λ a. refl
  follows_act four W C r ix b P S c d = (kept_stays W (rotate_4 n W b P S c) (kept_rotate_4 n W b P S c), (λ a. refl, λ a. refl))
  follows_act five W C r ix b P S c d = kept_stays W (rotate n W b P S) (kept_rotate n W b P S)

  follows_round : (W C : List ℕ) (r ix : ℕ) → Follows n W (round_hulls n W C ix) (ending (round n W C r ix)).words
  unfolding round_hulls round_at_hulls round_of_hulls round round_at_lem round_of
  follows_round W C r ix =
      linked_next n W C r (par W ix) (λ P. round_at_hulls n W C P (eqb (kid W true P) ix)) (λ P. round_at_lem n W C r ix P (eqb (kid W true P) ix))
      (at (par W ix) (eqb (kid W true (par W ix)) ix))
    where
      at : (P : ℕ) (b : Bool) → Follows n W (round_at_hulls n W C P b) (ending (round_at_lem n W C r ix P b)).words
      at P b =
          linked_next n W C r (kid W (not b) P) (λ S. round_of_hulls n W C P b S) (λ S. round_of n W C r ix P b S)
          (follows_act (choose (red C P) (red C (kid W (not b) P)) (red_at n C (kid W b (kid W (not b) P))) (red_at n C (kid W (not b) (kid W (not b) P))))
          W C r ix b P (kid W (not b) P) (kid W b (kid W (not b) P)) (kid W (not b) (kid W (not b) P)))

  follows_repair : (rounds : ℕ) (W C : List ℕ) (r ix : ℕ) → Follows n W (repair_hulls n rounds W C r ix) (ending (repair n rounds W C r ix)).words
  follows_repair = follows_loop (round n) (round_hulls n) n follows_round

  follows_restructure : (W C : List ℕ) (r x y : ℕ) → Follows n W (restructure_hulls n W C r x y) (restructure n W C r x y).words
  unfolding restructure_hulls restructure_with
  follows_restructure W C r x y = go (red C x) (red_at n C y)
    where
      go : (i j : Bool) → Follows n W (cond i [] (cond j [] (repair_hulls n 36 W C r x)))
          (cond i (store W C r) (cond j (store W (paint C y true) r) (ending (repair n 36 W C r x)))).words
      go true j = λ a. refl
      go false true = λ a. refl
      go false false = follows_repair 36 W C r x

  follows_cut : (W : List ℕ) (g v : ℕ) → Follows n W (cut_hulls n W g v) (cut_words n W g v)
  unfolding cut_hulls cut_words_with remove_child_lem redirected
  follows_cut W g v =
      linked n W g (λ s. up_hulls n 32 (put_kid W (eqb (kid W true s) v) s U) s) (λ s. fix_up n 32 (put_kid W (eqb (kid W true s) v) s U) s)
      (from n W (put_kid W (eqb (kid W true g) v) g U) (up_hulls n 32 (put_kid W (eqb (kid W true g) v) g U) g) (fix_up n 32 (put_kid W (eqb (kid W true g) v) g U) g)
      (kept_stays W (put_kid W (eqb (kid W true g) v) g U) (λ a f q. word_put_field W (Child (eqb (kid W true g) v)) g U in_links f a refl q))
      (follows_up n 32 (put_kid W (eqb (kid W true g) v) g U) g))

  swap_stays : (W : List ℕ) (i j : ℕ) → Stays W (swap W i j)
  swap_stays W i j a = λ t. record { start = word_swap W i j HullStart a refl t; end = word_swap W i j HullEnd a refl t }

  exchanged_stays : (W : List ℕ) (s x : ℕ) → Stays W (exchanged W s x)
  unfolding exchanged
  exchanged_stays W s x = go (eqb x s)
    where
      go : (t : Bool) → Stays W (cond t W (swap W s x))
      go true = λ a. refl
      go false = swap_stays W s x

  handed_stays : (W : List ℕ) (x y : ℕ) → Stays W (handed n W x y)
  unfolding handed
  handed_stays W x y = by_link n y (λ X. Stays W X) (λ s. swap W x s) W (λ h. swap_stays W x y) (λ h a. refl)

-- on any words: up to the move of the last slot, the hulls that are worked out are all that change
pub reached : (W C : List ℕ) (n r s : ℕ) → Follows n W (remove_hulls W C n r s) (cut_from W C n r s (vacated n W s))
unfolding remove_hulls remove_hulls_from vacate_hulls cut_from
reached W C n r s =
    let x : ℕ = vacated n W s in
    let X : List ℕ = exchanged W s x in
    let y : ℕ = child X x in
    let t : Store = restructure n X C r x y in
    let H : List ℕ = handed n t.words x y in
    let g : ℕ = above n t.words x y in
    let v : ℕ = emptied n x y in
    from n W X (restructure_hulls n X C r x y ++ cut_hulls n H g v) (cut_words n H g v) (exchanged_stays n W s x)
    (then n X t.words (restructure_hulls n X C r x y) (cut_hulls n H g v) (cut_words n H g v) (follows_restructure n X C r x y)
    (from n t.words H (cut_hulls n H g v) (cut_words n H g v) (handed_stays n t.words x y) (follows_cut n H g v)))

-- and the last step is made in these words
pub cut_then_moved : (W C : List ℕ) (n r s : ℕ)
    → (remove_rule W C n r s).store ≡ last_step (cut_from W C n r s (vacated n W s)) W C n r s (vacated n W s)
unfolding remove_with remove_from_with finish_with cut_from last_step
cut_then_moved W C n r s = refl

-- how much it can be, on any words
module _ (n : ℕ) where
  -- a round works out two hulls at the most
  round_two : (W C : List ℕ) (ix : ℕ) → length (round_hulls n W C ix) ≤ 2
  unfolding round_hulls round_at_hulls round_of_hulls
  round_two W C ix =
      by_link n (par W ix) (λ l. length l ≤ 2) (λ P. round_at_hulls n W C P (eqb (kid W true P) ix)) []
      (λ h. by_link n (kid W (not (side)) (par W ix)) (λ l. length l ≤ 2) (λ S. round_of_hulls n W C (par W ix) side S) []
      (λ i. few (choose _ _ _ _) W side (par W ix) (kid W (not side) (par W ix)) (kid W side (kid W (not side) (par W ix))))
      (λ i. omega arith))
      (λ h. omega arith)
    where
      side : Bool
      side = eqb (kid W true (par W ix)) ix

      few : (k : Case) (W : List ℕ) (b : Bool) (P S c : ℕ) → length (act_hulls n k W b P S c) ≤ 2
      few one W b P S c = omega arith
      few two W b P S c = omega arith
      few three W b P S c = omega arith
      few four W b P S c = omega arith
      few five W b P S c = omega arith

  pub round_le : (W C : List ℕ) (ix : ℕ) → changes n (round_hulls n W C ix) ≤ 2
  round_le W C ix = omega (arith, changes_le n (round_hulls n W C ix), round_two W C ix)

  pub cut_most : (W : List ℕ) (g v : ℕ) → changes n (cut_hulls n W g v) ≤ 32
  unfolding cut_hulls
  cut_most W g v =
      by_link n g (λ l. changes n l ≤ 32) (λ s. up_hulls n 32 (remove_child_lem W s v) s) []
      (λ h. omega (arith, changes_le n (up_hulls n 32 (remove_child_lem W g v) g), up_most n 32 (remove_child_lem W g v) g)) (λ h. omega arith)

  repair_most : (rounds : ℕ) (W C : List ℕ) (r ix : ℕ) → length (repair_hulls n rounds W C r ix) ≤ rounds * 2
  repair_most = loop_most (round n) (round_hulls n) 2 round_two

  pub restructure_most : (W C : List ℕ) (r x y : ℕ) → changes n (restructure_hulls n W C r x y) ≤ 144
  unfolding restructure_hulls
  restructure_most W C r x y = go (red C x) (red_at n C y)
    where
      go : (i j : Bool) → changes n (cond i [] (cond j [] (repair_hulls n 36 W C r x))) ≤ 144
      go true j = omega arith
      go false true = omega arith
      go false false = omega (arith, changes_le n (repair_hulls n 36 W C r x), repair_most 36 W C r x)
