-- Between the hulls that an insertion works out, one after the other, no hull changes once the new
-- node is hung. On any words.
use mathlib.Core.Path.{◌≡◌, refl, ◌∙◌}
use mathlib.Core.Logic.{◌≢◌}
use mathlib.Core.Bool.{Bool, true, false, cond, not}
use mathlib.Core.List.{List, []}
use Prim.Native.Nat.{ℕ, ◌+◌, ◌*◌, ◌≤◌}
use native.Mathlib.Omega.{arith}
use lib.ListN.{length}
use lib.Dec.{eqb, leb}
use Rattle.words.specs.Ix.{U, on_link}
use Rattle.words.specs.Nodes.{kid, par, hull, put_kid, Has}
use Rattle.words.specs.declared.node.Field.TheVariants.{Child}
use Rattle.words.proofs.Nodes.{word_put_field, in_links, hull_put_node}
use Rattle.words.specs.declared.node.Entry.{Entry}
use Rattle.bitvec.specs.Colours.{red, red_at, paint}
use Rattle.tree_edit.specs.Rotations.{rotate}
use Rattle.tree_edit.specs.Rounds.{done, ending}
use Rattle.tree_edit.specs.Store.{Store}
use Rattle.tree_edit.specs.Reach.{changes, up_hulls, Follows}
use Rattle.tree_edit.proofs.Links.{by_link, kept_rotate}
use Rattle.tree_edit.proofs.Reached.{kept_hull, kept_stays, then, follows_up, changes_le}
use Rattle.tree_in_rule.specs.Descent.{goes_left_lem, under}
use Rattle.tree_in_rule.specs.InsertRepair.{rotated, outer, inner, recoloured, insert_round_at, insert_round_below, insert_round, insert_repair_lem}
use Rattle.tree_in_rule.specs.Insert.{own, hung_node, hung_words, hung_root, hung, insert_at_lem, insert_rule}
use Rattle.tree_in_rule.proofs.HungWords.{by_hung, kept_hung}
use Rattle.tree_in_rule.specs.Reach.{rotated_hulls, outer_hulls, inner_hulls, insert_round_at_hulls, insert_round_below_hulls, insert_round_hulls, insert_repair_hulls, insert_at_hulls, insert_hulls}
use Rattle.tree_edit.proofs.Rounds.{follows_loop, loop_most}

module _ (n : ℕ) where
  follows_rotated : (W : List ℕ) (b : Bool) (P S : ℕ) → Follows n W (rotated_hulls n W b P S) (rotated n W b P S)
  unfolding rotated_hulls rotated
  follows_rotated W b P S = (kept_stays W (rotate n W b P S) (kept_rotate n W b P S), (λ a. refl, λ a. refl))

  follows_at : (W C : List ℕ) (r x P G : ℕ) (b : Bool) → Follows n W (insert_round_at_hulls n W C x P G b) (ending (insert_round_at n W C r x P G b)).words
  unfolding insert_round_at_hulls inner_hulls outer_hulls insert_round_at recoloured inner outer
  follows_at W C r x P G b = go (red_at n C (kid W (not b) G)) (eqb (kid W (not b) P) x)
    where
      go : (i j : Bool)
          → Follows n W (cond i [] (cond j (inner_hulls n W x b P G) (outer_hulls n W b P G)))
          (ending (cond i (recoloured W C r P (kid W (not b) G) G) (cond j (inner n W C r x b P G) (outer n W C r b P G)))).words
      go true j = λ a. refl
      go false true =
          then n W (rotated n W b P x) (rotated_hulls n W b P x) (rotated_hulls n (rotated n W b P x) (not b) G x) (rotated n (rotated n W b P x) (not b) G x)
          (follows_rotated W b P x) (follows_rotated (rotated n W b P x) (not b) G x)
      go false false = follows_rotated W (not b) G P

  follows_round : (W C : List ℕ) (r x : ℕ) → Follows n W (insert_round_hulls n W C x) (ending (insert_round n W C r x)).words
  unfolding insert_round_hulls insert_round_below_hulls insert_round insert_round_below on_link
  follows_round W C r x = go (leb n (par W x)) (red C (par W x)) (leb n (par W (par W x)))
    where
      P : ℕ
      P = par W x

      go : (i j k : Bool)
          → Follows n W (cond i [] (cond j (cond k [] (insert_round_at_hulls n W C x P (par W P) (eqb (kid W true (par W P)) P))) []))
          (ending (cond i (done W (paint C x false) r) (cond j (cond k (done W C r) (insert_round_at n W C r x P (par W P) (eqb (kid W true (par W P)) P))) (done W C r)))).words
      go true j k = λ a. refl
      go false false k = λ a. refl
      go false true true = λ a. refl
      go false true false = follows_at W C r x P (par W P) (eqb (kid W true (par W P)) P)

  follows_insert_repair : (rounds : ℕ) (W C : List ℕ) (r x : ℕ) → Follows n W (insert_repair_hulls n rounds W C r x) (ending (insert_repair_lem n rounds W C r x)).words
  follows_insert_repair = follows_loop (insert_round n) (insert_round_hulls n) n follows_round

-- hanging the new node leaves every old hull
pub hung_stays : (W : List ℕ) (n : ℕ) (e : Entry) (p a : ℕ) → a ≢ n → hull (hung_words W n e p) a ≡ hull W a
hung_stays W n e p a d = kept_hull W (hung_words W n e p) a (kept_hung W n e p a d)

-- and "The new node starts with its own interval as hull": it is set and not worked out
pub hung_own : (W : List ℕ) (n : ℕ) (e : Entry) (p : ℕ) → Has W n → hull (hung_words W n e p) n ≡ own e
unfolding hung_node
hung_own W n e p fit =
    let Z : List ℕ = hung_node W n e p in
    let z : hull Z n ≡ own e = hull_put_node W n e (own e) U U p fit in
    by_hung W n e p (λ Y. hull Y n ≡ own e)
    (λ h. kept_hull Z (put_kid Z (goes_left_lem W (own e) p) p n) n (λ f q. word_put_field Z (Child (goes_left_lem W (own e) p)) p n in_links f n refl q) ∙ z) z

-- on any words: from the new node on, the hulls that are worked out are all that change
pub reached : (W C : List ℕ) (n r : ℕ) (e : Entry)
    → Follows (n + 1) (hung_words W n e (under n W r (own e))) (insert_hulls W C n r e) (insert_rule W C n r e).words
unfolding insert_hulls insert_at_hulls insert_rule insert_at_lem hung
reached W C n r e =
    let p : ℕ = under n W r (own e) in
    let X : List ℕ = hung_words W n e p in
    let t : Store = ending (insert_repair_lem (n + 1) 32 X (paint C n true) (hung_root n r p) n) in
    then (n + 1) X t.words (insert_repair_hulls (n + 1) 32 X (paint C n true) (hung_root n r p) n) (up_hulls (n + 1) 32 t.words n) (insert_rule W C n r e).words
    (follows_insert_repair (n + 1) 32 X (paint C n true) (hung_root n r p) n) (follows_up (n + 1) 32 t.words n)

-- how much it can be, on any words: a round works out four hulls at the most
module _ (n : ℕ) where
  round_four : (W C : List ℕ) (x : ℕ) → length (insert_round_hulls n W C x) ≤ 4
  unfolding insert_round_hulls insert_round_below_hulls insert_round_at_hulls inner_hulls outer_hulls rotated_hulls
  round_four W C x =
      by_link n (par W x) (λ l. length l ≤ 4) (λ P. cond (red C P) (insert_round_below_hulls n W C x P) []) []
      (λ h. below (par W x) (red C (par W x))) (λ h. omega arith)
    where
      at : (P G : ℕ) (b i j : Bool) → length (cond i [] (cond j (inner_hulls n W x b P G) (outer_hulls n W b P G))) ≤ 4
      at P G b true j = omega arith
      at P G b false true = omega arith
      at P G b false false = omega arith

      below : (P : ℕ) (t : Bool) → length (cond t (insert_round_below_hulls n W C x P) []) ≤ 4
      below P true =
          by_link n (par W P) (λ l. length l ≤ 4) (λ G. insert_round_at_hulls n W C x P G (eqb (kid W true G) P)) []
          (λ h. at P (par W P) (eqb (kid W true (par W P)) P) (red_at n C (kid W (not (eqb (kid W true (par W P)) P)) (par W P)))
          (eqb (kid W (not (eqb (kid W true (par W P)) P)) P) x))
          (λ h. omega arith)
      below P false = omega arith

  pub insert_round_le : (W C : List ℕ) (x : ℕ) → changes n (insert_round_hulls n W C x) ≤ 4
  insert_round_le W C x = omega (arith, changes_le n (insert_round_hulls n W C x), round_four W C x)

  pub insert_repair_most : (rounds : ℕ) (W C : List ℕ) (r x : ℕ) → changes n (insert_repair_hulls n rounds W C r x) ≤ rounds * 4
  insert_repair_most rounds W C r x =
      omega (arith, changes_le n (insert_repair_hulls n rounds W C r x), loop_most (insert_round n) (insert_round_hulls n) 4 round_four rounds W C r x)
