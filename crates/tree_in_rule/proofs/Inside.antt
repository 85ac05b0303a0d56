-- An insertion on any words, whatever they hold: it writes to slots up to the new one alone, and
-- moves no entry.
use mathlib.Core.Path.{◌≡◌, refl, ◌∙◌}
use mathlib.Core.Logic.{◌≢◌}
use mathlib.Core.Bool.{Bool, true, false, cond, not}
use mathlib.Core.List.{List}
use Prim.Native.Nat.{ℕ, ◌+◌, ◌<◌}
use native.Mathlib.Omega.{arith}
use lib.Dec.{eqb}
use Rattle.words.specs.Ix.{U}
use Rattle.words.specs.Nodes.{kid, par, entry, fix, Holds}
use Rattle.words.specs.declared.node.Entry.{Entry}
use Rattle.words.specs.declared.node.Field.TheVariants.{Child}
use Rattle.bitvec.specs.Colours.{red, paint, red_at}
use Rattle.tree_edit.specs.Rotations.{rotate}
use Rattle.tree_edit.specs.Rounds.{done, ending}
use Rattle.tree_edit.specs.Store.{Store, store}
use Rattle.tree_edit.specs.Inside.{Inside}
use Rattle.tree_edit.proofs.Carried.{kept_entry}
use Rattle.tree_edit.proofs.Links.{by_link, kept_rotate}
use Rattle.tree_edit.proofs.Upward.{entry_fix, entry_fix_up}
use Rattle.tree_edit.proofs.Low.{Low, low_trans, low_three, low_put, low_put_node, low_fix, low_fix_up, low_rotate, low_paint, low_colours_refl}
use Rattle.tree_edit.proofs.InPlace.{InPlace, in_place_refl, in_place_trans}
use Rattle.tree_edit.proofs.Colours.{red_slot}
use Rattle.tree_in_rule.specs.Descent.{goes_left_lem, under}
use Rattle.tree_in_rule.specs.InsertRepair.{rotated, outer, inner, recoloured, insert_round_at, insert_round_below, insert_round, insert_repair_lem}
use Rattle.tree_in_rule.specs.Insert.{own, hung_node, hung_words, hung, insert_at_lem, insert_rule}
use Rattle.tree_in_rule.proofs.HungWords.{by_hung, kept_hung, entry_hung}
use Rattle.tree_edit.proofs.Rounds.{NextIn, loop_in_place}

module _ (n : ℕ) where
  -- words rotated at P, and nothing painted
  steady_rotated : (W C : List ℕ) (r : ℕ) (b : Bool) (P S : ℕ) → P < n → S < n → InPlace n W C (store (rotated n W b P S) C r)
  unfolding rotated
  steady_rotated W C r b P S lp ls =
      let X : List ℕ = rotate n W b P S in
      record {
        words_in = low_three n W X _ _ (low_rotate n W b P S lp ls) (low_fix n X P lp) (low_fix n (fix n X P) S ls);
        colours_in = low_colours_refl n C;
        entries = λ a. entry_fix n (fix n X P) S a ∙ entry_fix n X P a ∙ kept_entry W X a (kept_rotate n W b P S a);
      }

  steady_paint : (W C D : List ℕ) (r q s : ℕ) (v : Bool) → s < n → InPlace n W C (store W D r) → InPlace n W C (store W (paint D s v) q)
  steady_paint W C D r q s v h m = record { words_in = m.words_in; colours_in = low_paint n C D s v h m.colours_in; entries = m.entries }

  steady_two : (W C : List ℕ) (r s a : ℕ) (v w : Bool) → s < n → a < n → InPlace n W C (store W (paint (paint C s v) a w) r)
  steady_two W C r s a v w p q = steady_paint W C (paint C s v) r r a w q (steady_paint W C C r r s v p (in_place_refl n W C r))

  steady_outer : (W C : List ℕ) (r : ℕ) (b : Bool) (P G : ℕ) → P < n → G < n → InPlace n W C (ending (outer n W C r b P G))
  unfolding outer
  steady_outer W C r b P G lp lg =
      in_place_trans n W C (store (rotated n W (not b) G P) C r) _ (steady_rotated W C r (not b) G P lg lp) (steady_two _ C _ P G false true lp lg)

  steady_inner : (W C : List ℕ) (r x : ℕ) (b : Bool) (P G : ℕ) → x < n → P < n → G < n → InPlace n W C (ending (inner n W C r x b P G))
  unfolding inner
  steady_inner W C r x b P G lx lp lg =
      in_place_trans n W C (store (rotated n W b P x) C r) _ (steady_rotated W C r b P x lp lx) (steady_outer (rotated n W b P x) C r b x G lx lg)

  -- the loop stands at a slot
  abbrev Live : ℕ → Type 0
  Live x = x < n

  steady_at : (W C : List ℕ) (r x P G : ℕ) (b : Bool) → x < n → P < n → G < n → NextIn n Live W C (insert_round_at n W C r x P G b)
  unfolding insert_round_at recoloured outer inner
  steady_at W C r x P G b lx lp lg = go (red_at n C (kid W (not b) G)) refl (eqb (kid W (not b) P) x)
    where
      u : ℕ
      u = kid W (not b) G

      go : (k : Bool) → red_at n C u ≡ k → (i : Bool)
          → NextIn n Live W C (cond k (recoloured W C r P u G) (cond i (inner n W C r x b P G) (outer n W C r b P G)))
      go true e i = (steady_paint W C _ r r G true lg (steady_two W C r P u false false lp (red_slot n C u e)), lg)
      go false e true = steady_inner W C r x b P G lx lp lg
      go false e false = steady_outer W C r b P G lp lg

  steady_round : (W C : List ℕ) (r x : ℕ) → x < n → NextIn n Live W C (insert_round n W C r x)
  unfolding insert_round insert_round_below
  steady_round W C r x lx =
      by_link n (par W x) (λ s. NextIn n Live W C s) (λ P. cond (red C P) (insert_round_below n W C r x P) (done W C r)) (done W (paint C x false) r)
      (λ lp. go (par W x) lp (red C (par W x)))
      (λ u. steady_paint W C C r r x false lx (in_place_refl n W C r))
    where
      go : (P : ℕ) → P < n → (k : Bool) → NextIn n Live W C (cond k (insert_round_below n W C r x P) (done W C r))
      go P lp true =
          by_link n (par W P) (λ s. NextIn n Live W C s) (λ G. insert_round_at n W C r x P G (eqb (kid W true G) P)) (done W C r)
          (λ lg. steady_at W C r x P (par W P) (eqb (kid W true (par W P)) P) lx lp lg)
          (λ u. in_place_refl n W C r)
      go P lp false = in_place_refl n W C r

  steady : (rounds : ℕ) (W C : List ℕ) (r x : ℕ) → x < n → InPlace n W C (ending (insert_repair_lem n rounds W C r x))
  steady = loop_in_place (insert_round n) n Live steady_round

-- the whole of it, where p is the slot to hang under
module _ (W C : List ℕ) (n r : ℕ) (e : Entry) where
  abbrev p : ℕ
  p = under n W r (own e)

  abbrev X : List ℕ
  X = hung_words W n e p

  abbrev S : Store
  S = ending (insert_repair_lem (n + 1) 32 X (paint C n true) (hung W C n r e p).root n)

  low_hung : Low (n + 1) W X
  unfolding hung_node
  low_hung =
      let z : Low (n + 1) W (hung_node W n e p) = low_put_node (n + 1) W n e (own e) U U p (omega arith) in
      by_hung W n e p (λ Y. Low (n + 1) W Y)
      (λ h. low_trans (n + 1) W (hung_node W n e p) _ z (low_put (n + 1) _ (Child (goes_left_lem W (own e) p)) p n (omega arith))) z

  repaired : InPlace (n + 1) X (paint C n true) S
  repaired = steady (n + 1) 32 X (paint C n true) _ n (omega arith)

  -- lengths stay, and what lies above the new slot
  pub inserted_inside : Inside (n + 1) W C (insert_rule W C n r e)
  unfolding insert_rule insert_at_lem hung
  inserted_inside =
      let l : Low (n + 1) W (insert_rule W C n r e).words =
      low_three (n + 1) W X S.words _ low_hung repaired.words_in (low_fix_up (n + 1) 32 S.words n) in
      let d = low_paint (n + 1) C C n true (omega arith) (low_colours_refl (n + 1) C) in
      record {
        words_length = l.0;
        colours_length = repaired.colours_in.0 ∙ d.0;
        words_kept = l.1;
        colours_kept = λ a u. repaired.colours_in.1 a u ∙ d.1 a u;
      }

  entries_are : (a : ℕ) → entry (insert_rule W C n r e).words a ≡ entry X a
  unfolding insert_rule insert_at_lem hung
  entries_are a = entry_fix_up (n + 1) 32 S.words n a ∙ repaired.entries a

  -- "no old slot moves", and the new entry is in slot n
  pub entry_stays : (a : ℕ) → a ≢ n → entry (insert_rule W C n r e).words a ≡ entry W a
  entry_stays a d = entries_are a ∙ kept_entry W X a (kept_hung W n e p a d)

  pub entry_comes : Holds W (n + 1) → entry (insert_rule W C n r e).words n ≡ e
  entry_comes fit = entries_are n ∙ entry_hung W n e p (omega arith)
