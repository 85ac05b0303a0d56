-- A removal writes to slots below the count alone, whatever the words hold.
use mathlib.Core.Path.{◌≡◌, refl, sym, ap, ◌∙◌}
use mathlib.Core.Bool.{Bool, true, false, cond}
use mathlib.Core.List.{List}
use Prim.Native.Nat.{ℕ, zero, suc, ◌-◌, ◌<◌}
use native.Mathlib.Omega.{arith}
use lib.Dec.{eqb, leb}
use borrow.Author.Tests.{leb-false}
use Rattle.words.specs.Ix.{U}
use Rattle.words.specs.Nodes.{word, value, kid, put_kid, swap, Has, Holds}
use Rattle.words.proofs.Nodes.{length_put_node, word_put_node_slot, entry_put_node, hull_put_node, kid_put_node, par_put_node}
use Rattle.words.specs.declared.interval.Interval.{Interval}
use Rattle.words.specs.declared.node.Entry.{Entry}
use Rattle.words.specs.declared.node.Field.{Field}
use Rattle.words.specs.declared.node.Field.TheVariants.{Start, End, Value, HullStart, HullEnd, Child, Parent}
use Rattle.bitvec.specs.Colours.{red, paint}
use Rattle.tree_edit.specs.Links.{redirected, remove_child_lem, fix_up, leftmost}
use Rattle.tree_rm_rule.specs.Pairs.{moved_to, emptied, moved}
use Rattle.tree_rm_rule.specs.Remove.{vacated, exchanged, child, restructure, handed, above, cut_words, cut_root, relinked, blank, cleared, swap_remove_lem, remove_rule, copied, cut_words_with, finish_with, remove_from_with, remove_with, vacated_with}
use Rattle.tree_edit.specs.Store.{Store, store}
use Rattle.tree_edit.specs.Inside.{Inside}
use Rattle.tree_rm_rule.specs.Corrected.{swap_remove_01, finish_01, remove_from_01, remove_rule_01, blank_word, Corrected}
use Rattle.words.specs.declared.pair.Pairs.{Pairs}
use Rattle.tree_edit.proofs.Links.{by_link}
use Rattle.tree_rm_rule.proofs.Steps.{emptied_live}
use Rattle.tree_edit.proofs.Low.{Low, low_refl, low_trans, low_put, low_link, low_fix_up, low_swap, low_three, LowColours, low_colours_refl, low_paint, low_adopt, low_redirect, low_put_node}
use Rattle.tree_rm_rule.proofs.RepairInPlace.{restructure_in_place}

module _ (n : ℕ) where
  low_cleared : (W : List ℕ) (z : ℕ) → z < n → Low n W (cleared W z)
  unfolding cleared
  low_cleared W z h = low_put_node n W z _ _ _ _ _ h

  low_relinked : (W : List ℕ) (z v : ℕ) → v < n → Low n W (relinked n W z v)
  unfolding relinked copied
  low_relinked W z v h =
      low_three n W _ _ _ (low_put_node n W v _ _ _ _ _ h) (low_adopt n _ _ _) (low_trans n _ _ _ (low_adopt n _ _ _) (low_redirect n _ _ _ _))

  -- the steps after it
  low_handed : (W : List ℕ) (x y : ℕ) → x < n → Low n W (handed n W x y)
  unfolding handed
  low_handed W x y h = low_link n W y (λ s. swap W x s) (low_swap n W x y h)

  low_cut_words : (W : List ℕ) (g v : ℕ) → Low n W (cut_words n W g v)
  unfolding cut_words_with remove_child_lem redirected
  low_cut_words W g v =
      low_link n W g (λ s. fix_up n 32 (put_kid W (eqb (kid W true s) v) s U) s)
      (λ h. low_trans n W (put_kid W (eqb (kid W true g) v) g U) _ (low_put n W (Child (eqb (kid W true g) v)) g U h) (low_fix_up n 32 _ g))

  inside_swap_remove : (W C : List ℕ) (r z v : ℕ) → z < n → v < n → Inside n W C (swap_remove_lem n W C r z v)
  unfolding swap_remove_lem
  inside_swap_remove W C r z v lz lv = go (eqb v z)
    where
      a : Low n W (cleared W z)
      a = low_cleared W z lz

      b : Low n W (cleared (relinked n W z v) z)
      b = low_trans n W (relinked n W z v) _ (low_relinked W z v lv) (low_cleared (relinked n W z v) z lz)

      d : LowColours n C (paint C v (red C z))
      d = low_paint n C C v (red C z) lv (low_colours_refl n C)

      go : (t : Bool) → Inside n W C (cond t (store (cleared W z) C r) (store (cleared (relinked n W z v) z) (paint C v (red C z)) (moved_to z v r)))
      go true = record { words_length = a.0; colours_length = refl; words_kept = a.1; colours_kept = λ a u. refl }
      go false = record { words_length = b.0; colours_length = d.0; words_kept = b.1; colours_kept = d.1 }

  pub low_exchanged : (W : List ℕ) (s x : ℕ) → s < n → x < n → Low n W (exchanged W s x)
  unfolding exchanged
  low_exchanged W s x ls lx = go (eqb x s)
    where
      go : (t : Bool) → Low n W (cond t W (swap W s x))
      go true = low_refl n W
      go false = low_swap n W s x ls lx

  pub leftmost_live : (height : ℕ) (W : List ℕ) (k : ℕ) → k < n → leftmost n height W k < n
  unfolding leftmost
  leftmost_live zero W k h = h
  leftmost_live (suc height) W k h =
      by_link n (kid W true k) (λ m. m < n) (λ s. leftmost n height W s) k (leftmost_live height W (kid W true k)) (λ u. h)

  pub vacated_live : (W : List ℕ) (s : ℕ) → s < n → vacated n W s < n
  unfolding vacated_with
  vacated_live W s h = go (leb n (kid W false s)) refl
    where
      go : (t : Bool) → leb n (kid W false s) ≡ t → cond t s (leftmost n 32 W (kid W false s)) < n
      go true e = h
      go false e = leftmost_live 32 W (kid W false s) (leb-false n (kid W false s) e)

-- a slot without an entry
word_blank : (k : ℕ) (W : List ℕ) (z : ℕ) → Has W z → (f : Field) → word (blank k W z) f z ≡ blank_word k f
word_blank k W z m Start = ap (λ (e : Entry). e.start) (entry_put_node W z _ _ _ _ _ m)
word_blank k W z m End = ap (λ (e : Entry). e.end) (entry_put_node W z _ _ _ _ _ m)
word_blank k W z m Value = ap (λ (e : Entry). e.value) (entry_put_node W z _ _ _ _ _ m)
word_blank k W z m HullStart = ap (λ (i : Interval). i.start) (hull_put_node W z _ _ _ _ _ m)
word_blank k W z m HullEnd = ap (λ (i : Interval). i.end) (hull_put_node W z _ _ _ _ _ m)
word_blank k W z m (Child true) = kid_put_node W z _ _ _ _ _ true m
word_blank k W z m (Child false) = kid_put_node W z _ _ _ _ _ false m
word_blank k W z m Parent = par_put_node W z _ _ _ _ _ m

-- the move of the last slot, for a removal with a value and pairs
corrected_move : (n : ℕ) (W C : List ℕ) (r z v x : ℕ) (p : Pairs) → z ≡ n - 1 → v < n → Has W z
    → Corrected n (record { store = swap_remove_01 n W C r z v; value = x; pairs = p }) (record { store = swap_remove_lem n W C r z v; value = x; pairs = p })
unfolding swap_remove_lem swap_remove_01 cleared
corrected_move n W C r z v x p last lv m = go (eqb v z)
  where
    both : (Y D : List ℕ) (q : ℕ) → Has Y z
        → Corrected n (record { store = store (blank 0 Y z) D q; value = x; pairs = p }) (record { store = store (blank U Y z) D q; value = x; pairs = p })
    both Y D q u = record {
      value_same = refl;
      pairs_same = refl;
      root_same = refl;
      colours_same = refl;
      length_same = length_put_node Y z _ _ _ _ _ ∙ sym (length_put_node Y z _ _ _ _ _);
      words_same = λ f a d. word_put_node_slot Y z _ _ _ _ _ f a (rw last d) ∙ sym (word_put_node_slot Y z _ _ _ _ _ f a (rw last d));
      last_was = λ f. rw (sym last) (word_blank 0 Y z u f);
      last_is = λ f. rw (sym last) (word_blank U Y z u f);
    }

    go : (t : Bool)
        → Corrected n
        (record { store = cond t (store (blank 0 W z) C r) (store (blank 0 (relinked n W z v) z) (paint C v (red C z)) (moved_to z v r)); value = x; pairs = p })
        (record { store = cond t (store (blank U W z) C r) (store (blank U (relinked n W z v) z) (paint C v (red C z)) (moved_to z v r)); value = x; pairs = p })
    go true = both W C r m
    go false = both (relinked n W z v) (paint C v (red C z)) (moved_to z v r) (rw (low_relinked n W z v lv).0 m)

module _ (W C : List ℕ) (n r s : ℕ) (ls : s < n) where
  abbrev x : ℕ
  x = vacated n W s

  abbrev X : List ℕ
  X = exchanged W s x

  abbrev y : ℕ
  y = child X x

  abbrev S : Store
  S = restructure n X C r x y

  abbrev g : ℕ
  g = above n S.words x y

  abbrev v : ℕ
  v = emptied n x y

  abbrev Z : List ℕ
  Z = cut_words n (handed n S.words x y) g v

  live_v : v < n
  live_v = emptied_live n x y (vacated_live n W s ls)

  -- up to the move of the last slot
  low_Z : Low n W Z
  low_Z =
      let lx : x < n = vacated_live n W s ls in
      low_three n W X S.words Z (low_exchanged n W s x ls lx) (restructure_in_place n X C r x y).words_in
      (low_trans n S.words (handed n S.words x y) Z (low_handed n S.words x y lx) (low_cut_words n (handed n S.words x y) g v))

  -- lengths stay, and what lies from the count up
  pub removed_inside : Inside n W C (remove_rule W C n r s).store
  unfolding remove_with remove_from_with finish_with
  removed_inside =
      let m = restructure_in_place n X C r x y in
      let q = inside_swap_remove n Z S.colours (cut_root n S.root g) (n - 1) v (omega arith) live_v in
      record {
        words_length = q.words_length ∙ low_Z.0;
        colours_length = q.colours_length ∙ m.colours_in.0;
        words_kept = λ f a u. q.words_kept f a u ∙ low_Z.1 f a u;
        colours_kept = λ a u. q.colours_kept a u ∙ m.colours_in.1 a u;
      }

  -- document 02's item 2 changes the three links of the old last slot, and nothing else
  pub corrected : Holds W n → Corrected n (remove_rule_01 W C n r s) (remove_rule W C n r s)
  unfolding remove_with remove_from_with finish_with remove_rule_01 remove_from_01 finish_01
  corrected fit =
      let m : Holds Z n = rw low_Z.0 fit in
      corrected_move n Z S.colours (cut_root n S.root g) (n - 1) v (value Z v) (moved n (n - 1) s x y) refl live_v (omega arith)
