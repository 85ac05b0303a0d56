-- Every node moves with its colour and its links, which are renamed; and nothing else changes.
use mathlib.Core.Path.{◌≡◌, refl, sym, ap, ◌∙◌}
use mathlib.Core.Logic.{◌≢◌}
use mathlib.Core.Bool.{Bool, true, false}
use mathlib.Core.List.{List}
use Prim.Native.Nat.{ℕ, zero, suc, ◌+◌, ◌*◌, ◌/◌, ◌%◌, ◌<◌, ◌≤◌}
use native.Mathlib.Omega.{arith}
use lib.Dec.{ltb}
use lib.ListN.{length, get_or}
use borrow.Author.Tests.{lt-ltb, le-ltb}
use Rattle.words.specs.Nodes.{word, kid, par}
use Rattle.words.specs.Layouts.{narrowed, widened}
use Rattle.words.specs.declared.node.Field.{Field}
use Rattle.words.specs.declared.node.Field.TheVariants.{Start, End, Value, HullStart, HullEnd, Child, Parent}
use Rattle.words.proofs.Nodes.{length_put, word_put, word_put_slot, word_put_field, in_links, in_parent, kid_put_par, par_put_kid, kid_put_kid_not}
use Rattle.bitvec.specs.Colours.{red}
use Rattle.tree.proofs.Cases.{compare}
use Rattle.tree.proofs.Slots.{hit_cases, hit_zero}
use Rattle.tidy_rule.specs.Plan.{renamed}
use Rattle.tidy_rule.specs.Tidy.{with_tag, rename_kid, tag_node_lem, tagged, tag, Both, settle, untag_node_lem, untagged, tidied}
use Rattle.tidy_rule.specs.Tidied.{Tidied}
use Rattle.tidy_rule.proofs.Plans.{Fits, plan_low, plan_one, renamed_cases}
use Rattle.tidy_rule.proofs.Settles.{Like, Shuffled, Tags, misses_le, settles}

-- a number as a parent word, and back
narrow_wide : (x : ℕ) → narrowed (widened x) ≡ x
unfolding narrowed widened
narrow_wide x =
    compare 65535 x
    (λ h. rw (le-ltb x 65535 h) (rw (le-ltb (x + 4294901760) 65535 (omega arith)) (omega arith)))
    (λ h. let z : ltb x 65535 ≡ true = lt-ltb x 65535 h in rw (z, z) refl)

high : (x y : ℕ) → x < 65536 → (x + y * 65536) / 65536 ≡ y
high x y h = omega arith

low : (x y : ℕ) → x < 65536 → (x + y * 65536) % 65536 ≡ x
low x y h = omega arith

module _ (n : ℕ) (P : List ℕ) where
  -- one node
  module _ (W : List ℕ) (s : ℕ) where
    abbrev K : List ℕ
    K = rename_kid n P W true s

    abbrev L : List ℕ
    L = rename_kid n P K false s

    length_links : length L ≡ length W
    unfolding rename_kid
    length_links = simp length_put

    length_tag_node : length (tag_node_lem n P W s) ≡ length W
    unfolding tag_node_lem
    length_tag_node = length_put L Parent s _ ∙ length_links

    tag_node_slot : (f : Field) (a : ℕ) → a ≢ s → word (tag_node_lem n P W s) f a ≡ word W f a
    unfolding tag_node_lem rename_kid
    tag_node_slot f a d = simp word_put_slot

    tag_node_field : (f : Field) (a : ℕ) → in_links f ≡ false → word (tag_node_lem n P W s) f a ≡ word W f a
    unfolding tag_node_lem rename_kid
    tag_node_field f a q =
        word_put_field _ Parent s _ in_links f a refl q ∙ word_put_field _ (Child false) s _ in_links f a refl q
        ∙ word_put_field W (Child true) s _ in_links f a refl q

    tag_node_kid : s * 8 + 8 ≤ length W → (b : Bool) → kid (tag_node_lem n P W s) b s ≡ renamed n P (kid W b s)
    unfolding tag_node_lem rename_kid
    tag_node_kid m true =
        kid_put_par L s _ true s ∙ kid_put_kid_not K s (renamed n P (kid K false s)) true s
        ∙ word_put W (Child true) s (renamed n P (kid W true s)) m
    tag_node_kid m false =
        kid_put_par L s _ false s ∙ word_put K (Child false) s (renamed n P (kid K false s)) (rw length_put m)
        ∙ ap (renamed n P) (kid_put_kid_not W s (renamed n P (kid W true s)) false s)

    par_links : par L s ≡ par W s
    unfolding rename_kid
    par_links = par_put_kid K false s _ s ∙ par_put_kid W true s _ s

    tag_node_par : s * 8 + 8 ≤ length W → par (tag_node_lem n P W s) s ≡ with_tag (renamed n P (par W s)) (get_or P s 0)
    unfolding tag_node_lem
    tag_node_par m =
        word_put L Parent s (with_tag (renamed n P (par L s)) (get_or P s 0)) (rw length_links m)
        ∙ ap (λ (k : ℕ). with_tag (renamed n P k) (get_or P s 0)) par_links

  -- all of them
  module _ (W : List ℕ) where
    length_tagged : (m : ℕ) → length (tagged n P m W) ≡ length W
    unfolding tagged
    length_tagged zero = refl
    length_tagged (suc m) = length_tag_node (tagged n P m W) m ∙ length_tagged m

    tagged_field : (m : ℕ) (f : Field) (a : ℕ) → in_links f ≡ false → word (tagged n P m W) f a ≡ word W f a
    unfolding tagged
    tagged_field zero f a q = refl
    tagged_field (suc m) f a q = tag_node_field (tagged n P m W) m f a q ∙ tagged_field m f a q

    tagged_above : (m : ℕ) (f : Field) (a : ℕ) → m ≤ a → word (tagged n P m W) f a ≡ word W f a
    unfolding tagged
    tagged_above zero f a h = refl
    tagged_above (suc m) f a h =
        let d : a ≢ m = omega arith in
        tag_node_slot (tagged n P m W) m f a d ∙ tagged_above m f a (omega arith)

    tagged_kid : (m : ℕ) → m * 8 ≤ length W → (b : Bool) (s : ℕ) → s < m → kid (tagged n P m W) b s ≡ renamed n P (kid W b s)
    unfolding tagged
    tagged_kid zero fit b s h = absurd (omega arith)
    tagged_kid (suc m) fit b s h =
        hit_cases s m
        (λ e. rw e (tag_node_kid (tagged n P m W) m (rw (length_tagged m) (omega arith)) b ∙ ap (renamed n P) (tagged_above m (Child b) m (omega arith))))
        (λ z. let d : s ≢ m = hit_zero s m z in tag_node_slot (tagged n P m W) m (Child b) s d ∙ tagged_kid m (omega arith) b s (omega arith))

    tagged_par : (m : ℕ) → m * 8 ≤ length W → (s : ℕ) → s < m → par (tagged n P m W) s ≡ with_tag (renamed n P (par W s)) (get_or P s 0)
    unfolding tagged
    tagged_par zero fit s h = absurd (omega arith)
    tagged_par (suc m) fit s h =
        hit_cases s m
        (λ e. rw e (tag_node_par (tagged n P m W) m (rw (length_tagged m) (omega arith))
        ∙ ap (λ (k : ℕ). with_tag (renamed n P k) (get_or P m 0)) (tagged_above m Parent m (omega arith))))
        (λ z. let d : s ≢ m = hit_zero s m z in tag_node_slot (tagged n P m W) m Parent s d ∙ tagged_par m (omega arith) s (omega arith))

-- the numbers taken away
module _ (W : List ℕ) where
  length_untagged : (m : ℕ) → length (untagged m W) ≡ length W
  unfolding untagged untag_node_lem
  length_untagged zero = refl
  length_untagged (suc m) = length_put (untagged m W) Parent m (widened (narrowed (par (untagged m W) m) % 65536)) ∙ length_untagged m

  untagged_field : (m : ℕ) (f : Field) (a : ℕ) → in_parent f ≡ false → word (untagged m W) f a ≡ word W f a
  unfolding untagged untag_node_lem
  untagged_field zero f a q = refl
  untagged_field (suc m) f a q = word_put_field (untagged m W) Parent m _ in_parent f a refl q ∙ untagged_field m f a q

  untagged_above : (m : ℕ) (f : Field) (a : ℕ) → m ≤ a → word (untagged m W) f a ≡ word W f a
  unfolding untagged untag_node_lem
  untagged_above zero f a h = refl
  untagged_above (suc m) f a h =
      let d : a ≢ m = omega arith in
      word_put_slot (untagged m W) Parent m _ f a d ∙ untagged_above m f a (omega arith)

  untagged_par : (m : ℕ) → m * 8 ≤ length W → (s : ℕ) → s < m → par (untagged m W) s ≡ widened (narrowed (par W s) % 65536)
  unfolding untagged untag_node_lem
  untagged_par zero fit s h = absurd (omega arith)
  untagged_par (suc m) fit s h =
      hit_cases s m
      (λ e. rw e (word_put (untagged m W) Parent m (widened (narrowed (par (untagged m W) m) % 65536)) (rw (length_untagged m) (omega arith))
      ∙ ap (λ (k : ℕ). widened (narrowed k % 65536)) (untagged_above m Parent m (omega arith))))
      (λ z. let d : s ≢ m = hit_zero s m z in word_put_slot (untagged m W) Parent m _ Parent s d ∙ untagged_par m (omega arith) s (omega arith))

module _ (n : ℕ) (P W C : List ℕ) (w : Fits n P) (small : n ≤ 65535) (fit : n * 8 ≤ length W) (bits : n ≤ length C * 8) where
  abbrev T : List ℕ
  T = tagged n P n W

  abbrev S : Both
  S = settle (n * 2) n 0 T C

  -- a renamed link in 16 bits, and back
  link_low : (k : ℕ) → narrowed (renamed n P k) < 65536
  unfolding narrowed
  link_low k =
      renamed_cases n P w k
      (λ q. let z : renamed n P k < 65535 = omega arith in rw (lt-ltb (renamed n P k) 65535 z) (omega arith))
      (λ e. rw e (omega arith))

  link_back : (k : ℕ) → widened (narrowed (renamed n P k)) ≡ renamed n P k
  unfolding narrowed widened
  link_back k =
      renamed_cases n P w k
      (λ q. let z : ltb (renamed n P k) 65535 ≡ true = lt-ltb (renamed n P k) 65535 (omega arith) in rw (z, z) refl)
      (λ e. rw e refl)

  tag_is : (s : ℕ) → s < n → tag T s ≡ get_or P s 0
  unfolding tag
  tag_is s h =
      ap (λ (k : ℕ). narrowed k / 65536) (tagged_par n P W n fit s h)
      ∙ ap (λ (k : ℕ). k / 65536) (narrow_wide (narrowed (renamed n P (par W s)) + get_or P s 0 * 65536))
      ∙ high (narrowed (renamed n P (par W s))) (get_or P s 0) (link_low (par W s))

  tags : Tags n T
  tags =
      record {
        low = λ s h. rw (tag_is s h) (plan_low n P w s h);
        one = λ s u h i e. plan_one n P w s u h i (sym (tag_is s h) ∙ e ∙ tag_is u i);
      }

  rest : Shuffled n T C S.words S.colours × ((s : ℕ) → s < n → tag S.words s ≡ s)
  rest =
      settles n (n * 2) 0 T C tags (rw (length_tagged n P W n) fit) bits (λ s h. absurd (omega arith)) (omega arith) (omega (arith, misses_le n T))

  -- slot P s has the node that slot s had
  home : (s : ℕ) → s < n → Like S.words (get_or P s 0) T s × (red S.colours (get_or P s 0) ≡ red C s)
  unfolding tag
  home s h =
      rest.0.from (get_or P s 0) (plan_low n P w s h) (λ o lo a b.
      let x : tag T o ≡ get_or P s 0 = sym (ap (λ (k : ℕ). narrowed k / 65536) (a Parent)) ∙ rest.1 (get_or P s 0) (plan_low n P w s h) in
      let e : o ≡ s = plan_one n P w o s lo h (sym (tag_is o lo) ∙ x) in
      (rw e at a, rw e at b))

  abbrev R : Both
  R = tidied n P W C

  room : n * 8 ≤ length S.words
  room = rw (rest.0.words_length ∙ length_tagged n P W n) fit

  field : (f : Field) → in_links f ≡ false → in_parent f ≡ false → (s : ℕ) → s < n → word R.words f (get_or P s 0) ≡ word W f s
  unfolding tidied
  field f q p s h = untagged_field S.words n f (get_or P s 0) p ∙ (home s h).0 f ∙ tagged_field n P W n f s q

  pub moved : Tidied n P W C R.words R.colours
  unfolding tidied
  moved =
      record {
        entries = λ s h. λ t. record { start = field Start refl refl s h t; end = field End refl refl s h t; value = field Value refl refl s h t };
        hulls = λ s h. λ t. record { start = field HullStart refl refl s h t; end = field HullEnd refl refl s h t };
        kids = λ b s h. untagged_field S.words n (Child b) (get_or P s 0) refl ∙ (home s h).0 (Child b) ∙ tagged_kid n P W n fit b s h;
        parents = λ s h. untagged_par S.words n room (get_or P s 0) (plan_low n P w s h)
            ∙ ap (λ (k : ℕ). widened (narrowed k % 65536)) ((home s h).0 Parent ∙ tagged_par n P W n fit s h)
            ∙ ap (λ (k : ℕ). widened (k % 65536)) (narrow_wide (narrowed (renamed n P (par W s)) + get_or P s 0 * 65536))
            ∙ ap widened (low (narrowed (renamed n P (par W s))) (get_or P s 0) (link_low (par W s))) ∙ link_back (par W s);
        colours = λ s h. (home s h).1;
        words_length = length_untagged S.words n ∙ rest.0.words_length ∙ length_tagged n P W n;
        colours_length = rest.0.colours_length;
        words_kept = λ f a h. untagged_above S.words n f a h ∙ rest.0.words_kept f a h ∙ tagged_above n P W n f a h;
        colours_kept = λ a h. rest.0.colours_kept a h;
      }
