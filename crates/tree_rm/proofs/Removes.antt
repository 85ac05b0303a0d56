-- The steps of a removal, in the form that `search` takes.
use mathlib.Core.Path.{◌≡◌, refl, ap, ◌∙◌}
use mathlib.Core.Bool.{Bool, true, false, ◌||◌}
use mathlib.Core.List.{List}
use Prim.Native.Nat.{ℕ, ◌+◌, ◌-◌, ◌<◌, ◌≤◌, min}
use native.Mathlib.Omega.{arith}
use lib.Dec.{leb}
use borrow.Author.Tests.{lt-leb, leb-false, eq-eqb, ne_eqb}
use Rattle.words.specs.Ix.{link_of, on_link}
use Rattle.words.specs.Nodes.{value, kid, par, hull, entry, put_node_lem, swap}
use Rattle.words.specs.declared.interval.Interval.{Interval}
use Rattle.std.specs.declared.option.Option.{Option}
use Rattle.std.specs.declared.option.Option.TheVariants.{Some, None}
use Rattle.words.specs.declared.node.Entry.{Entry}
use Rattle.words.proofs.Laws.{unlinked, slot_live}
use Rattle.bitvec.specs.Colours.{red, paint}
use Rattle.words.specs.declared.pair.Pairs.{Pairs}
use Rattle.tree_edit.specs.Links.{adopt, remove_child_lem, redirect, fix_up, leftmost}
use Rattle.tree_rm_rule.specs.Pairs.{moved_to, emptied, moved}
use Rattle.tree_rm_rule.specs.Remove.{vacated, restructure, exchanged, child, handed, above, cut_words, cut_root, copied, relinked, cleared, swap_remove_lem, Removed, finish, remove_from_lem, remove_rule, cut_words_with, finish_with, remove_from_with, remove_with, vacated_with}
use Rattle.tree_edit.specs.Store.{store}
use Rattle.tree_edit.specs.Reach.{changes, up_hulls}
use Rattle.tree_rm_rule.specs.Reach.{cut_hulls, restructure_hulls, vacate_hulls, remove_hulls_from, remove_hulls}
use Rattle.tree_edit.proofs.Reached.{changes_append}
use Rattle.tree_rm_rule.proofs.Reached.{cut_most, restructure_most}
use Rattle.tree_links.proofs.LinkLaws.{slot_is, read_linked, hulls_linked}

-- the test of the right link, which stands there twice
once : (t u : Bool) → (t || t) ≡ u → t ≡ u
once true u e = e
once false u e = e

pub right_there : (n l : ℕ) → (leb n l || leb n l) ≡ false → l < n
right_there n l e = leb-false n l (once (leb n l) false e)

module _ (n : ℕ) (W : List ℕ) (s l : ℕ) (e : l ≡ kid W false s) where
  pub goes_down : (r : ℕ) → (leb n l || leb n l) ≡ false → r ≡ leftmost n 32 W l → r ≡ vacated n W s
  unfolding vacated_with
  goes_down r q p = rw (← e, once (leb n l) false q) p

  pub stays_here : (leb n l || leb n l) ≡ true → s ≡ vacated n W s
  unfolding vacated_with
  stays_here q = rw (← e, once (leb n l) true q)

-- the least of the two links
pub child_is : (W : List ℕ) (x l r m : ℕ) → l ≡ kid W true x → r ≡ kid W false x → m ≡ min l r → m ≡ child W x
unfolding child
child_is W x l r m e f q = rw (← e, ← f) q

-- a slot is cut off below the link word g
pub cut_is : (n g w s v : ℕ) (W X Y : List ℕ) (l : Option ℕ) → w ≡ g → l ≡ link_of n w → l ≡ Some s → X ≡ remove_child_lem W s v → Y ≡ fix_up n 32 X s → Y ≡ cut_words n W g v
unfolding cut_words_with
cut_is n g w s v W X Y l e p q f h =
    read_linked Y n g w l (λ (x : ℕ). fix_up n 32 (remove_child_lem W x v) x) W e p s q (h ∙ ap (λ (Z : List ℕ). fix_up n 32 Z s) f)

module _ (n : ℕ) (W : List ℕ) (x y : ℕ) (l : Option ℕ) (e : l ≡ link_of n y) where
  pub leaf_root : (r q : ℕ) → l ≡ None → q ≡ cut_root n r (par W x) → q ≡ cut_root n r (above n W x y)
  unfolding above
  leaf_root r q z d = rw (← unlinked (par W x) n y l (λ (s : ℕ). x) (par W x) e z refl) d

  pub leaf_words : (X : List ℕ) → l ≡ None → X ≡ cut_words n W (par W x) x → X ≡ cut_words n (handed n W x y) (above n W x y) (emptied n x y)
  unfolding above handed emptied
  leaf_words X z d =
      rw (
        ← unlinked (par W x) n y l (λ (s : ℕ). x) (par W x) e z refl,
        ← unlinked W n y l (λ (s : ℕ). swap W x s) W e z refl,
        ← unlinked x n y l (λ (s : ℕ). s) x e z refl,
      )
      d

  pub child_root : (s r : ℕ) → l ≡ Some s → x < n → r ≡ cut_root n r (above n W x y)
  unfolding above cut_root on_link
  child_root s r z h = rw (lt-leb n y (rw (slot_is n y s l e z) at (slot_live n y s l e z)), lt-leb n x h)

  pub child_words : (s : ℕ) (X Y Z : List ℕ) → l ≡ Some s → x < n → X ≡ swap W x s → Y ≡ remove_child_lem X x s → Z ≡ fix_up n 32 Y x
      → Z ≡ cut_words n (handed n W x y) (above n W x y) (emptied n x y)
  unfolding above handed emptied cut_words_with on_link
  child_words s X Y Z z h f g d =
      let i : s ≡ y = slot_is n y s l e z in
      let k : y < n = rw i at (slot_live n y s l e z) in
      rw (lt-leb n y k, lt-leb n x h) (cc)

-- how many hulls change
pub cut_changes : (n g w s v : ℕ) (W X : List ℕ) (l : Option ℕ) (k : ℕ) → w ≡ g → l ≡ link_of n w → l ≡ Some s → X ≡ remove_child_lem W s v → k ≡ changes n (up_hulls n 32 X s)
    → k ≡ changes n (cut_hulls n W g v)
unfolding cut_hulls
cut_changes n g w s v W X l k e p q f h =
    hulls_linked k n g w l (λ (x : ℕ). up_hulls n 32 (remove_child_lem W x v) x) e p s q (h ∙ ap (λ (Z : List ℕ). changes n (up_hulls n 32 Z s)) f)

module _ (n : ℕ) (W : List ℕ) (x y : ℕ) (l : Option ℕ) (e : l ≡ link_of n y) where
  pub leaf_changes : (k : ℕ) → l ≡ None → k ≡ changes n (cut_hulls n W (par W x) x) → k ≡ changes n (cut_hulls n (handed n W x y) (above n W x y) (emptied n x y))
  unfolding above handed emptied
  leaf_changes k z d =
      rw (
        ← unlinked (par W x) n y l (λ (s : ℕ). x) (par W x) e z refl,
        ← unlinked W n y l (λ (s : ℕ). swap W x s) W e z refl,
        ← unlinked x n y l (λ (s : ℕ). s) x e z refl,
      )
      d

  pub child_changes : (s : ℕ) (X Y : List ℕ) (k : ℕ) → l ≡ Some s → x < n → X ≡ swap W x s → Y ≡ remove_child_lem X x s → k ≡ changes n (up_hulls n 32 Y x)
      → k ≡ changes n (cut_hulls n (handed n W x y) (above n W x y) (emptied n x y))
  unfolding above handed emptied cut_hulls on_link
  child_changes s X Y k z h f g d =
      let i : s ≡ y = slot_is n y s l e z in
      let j : y < n = rw i at (slot_live n y s l e z) in
      rw (lt-leb n y j, lt-leb n x h) (cc)

pub cut_fits : (n : ℕ) (W : List ℕ) (g v b k : ℕ) → b ≤ 144 → k ≡ changes n (cut_hulls n W g v) → b + k < 18446744073709551616
cut_fits n W g v b k h e = omega (arith, cut_most n W g v)

pub repaired_most : (n : ℕ) (W C : List ℕ) (r x y k : ℕ) → k ≡ changes n (restructure_hulls n W C r x y) → k ≤ 144
repaired_most n W C r x y k e = omega (arith, restructure_most n W C r x y)

pub sum_is : (b k x : ℕ) → k ≡ x → b + k ≡ b + x
sum_is b k x e = rw e

pub vacate_changes : (n r x y top b k : ℕ) (W C W₁ C₁ : List ℕ) → store W₁ C₁ top ≡ restructure n W C r x y
    → b ≡ changes n (restructure_hulls n W C r x y) → k ≡ b + changes n (cut_hulls n (handed n W₁ x y) (above n W₁ x y) (emptied n x y))
    → k ≡ changes n (vacate_hulls n W C r x y)
unfolding vacate_hulls
vacate_changes n r x y top b k W C W₁ C₁ h i j =
    rw (← h, changes_append n (restructure_hulls n W C r x y) (cut_hulls n (handed n W₁ x y) (above n W₁ x y) (emptied n x y)), ← i) j

pub vacate_is : (n r s x y top : ℕ) (W C W₁ C₁ : List ℕ) (R : Removed) → store W₁ C₁ top ≡ restructure n W C r x y
    → R ≡ finish (store W₁ C₁ top) n s x y → R ≡ finish (restructure n W C r x y) n s x y
vacate_is n r s x y top W C W₁ C₁ R h i = rw (← h) i

pub from_changes : (n r s x y k : ℕ) (W C X : List ℕ) → X ≡ exchanged W s x → y ≡ child X x → k ≡ changes n (vacate_hulls n X C r x y)
    → k ≡ changes n (remove_hulls_from W C n r s x)
unfolding remove_hulls_from
from_changes n r s x y k W C X f g h = rw (← f, ← g) h

pub remove_changes : (n r s x k : ℕ) (W C : List ℕ) → x ≡ vacated n W s → k ≡ changes n (remove_hulls_from W C n r s x) → k ≡ changes n (remove_hulls W C n r s)
unfolding remove_hulls
remove_changes n r s x k W C e i = rw (← e) i

-- the last slot moves
pub copied_is : (W X : List ℕ) (z v left right up : ℕ) (e : Entry) (h : Interval) → left ≡ kid W true z → right ≡ kid W false z → up ≡ par W z
    → e ≡ entry W z → h ≡ hull W z → X ≡ put_node_lem W v e h left right up → X ≡ copied W z v
unfolding copied
copied_is W X z v left right up e h i j k f g q = rw (← i, ← j, ← k, ← f, ← g) q

pub relinked_is : (n : ℕ) (W W₁ W₂ W₃ W₄ : List ℕ) (z v left right up : ℕ) → left ≡ kid W true z → right ≡ kid W false z → up ≡ par W z
    → W₁ ≡ copied W z v → W₂ ≡ adopt n W₁ left v → W₃ ≡ adopt n W₂ right v → W₄ ≡ redirect n W₃ up z v → W₄ ≡ relinked n W z v
unfolding relinked
relinked_is n W W₁ W₂ W₃ W₄ z v left right up i j k e f g h = rw (← i, ← j, ← k, ← e, ← f, ← g) h

pub none_moves : (n : ℕ) (W C X : List ℕ) (r z v : ℕ) → v ≡ z → X ≡ cleared W z → store X C r ≡ swap_remove_lem n W C r z v
unfolding swap_remove_lem
none_moves n W C X r z v e q = rw (eq-eqb v z e) (ap (λ (Y : List ℕ). store Y C r) q)

pub last_moves : (n : ℕ) (W C W₁ W₂ C₁ : List ℕ) (r z v q : ℕ) → (v ≡ z → ⊥) → C₁ ≡ paint C v (red C z) → W₁ ≡ relinked n W z v → W₂ ≡ cleared W₁ z
    → q ≡ moved_to z v r → store W₂ C₁ q ≡ swap_remove_lem n W C r z v
unfolding swap_remove_lem
last_moves n W C W₁ W₂ C₁ r z v q h e f g i = rw (ne_eqb v z h) (cc)

-- the whole removal
pub finish_is : (n s x y : ℕ) (W C W₁ W₂ C₂ : List ℕ) (r v top item q : ℕ) (P : Pairs) → v ≡ emptied n x y → top ≡ cut_root n r (above n W x y)
    → W₁ ≡ cut_words n (handed n W x y) (above n W x y) (emptied n x y) → item ≡ value W₁ v → store W₂ C₂ q ≡ swap_remove_lem n W₁ C top (n - 1) v
    → P ≡ moved n (n - 1) s x y → record { store = store W₂ C₂ q; value = item; pairs = P } ≡ finish (store W C r) n s x y
unfolding finish_with
finish_is n s x y W C W₁ W₂ C₂ r v top item q P e f g h i j =
    let k : W₁ ≡ cut_words n (handed n W x y) (above n W x y) v = rw e g in
    rw (← e, ← f, ← k, ← h, ← i, ← j)

pub from_is : (n r s x y : ℕ) (W C X : List ℕ) (R : Removed) → X ≡ exchanged W s x → y ≡ child X x → R ≡ finish (restructure n X C r x y) n s x y
    → R ≡ remove_from_lem W C n r s x
unfolding remove_from_with
from_is n r s x y W C X R f g h = rw (← f, ← g) h

pub remove_is : (n r s x : ℕ) (W C : List ℕ) (R : Removed) → x ≡ vacated n W s → R ≡ remove_from_lem W C n r s x → R ≡ remove_rule W C n r s
unfolding remove_with
remove_is n r s x W C R e i = rw (← e) i
