-- The descent and the hanging of a new node, in the form that `search` takes.
use mathlib.Core.Path.{◌≡◌, refl, sym, ◌∙◌}
use mathlib.Core.Bool.{Bool, true}
use mathlib.Core.List.{List}
use Prim.Native.Nat.{ℕ, zero, suc, ◌+◌, ◌-◌, ◌<◌, ◌≤◌}
use native.Mathlib.Omega.{arith}
use Rattle.words.specs.Layouts.{kid_fits, Held}
use Rattle.words.proofs.Layouts.{slot_fits}
use Rattle.words.specs.Ix.{U, link_of}
use Rattle.words.specs.Nodes.{kid, put_kid, put_node_lem}
use Rattle.words.specs.declared.interval.Interval.{Interval}
use Rattle.std.specs.declared.option.Option.{Option}
use Rattle.std.specs.declared.option.Option.TheVariants.{Some, None}
use Rattle.words.specs.declared.node.Entry.{Entry}
use Rattle.words.proofs.Laws.{linked, slot_live}
use Rattle.bitvec.specs.Colours.{paint}
use Rattle.tree_edit.specs.Links.{fix_up}
use Rattle.tree_edit.specs.Store.{Store, store}
use Rattle.tree_edit.specs.Rounds.{ending}
use Rattle.tree_edit.specs.Reach.{changes, up_hulls}
use Rattle.tree_edit.proofs.Reached.{changes_append, changes_le, up_most}
use Rattle.tree_links.proofs.LinkLaws.{read_linked, read_unlinked, left_over}
use Rattle.tree_in_rule.specs.Descent.{goes_left_lem, descend, under}
use Rattle.tree_in_rule.specs.Insert.{own, hung_node, hung_words, hung_root, hung, insert_at_lem, insert_rule}
use Rattle.tree_in_rule.specs.InsertRepair.{insert_repair_lem}
use Rattle.tree_in_rule.specs.Reach.{insert_repair_hulls, insert_at_hulls, insert_hulls}
use Rattle.tree_in_rule.proofs.Reached.{insert_repair_most}

-- the way down after i steps of at most m
module _ (n : ℕ) (W : List ℕ) (x : Interval) (t k m i : ℕ) (e : t ≡ descend n (m - i) W x k) where
  module _ (w : ℕ) (l : Option ℕ) (p : w ≡ kid W (goes_left_lem W x k) k) (d : l ≡ link_of n w) where
    pub down_on : (s : ℕ) → l ≡ Some s → i < m → t ≡ descend n (m - (i + 1)) W x s
    unfolding descend
    down_on s q z =
        (rw (left_over m i z) at e)
        ∙ sym (read_linked (descend n (m - (i + 1)) W x s) n (kid W (goes_left_lem W x k) k) w l (λ (j : ℕ). descend n (m - (i + 1)) W x j) k p d s q refl)

    pub down_ends : l ≡ None → k ≡ t
    unfolding descend
    down_ends q = go (m - i) e
      where
        go : (h : ℕ) → t ≡ descend n h W x k → k ≡ t
        go zero f = sym f
        go (suc h) f = read_unlinked k n (kid W (goes_left_lem W x k) k) w l (λ (j : ℕ). descend n h W x j) k p d q refl ∙ sym f

  pub down_none : m ≤ i → k ≡ t
  unfolding descend
  down_none z = let y : m - i ≡ 0 = omega arith in sym (rw y at e)

-- the slot above has room in words with room for one node more
module _ (narrow : Bool) (n w s a : ℕ) (l : Option ℕ) (e : l ≡ link_of n w) (q : l ≡ Some s) (h : Held narrow (n + 1) a) where
  pub room_above : Held narrow (s + 1) a
  room_above = let z : s < n = slot_live n w s l e q in omega arith

  pub room_then : (b : ℕ) → b ≡ a → Held narrow (s + 1) b
  room_then b i = let z : s < n = slot_live n w s l e q in omega arith

-- the new slot fits in a child link
pub next_kid : (narrow : Bool) (n a : ℕ) → Held narrow (n + 1) a → kid_fits narrow n ≡ true
next_kid narrow n a h = slot_fits narrow n (omega arith)

-- the new node
pub node_is : (W X : List ℕ) (n : ℕ) (e : Entry) (i : Interval) (p : ℕ) → i ≡ own e → X ≡ put_node_lem W n e i U U p → X ≡ hung_node W n e p
unfolding hung_node
node_is W X n e i p f h = rw (← f) h

pub hung_words_lem : (W X Y : List ℕ) (n : ℕ) (e : Entry) (i : Interval) (p s : ℕ) (v : Bool) (l : Option ℕ) → l ≡ link_of n p → l ≡ Some s → i ≡ own e
    → v ≡ goes_left_lem W i s → X ≡ hung_node W n e p → Y ≡ put_kid X v s n → Y ≡ hung_words W n e p
unfolding hung_words
hung_words_lem W X Y n e i p s v l d q f g h j =
    linked Y n p s l (λ (k : ℕ). put_kid (hung_node W n e p) (goes_left_lem W (own e) k) k n) (hung_node W n e p) d q (rw (← f, ← g, ← h) j)

pub hung_is : (W C X D : List ℕ) (n r q : ℕ) (e : Entry) (p : ℕ) → D ≡ paint C n true → q ≡ hung_root n r p → X ≡ hung_words W n e p
    → store X D q ≡ hung W C n r e p
unfolding hung
hung_is W C X D n r q e p f g h = rw (← f, ← g, ← h)

-- the new node hangs in S, and the repair and the walk upward come after it
module _ (W C X D Y : List ℕ) (n r q p : ℕ) (e : Entry) (h : store X D q ≡ hung W C n r e p) where
  pub insert_at_is : (Z B : List ℕ) (t : ℕ) → store Y B t ≡ ending (insert_repair_lem (n + 1) 32 X D q n) → Z ≡ fix_up (n + 1) 32 Y n
      → store Z B t ≡ insert_at_lem W C n r e p
  unfolding insert_at_lem
  insert_at_is Z B t f g = rw (← h, ← f, ← g)

  pub insert_at_changes : (B : List ℕ) (t j k : ℕ) → store Y B t ≡ ending (insert_repair_lem (n + 1) 32 X D q n)
      → j ≡ changes (n + 1) (insert_repair_hulls (n + 1) 32 X D q n) → k ≡ changes (n + 1) (up_hulls (n + 1) 32 Y n)
      → j + k ≡ changes (n + 1) (insert_at_hulls W C n r e p)
  unfolding insert_at_hulls
  insert_at_changes B t j k f g i =
      rw (← h, ← f, changes_append (n + 1) (insert_repair_hulls (n + 1) 32 X D q n) (up_hulls (n + 1) 32 Y n), ← g, ← i)

-- how many hulls each of the two can change
pub repair_few : (n : ℕ) (X D : List ℕ) (q x j : ℕ) → j ≡ changes n (insert_repair_hulls n 32 X D q x) → j ≤ 128
repair_few n X D q x j e = omega (arith, insert_repair_most n 32 X D q x)

pub walk_few : (n : ℕ) (Y : List ℕ) (x k : ℕ) → k ≡ changes n (up_hulls n 32 Y x) → k ≤ 32
walk_few n Y x k e = omega (arith, changes_le n (up_hulls n 32 Y x), up_most n 32 Y x)

-- the whole insertion
module _ (W C : List ℕ) (n r p : ℕ) (e : Entry) (i : Interval) (f : i ≡ own e) (g : p ≡ under n W r i) where
  pub insert_is : (S : Store) → S ≡ insert_at_lem W C n r e p → S ≡ insert_rule W C n r e
  unfolding insert_rule
  insert_is S j = rw (← f, ← g) j

  pub insert_changes : (k : ℕ) → k ≡ changes (n + 1) (insert_at_hulls W C n r e p) → k ≡ changes (n + 1) (insert_hulls W C n r e)
  unfolding insert_hulls
  insert_changes k j = rw (← f, ← g) j
