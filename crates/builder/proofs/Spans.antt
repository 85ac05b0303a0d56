-- One step of each rule of a span: where it is empty, and where it has a root.
use mathlib.Core.Path.{◌≡◌, refl}
use mathlib.Core.List.{List, [], ◌∷◌, ◌++◌}
use Prim.Native.Nat.{ℕ, zero, suc, ◌+◌, ◌-◌, ◌*◌, ◌^◌, ◌<◌, ◌≤◌}
use native.Mathlib.Omega.{arith}
use native.Mathlib.Nat.{pow-suc}
use lib.Dec.{eqb}
use borrow.Author.Tests.{le-leb, lt-leb}
use Rattle.words.specs.Ix.{U}
use Rattle.words.specs.Intervals.{extended}
use Rattle.words.specs.Nodes.{put, put_entry_lem, put_hull_lem, put_node_lem}
use Rattle.words.specs.declared.interval.Interval.{Interval}
use Rattle.words.specs.declared.node.Entry.{Entry}
use Rattle.bitvec.specs.Colours.{paint}
use Rattle.builder.specs.Build.{center, root_of_lem, span_hull, root_hull, node_words_lem, root_words, span_words, painted}

pub node_words_law : (e : Entry) (h : Interval) (left right up : ℕ)
    → node_words_lem e h left right up ≡ e.start ∷ e.end ∷ e.value ∷ h.start ∷ h.end ∷ left ∷ right ∷ up ∷ []
unfolding put put_entry_lem put_hull_lem put_node_lem
node_words_law e h left right up = refl

pub root_none : (a b : ℕ) → b ≤ a → root_of_lem a b ≡ U
root_none a b h = rw (le-leb b a h)

pub root_some : (a b : ℕ) → a < b → root_of_lem a b ≡ center a b
root_some a b h = rw (lt-leb b a h)

-- each half of fewer than 2 ^ (f + 1) slots has fewer than 2 ^ f
module _ (a b f : ℕ) (few : b - a < 2 ^ suc f) (some : a < b) where
  pub few_left : center a b - a < 2 ^ f
  few_left = let p : 2 ^ suc f ≡ 2 ^ f * 2 = pow-suc 2 f in omega arith

  pub few_right : b - (center a b + 1) < 2 ^ f
  few_right = let p : 2 ^ suc f ≡ 2 ^ f * 2 = pow-suc 2 f in omega arith

module _ (S : List ℕ) where
  pub hull_none : (f a b : ℕ) (d : Interval) → b ≤ a → span_hull S f a b d ≡ d
  unfolding span_hull
  hull_none zero a b d h = refl
  hull_none (suc f) a b d h = rw (le-leb b a h)

  pub hull_some : (f a b : ℕ) (d : Interval) → a < b → span_hull S (suc f) a b d ≡ extended d (root_hull S f a b)
  unfolding span_hull
  hull_some f a b d h = rw (lt-leb b a h)

  pub words_none : (f a b p : ℕ) → b ≤ a → span_words S f a b p ≡ []
  unfolding span_words
  words_none zero a b p h = refl
  words_none (suc f) a b p h = rw (le-leb b a h)

  pub words_some : (f a b p : ℕ) → a < b
      → span_words S (suc f) a b p
      ≡ span_words S f a (center a b) (center a b) ++ (root_words S f a b p ++ span_words S f (center a b + 1) b (center a b))
  unfolding span_words
  words_some f a b p h = rw (lt-leb b a h)

pub painted_none : (f : ℕ) (C : List ℕ) (a b : ℕ) → b ≤ a → painted f C a b ≡ C
unfolding painted
painted_none zero C a b h = refl
painted_none (suc f) C a b h = rw (le-leb b a h)

pub painted_some : (f : ℕ) (C : List ℕ) (a b : ℕ) → a < b
    → painted (suc f) C a b ≡ painted f (painted f (paint C (center a b) (eqb f 0)) a (center a b)) (center a b + 1) b
unfolding painted
painted_some f C a b h = rw (lt-leb b a h)
