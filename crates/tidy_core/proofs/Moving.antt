-- The moves against their rule, in the form that `search` takes.
use mathlib.Core.Path.{◌≡◌, refl, sym, ap}
use mathlib.Core.Bool.{Bool, true, false, cond, ◌||◌, false≢true}
use mathlib.Core.List.{List}
use Prim.Native.Nat.{ℕ, zero, suc, ◌+◌, ◌-◌, ◌*◌, ◌<◌, ◌≤◌}
use native.Mathlib.Omega.{arith}
use native.Mathlib.Nat.{sub-zero}
use lib.Dec.{eqb, leb}
use borrow.Author.Tests.{lt-ltb, le-ltb, leb-false}
use Rattle.words.specs.Ix.{gone}
use Rattle.words.specs.Nodes.{kid, par, hull, entry, put_node_lem}
use Rattle.words.specs.declared.interval.Interval.{Interval}
use Rattle.words.specs.declared.node.Entry.{Entry}
use Rattle.bitvec.specs.Bits.{bit_at, set_bit}
use Rattle.tree_rm_rule.specs.Remove.{copied}
use Rattle.tree_links.proofs.LinkLaws.{left_over}
use Rattle.tidy_rule.specs.Tidy.{tagged, tag, swap_nodes_lem, swap_colours_lem, Both, settle, untagged, tidied}

-- an exchange
module _ (W X : List ℕ) (e : Entry) (h : Interval) (left right up : ℕ) where
  pub swapped_is : (Y : List ℕ) (i j : ℕ) → e ≡ entry W i → h ≡ hull W i → left ≡ kid W true i → right ≡ kid W false i → up ≡ par W i
      → X ≡ copied W j i → Y ≡ put_node_lem X j e h left right up → Y ≡ swap_nodes_lem W i j
  unfolding swap_nodes_lem copied
  swapped_is Y i j a b c d f q p = rw (← a, ← b, ← c, ← d, ← f, ← q) p

pub colours_is : (C D E : List ℕ) (i j : ℕ) (a b : Bool) → a ≡ bit_at C i → b ≡ bit_at C j → D ≡ set_bit C i b → E ≡ set_bit D j a → E ≡ swap_colours_lem C i j
unfolding swap_colours_lem
colours_is C D E i j a b p q r s = rw (← p, ← q, ← r) s

-- one turn
module _ {A : Type 0} (j k i n : ℕ) (r x y : A) (e : j ≡ k) where
  pub rests : (eqb j i || leb n j) ≡ true → r ≡ x → r ≡ cond (eqb k i || gone n k) x y
  rests t q = rw (← e, t) q

  pub goes : (eqb j i || leb n j) ≡ false → r ≡ y → r ≡ cond (eqb k i || gone n k) x y
  goes t q = rw (← e, t) q

module _ (W : List ℕ) (i n j : ℕ) (e : j ≡ tag W i) (t : (eqb j i || leb n j) ≡ false) where
  pub goes_nodes : (X : List ℕ) → X ≡ swap_nodes_lem W i j → X ≡ cond (eqb (tag W i) i || gone n (tag W i)) W (swap_nodes_lem W i (tag W i))
  goes_nodes X q = rw (← e, t) q

  pub goes_colours : (C D : List ℕ) → D ≡ swap_colours_lem C i j → D ≡ cond (eqb (tag W i) i || gone n (tag W i)) C (swap_colours_lem C i (tag W i))
  goes_colours C D q = rw (← e, t) q

or_second : (a b : Bool) → (a || b) ≡ false → b ≡ false
or_second true b e = absurd (false≢true (sym e))
or_second false b e = e

pub below : (j i n : ℕ) → (eqb j i || leb n j) ≡ false → j < n
below j i n t = leb-false n j (or_second (eqb j i) (leb n j) t)

-- the loop after t turns of at most m: N is what it comes to
pub settle_all_lem : (m n i : ℕ) (W C : List ℕ) → settle m n i W C ≡ settle (m - 0) n i W C
settle_all_lem m n i W C = rw sub-zero refl

module _ (N : Both) (m t n i : ℕ) (W C : List ℕ) (e : N ≡ settle (m - t) n i W C) where
  at_end : m ≤ t → (W ≡ N.words) × (C ≡ N.colours)
  unfolding settle
  at_end h = let z : m - t ≡ 0 = omega arith in let q = rw z at e in (sym (ap (λ (p : Both). p.words) q), sym (ap (λ (p : Both). p.colours) q))

  past : n ≤ i → (W ≡ N.words) × (C ≡ N.colours)
  unfolding settle
  past h = go (m - t) e
    where
      go : (g : ℕ) → N ≡ settle g n i W C → (W ≡ N.words) × (C ≡ N.colours)
      go zero q = (sym (ap (λ (p : Both). p.words) q), sym (ap (λ (p : Both). p.colours) q))
      go (suc g) q = let z = rw (le-ltb i n h) at q in (sym (ap (λ (p : Both). p.words) z), sym (ap (λ (p : Both). p.colours) z))

  pub end_words : m ≤ t → W ≡ N.words
  end_words h = (at_end h).0

  pub end_colours : m ≤ t → C ≡ N.colours
  end_colours h = (at_end h).1

  pub past_words : n ≤ i → W ≡ N.words
  past_words h = (past h).0

  pub past_colours : n ≤ i → C ≡ N.colours
  past_colours h = (past h).1

  pub onward : (r : ℕ) (X D : List ℕ) → t < m → i < n → r ≡ cond (eqb (tag W i) i || gone n (tag W i)) (i + 1) i
      → X ≡ cond (eqb (tag W i) i || gone n (tag W i)) W (swap_nodes_lem W i (tag W i))
      → D ≡ cond (eqb (tag W i) i || gone n (tag W i)) C (swap_colours_lem C i (tag W i)) → N ≡ settle (m - (t + 1)) n r X D
  unfolding settle
  onward r X D h l a b c = go (eqb (tag W i) i || gone n (tag W i)) refl
    where
      next : N ≡ settle (suc (m - (t + 1))) n i W C
      next = rw (left_over m t h) at e

      go : (s : Bool) → (eqb (tag W i) i || gone n (tag W i)) ≡ s → N ≡ settle (m - (t + 1)) n r X D
      go true z = rw (a, b, c, z) (rw (lt-ltb i n l, z) at next)
      go false z = rw (a, b, c, z) (rw (lt-ltb i n l, z) at next)

-- the whole move
module _ (n : ℕ) (P W C T S D : List ℕ) (t : T ≡ tagged n P n W) (s : S ≡ (settle (n * 2) n 0 T C).words) where
  pub tidied_words : (X : List ℕ) → X ≡ untagged n S → X ≡ (tidied n P W C).words
  unfolding tidied
  tidied_words X q = rw (← t, ← s) q

pub tidied_colours : (n : ℕ) (P W C T D : List ℕ) → T ≡ tagged n P n W → D ≡ (settle (n * 2) n 0 T C).colours → D ≡ (tidied n P W C).colours
unfolding tidied
tidied_colours n P W C T D t q = rw (← t) q
