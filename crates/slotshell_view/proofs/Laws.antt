-- What the code's tests and its callees' promises say of the rules of what is shown, in the form
-- that `search` takes.
use mathlib.Core.Path.{◌≡◌, refl, sym}
use mathlib.Core.Bool.{Bool, true, false}
use mathlib.Core.List.{List}
use Prim.Native.Nat.{ℕ, zero, suc, ◌+◌, ◌-◌, ◌<◌, ◌≤◌, ◌^◌, max}
use native.Mathlib.Omega.{arith}
use native.Mathlib.Nat.{pow-suc}
use lib.ListN.{length}
use lib.Dec.{leb}
use lib.Pow.{pow_pos}
use borrow.Author.Tests.{leb-true}
use Rattle.words.specs.Intervals.{touches, extended}
use Rattle.words.specs.declared.interval.Interval.{Interval}
use Rattle.words.specs.declared.interval.Span.{Span}
use Rattle.bitvec.specs.Calls.{bytes_for}
use Rattle.tree_edit.proofs.Links.{on_slot, on_none}
use Rattle.image_rule.specs.Layout.{image_length_lem, Bodies}
use Rattle.image_rule.specs.Stored.{interval_in_lem, child_in_lem}
use Rattle.iter.specs.declared.rules.Query.{Query}
use Rattle.slotshell_view.specs.View.{hull_below_lem, hull_in_lem, height_below_lem, one, touching_below_lem, admitted, goes_in_lem, Trail, noted, trail_below_lem, trail_beside_lem}

-- the bytes have a slot, as the functions that read it ask for
pub bodies : (I : List ℕ) (n s v : ℕ) → (s < n) × (n ≤ 65535) → v ≡ image_length_lem n → leb v (length I) ≡ true → Bodies I n × (s < n)
unfolding bytes_for
bodies I n s v f e t = let l : v ≤ length I = leb-true v (length I) t in ((f.1, omega arith), f.0)

-- the subtree at a link k, h levels of it
module _ (I : List ℕ) (n : ℕ) where
  module _ (k : ℕ) (d : Interval) where
    pub hull_dry : (h : ℕ) → h ≡ 0 → d ≡ hull_below_lem I n h k d
    unfolding hull_below_lem
    hull_dry h e = rw e refl

    pub hull_out : (h : ℕ) → n ≤ k → d ≡ hull_below_lem I n h k d
    unfolding hull_below_lem
    hull_out zero q = refl
    hull_out (suc h) q = sym (on_none n k q _ d)

    pub hull_on : (h : ℕ) (own : Interval) (a b : ℕ) (l r x y : Interval) → (h ≡ 0 → ⊥) → k < n → own ≡ interval_in_lem I k
        → a ≡ child_in_lem I n true k → b ≡ child_in_lem I n false k → l ≡ hull_below_lem I n (h - 1) a own → r ≡ hull_below_lem I n (h - 1) b own
        → x ≡ extended own l → y ≡ extended x r → y ≡ hull_below_lem I n h k d
    unfolding hull_below_lem
    hull_on zero own a b l r x y z q e f g u v w m = absurd (z refl)
    hull_on (suc h) own a b l r x y z q e f g u v w m =
        let i : suc h - 1 ≡ h = omega arith in
        rw (on_slot n k q, m, w, u, v, i, f, g, e) refl

  module _ (k : ℕ) where
    pub height_dry : (h : ℕ) → h ≡ 0 → (0 ≡ height_below_lem I n h k) × (0 ≤ h)
    unfolding height_below_lem
    height_dry h e = rw e (refl, omega arith)

    pub height_out : (h : ℕ) → n ≤ k → (0 ≡ height_below_lem I n h k) × (0 ≤ h)
    unfolding height_below_lem
    height_out zero q = (refl, omega arith)
    height_out (suc h) q = (sym (on_none n k q _ 0), omega arith)

    pub height_on : (h a b l r m : ℕ) → (h ≡ 0 → ⊥) → k < n → a ≡ child_in_lem I n true k → b ≡ child_in_lem I n false k → l ≡ height_below_lem I n (h - 1) a
        → r ≡ height_below_lem I n (h - 1) b → m ≡ max l r → m + 1 ≡ height_below_lem I n h k
    unfolding height_below_lem
    height_on zero a b l r m z q f g u v e = absurd (z refl)
    height_on (suc h) a b l r m z q f g u v e =
        let i : m + 1 ≡ suc m = omega arith in
        let j : suc h - 1 ≡ h = omega arith in
        rw (on_slot n k q, i, e, u, v, j, f, g) refl

  module _ (q : Span) (k : ℕ) where
    pub touching_dry : (h : ℕ) → h ≡ 0 → (0 ≡ touching_below_lem I n q h k) × (0 < 2 ^ h)
    unfolding touching_below_lem
    touching_dry h e = rw e (refl, omega arith)

    pub touching_out : (h : ℕ) → n ≤ k → (0 ≡ touching_below_lem I n q h k) × (0 < 2 ^ h)
    unfolding touching_below_lem
    touching_out zero p = (refl, omega arith)
    touching_out (suc h) p = (sym (on_none n k p _ 0), pow_pos (suc h))

    pub touching_on : (h a b l r o : ℕ) (x : Interval) → (h ≡ 0 → ⊥) → k < n → a ≡ child_in_lem I n true k → b ≡ child_in_lem I n false k
        → l ≡ touching_below_lem I n q (h - 1) a → r ≡ touching_below_lem I n q (h - 1) b → x ≡ interval_in_lem I k → o ≡ one (touches q x)
        → l + (o + r) ≡ touching_below_lem I n q h k
    unfolding touching_below_lem
    touching_on zero a b l r o x z p f g u v e w = absurd (z refl)
    touching_on (suc h) a b l r o x z p f g u v e w =
        let j : suc h - 1 ≡ h = omega arith in
        rw (on_slot n k p, u, v, w, j, f, g, e) refl

-- the entries of two subtrees that touch, and one more: fewer than a tree with a level more can have
pub few : (h l r o : ℕ) → (h ≡ 0 → ⊥) → l < 2 ^ (h - 1) → r < 2 ^ (h - 1) → o ≤ 1 → l + (o + r) < 2 ^ h
few zero l r o z u v w = absurd (z refl)
few (suc h) l r o z u v w =
    let j : suc h - 1 ≡ h = omega arith in
    let m : l < 2 ^ h = rw j at u in
    let d : r < 2 ^ h = rw j at v in
    omega (arith, pow-suc 2 h)

-- the turns of a walk
module _ (I : List ℕ) (n : ℕ) (q : Query) (b : Bool) (s a : ℕ) (e : a ≡ child_in_lem I n b s) where
  pub stays : n ≤ a → false ≡ goes_in_lem I n q b s
  stays h = let h' : n ≤ child_in_lem I n b s = rw (← e) h in sym (on_none n _ h' _ false)

  pub goes_on : (own h : Interval) (r : Bool) → a < n → own ≡ interval_in_lem I s → h ≡ hull_in_lem I n a → r ≡ admitted q b own h → r ≡ goes_in_lem I n q b s
  goes_on own h r p f g d =
      let p' : child_in_lem I n b s < n = rw (← e) p in
      rw (on_slot n _ p', ← e, ← f, ← g) d

-- the trail with the nodes below a link
module _ (I : List ℕ) (n : ℕ) (q : Query) where
  pub trail_dry : (h k : ℕ) (t : Trail) → h ≡ 0 → t ≡ trail_below_lem I n q h k t
  unfolding trail_below_lem
  trail_dry h k t e = rw e refl

  pub trail_out : (h k : ℕ) (t : Trail) → n ≤ k → t ≡ trail_below_lem I n q h k t
  unfolding trail_below_lem
  trail_out zero k t p = refl
  trail_out (suc h) k t p = sym (on_none n k p _ t)

  pub trail_on : (h k : ℕ) (t a b c : Trail) → (h ≡ 0 → ⊥) → k < n → a ≡ noted t k → b ≡ trail_beside_lem I n q (h - 1) true k a → c ≡ trail_beside_lem I n q (h - 1) false k b
      → c ≡ trail_below_lem I n q h k t
  unfolding trail_below_lem
  trail_on zero k t a b c z p e f g = absurd (z refl)
  trail_on (suc h) k t a b c z p e f g =
      let j : suc h - 1 ≡ h = omega arith in
      rw (on_slot n k p, g, f, j, e) refl
