-- The steps of the search, in the form in which the code's proof asks for them.
use mathlib.Core.Path.{◌≡◌, refl, ◌∙◌}
use mathlib.Core.Bool.{Bool, true, false, cond}
use Prim.Native.Nat.{ℕ, zero, suc, ◌+◌, ◌-◌, ◌*◌, ◌^◌, ◌<◌, ◌≤◌}
use native.Mathlib.Omega.{arith}
use native.Mathlib.Nat.{pow-suc}
use lib.Dec.{eqb}
use lib.Pow.{pow_mono}
use Rattle.words.specs.declared.node.Entry.{Entry}
use Rattle.tree_edit.proofs.Links.{by_link, on_slot, on_none}
use Rattle.image_rule.specs.declared.Seen.{Seen}
use Rattle.image_rule.specs.Sought.{holds, noted, sought}

-- an entry
module _ (a k : ℕ) (x : Seen) (e : Entry) where
  noted_most : (noted a k x e).hits ≤ x.hits + 1
  noted_most = go (holds a e)
    where
      go : (t : Bool) → (cond t (record { hits = x.hits + 1; value = cond (eqb x.hits k) e.value x.value }) x).hits ≤ x.hits + 1
      go true = omega arith
      go false = omega arith

power : (h : ℕ) → (h ≡ 0 → ⊥) → 2 ^ h ≡ 2 ^ (h - 1) * 2
power zero z = absurd (z refl)
power (suc h) z = let w : suc h - 1 ≡ h = omega arith in rw w (pow-suc 2 h)

module _ (E : ℕ → Entry) (L : Bool → ℕ → ℕ) (n a k : ℕ) where
  -- fewer hits than there can be slots, on any nodes
  sought_most : (h link : ℕ) (x : Seen) → (sought E L n a k h link x).hits + 1 ≤ x.hits + 2 ^ h
  unfolding sought
  sought_most zero link x = omega arith
  sought_most (suc h) link x =
      by_link n link (λ (y : Seen). y.hits + 1 ≤ x.hits + 2 ^ suc h) _ x
      (λ q. omega (
        arith,
        pow-suc 2 h,
        sought_most h (L false link) (noted a k (sought E L n a k h (L true link) x) (E link)),
        noted_most a k (sought E L n a k h (L true link) x) (E link),
        sought_most h (L true link) x,
      ))
      (λ q. omega (arith, pow_mono {i = 0} {j = suc h} (omega arith)))

  module _ (h link : ℕ) (x : Seen) where
    pub seek_dry : h ≡ 0 → x ≡ sought E L n a k h link x
    unfolding sought
    seek_dry z = rw z refl

    pub seek_out : (h ≡ 0 → ⊥) → n ≤ link → x ≡ sought E L n a k h link x
    unfolding sought
    seek_out z q = go h z
      where
        go : (g : ℕ) → (g ≡ 0 → ⊥) → x ≡ sought E L n a k g link x
        go zero y = absurd (y refl)
        go (suc g) y = rw (on_none n link q) refl

    -- the numbers of hits on the way fit
    module _ (z : h ≡ 0 → ⊥) (f : x.hits + 2 ^ h < 18446744073709551616) where
      pub left_fits : x.hits + 2 ^ (h - 1) < 18446744073709551616
      left_fits = omega (arith, power h z)

      pub here_fits : (i : ℕ) (y : Seen) → y ≡ sought E L n a k (h - 1) i x → y.hits + 1 < 18446744073709551616
      here_fits i y e = rw e (omega (arith, power h z, sought_most (h - 1) i x))

      pub right_fits : (i : ℕ) (y z : Seen) (e : Entry) → y ≡ sought E L n a k (h - 1) i x → z ≡ noted a k y e
          → z.hits + 2 ^ (h - 1) < 18446744073709551616
      right_fits i y v e p q = rw (q, p) (omega (arith, power h z, sought_most (h - 1) i x, noted_most a k (sought E L n a k (h - 1) i x) e))

    pub seek_on : (i j : ℕ) (e : Entry) (y v r : Seen) → (h ≡ 0 → ⊥) → link < n → i ≡ L true link → j ≡ L false link
        → y ≡ sought E L n a k (h - 1) i x → e ≡ E link → v ≡ noted a k y e → r ≡ sought E L n a k (h - 1) j v
        → r ≡ sought E L n a k h link x
    unfolding sought
    seek_on i j e y v r z q b c d f g p = p ∙ rw (g, d, b, c, f) (go h z)
      where
        go : (g : ℕ) → (g ≡ 0 → ⊥)
            → sought E L n a k (g - 1) (L false link) (noted a k (sought E L n a k (g - 1) (L true link) x) (E link)) ≡ sought E L n a k g link x
        go zero y = absurd (y refl)
        go (suc g) y = let w : suc g - 1 ≡ g = omega arith in rw (w, on_slot n link q) refl
