-- A round that leaves its loop at a slot.
use mathlib.Core.Path.{◌≡◌, refl}
use mathlib.Core.Bool.{Bool, true, false, cond}
use mathlib.Core.List.{List}
use Prim.Native.Nat.{ℕ, ◌<◌}
use native.Mathlib.Omega.{arith}
use lib.Dec.{leb}
use borrow.Author.Tests.{leb-false}
use Rattle.words.specs.Ix.{on_link}
use Rattle.tree_edit.specs.Rounds.{Next, done, again}

-- what leaves a loop standing at a slot, by cases on a link word
pub link_stays : (n w : ℕ) (f : ℕ → Next) (W C : List ℕ) (r : ℕ) (X D : List ℕ) (q i : ℕ) → ((s : ℕ) → s < n → f s ≡ again X D q i → i < n)
    → on_link n w f (done W C r) ≡ again X D q i → i < n
unfolding on_link
link_stays n w f W C r X D q i h e = go (leb n w) refl e
  where
    go : (t : Bool) → leb n w ≡ t → cond t (done W C r) (f w) ≡ again X D q i → i < n
    go true p z = let y : ◌≡◌ {A = ℕ} 0 1 = cc in absurd (omega arith)
    go false p z = h w (leb-false n w p) z
