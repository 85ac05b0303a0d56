-- Writing to an output, as far as it has places.
use mathlib.Core.Path.{◌≡◌, refl, sym, ap, ◌∙◌}
use mathlib.Core.Bool.{Bool, true, false}
use mathlib.Core.List.{List, [], ◌∷◌, ◌++◌}
use Prim.Native.Nat.{ℕ, suc, ◌+◌, ◌≤◌}
use native.Mathlib.Omega.{arith}
use lib.ListN.{length, take, drop, set, length-take, take-append-drop}
use lib.Seq.{sets, sets-eq, set_out, length-sets, length-take-le, take_all}
use lib.Dec.{leb}
use borrow.Author.Tests.{leb-true, leb-false}
use Rattle.iter.specs.Drains.{filled}
use Rattle.iter.specs.Lists.{when}
use Rattle.fast_rule.specs.Fast.{fitted}

pub out_of_place : (out : List ℕ) (place slot : ℕ) → length out ≤ place → out ≡ set out place slot
out_of_place out place slot h = sym (set_out out place slot h)

-- a list, and then another
pub sets_append : (xs ys out : List ℕ) (i : ℕ) → sets out i (xs ++ ys) ≡ sets (sets out i xs) (i + length xs) ys
sets_append [] ys out i = let e : i ≡ i + 0 = omega arith in ap (λ (k : ℕ). sets out k ys) e
sets_append (a ∷ xs) ys out i =
    let e : suc i + length xs ≡ i + suc (length xs) = omega arith in
    sets_append xs ys (set out i a) (suc i) ∙ ap (λ (k : ℕ). sets (sets (set out i a) (suc i) xs) k ys) e

sets_past : (xs out : List ℕ) (i : ℕ) → length out ≤ i → sets out i xs ≡ out
sets_past [] out i h = refl
sets_past (a ∷ xs) out i h = rw (set_out out i a h) (sets_past xs out (suc i) (omega arith))

-- of a list only what there is a place for
module _ (xs out : List ℕ) where
  abbrev part : List ℕ
  part = take (length out) xs

  sets_part : sets out 0 xs ≡ sets out 0 part
  sets_part = go (leb (length xs) (length out)) refl
    where
      go : (b : Bool) → leb (length xs) (length out) ≡ b → sets out 0 xs ≡ sets out 0 part
      go true e = rw (take_all (length out) xs (leb-true (length xs) (length out) e))
      go false e =
          let h : length part ≡ length out = length-take-le (length out) xs (omega (arith, leb-false (length xs) (length out) e)) in
          ap (λ (l : List ℕ). sets out 0 l) (sym (take-append-drop (length out) xs))
          ∙ sets_append part (drop (length out) xs) out 0
          ∙ sets_past (drop (length out) xs) (sets out 0 part) (0 + length part) (rw length-sets (omega arith))

  pub sets_fitted : sets out 0 xs ≡ fitted xs out
  unfolding filled
  sets_fitted =
      let h : length part ≤ length out = rw length-take (omega arith) in
      let e : 0 + length part ≡ length part = omega arith in
      sets_part ∙ sets-eq part out 0 (omega arith) ∙ ap (λ (k : ℕ). part ++ drop k out) e

-- a hit, and what is none
module _ (hit : Bool) (hits slot : ℕ) where
  pub one_more : hit ≡ true → hits + 1 ≡ hits + length (when hit (slot ∷ []))
  one_more e = rw e

  pub no_more : hit ≡ false → hits ≡ hits + length (when hit (slot ∷ []))
  no_more e = rw e (omega arith)

  module _ (out new : List ℕ) where
    pub put_one : hit ≡ true → new ≡ set out hits slot → new ≡ sets out hits (when hit (slot ∷ []))
    put_one e h = rw e h

    pub put_none : hit ≡ false → new ≡ out → new ≡ sets out hits (when hit (slot ∷ []))
    put_none e h = rw e h
