-- An image is accepted exactly if it is laid out, has at most 65,535 entries, and holds a store
-- that passes.
use Rattle.std.specs.Prelude.{Result, Ok, Err}
use Rattle.words.specs.declared.refusal.Refusal.{Refusal}
use Rattle.words.specs.declared.refusal.Refusal.TheVariants.{NoRoom, Broken, BadImage}
use mathlib.Core.Path.{◌≡◌, refl, sym, ◌∙◌}
use mathlib.Core.Bool.{Bool, true, false, cond}
use mathlib.Core.List.{List}
use Prim.Native.Nat.{ℕ, ◌<◌, ◌≤◌}
use native.Mathlib.Omega.{arith}
use lib.Dec.{ltb}
use borrow.Author.Tests.{lt-ltb, le-ltb, ltb-false}
use Rattle.image_rule.specs.Layout.{laid_out_lem, count_in_lem}
use Rattle.image_rule.specs.Stored.{is_good}
use Rattle.image_text.specs.Judging.{image_checked, store_checked}

pub record Accepted (I : List ℕ) : Type 0 where
  pub layout : laid_out_lem I ≡ true
  pub few : count_in_lem I ≤ 65535
  pub good : is_good I ≡ true

pub accepted : (I : List ℕ) → image_checked I ≡ Ok tt → Accepted I
unfolding image_checked
accepted I = go (laid_out_lem I) (ltb 65535 (count_in_lem I)) (is_good I) refl refl refl
  where
    go : (a b d : Bool) → laid_out_lem I ≡ a → ltb 65535 (count_in_lem I) ≡ b → is_good I ≡ d → cond a (cond b (Err NoRoom) (cond d (Ok (tt {0})) (Err Broken))) (Err BadImage) ≡ Ok (tt {0}) → Accepted I
    go true false true e f g z = record { layout = e; few = ltb-false 65535 (count_in_lem I) f; good = g }
    go true false false e f g z = let y : ◌≡◌ {A = ℕ} 0 1 = cc in absurd (omega arith)
    go true true d e f g z = let y : ◌≡◌ {A = ℕ} 0 1 = cc in absurd (omega arith)
    go false b d e f g z = let y : ◌≡◌ {A = ℕ} 0 1 = cc in absurd (omega arith)

pub is_accepted_lem : (I : List ℕ) → Accepted I → image_checked I ≡ Ok tt
unfolding image_checked
is_accepted_lem I a = rw (a.layout, le-ltb 65535 (count_in_lem I) a.few, a.good) refl

module _ (I : List ℕ) (c : Result Unit Refusal) (x : Unit) (e : c ≡ image_checked I) (z : c ≡ Ok x) where
  pub number_laid : laid_out_lem I ≡ true
  number_laid = (accepted I (sym e ∙ z)).layout

  pub number_count : count_in_lem I ≤ 65535
  number_count = (accepted I (sym e ∙ z)).few

-- the tests of the code
pub said : (b d : Bool) → b ≡ d → b ≡ true → d ≡ true
said b d e t = sym e ∙ t

module _ (I : List ℕ) (r : Result Unit Refusal) (b : Bool) (e : b ≡ laid_out_lem I) where
  pub number_many : (n : ℕ) → b ≡ true → n ≡ count_in_lem I → 65535 < n → r ≡ Err NoRoom → r ≡ image_checked I
  unfolding image_checked
  number_many n t f h q = rw (← e, t, ← f, lt-ltb 65535 n h) q

  pub number_few : (n : ℕ) → b ≡ true → n ≡ count_in_lem I → n ≤ 65535 → r ≡ store_checked I → r ≡ image_checked I
  unfolding image_checked
  number_few n t f h q = rw (← e, t, le-ltb 65535 (count_in_lem I) (rw f at h)) q

  pub number_other : b ≡ false → r ≡ Err BadImage → r ≡ image_checked I
  unfolding image_checked
  number_other t q = rw (← e, t) q
