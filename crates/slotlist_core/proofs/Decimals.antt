-- A number that is printed reads back as it was: no digit is missing.
use mathlib.Core.Path.{◌≡◌, refl, ◌∙◌}
use mathlib.Core.Bool.{Bool, true, false, cond}
use mathlib.Core.List.{List, [], ◌∷◌, ◌++◌}
use Prim.Native.Nat.{ℕ, zero, suc, ◌+◌, ◌-◌, ◌*◌, ◌/◌, ◌%◌, ◌^◌, ◌<◌}
use native.Mathlib.Omega.{arith}
use native.Mathlib.Nat.{pow-suc}
use lib.Dec.{ltb}
use Rattle.lines.specs.Output.{decimal, number}
use Rattle.slotlist_core.specs.Words.{value}

value_append : (v : ℕ) (s t : List ℕ) → value v (s ++ t) ≡ value (value v s) t
value_append v [] t = refl
value_append v (b ∷ s) t = value_append (v * 10 + (b - 48)) s t

decimal_value : (f n : ℕ) → n < 10 ^ f → value 0 (decimal f n) ≡ n
unfolding decimal
decimal_value zero n h = omega arith
decimal_value (suc f) n h =
    let e : 10 ^ suc f ≡ 10 ^ f * 10 = pow-suc 10 f in
    let r : value 0 (decimal f (n / 10)) ≡ n / 10 = decimal_value f (n / 10) (omega (arith, e)) in
    go (ltb n 10) r
  where
    go : (t : Bool) → value 0 (decimal f (n / 10)) ≡ n / 10
        → value 0 (cond t ((48 + n) ∷ []) (decimal f (n / 10) ++ ((48 + n % 10) ∷ []))) ≡ n
    go true r = omega arith
    go false r = value_append 0 (decimal f (n / 10)) ((48 + n % 10) ∷ []) ∙ rw r (omega arith)

pub printed_value : (n : ℕ) → n < 18446744073709551616 → value 0 (number n) ≡ n
printed_value n h = decimal_value 20 n (omega arith)
