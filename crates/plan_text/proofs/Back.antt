-- A line that is printed reads back as it was.
use mathlib.Core.Path.{◌≡◌, refl, ap, ◌∙◌}
use mathlib.Core.Bool.{Bool, true, false, cond}
use mathlib.Core.List.{List, [], ◌∷◌, ◌++◌, foldl, foldl-append}
use Prim.Native.Nat.{ℕ, zero, suc, ◌+◌, ◌-◌, ◌*◌, ◌/◌, ◌%◌, ◌^◌, ◌<◌}
use native.Mathlib.Omega.{arith}
use native.Mathlib.Nat.{pow-suc}
use lib.Dec.{ltb}
use borrow.Author.Tests.{lt-ltb, le-ltb, ltb-true}
use Rattle.lines.specs.Input.{digit_of_lem, on_some, appended}
use Rattle.lines.specs.Output.{decimal, number, next}
use Rattle.plan_text.specs.Line.{goes_to, first_digit_lem, longer, number_byte_lem, byte_rule, end_rule}
use Rattle.std.specs.Prelude.{Option, None, Some}
use Rattle.plan_text.specs.declared.line.Line.{Line}
use Rattle.plan_text.specs.declared.line.Line.TheVariants.{Start, Number, Gap}

-- a line with the bytes of a text after it
abbrev pub spelled : Line → List ℕ → Line
spelled l c = foldl byte_rule l c

first_is : (g : Option ℕ) (d : ℕ) → d < 10 → first_digit_lem g (48 + d) ≡ Number g d
unfolding first_digit_lem digit_of_lem on_some
first_is g d h =
    let e : 48 + d - 48 ≡ d = omega arith in
    rw (le-ltb (48 + d) 48 (omega arith), le-ltb 57 (48 + d) (omega arith), e) refl

next_is : (g : Option ℕ) (v d : ℕ) → d < 10 → v * 10 + d < 18446744073709551616 → byte_rule (Number g v) (48 + d) ≡ Number g (v * 10 + d)
unfolding number_byte_lem digit_of_lem on_some longer appended
next_is g v d h k =
    let e : 48 + d - 48 ≡ d = omega arith in
    rw (le-ltb (48 + d) 48 (omega arith), le-ltb 57 (48 + d) (omega arith), e, lt-ltb (v * 10 + d) 18446744073709551616 k) refl

-- a number where one has to begin
module _ (l : Line) (g : Option ℕ) (f : (b : ℕ) → byte_rule l b ≡ first_digit_lem g b) where
  decimal_back : (m n : ℕ) → n < 10 ^ suc m → n < 18446744073709551616 → spelled l (decimal (suc m) n) ≡ Number g n
  unfolding decimal
  decimal_back zero n h k = let d : n < 10 = omega arith in rw (lt-ltb n 10 d) (f (48 + n) ∙ first_is g n d)
  decimal_back (suc m) n h k =
      let e : 10 ^ suc (suc m) ≡ 10 ^ suc m * 10 = pow-suc 10 (suc m) in
      go (ltb n 10) refl (decimal_back m (n / 10) (omega (arith, e)) (omega arith))
    where
      go : (t : Bool) → ltb n 10 ≡ t → spelled l (decimal (suc m) (n / 10)) ≡ Number g (n / 10)
          → spelled l (cond t ((48 + n) ∷ []) (decimal (suc m) (n / 10) ++ ((48 + n % 10) ∷ []))) ≡ Number g n
      go true e q = f (48 + n) ∙ first_is g n (ltb-true n 10 e)
      go false e q =
          let s : n / 10 * 10 + n % 10 ≡ n = omega arith in
          foldl-append byte_rule l (decimal (suc m) (n / 10)) ((48 + n % 10) ∷ [])
          ∙ ap (λ (w : Line). byte_rule w (48 + n % 10)) q
          ∙ next_is g (n / 10) (n % 10) (omega arith) (omega (arith, s, k))
          ∙ ap (λ (v : ℕ). Number g v) s

  number_back : (n : ℕ) → n < 18446744073709551616 → spelled l (number n) ≡ Number g n
  number_back n h = decimal_back 19 n (omega arith) h

-- the line `s v`, as it is printed, says that slot s goes to slot v
pub row_says : (s v : ℕ) → s < 18446744073709551616 → v < 18446744073709551616 → end_rule (spelled Start (number s ++ next v)) ≡ Some (goes_to s v)
unfolding number_byte_lem digit_of_lem on_some
row_says s v h k =
    ap end_rule
    (foldl-append byte_rule Start (number s) (next v)
    ∙ ap (λ (l : Line). spelled l (next v)) (number_back Start None (λ b. refl) s h)
    ∙ number_back (Gap s) (Some s) (λ b. refl) v k)
