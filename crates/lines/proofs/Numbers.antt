-- The text that `io::decimal` spells is the rule's.
use mathlib.Core.Path.{◌≡◌, ap, ◌∙◌}
use mathlib.Core.List.{List}
use Prim.Native.Nat.{ℕ, zero, suc, ◌+◌, ◌-◌, ◌*◌, ◌/◌, ◌%◌, ◌^◌, ◌<◌, ◌≤◌}
use native.Mathlib.Omega.{arith}
use native.Mathlib.Nat.{pow-suc}
use lib.ListN.{take}
use borrow.Author.Tests.{lt-ltb, le-ltb}
use Rattle.io.specs.Digits.{last_digits, hex_digit_ascii, IsDigitCount}
use Rattle.lines.specs.Output.{Page, out_text, decimal, number}

glyph_is : (n : ℕ) → hex_digit_ascii (n % 10) ≡ 48 + n % 10
glyph_is n = rw (lt-ltb (n % 10) 10 (omega arith))

-- as many digits k as the number has, where it has no more than f
pub spelled : (f k n : ℕ) → 0 < f → n < 10 ^ f → IsDigitCount 10 1 n k → last_digits 10 k n ≡ decimal f n
unfolding decimal
spelled zero k n z h d = absurd (omega arith)
spelled (suc f) zero n z h (a, b, c) = absurd (omega arith)
spelled (suc f) (suc zero) n z h (a, b, c) =
    let l : n < 10 = omega arith in
    let m : n % 10 ≡ n = omega arith in
    rw (lt-ltb n 10 l, m, lt-ltb n 10 l)
spelled (suc f) (suc (suc k)) n z h (a, b, c) =
    let e : 10 ^ suc (suc k) ≡ 10 ^ suc k * 10 = pow-suc 10 (suc k) in
    let g : 10 ^ suc k ≡ 10 ^ k * 10 = pow-suc 10 k in
    let i : suc (suc k) - 1 ≡ suc k = omega arith in
    let j : suc k - 1 ≡ k = omega arith in
    let m : 10 ^ suc k ≤ n = rw i at (c (omega arith)) in
    let ten : 10 ≤ n = omega (arith, g) in
    let t : n / 10 < 10 ^ f = omega (arith, pow-suc 10 f) in
    let r : last_digits 10 (suc k) (n / 10) ≡ decimal f (n / 10) =
    spelled f (suc k) (n / 10) (some f ten t) t (omega arith, omega (arith, e), λ _. rw j (omega (arith, g))) in
    rw (le-ltb n 10 ten, r, glyph_is n)
  where
    some : (f : ℕ) → 10 ≤ n → n / 10 < 10 ^ f → 0 < f
    some zero ten t = absurd (omega arith)
    some (suc f) ten t = omega arith

pub number_is : (p r : Page) (s : List ℕ) (k n : ℕ) → n < 10 ^ 20 → IsDigitCount 10 1 n k → take k s ≡ last_digits 10 k n → r ≡ out_text p (take k s)
    → r ≡ out_text p (number n)
number_is p r s k n h d e q = q ∙ ap (out_text p) (e ∙ spelled 20 k n (omega arith) h d)
