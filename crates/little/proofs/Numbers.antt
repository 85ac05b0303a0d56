-- Numbers in bytes: what is written is read, and what is read is written. Each law over every
-- width.
use mathlib.Core.Path.{◌≡◌, refl, ap, ◌∙◌}
use mathlib.Core.List.{List, [], ◌∷◌, ◌++◌}
use Prim.Native.Nat.{ℕ, zero, suc, ◌+◌, ◌*◌, ◌/◌, ◌%◌, ◌^◌, ◌<◌, ◌≤◌}
use native.Mathlib.Omega.{arith}
use native.Mathlib.Nat.{pow-suc, div-div-eq-div-mul, mul_comm, mul_assoc}
use lib.ListN.{length, get_or, take, drop, set, get_or-append}
use lib.Seq.{sets, drop-cons, get_or-append-add}
use Rattle.little.specs.Numbers.{number, digits, Bytes}

pub length_digits : (w v : ℕ) → length (digits w v) ≡ w
unfolding digits
length_digits zero v = refl
length_digits (suc w) v = ap suc (length_digits w (v / 256))

-- the digits are bytes
pub digits_bytes : (w v : ℕ) → Bytes (digits w v)
unfolding digits
digits_bytes zero v i = omega arith
digits_bytes (suc w) v zero = omega arith
digits_bytes (suc w) v (suc i) = digits_bytes w (v / 256) i

-- a number of w bytes is small
pub number_low : (w : ℕ) (s : List ℕ) (i : ℕ) → Bytes s → number w s i < 256 ^ w
unfolding number
number_low zero s i b = omega arith
number_low (suc w) s i b =
    let e : 256 ^ suc w ≡ 256 ^ w * 256 = pow-suc 256 w in
    omega (arith, number_low w s (suc i) b, b i)

-- a number depends on its own bytes alone
pub number_same : (w : ℕ) (s t : List ℕ) (i j : ℕ) → ((k : ℕ) → k < w → get_or s (i + k) 0 ≡ get_or t (j + k) 0) → number w s i ≡ number w t j
unfolding number
number_same zero s t i j f = refl
number_same (suc w) s t i j f =
    let a : get_or s i 0 ≡ get_or t j 0 = let x : i + 0 ≡ i = omega arith in let y : j + 0 ≡ j = omega arith in rw (x, y) at (f 0 (omega arith)) in
    let b : number w s (suc i) ≡ number w t (suc j) = number_same w s t (suc i) (suc j)
    (λ k h. let x : i + suc k ≡ suc i + k = omega arith in let y : j + suc k ≡ suc j + k = omega arith in rw (x, y) at (f (suc k) (omega arith))) in
    rw (a, b)

-- a number written as bytes and read again
pub number_digits : (w v : ℕ) → v < 256 ^ w → number w (digits w v) 0 ≡ v
unfolding number digits
number_digits zero v h = omega arith
number_digits (suc w) v h =
    let e : 256 ^ suc w ≡ 256 ^ w * 256 = pow-suc 256 w in
    let i : number w (digits w (v / 256)) 0 ≡ v / 256 = number_digits w (v / 256) (omega arith) in
    let j : number w (v % 256 ∷ digits w (v / 256)) 1 ≡ number w (digits w (v / 256)) 0 =
    number_same w (v % 256 ∷ digits w (v / 256)) (digits w (v / 256)) 1 0
    (λ k l. let x : 1 + k ≡ suc k = omega arith in let y : 0 + k ≡ k = omega arith in rw (x, y) refl) in
    rw (j, i) (omega arith)

-- bytes read as a number and written again
pub digits_number : (w : ℕ) (s : List ℕ) (i : ℕ) → Bytes s → i + w ≤ length s → digits w (number w s i) ≡ take w (drop i s)
unfolding number digits
digits_number zero s i b h = refl
digits_number (suc w) s i b h =
    let e : (get_or s i 0 + 256 * number w s (suc i)) % 256 ≡ get_or s i 0 = omega (arith, b i) in
    let f : (get_or s i 0 + 256 * number w s (suc i)) / 256 ≡ number w s (suc i) = omega (arith, b i) in
    rw (e, f, drop-cons s i 0 (omega arith)) (ap (λ (l : List ℕ). get_or s i 0 ∷ l) (digits_number w s (suc i) b (omega arith)))

-- the number of v bytes and of the w bytes after them
pub number_parts : (v w : ℕ) (s : List ℕ) (i : ℕ) → number (v + w) s i ≡ number v s i + 256 ^ v * number w s (i + v)
unfolding number
number_parts zero w s i = let e : i + 0 ≡ i = omega arith in let f : 0 + w ≡ w = omega arith in rw (e, f) (omega arith)
number_parts (suc v) w s i =
    let e : suc v + w ≡ suc (v + w) = omega arith in
    let f : i + suc v ≡ suc i + v = omega arith in
    let g : 256 ^ suc v * number w s (suc i + v) ≡ 256 * (256 ^ v * number w s (suc i + v)) = rw (pow-suc 256 v, mul_comm (256 ^ v) 256, mul_assoc 256 (256 ^ v) (number w s (suc i + v))) in
    rw (e, f, g, number_parts v w s (suc i)) (omega arith)

-- the digits of a number's two parts
pub digits_parts : (v w x : ℕ) → digits (v + w) x ≡ digits v x ++ digits w (x / 256 ^ v)
unfolding digits
digits_parts zero w x = let e : x / 256 ^ 0 ≡ x = omega arith in let f : 0 + w ≡ w = omega arith in rw (e, f)
digits_parts (suc v) w x =
    let e : suc v + w ≡ suc (v + w) = omega arith in
    let f : x / 256 ^ suc v ≡ x / 256 / 256 ^ v = rw (pow-suc 256 v, mul_comm (256 ^ v) 256, ← div-div-eq-div-mul x 256 (256 ^ v)) in
    rw (e, f) (ap (λ (l : List ℕ). x % 256 ∷ l) (digits_parts v w (x / 256)))

-- stores one after the other
pub sets_append : (xs ys l : List ℕ) (i : ℕ) → sets l i (xs ++ ys) ≡ sets (sets l i xs) (i + length xs) ys
sets_append [] ys l i = let e : i + 0 ≡ i = omega arith in rw e
sets_append (x ∷ xs) ys l i =
    let e : i + suc (length xs) ≡ suc i + length xs = omega arith in
    rw e (sets_append xs ys (set l i x) (suc i))

-- a number in one of two lists that are joined: in the first, in the second, and at the start
pub number_left : (w : ℕ) (xs ys : List ℕ) (i : ℕ) → i + w ≤ length xs → number w (xs ++ ys) i ≡ number w xs i
number_left w xs ys i h = number_same w (xs ++ ys) xs i i (λ k l. get_or-append xs ys 0 (i + k) (omega arith))

pub number_right : (w : ℕ) (xs ys : List ℕ) (n i : ℕ) → length xs ≡ n → number w (xs ++ ys) (n + i) ≡ number w ys i
number_right w xs ys n i e =
    number_same w (xs ++ ys) ys (n + i) i
    (λ k l. let q : n + i + k ≡ length xs + (i + k) = omega (arith, e) in rw q (get_or-append-add xs ys (i + k) 0))

pub number_here : (w v : ℕ) (ys : List ℕ) → v < 256 ^ w → number w (digits w v ++ ys) 0 ≡ v
number_here w v ys h = number_left w (digits w v) ys 0 (omega (arith, length_digits w v)) ∙ number_digits w v h
