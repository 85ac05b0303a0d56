-- Text gathered in a lent buffer, which goes out when it is full. What went out no contract can
-- say; here stands what the buffer holds.
-- Letters: b byte, p page, s text, f digits at most, n number
use Rattle.std.specs.Prelude.{cond, ℕ, zero, suc, ◌+◌, ◌/◌, ◌%◌, min, length, set, ltb}
use mathlib.Core.List.{List, [], ◌∷◌, ◌++◌, foldl}

-- the buffer, and where the next byte goes
pub record Page : Type 0 where
  pub at : ℕ
  pub out : List ℕ

abbrev pub page : (at : ℕ) (out : List ℕ) → Page
page at out = record { at = at; out = out }

-- a byte at the front of the buffer, after it went out; a buffer of no bytes takes none
abbrev pub front : (out : List ℕ) (byte : ℕ) → Page
front out b = page (min 1 (length out)) (set out 0 b)

-- a byte where there is room, else at the front; a text
unfoldable pub out_byte : (page : Page) (byte : ℕ) → Page
out_byte p b = cond (ltb p.at (length p.out)) (page (p.at + 1) (set p.out p.at b)) (front p.out b)

unfoldable pub out_text : (page : Page) (text : List ℕ) → Page
out_text p s = foldl out_byte p s

-- A number in decimal, of f digits at most, without zeros in front. No 64-bit number has more than
-- 20.
unfoldable pub decimal : (digits number : ℕ) → List ℕ
decimal zero n = []
decimal (suc f) n =
    let front : List ℕ = decimal f (n / 10) in
    cond (ltb n 10) ((48 + n) ∷ []) (front ++ ((48 + n % 10) ∷ []))

abbrev pub number : (number : ℕ) → List ℕ
number n = decimal 20 n

-- a space and a number
abbrev pub next : (number : ℕ) → List ℕ
next n = 32 ∷ number n  -- " "
