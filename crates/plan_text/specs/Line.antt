-- A line of a plan byte by byte: two decimal numbers of 64 bits, with one space between them.
-- Letters: d digit, v value or new slot, w longer value, g before (what the line has so far), s old
--   slot, b byte
use Rattle.std.specs.Prelude.{Bool, true, false, cond, Option, None, Some, ℕ, eqb}
use Rattle.lines.specs.Input.{digit_of_lem, appended, on_some}
use Rattle.plan_text.specs.declared.line.Line.{Line}
use Rattle.plan_text.specs.declared.line.Line.TheVariants.{Start, Number, Gap, Wrong}
use Rattle.plan_text.specs.declared.line.Move.{Move}

-- a byte where a number has to begin
unfoldable pub first_digit_lem : (before : Option ℕ) (byte : ℕ) → Line
first_digit_lem g b = on_some (digit_of_lem b) (λ d. Number g d) Wrong

-- one more digit
unfoldable pub longer : (before : Option ℕ) (value digit : ℕ) → Line
longer g v d = on_some (appended v d) (λ w. Number g w) Wrong

-- a space after a number
abbrev pub gap_after_lem : (before : Option ℕ) (value : ℕ) → Line
gap_after_lem None v = Gap v
gap_after_lem (Some s) v = Wrong

unfoldable pub number_byte_lem : (before : Option ℕ) (value byte : ℕ) → Line
number_byte_lem g v b = on_some (digit_of_lem b) (λ d. longer g v d) (cond (eqb b 32) (gap_after_lem g v) Wrong)

abbrev pub byte_rule : (line : Line) (byte : ℕ) → Line
byte_rule Start b = first_digit_lem None b
byte_rule (Number g v) b = number_byte_lem g v b
byte_rule (Gap s) b = first_digit_lem (Some s) b
byte_rule Wrong b = Wrong

-- what the line says at its end
abbrev pub goes_to : (old new : ℕ) → Move
goes_to s v = record { old = s; new = v }

abbrev pub complete : (before : Option ℕ) (value : ℕ) → Option Move
complete None v = None
complete (Some s) v = Some (goes_to s v)

abbrev pub end_rule : (line : Line) → Option Move
end_rule Start = None
end_rule (Number g v) = complete g v
end_rule (Gap s) = None
end_rule Wrong = None

-- no byte of the line is there yet
abbrev pub new_rule : (line : Line) → Bool
new_rule Start = true
new_rule (Number g v) = false
new_rule (Gap s) = false
new_rule Wrong = false
