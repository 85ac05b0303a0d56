-- A line byte by byte.
-- Letters: b byte or end, d digit, k letters so far, v value, w longer value, g before (what the
--   line has so far), a start
use Rattle.std.specs.Prelude.{Bool, true, false, cond, ℕ, ◌+◌, get_or, eqb, ltb}
use Rattle.lines.specs.Input.{digit_of_lem, appended, on_some}
use Rattle.slotlist_core.specs.Words.{remove}
use Rattle.slotlist_core.specs.declared.reading.Before.{Before}
use Rattle.slotlist_core.specs.declared.reading.Before.TheVariants.{Nothing, One, Two, Removal}
use Rattle.slotlist_core.specs.declared.reading.Line.{Line}
use Rattle.slotlist_core.specs.declared.reading.Line.TheVariants.{Start, Name, Number, Gap, Wrong}
use Rattle.slotlist_core.specs.declared.reading.Said.{Said}
use Rattle.slotlist_core.specs.declared.reading.Said.TheVariants.{Entry, Remove, Other}

-- a byte where a number has to begin
unfoldable pub first_digit_lem : (before : Before) (byte : ℕ) → Line
first_digit_lem g b = on_some (digit_of_lem b) (λ d. Number g d) Wrong

unfoldable pub start_byte_lem : (byte : ℕ) → Line
start_byte_lem b = cond (eqb b 114) (Name 1) (first_digit_lem Nothing b)

-- a byte after k letters of `remove`
unfoldable pub name_byte_lem : (letters byte : ℕ) → Line
name_byte_lem k b =
    cond (ltb k 6)
    (cond (eqb b (get_or remove k 0)) (Name (k + 1)) Wrong)
    (cond (eqb b 32) (Gap Removal) Wrong)

-- one more digit
unfoldable pub longer : (before : Before) (value digit : ℕ) → Line
longer g v d = on_some (appended v d) (λ w. Number g w) Wrong

-- a space after a number
abbrev pub gap_after_lem : (before : Before) (value : ℕ) → Line
gap_after_lem Nothing v = Gap (One v)
gap_after_lem (One a) v = Gap (Two a v)
gap_after_lem (Two a b) v = Wrong
gap_after_lem Removal v = Wrong

unfoldable pub number_byte_lem : (before : Before) (value byte : ℕ) → Line
number_byte_lem g v b = on_some (digit_of_lem b) (λ d. longer g v d) (cond (eqb b 32) (gap_after_lem g v) Wrong)

abbrev pub byte_rule : (line : Line) (byte : ℕ) → Line
byte_rule Start b = start_byte_lem b
byte_rule (Name k) b = name_byte_lem k b
byte_rule (Number g v) b = number_byte_lem g v b
byte_rule (Gap g) b = first_digit_lem g b
byte_rule Wrong b = Wrong

-- what the line says at its end
abbrev pub complete : (before : Before) (value : ℕ) → Said
complete Nothing v = Other
complete (One a) v = Other
complete (Two a b) v = Entry a b v
complete Removal v = Remove v

abbrev pub end_rule : (line : Line) → Said
end_rule Start = Other
end_rule (Name k) = Other
end_rule (Number g v) = complete g v
end_rule (Gap g) = Other
end_rule Wrong = Other

-- no byte of the line is there yet
abbrev pub new_rule : (line : Line) → Bool
new_rule Start = true
new_rule (Name k) = false
new_rule (Number g v) = false
new_rule (Gap g) = false
new_rule Wrong = false
