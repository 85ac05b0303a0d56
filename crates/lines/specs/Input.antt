-- A line of a name and numbers, byte by byte.
-- Letters: n number, b byte, d digit, l line, p part, v value, s slice, f found (for the number),
--   z otherwise (if there is none)
use Rattle.std.specs.Prelude.{Bool, true, false, Option, Some, None, cond, List, ℕ, ◌+◌, ◌-◌, ◌*◌, set, eqb, ltb, leb}
use Rattle.lines.specs.declared.input.Line.{Line}
use Rattle.lines.specs.declared.input.Part.{Part}
use Rattle.lines.specs.declared.input.Part.TheVariants.{Start, Name, Number, Gap, Wrong}

abbrev pub start_of : Line
start_of = record { part = Start; name = 0; count = 0; value = 0 }

-- the digits are the bytes 48 to 57
unfoldable pub digit_of_lem : (byte : ℕ) → Option ℕ
digit_of_lem b = cond (ltb b 48) None (cond (ltb 57 b) None (Some (b - 48)))

-- by cases on a number that may be missing: f of it, or z if there is none
unfoldable pub on_some : {A : Type 0} → (number : Option ℕ) (found : ℕ → A) (otherwise : A) → A
on_some (Some n) f z = f n
on_some None f z = z

abbrev pub line_at : (line : Line) (part : Part) (value : ℕ) → Line
line_at l p v = record { part = p; name = l.name; count = l.count; value = v }

-- a number with one more digit has at most 64 bits; zeros in front count for nothing
unfoldable pub appended : (value digit : ℕ) → Option ℕ
appended v d = cond (ltb (v * 10 + d) 18446744073709551616) (Some (v * 10 + d)) None

abbrev pub with_digit_lem : (line : Line) (digit : ℕ) → Line
with_digit_lem l d = on_some (appended l.value d) (λ v. line_at l Number v) (line_at l Wrong 0)

-- one more byte of the name; after a space a number may begin
unfoldable pub with_letter_lem : (line : Line) (byte room : ℕ) → Line
with_letter_lem l b room =
    cond (leb room l.name) (line_at l Wrong 0)
    (cond (eqb b 32)
    (record { part = Start; name = l.name + 1; count = l.count; value = 0 })
    (record { part = Name; name = l.name + 1; count = l.count; value = 0 }))

abbrev pub name_after : (line : Line) (byte : ℕ) (slice : List ℕ) → List ℕ
name_after l b s = set s l.name b

-- the number is complete
unfoldable pub closed : (line : Line) (room : ℕ) → Line
closed l room = cond (leb room l.count) (line_at l Wrong 0) (record { part = Gap; name = l.name; count = l.count + 1; value = 0 })

abbrev pub numbers_after : (line : Line) (slice : List ℕ) → List ℕ
numbers_after l s = set s l.count l.value

-- One more byte, which is no line end: the line, the name's slice and the numbers' slice after it.
-- What does not fit makes the line wrong; `room` and `places` are how much the slices hold.
abbrev pub byte_line : (part : Part) (line : Line) (byte room places : ℕ) → Line
byte_line Start l b room places = on_some (digit_of_lem b) (λ d. line_at l Number d) (with_letter_lem l b room)
byte_line Name l b room places = on_some (digit_of_lem b) (λ d. line_at l Wrong 0) (with_letter_lem l b room)
byte_line Number l b room places = on_some (digit_of_lem b) (λ d. with_digit_lem l d) (cond (eqb b 32) (closed l places) (line_at l Wrong 0))
byte_line Gap l b room places = on_some (digit_of_lem b) (λ d. line_at l Number d) (line_at l Wrong 0)
byte_line Wrong l b room places = l

abbrev pub byte_name : (part : Part) (line : Line) (byte : ℕ) (slice : List ℕ) → List ℕ
byte_name Start l b s = on_some (digit_of_lem b) (λ d. s) (name_after l b s)
byte_name Name l b s = on_some (digit_of_lem b) (λ d. s) (name_after l b s)
byte_name Number l b s = s
byte_name Gap l b s = s
byte_name Wrong l b s = s

abbrev pub byte_numbers : (part : Part) (line : Line) (byte : ℕ) (slice : List ℕ) → List ℕ
byte_numbers Start l b s = s
byte_numbers Name l b s = s
byte_numbers Number l b s = on_some (digit_of_lem b) (λ d. s) (cond (eqb b 32) (numbers_after l s) s)
byte_numbers Gap l b s = s
byte_numbers Wrong l b s = s

-- the line at its end: a last number is complete, a space after one is wrong
abbrev pub end_line_lem : (part : Part) (line : Line) (places : ℕ) → Line
end_line_lem Start l places = l
end_line_lem Name l places = l
end_line_lem Number l places = closed l places
end_line_lem Gap l places = line_at l Wrong 0
end_line_lem Wrong l places = l

abbrev pub end_numbers : (part : Part) (line : Line) (slice : List ℕ) → List ℕ
end_numbers Start l s = s
end_numbers Name l s = s
end_numbers Number l s = numbers_after l s
end_numbers Gap l s = s
end_numbers Wrong l s = s

abbrev pub wrong : (part : Part) → Bool
wrong Start = false
wrong Name = false
wrong Number = false
wrong Gap = false
wrong Wrong = true
