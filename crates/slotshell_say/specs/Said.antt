-- A text with numbers in it: each `%` stands for the next number, and each `@` for the next number
-- as a link. Here is what the buffer holds after it.
-- Letters: b byte, n numbers, p page, s text, x number
use Rattle.std.specs.Prelude.{cond, List, [], ◌∷◌, ℕ, get_or, drop, eqb}
use Rattle.lines.specs.Output.{Page, out_byte, out_text, number}

-- a link, which is `-` if it leads nowhere
unfoldable pub out_link : (page : Page) (number : ℕ) → Page
out_link p x = cond (eqb x 4294967295) (out_byte p 45) (out_text p (number x))

-- a byte that is not `%`
unfoldable pub out_other : (page : Page) (byte number : ℕ) → Page
out_other p b x = cond (eqb b 64) (out_link p x) (out_byte p b)  -- "@"

-- a byte of the text, if x is the next number
unfoldable pub out_piece : (page : Page) (byte number : ℕ) → Page
out_piece p b x = cond (eqb b 37) (out_text p (number x)) (out_other p b x)  -- "%"

-- how many numbers a byte takes
unfoldable pub taken : (byte : ℕ) → ℕ
taken b = cond (eqb b 37) 1 (cond (eqb b 64) 1 0)

-- the whole text
unfoldable pub out_said : (page : Page) (text numbers : List ℕ) → Page
out_said p [] n = p
out_said p (b ∷ s) n = out_said (out_piece p b (get_or n 0 0)) s (drop (taken b) n)
