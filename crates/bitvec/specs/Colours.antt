-- "Colours: .. 1 is red."
-- Letters: C colours, n count, s slot, v red? (true: red), k link
use Rattle.std.specs.Prelude.{Bool, false, List, ℕ}
use Rattle.words.specs.Ix.{on_link}
use Rattle.bitvec.specs.Bits.{bit_at, set_bit}

abbrev pub red : (colours : List ℕ) (slot : ℕ) → Bool
red C s = bit_at C s

-- the colour bytes with slot s made red or black
abbrev pub paint : (colours : List ℕ) (slot : ℕ) (red? : Bool) → List ℕ
paint C s v = set_bit C s v

-- a link leads to a red slot
abbrev pub red_at : (count : ℕ) (colours : List ℕ) (link : ℕ) → Bool
red_at n C k = on_link n k (λ s. red C s) false

-- a link that leads to a slot has it painted
unfoldable pub paint_at : (count : ℕ) (colours : List ℕ) (link : ℕ) (red? : Bool) → List ℕ
paint_at n C k v = on_link n k (λ s. paint C s v) C
