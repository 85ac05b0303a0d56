-- The distance of two versions, over the number of changes between them.
use Rattle.std.proofs.Common.{◌≡◌, ℕ, ◌+◌, ◌%◌, ◌<◌, arith}
use Rattle.iset.specs.Maps.{raised, raised_by}
use Rattle.iset.specs.Ticket.{age}

-- one change, or some, and k more
pub raise_one : (v k : ℕ) → (raised v + k) % 4294967296 ≡ (v + (1 + k)) % 4294967296
raise_one v k = omega arith

pub raise_more : (v j k : ℕ) → (raised_by v j + k) % 4294967296 ≡ (v + (j + k)) % 4294967296
raise_more v j k = omega arith

pub raised_below : (v j : ℕ) → raised_by v j < 4294967296
raised_below v j = omega arith

-- k changes after the version v
pub age_is : (v k : ℕ) → v < 4294967296 → age ((v + k) % 4294967296) v ≡ k % 4294967296
unfolding age
age_is v k h = omega arith

-- what the code's subtraction answers
pub age_from : (now taken r : ℕ) → now < 4294967296 → taken < 4294967296 → r < 4294967296 → (r + taken) % 4294967296 ≡ now → r ≡ age now taken
unfolding age
age_from now taken r h i j e = omega arith
