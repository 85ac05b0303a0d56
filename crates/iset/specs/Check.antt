-- "the check by itself 1, 2"
-- Letters: m map, W words, C colours, k number of a refusal, x next number, y refusal
use Rattle.std.specs.Prelude.{ℕ, cond, List, length, ◌==◌, nat_lt, Result, Ok, Err}
use Rattle.words.specs.Nodes.{capacity}
use Rattle.words.specs.Refusals.{refusal_number}
use Rattle.words.specs.declared.refusal.Refusal.{Refusal}
use Rattle.audit.specs.Survey.{whole_of}
use Rattle.iset.specs.declared.Map.{Map}

-- the refusal's number, 0 for none
abbrev pub check_number : {A : Type 0} → (checked : Result A Refusal) → ℕ
check_number (Ok _) = 0
check_number (Err y) = refusal_number y

-- a refusal's number k, or where that is 0 the one that comes next
abbrev pub first : (number next : ℕ) → ℕ
first k x = cond (k == 0) x k

-- 1: "count .. above capacity". It is all that a call on an opened store, one that passed the check
-- before, tests of it.
unfoldable pub count_number : (map : Map) (words colours : List ℕ) → ℕ
count_number m W C = cond (nat_lt (capacity (length W) (length C)) m.count) 1 0

-- 1: "count .. above capacity"; 2: "the check fails"
unfoldable pub check_rule : (map : Map) (words colours : List ℕ) → ℕ
check_rule m W C = cond (nat_lt (capacity (length W) (length C)) m.count) 1 (cond (whole_of W C m.count m.root) 0 2)
