-- Document 02, item 14: "a new slot for each old one". A plan is a list that has, at the place of
-- each old slot, its new one.
-- Letters: W words, n count, r root, P plan, m slots to ask about, k link, i first place, s slot,
--   l slots, O output, v new slot, M marks
use Rattle.std.specs.Prelude.{Bool, true, not, ◌&&◌, List, [], ◌∷◌, ℕ, zero, suc, ◌+◌, eqb, ltb, length, get_or, set}
use Rattle.words.specs.Ix.{U, on_link}
use Rattle.bitvec.specs.Bits.{bit_at, set_bit}
use Rattle.tree.specs.Tree.{times}
use Rattle.plain_rule.specs.Tour.{entries}

-- each slot below m stands in the plan once
unfoldable pub each_once : (slots : ℕ) (plan : List ℕ) → Bool
each_once zero P = true
each_once (suc m) P =
    let rest : Bool = each_once m P in
    eqb (times m P) 1 && rest

-- "exactly if it names each slot below count once": as many numbers as slots, and each slot once
unfoldable pub fits : (count : ℕ) (plan : List ℕ) → Bool
fits n P = eqb (length P) n && each_once n P

-- how the test goes about it: each number is below the count and not marked before, and is marked;
-- a mark is a bit
unfoldable pub all_new : (count : ℕ) (marks plan : List ℕ) → Bool
all_new n M [] = true
all_new n M (v ∷ P) =
    let rest : Bool = all_new n (set_bit M v true) P in
    (ltb v n && not (bit_at M v)) && rest

-- a link word, renamed by the plan: U where it leads to no slot
unfoldable pub renamed : (count : ℕ) (plan : List ℕ) (link : ℕ) → ℕ
renamed n P k = on_link n k (λ s. get_or P s 0) U

-- the slots of a list get their places, from i on
unfoldable pub numbered : (first : ℕ) (slots output : List ℕ) → List ℕ
numbered i [] O = O
numbered i (s ∷ l) O = numbered (i + 1) l (set O s i)

-- the planner's proposal, written over the places of O: "its place in tree order"
unfoldable pub proposed : (count : ℕ) (words : List ℕ) (root : ℕ) (output : List ℕ) → List ℕ
proposed n W r O = numbered 0 (entries n W r) O
