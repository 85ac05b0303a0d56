-- Document 02, item 5: "goes through every entry in tree order by links alone, without stack or
-- hulls".
-- Letters: W words, n count, r root, s slot, p parent, k link, Q rules of the lookup
use Rattle.std.specs.Prelude.{true, false, cond, List, [], ◌∷◌, ℕ, zero, suc, eqb}
use Rattle.words.specs.Ix.{U, on_link}
use Rattle.words.specs.Nodes.{kid, par}
use Rattle.words.specs.Lists.{filter}
use Rattle.tree_edit.specs.Links.{leftmost}
use Rattle.iter.specs.Walk.{Rules}

-- the first slot above s that has s on the left, at most `height` links up; U if there is none
unfoldable pub ascend : (count height : ℕ) (words : List ℕ) (slot : ℕ) → ℕ
ascend n zero W s = U
ascend n (suc height) W s =
    let up : ℕ = ascend n height W (par W s) in
    on_link n (par W s) (λ p. cond (eqb (kid W true p) s) p up) U

-- the slot after s: the leftmost of its right subtree if there is one, else the first above that
-- has s on the left
unfoldable pub next_of : (count : ℕ) (words : List ℕ) (slot : ℕ) → ℕ
next_of n W s = on_link n (kid W false s) (λ k. leftmost n 32 W k) (ascend n 32 W s)

-- the first slot, from the root r
unfoldable pub first_of : (count : ℕ) (words : List ℕ) (root : ℕ) → ℕ
first_of n W r = on_link n r (λ k. leftmost n 32 W k) U

-- the slots from the link k on, at most `left` of them
unfoldable pub tour : (count left : ℕ) (words : List ℕ) (link : ℕ) → List ℕ
tour n zero W k = []
tour n (suc left) W k =
    let rest : List ℕ = tour n left W (next_of n W k) in
    on_link n k (λ s. k ∷ rest) []

-- "every entry in tree order"
unfoldable pub entries : (count : ℕ) (words : List ℕ) (root : ℕ) → List ℕ
entries n W r = tour n n W (first_of n W r)

-- "tests each": those that the query asks for
unfoldable pub plain : (count : ℕ) (words : List ℕ) (rules : Rules) (root : ℕ) → List ℕ
plain n W Q r = filter Q.match (entries n W r)
