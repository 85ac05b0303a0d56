-- How many calls the one pass comes to.
-- Letters: n count, N nodes (by slot), p parent, k link, l left calls, r right calls
use Rattle.std.specs.Prelude.{cond, ℕ, zero, suc, ◌+◌, eqb}
use Rattle.words.specs.Ix.{U}
use Rattle.audit.specs.declared.Node.{Node}
use Rattle.audit.specs.Survey.{enters}

-- the calls that a call with this height, at the link k below p, comes to, itself counted: the
-- recursion of `pass`, whatever node is judged
unfoldable pub calls : (nodes : ℕ → Node) (count height parent link : ℕ) → ℕ
calls N n zero p k = 1
calls N n (suc height) p k =
    let l : ℕ = calls N n height k (N k).left in
    let r : ℕ = calls N n height k (N k).right in
    cond (eqb k U) 1 (cond (enters N n p k) (suc (l + r)) 1)
