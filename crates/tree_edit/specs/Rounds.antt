-- The loop of a repair: what a round comes to, and how the loop goes on.
-- Letters: W words, C colours, r root, ix slot of the loop, f continue, X later words, D later
--   colours, q later root, i later slot
use Rattle.std.specs.Prelude.{List, ℕ, zero, suc}
use Rattle.tree_edit.specs.Store.{Store, store}

-- words, colours and root; and where the loop goes on, the slot that it stands at
pub data Next : Type 0 where
  done : (words colours : List ℕ) (root : ℕ) → Next
  again : (words colours : List ℕ) (root slot : ℕ) → Next

abbrev pub ending : (next : Next) → Store
ending (done W C r) = store W C r
ending (again W C r ix) = store W C r

-- where the loop goes on, f does
abbrev pub go_on : (next : Next) (continue : (words colours : List ℕ) (root slot : ℕ) → Next) → Next
go_on (done W C r) f = done W C r
go_on (again W C r ix) f = f W C r ix

-- the loop over the round f, at most `rounds` rounds of it
unfoldable pub loop : (continue : (words colours : List ℕ) (root slot : ℕ) → Next) (rounds : ℕ)
    (words colours : List ℕ) (root slot : ℕ) → Next
loop f zero W C r ix = again W C r ix
loop f (suc rounds) W C r ix = go_on (f W C r ix) (λ X D q i. loop f rounds X D q i)
