-- Document 02, item 13: "Remove the first intersecting entry in tree order, over and over, until
-- none is left; answer how many went." Here `find` names the slot of the entry that goes next, or a
-- number that is no slot if none does.
-- Letters: n count, s slot that goes next, S store, R sweep, l slots that go later
use Rattle.std.specs.Prelude.{cond, List, [], ◌∷◌, ℕ, zero, suc, ◌+◌, ◌-◌, ltb}
use Rattle.tree_edit.specs.Store.{Store}
use Rattle.tree_rm_rule.specs.Remove.{remove_rule}

-- the store, how many entries it has then, and how many went
pub record Sweep : Type 0 where
  pub store : Store
  pub count : ℕ
  pub gone : ℕ

-- the entry that goes next from a store of n entries, and the store without the entry of a slot
abbrev pub next : (find : List ℕ → ℕ → ℕ → ℕ) (store : Store) (count : ℕ) → ℕ
next find S n = find S.words n S.root

abbrev pub less : (store : Store) (count slot : ℕ) → Store
less S n s = (remove_rule S.words S.colours n S.root s).store

abbrev pub still : (store : Store) (count : ℕ) → Sweep
still S n = record { store = S; count = n; gone = 0 }

abbrev pub one_more_lem : (sweep : Sweep) → Sweep
one_more_lem R = record { store = R.store; count = R.count; gone = R.gone + 1 }

-- at most `turns` of them go
unfoldable pub sweep : (find : List ℕ → ℕ → ℕ → ℕ) (turns : ℕ) (store : Store) (count : ℕ) → Sweep
sweep find zero S n = still S n
sweep find (suc turns) S n =
    let s : ℕ = next find S n in
    let R : Sweep = one_more_lem (sweep find turns (less S n s) (n - 1)) in
    cond (ltb s n) R (still S n)

-- their slots, each as it is when its entry goes
unfoldable pub gone_slots : (find : List ℕ → ℕ → ℕ → ℕ) (turns : ℕ) (store : Store) (count : ℕ)
    → List ℕ
gone_slots find zero S n = []
gone_slots find (suc turns) S n =
    let s : ℕ = next find S n in
    let l : List ℕ = gone_slots find turns (less S n s) (n - 1) in
    cond (ltb s n) (s ∷ l) []
