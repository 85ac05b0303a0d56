-- The moved pairs, in the form that `search` takes.
use mathlib.Core.Path.{◌≡◌}
use mathlib.Core.Bool.{cond, ◌||◌}
use Prim.Native.Nat.{ℕ}
use lib.Dec.{eqb, leb}
use Rattle.words.specs.declared.pair.Pair.{Pair}
use Rattle.words.specs.declared.pair.Pairs.{Pairs}
use Rattle.tree_rm_rule.specs.Pairs.{none, home, named, by_old_slot, moved}

pub moved_is : (n z s x y a b c : ℕ) (p q o : Pair) (R : Pairs) → a ≡ home n z s x y x → b ≡ home n z s x y y → c ≡ home n z s x y z
    → p ≡ cond (eqb x s) none (named x a) → q ≡ cond (leb n y) none (named y b)
    → o ≡ cond (eqb z s || eqb z x || eqb z y) none (named z c) → R ≡ by_old_slot p q o → R ≡ moved n z s x y
unfolding moved
moved_is n z s x y a b c p q o R d e f g h i j = rw (← d, ← e, ← f, ← g, ← h, ← i) j
