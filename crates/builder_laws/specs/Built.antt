-- What a build leaves.
-- Letters: n count, S triples, W words before, C colours before, X words afterwards, K red? (which
--   slots are) or colours afterwards, D deepest level that is black, d depth of the root, a first
--   slot, s slot, k any number, r right subtree or root, l left subtree
use Rattle.std.specs.Prelude.{◌≡◌, Bool, cond, List, [], ◌∷◌, map, ℕ, zero, suc, ◌+◌, ◌/◌, ◌^◌, ◌<◌, ◌≤◌, length, drop, eqb, ltb}
use Rattle.words.specs.Ix.{U}
use Rattle.words.specs.Nodes.{entry, words_of}
use Rattle.bitvec.specs.Colours.{red}
use Rattle.tree.specs.Tree.{Tree, leaf, node, slots}
use Rattle.tree.specs.Passes.{Passes}
use Rattle.builder.specs.Input.{entry_of}

-- the n slots from a on, and those below n
abbrev pub range : (first count : ℕ) → List ℕ
range a zero = []
range a (suc n) = a ∷ range (suc a) n

abbrev pub up_to : (count : ℕ) → List ℕ
up_to n = range 0 n

-- "With D the greatest number such that 2^D <= n + 1"
pub record Greatest (D n : ℕ) : Type 0 where
  pub fits : 2 ^ D ≤ n + 1
  pub most : (k : ℕ) → 2 ^ k ≤ n + 1 → k ≤ D

-- "nodes at depth above D are red (root depth 1)", and no others: in a tree whose root has depth d
abbrev pub Depths : (red? : ℕ → Bool) (deepest depth : ℕ) (tree : Tree) → Type 0
Depths K D d leaf = Unit {0}
Depths K D d (node l s r) = (K s ≡ ltb D d) × Depths K D (suc d) l × Depths K D (suc d) r

-- X and K are the words and the colours of the first n triples of S, built in the words W and the
-- colours C; r is the root
pub record Built (S W C : List ℕ) (n : ℕ) (X K : List ℕ) (r : ℕ) : Type 0 where
  pub passes : Passes X K n r
  -- "count 0, root U"; else the middle
  pub root : r ≡ cond (eqb n 0) U (n / 2)
  -- the entries in tree order are the input in its order, in slots 0 .. n - 1
  pub order : slots passes.tree ≡ up_to n
  pub listed : map (entry X) (slots passes.tree) ≡ map (entry_of S) (up_to n)
  -- "Entry k goes to slot k."
  pub entries : (k : ℕ) → k < n → entry X k ≡ entry_of S k
  pub depths : (D : ℕ) → Greatest D n → Depths (red K) D 1 passes.tree
  -- "Slots and colour bits from n up keep their state."
  pub words_kept : drop (words_of n) X ≡ drop (words_of n) W
  pub words_length : length X ≡ length W
  pub bits_kept : (s : ℕ) → n ≤ s → red K s ≡ red C s
  pub bits_length : length K ≡ length C
