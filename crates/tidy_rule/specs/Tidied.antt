-- "every node moves with its colour and links": what a renumbering by the plan P leaves of the
-- words W and the colours C of a store with the count n. `tidied_unique` of proofs/Renumbers says
-- that it leaves no choice.
-- Letters: n count, P plan, W words before, C colours before, X words afterwards, D colours
--   afterwards, s old slot, b side (true: left), f new slot of each or field, a slot from the count
--   up, l left subtree, r right subtree
use Rattle.std.specs.Prelude.{◌≡◌, Bool, List, ℕ, ◌<◌, ◌≤◌, length, get_or}
use Rattle.words.specs.Nodes.{word, kid, par, entry, hull}
use Rattle.words.specs.declared.node.Field.{Field}
use Rattle.bitvec.specs.Colours.{red}
use Rattle.tree.specs.Tree.{Tree, leaf, node}
use Rattle.tidy_rule.specs.Plan.{renamed}

-- a tree with other slots, and the same shape
abbrev pub with_slots : (new : ℕ → ℕ) (tree : Tree) → Tree
with_slots f leaf = leaf
with_slots f (node l s r) = node (with_slots f l) (f s) (with_slots f r)

-- X and D are the words and the colours afterwards. The node of slot s stands in slot get_or P s 0.
pub record Tidied (n : ℕ) (P W C X D : List ℕ) : Type 0 where
  pub entries : (s : ℕ) → s < n → entry X (get_or P s 0) ≡ entry W s
  pub hulls : (s : ℕ) → s < n → hull X (get_or P s 0) ≡ hull W s
  -- each link leads to where its slot's node went
  pub kids : (b : Bool) (s : ℕ) → s < n → kid X b (get_or P s 0) ≡ renamed n P (kid W b s)
  pub parents : (s : ℕ) → s < n → par X (get_or P s 0) ≡ renamed n P (par W s)
  pub colours : (s : ℕ) → s < n → red D (get_or P s 0) ≡ red C s
  -- nothing else changes
  pub words_length : length X ≡ length W
  pub colours_length : length D ≡ length C
  pub words_kept : (f : Field) (a : ℕ) → n ≤ a → word X f a ≡ word W f a
  pub colours_kept : (a : ℕ) → n ≤ a → red D a ≡ red C a
