-- What a change leaves alone, whatever the words hold.
-- Letters: W words, C colours, n count, S store, f field, a slot
use Rattle.std.specs.Prelude.{◌≡◌, List, ℕ, ◌≤◌, length}
use Rattle.words.specs.Nodes.{word}
use Rattle.words.specs.declared.node.Field.{Field}
use Rattle.bitvec.specs.Colours.{red}
use Rattle.tree_edit.specs.Store.{Store}

-- What is written lies below the old count: the words and the colours keep their lengths, the words
-- of every slot from n up, and its colour.
pub record Inside (n : ℕ) (W C : List ℕ) (S : Store) : Type 0 where
  pub words_length : length S.words ≡ length W
  pub colours_length : length S.colours ≡ length C
  pub words_kept : (f : Field) (a : ℕ) → n ≤ a → word S.words f a ≡ word W f a
  pub colours_kept : (a : ℕ) → n ≤ a → red S.colours a ≡ red C a
