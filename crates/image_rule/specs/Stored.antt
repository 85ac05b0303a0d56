-- The store in an image of n entries: "entries (start, end, value, 24 bytes a slot), links (left,
-- right, parent, 12 bytes a slot), colours".
-- Letters: W words, C colours, n count, r root, I image (its bytes), s slot or slots, j place of
--   the link, b side (true: left)
use Rattle.std.specs.Prelude.{◌≡◌, Bool, true, cond, List, ℕ, zero, suc, ◌+◌, ◌*◌, ◌<◌}
use Rattle.words.specs.Layouts.{kid_fits, up_fits_lem}
use Rattle.words.specs.Nodes.{put_node_lem}
use Rattle.words.specs.declared.interval.Interval.{Interval}
use Rattle.words.specs.declared.node.Entry.{Entry}
use Rattle.bitvec.specs.Bits.{bit_at}
use Rattle.bitvec.specs.Colours.{paint}
use Rattle.audit.specs.declared.Node.{Node}
use Rattle.little.specs.Numbers.{number}
use Rattle.image_rule.specs.Layout.{links_at_lem, colours_at_lem, count_in_lem, root_in_lem}
use Rattle.image_rule.specs.Judge.{whole_at, worked}

abbrev pub entry_in_lem : (image : List ℕ) (slot : ℕ) → Entry
entry_in_lem I s = record { start = number 8 I (44 + s * 24); end = number 8 I (44 + s * 24 + 8); value = number 8 I (44 + s * 24 + 16) }

abbrev pub interval_in_lem : (image : List ℕ) (slot : ℕ) → Interval
interval_in_lem I s = record { start = (entry_in_lem I s).start; end = (entry_in_lem I s).end }

-- a link of slot s: the left one at j = 0, the right one at 1, the parent at 2
abbrev pub link_in : (image : List ℕ) (count slot place : ℕ) → ℕ
link_in I n s j = number 4 I (links_at_lem n + s * 12 + j * 4)

abbrev pub child_in_lem : (image : List ℕ) (count : ℕ) (side : Bool) (slot : ℕ) → ℕ
child_in_lem I n b s = link_in I n s (cond b 0 1)

-- Each link of the image's slots fits nodes of the layout. Links in an image have 32 bits, those of
-- six-word nodes 16.
pub record LinksFit (narrow : Bool) (I : List ℕ) (n : ℕ) : Type 0 where
  pub left : (s : ℕ) → s < n → kid_fits narrow (link_in I n s 0) ≡ true
  pub right : (s : ℕ) → s < n → kid_fits narrow (link_in I n s 1) ≡ true
  pub up : (s : ℕ) → s < n → up_fits_lem narrow (link_in I n s 2) ≡ true

-- the colour of slot s. An image is a list of bits too: this bit is the slot's.
abbrev pub red_in_lem : (image : List ℕ) (count slot : ℕ) → Bool
red_in_lem I n s = bit_at I (colours_at_lem n * 8 + s)

-- the node of slot s, with its own interval in the place of a hull
abbrev pub node_in_lem : (image : List ℕ) (count slot : ℕ) → Node
node_in_lem I n s =
    record {
      interval = interval_in_lem I s;
      hull = interval_in_lem I s;
      left = link_in I n s 0;
      right = link_in I n s 1;
      parent = link_in I n s 2;
      red = red_in_lem I n s;
    }

-- 2: the store in the image passes the check, its hulls worked out
abbrev pub is_good : (image : List ℕ) → Bool
is_good I = whole_at (node_in_lem I (count_in_lem I)) (count_in_lem I) (root_in_lem I)

-- the words with the first m slots read, hulls not yet worked out
unfoldable pub unpacked : (image : List ℕ) (count slots : ℕ) (words : List ℕ) → List ℕ
unpacked I n zero W = W
unpacked I n (suc s) W =
    put_node_lem (unpacked I n s W) s (entry_in_lem I s) (interval_in_lem I s) (link_in I n s 0) (link_in I n s 1) (link_in I n s 2)

-- the colours with the first m bits read
unfoldable pub painted : (image : List ℕ) (count slots : ℕ) (colours : List ℕ) → List ℕ
painted I n zero C = C
painted I n (suc s) C = paint (painted I n s C) s (red_in_lem I n s)

-- what reading an image of n entries with the root r leaves in the words and in the colours
unfoldable pub loaded_words : (image : List ℕ) (count root : ℕ) (words : List ℕ) → List ℕ
loaded_words I n r W = worked n 33 (unpacked I n n W) r

unfoldable pub loaded_colours : (image : List ℕ) (count : ℕ) (colours : List ℕ) → List ℕ
loaded_colours I n C = painted I n n C
