-- "Otherwise the five cases of `restructure_rm_complex_cases` run in the file's order."
-- Letters: W words, C colours, n count, r root, ix slot, P parent, S sibling, c close nephew,
--   d distant nephew, p parent (red?), s sibling (red?), b side (true: left)
use Rattle.std.specs.Prelude.{Bool, true, false, cond, not, ◌&&◌, List, ℕ, eqb}
use Rattle.words.specs.Ix.{on_link}
use Rattle.words.specs.Nodes.{kid, par, fix}
use Rattle.bitvec.specs.Colours.{red, red_at, paint, paint_at}
use Rattle.tree_edit.specs.Links.{root_after}
use Rattle.tree_edit.specs.Rotations.{rotate, rotate_2, rotate_4}
use Rattle.tree_edit.specs.Rounds.{Next, done, again, loop}

pub data Case : Type 0 where
  one two three four five : Case

-- the parent, the sibling, the close and the distant nephew are red: which case it is, in the
-- file's order
unfoldable pub choose : (parent sibling close distant : Bool) → Case
choose p s c d =
    cond (not p && not c && not d) (cond s two one)
    (cond (p && not s && not c && not d) three (cond (not s && not d && c) four five))

-- what the case writes, for the slot ix below P with the sibling S and the nephews c and d
abbrev pub act : (count : ℕ) (case : Case) (words colours : List ℕ) (root slot : ℕ) (side : Bool)
    (parent sibling close distant : ℕ) → Next
act n one W C r ix b P S c d = again W (paint C S true) r P
act n two W C r ix b P S c d = again (rotate_2 n W b P S) (paint (paint C P true) S false) (root_after n W r P S) ix
act n three W C r ix b P S c d = done W (paint (paint C P false) S true) r
act n four W C r ix b P S c d = again (fix n (fix n (rotate_4 n W b P S c) S) c) (paint (paint C c false) S true) r ix
act n five W C r ix b P S c d = done (rotate n W b P S) (paint_at n (paint (paint C S (red C P)) P false) d false) (root_after n W r P S)

-- one round of the loop, with the parent, the side and the sibling at hand
unfoldable pub round_of : (count : ℕ) (words colours : List ℕ) (root slot parent : ℕ) (side : Bool)
    (sibling : ℕ) → Next
round_of n W C r ix P b S =
    act n (choose (red C P) (red C S) (red_at n C (kid W b S)) (red_at n C (kid W (not b) S))) W C r ix b P S (kid W b S) (kid W (not b) S)

-- on a store that passes the check there is a sibling
unfoldable pub round_at_lem : (count : ℕ) (words colours : List ℕ) (root slot parent : ℕ) (side : Bool)
    → Next
round_at_lem n W C r ix P b = on_link n (kid W (not b) P) (λ S. round_of n W C r ix P b S) (done W C r)

-- "Node is the root of the tree" ends the loop; the five cases come after that test
unfoldable pub round : (count : ℕ) (words colours : List ℕ) (root slot : ℕ) → Next
round n W C r ix = on_link n (par W ix) (λ P. round_at_lem n W C r ix P (eqb (kid W true P) ix)) (done W C r)

-- the loop, at most `rounds` rounds of it
abbrev pub repair : (count rounds : ℕ) (words colours : List ℕ) (root slot : ℕ) → Next
repair n rounds W C r ix = loop (round n) rounds W C r ix
