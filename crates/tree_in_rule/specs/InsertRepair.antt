-- "then the usual repair upward: recolour while the uncle is red, otherwise one or two rotations,
-- root black last", as the crate's `insert_repair` does it.
-- Letters: W words, C colours, n count, r root, x slot at which the repair stands, P parent of x,
--   G grandparent of x, u uncle of x, b side (true: left), S child that comes up
use Rattle.std.specs.Prelude.{Bool, true, false, cond, not, List, ℕ, eqb}
use Rattle.words.specs.Ix.{on_link}
use Rattle.words.specs.Nodes.{kid, par, fix}
use Rattle.bitvec.specs.Colours.{red, red_at, paint}
use Rattle.tree_edit.specs.Links.{root_after}
use Rattle.tree_edit.specs.Rotations.{rotate}
use Rattle.tree_edit.specs.Rounds.{Next, done, again, loop}

-- `rotate_left` at `true`, `rotate_right` at `false`: the child S of P on the side that b is not
-- comes up over P. "A rotation works out the hull of the node that went down, then of the one that
-- came up".
unfoldable pub rotated : (count : ℕ) (words : List ℕ) (side : Bool) (parent child : ℕ) → List ℕ
rotated n W b P S = fix n (fix n (rotate n W b P S) P) S

-- the child P of G, on the side b, comes up over G: P becomes black and G red
unfoldable pub outer : (count : ℕ) (words colours : List ℕ) (root : ℕ) (side : Bool)
    (parent grandparent : ℕ) → Next
outer n W C r b P G = done (rotated n W (not b) G P) (paint (paint C P false) G true) (root_after n W r G P)

-- x is the child of P on the other side: it comes up over P first, and then over G
unfoldable pub inner : (count : ℕ) (words colours : List ℕ) (root slot : ℕ) (side : Bool)
    (parent grandparent : ℕ) → Next
inner n W C r x b P G = outer n (rotated n W b P x) C r b x G

-- "recolour": parent and uncle u become black, the grandparent red, and the loop goes on there
unfoldable pub recoloured : (words colours : List ℕ) (root parent uncle grandparent : ℕ) → Next
recoloured W C r P u G = again W (paint (paint (paint C P false) u false) G true) r G

-- the slot x below the red P, which is on the side b of G
unfoldable pub insert_round_at : (count : ℕ) (words colours : List ℕ)
    (root slot parent grandparent : ℕ) (side : Bool) → Next
insert_round_at n W C r x P G b =
    cond (red_at n C (kid W (not b) G)) (recoloured W C r P (kid W (not b) G) G)
    (cond (eqb (kid W (not b) P) x) (inner n W C r x b P G) (outer n W C r b P G))

-- the slot x below the red P: on a store that passes the check P has a parent, since the root is
-- black
unfoldable pub insert_round_below : (count : ℕ) (words colours : List ℕ) (root slot parent : ℕ) → Next
insert_round_below n W C r x P = on_link n (par W P) (λ G. insert_round_at n W C r x P G (eqb (kid W true G) P)) (done W C r)

-- one round of the loop, at the red slot x: "root black last"; a black parent ends it
unfoldable pub insert_round : (count : ℕ) (words colours : List ℕ) (root slot : ℕ) → Next
insert_round n W C r x =
    on_link n (par W x) (λ P. cond (red C P) (insert_round_below n W C r x P) (done W C r)) (done W (paint C x false) r)

-- the loop, at most `rounds` rounds of it
abbrev pub insert_repair_lem : (count rounds : ℕ) (words colours : List ℕ) (root slot : ℕ) → Next
insert_repair_lem n rounds W C r x = loop (insert_round n) rounds W C r x
