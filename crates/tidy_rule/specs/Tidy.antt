-- The moves, in place. Each node is given its new slot beside its parent link; the nodes change
-- places until each is in its own slot; and that number is taken away again. specs/Tidied says what
-- comes of it.
-- Letters: W words, C colours, n count, P plan, m slots to do, s slot, k link, v new slot, i slot,
--   j other slot, S store, b side (true: left), X later words
use Rattle.std.specs.Prelude.{Bool, true, false, cond, ◌||◌, List, ℕ, zero, suc, ◌+◌, ◌*◌, ◌/◌, ◌%◌, eqb, ltb, get_or}
use Rattle.words.specs.Ix.{gone}
use Rattle.words.specs.Layouts.{narrowed, widened}
use Rattle.words.specs.Nodes.{kid, par, hull, entry, put_kid, put_par, put_node_lem}
use Rattle.bitvec.specs.Colours.{red, paint}
use Rattle.tidy_rule.specs.Plan.{renamed}

-- A parent link takes 16 bits, 65535 for U, and so does a slot. The word that has both is `widened`
-- of 32 bits, which a node of either layout can hold.
abbrev pub with_tag : (link new : ℕ) → ℕ
with_tag k v = widened (narrowed k + v * 65536)

-- a child link of slot s renamed
unfoldable pub rename_kid : (count : ℕ) (plan words : List ℕ) (side : Bool) (slot : ℕ) → List ℕ
rename_kid n P W b s = put_kid W b s (renamed n P (kid W b s))

-- the links of slot s renamed, and its new slot above the parent's 16 bits
unfoldable pub tag_node_lem : (count : ℕ) (plan words : List ℕ) (slot : ℕ) → List ℕ
tag_node_lem n P W s =
    let X : List ℕ = rename_kid n P (rename_kid n P W true s) false s in
    put_par X s (with_tag (renamed n P (par X s)) (get_or P s 0))

-- those of the slots below m
unfoldable pub tagged : (count : ℕ) (plan : List ℕ) (slots : ℕ) (words : List ℕ) → List ℕ
tagged n P zero W = W
tagged n P (suc m) W = tag_node_lem n P (tagged n P m W) m

-- the slot that the node in slot s is to go to
unfoldable pub tag : (words : List ℕ) (slot : ℕ) → ℕ
tag W s = narrowed (par W s) / 65536

-- two nodes change places, all eight words, and two colours
unfoldable pub swap_nodes_lem : (words : List ℕ) (slot other : ℕ) → List ℕ
swap_nodes_lem W i j =
    put_node_lem (put_node_lem W i (entry W j) (hull W j) (kid W true j) (kid W false j) (par W j)) j (entry W i) (hull W i) (kid W true i) (kid W false i) (par W i)

unfoldable pub swap_colours_lem : (colours : List ℕ) (slot other : ℕ) → List ℕ
swap_colours_lem C i j = paint (paint C i (red C j)) j (red C i)

-- words and colours of a store
pub record Both : Type 0 where
  pub words : List ℕ
  pub colours : List ℕ

-- from slot i on: the node that stands there goes to its slot, until the right one stands there
unfoldable pub settle : (turns count slot : ℕ) (words colours : List ℕ) → Both
settle zero n i W C = record { words = W; colours = C }
settle (suc turns) n i W C =
    let j : ℕ = tag W i in
    let next : Both = settle turns n (i + 1) W C in
    let again : Both = settle turns n i (swap_nodes_lem W i j) (swap_colours_lem C i j) in
    let here : Both = cond (eqb j i || gone n j) next again in
    cond (ltb i n) here (record { words = W; colours = C })

-- slot s has its parent link alone again; and so do the slots below m
unfoldable pub untag_node_lem : (words : List ℕ) (slot : ℕ) → List ℕ
untag_node_lem W s = put_par W s (widened (narrowed (par W s) % 65536))

unfoldable pub untagged : (slots : ℕ) (words : List ℕ) → List ℕ
untagged zero W = W
untagged (suc m) W = untag_node_lem (untagged m W) m

-- all of it; 2 n turns are always enough
unfoldable pub tidied : (count : ℕ) (plan words colours : List ℕ) → Both
tidied n P W C =
    let S : Both = settle (n * 2) n 0 (tagged n P n W) C in
    record { words = untagged n S.words; colours = S.colours }
