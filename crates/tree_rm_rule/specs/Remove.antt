-- The removal of one entry, step by step as document 01's 'Removal' says it. The repair makes at
-- most `rounds` rounds, the way to the slot to vacate has at most `links` links down, and at most
-- `hulls` hulls are worked out on the way up. The rule's numbers are 36, 32 and 32; `enough` of
-- proofs/Enough says that greater ones come to the same.
-- Letters: W words, C colours, n count, r root, X words after the exchange, s slot asked for,
--   k link, x vacated slot, y child of x, v emptied slot, z last slot, g above v, t store
use Rattle.std.specs.Prelude.{true, false, cond, ◌||◌, List, ℕ, ◌-◌, min, eqb}
use Rattle.words.specs.Ix.{U, gone, on_link}
use Rattle.words.specs.Nodes.{value, kid, par, hull, entry, put_node_lem, swap}
use Rattle.bitvec.specs.Colours.{red, red_at, paint}
use Rattle.tree_edit.specs.Links.{adopt, remove_child_lem, redirect, fix_up, leftmost}
use Rattle.tree_rm_rule.specs.Repair.{repair}
use Rattle.tree_rm_rule.specs.Pairs.{moved_to, emptied, moved}
use Rattle.words.specs.declared.pair.Pairs.{Pairs}
use Rattle.tree_edit.specs.Store.{Store, store}
use Rattle.tree_edit.specs.Rounds.{ending}

-- "The slot to vacate is the given one if its right link is U, else the leftmost of its right
-- subtree"
unfoldable pub vacated_with : (links count : ℕ) (words : List ℕ) (slot : ℕ) → ℕ
vacated_with links n W s = cond (gone n (kid W false s)) s (leftmost n links W (kid W false s))

abbrev pub vacated : (count : ℕ) (words : List ℕ) (slot : ℕ) → ℕ
vacated n W s = vacated_with 32 n W s

-- and by the other reading of the doubled test
unfoldable pub vacated' : (count : ℕ) (words : List ℕ) (slot : ℕ) → ℕ
vacated' n W s = cond (gone n (kid W true s) || gone n (kid W false s)) s (leftmost n 32 W (kid W false s))

-- "the two then exchange interval and value"
unfoldable pub exchanged : (words : List ℕ) (slot vacated : ℕ) → List ℕ
exchanged W s x = cond (eqb x s) W (swap W s x)

-- "The least of the two links is its child."
unfoldable pub child : (words : List ℕ) (vacated : ℕ) → ℕ
child W x = min (kid W true x) (kid W false x)

-- `restructure_rm`: "A red slot, or one with a red child, needs no repair", before the slot x with
-- the child y is vacated
unfoldable pub restructure_with : (rounds count : ℕ) (words colours : List ℕ)
    (root vacated child : ℕ) → Store
restructure_with rounds n W C r x y =
    let repaired : Store = ending (repair n rounds W C r x) in
    cond (red C x) (store W C r) (cond (red_at n C y) (store W (paint C y true) r) repaired)

abbrev pub restructure : (count : ℕ) (words colours : List ℕ) (root vacated child : ℕ) → Store
restructure n W C r x y = restructure_with 36 n W C r x y

-- "A child gives its interval and value to its parent and is vacated instead."
unfoldable pub handed : (count : ℕ) (words : List ℕ) (vacated child : ℕ) → List ℕ
handed n W x y = on_link n y (λ s. swap W x s) W

-- the link word of what is above the emptied slot
unfoldable pub above : (count : ℕ) (words : List ℕ) (vacated child : ℕ) → ℕ
above n W x y = on_link n y (λ s. x) (par W x)

-- the slot v is cut off from g, and "hulls are worked out afresh from the vacated slot's parent up
-- to the root"
unfoldable pub cut_words_with : (hulls count : ℕ) (words : List ℕ) (above emptied : ℕ) → List ℕ
cut_words_with hulls n W g v = on_link n g (λ s. fix_up n hulls (remove_child_lem W s v) s) W

abbrev pub cut_words : (count : ℕ) (words : List ℕ) (above emptied : ℕ) → List ℕ
cut_words n W g v = cut_words_with 32 n W g v

unfoldable pub cut_root : (count root above : ℕ) → ℕ
cut_root n r g = on_link n g (λ s. r) U

-- "the highest slot moves into the vacated one with parent, children, root and colour relinked":
-- the words of slot z go to slot v, and what leads to z leads to v
unfoldable pub copied : (words : List ℕ) (last emptied : ℕ) → List ℕ
copied W z v = put_node_lem W v (entry W z) (hull W z) (kid W true z) (kid W false z) (par W z)

unfoldable pub relinked : (count : ℕ) (words : List ℕ) (last emptied : ℕ) → List ℕ
relinked n W z v = redirect n (adopt n (adopt n (copied W z v) (kid W true z) v) (kid W false z) v) (par W z) z v

-- a slot without an entry: its three links are k, its other five words 0
abbrev pub blank : (link : ℕ) (words : List ℕ) (last : ℕ) → List ℕ
blank k W z = put_node_lem W z (record { start = 0; end = 0; value = 0 }) (record { start = 0; end = 0 }) k k k

-- "The left, right and parent words of that slot become U; the other five stay 0": document 02's
-- item 2, which corrects document 01
unfoldable pub cleared : (words : List ℕ) (last : ℕ) → List ℕ
cleared W z = blank U W z

-- `swap_remove`: the last slot z moves into the vacated slot v. "Its colour bit keeps what the
-- repair left in it."
unfoldable pub swap_remove_lem : (count : ℕ) (words colours : List ℕ) (root last emptied : ℕ) → Store
swap_remove_lem n W C r z v =
    cond (eqb v z) (store (cleared W z) C r) (store (cleared (relinked n W z v) z) (paint C v (red C z)) (moved_to z v r))

-- "The answer: removed value, new map, and up to three pairs"
pub record Removed : Type 0 where
  pub store : Store
  pub value : ℕ
  pub pairs : Pairs

-- the slot x, with the child y, is vacated in a store that is made ready for it, for the entry of
-- slot s
unfoldable pub finish_with : (hulls : ℕ) (store : Store) (count slot vacated child : ℕ) → Removed
finish_with hulls t n s x y =
    let v : ℕ = emptied n x y in
    let g : ℕ = above n t.words x y in
    let W : List ℕ = cut_words_with hulls n (handed n t.words x y) g v in
    record { store = swap_remove_lem n W t.colours (cut_root n t.root g) (n - 1) v; value = value W v; pairs = moved n (n - 1) s x y }

abbrev pub finish : (store : Store) (count slot vacated child : ℕ) → Removed
finish t n s x y = finish_with 32 t n s x y

-- the entry of slot s is removed, and the slot x vacated
unfoldable pub remove_from_with : (rounds hulls : ℕ) (words colours : List ℕ)
    (count root slot vacated : ℕ) → Removed
remove_from_with rounds hulls W C n r s x =
    let X : List ℕ = exchanged W s x in
    finish_with hulls (restructure_with rounds n X C r x (child X x)) n s x (child X x)

abbrev pub remove_from_lem : (words colours : List ℕ) (count root slot vacated : ℕ) → Removed
remove_from_lem W C n r s x = remove_from_with 36 32 W C n r s x

-- `remove_at`
unfoldable pub remove_with : (rounds links hulls : ℕ) (words colours : List ℕ) (count root slot : ℕ)
    → Removed
remove_with rounds links hulls W C n r s = remove_from_with rounds hulls W C n r s (vacated_with links n W s)

abbrev pub remove_rule : (words colours : List ℕ) (count root slot : ℕ) → Removed
remove_rule W C n r s = remove_with 36 32 32 W C n r s

-- and by the other reading of the doubled test
unfoldable pub remove_rule' : (words colours : List ℕ) (count root slot : ℕ) → Removed
remove_rule' W C n r s = remove_from_lem W C n r s (vacated' n W s)
