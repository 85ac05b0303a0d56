-- "Cursor forms", in a tree that begins at the slot k: the root, or for exact lookup the highest
-- equal node.
-- Letters: W words, n count, p parent, k start of the lookup, j links up, r rest of the test,
--   c cursor, s slot
use Rattle.std.specs.Prelude.{Bool, true, false, cond, ◌&&◌, ◌||◌, List, ℕ, zero, suc, ◌-◌, ◌/◌, ◌^◌, eqb, ltb, leb}
use Rattle.words.specs.Ix.{U}
use Rattle.words.specs.Nodes.{kid, par}
use Rattle.stack.specs.States.{was_left, returned, was_right, state_at_lem}
use Rattle.iter.specs.declared.Cursor.{Cursor}
use Rattle.iter.specs.declared.Form.{Form}
use Rattle.iter.specs.declared.Form.TheVariants.{Fresh, Held, Ended, Bad}

-- three words are those of a cursor
abbrev pub same : (slot levels bits : ℕ) (cursor : Cursor) → Bool
same s levels bits c = eqb c.slot s && (eqb c.levels levels && eqb c.bits bits)

-- the slot s is the child of p on the side that p's state says: "each ancestor 01 or 11 by side"
unfoldable pub on_side : (words : List ℕ) (state parent slot : ℕ) → Bool
on_side W state p s = eqb state was_left && eqb (kid W true p) s || eqb state was_right && eqb (kid W false p) s

-- j links up from s is k, and each level below j says by which side the way comes
unfoldable pub formed : (words : List ℕ) (count start bits links slot : ℕ) → Bool
formed W n k bits zero s = eqb s k
formed W n k bits (suc j) s =
    let r : Bool = formed W n k bits j (par W s) in
    ltb (par W s) n && (on_side W (state_at_lem bits j) (par W s) s && r)

-- "Held: a live slot, as many levels as its depth, top 10": what stands from the top level's bits
-- up is 10 and nothing else
unfoldable pub held_form : (words : List ℕ) (count start : ℕ) (cursor : Cursor) → Bool
held_form W n k c =
    ltb c.slot n && (leb 1 c.levels && (leb c.levels 32
    && (eqb (c.bits / 4 ^ (c.levels - 1)) returned && formed W n k c.bits (c.levels - 1) c.slot)))

unfoldable pub form_of : (words : List ℕ) (count start : ℕ) (cursor : Cursor) → Form
form_of W n k c = cond (same k 1 0 c) Fresh (cond (same U 0 0 c) Ended (cond (held_form W n k c) Held Bad))
