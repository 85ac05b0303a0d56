-- "The walk is a function of its own, one mark or one link a move, with slot and stack by value;
-- steps and drains loop over it." Overlap and exact lookup are two instances, by their rules.
-- Letters: W words, n count, v state, d next cursor, r rest, m moves, Q rules of the lookup,
--   c cursor, b side (true: left), e entered so far
use Rattle.std.specs.Prelude.{Bool, true, false, cond, ◌&&◌, List, [], ◌∷◌, ◌++◌, ℕ, zero, suc, ◌+◌, ◌*◌, eqb, ltb}
use Rattle.words.specs.Ix.{U}
use Rattle.words.specs.Nodes.{kid, par}
use Rattle.stack.specs.States.{entered, was_left, returned, was_right, top, marked, pushed}
use Rattle.iter.specs.Cursors.{cursor, stack_of, ended, up_to}
use Rattle.iter.specs.declared.Cursor.{Cursor}

-- whether the walk goes to the child of a slot on a side (`true`: left), and whether a slot's entry
-- is looked for
pub record Rules : Type 0 where
  pub go : (side : Bool) (slot : ℕ) → Bool
  pub match : (slot : ℕ) → Bool

-- the state that the top level gets before the walk goes down on a side: 01 was left, 11 was right
abbrev pub side : (side : Bool) → ℕ
side true = was_left
side false = was_right

-- the walk goes down on a side b: the rules say so, and the stack takes one more level
unfoldable pub deeper : (rules : Rules) (side : Bool) (cursor : Cursor) → Bool
deeper Q b c = ltb c.levels 32 && Q.go b c.slot

-- the top level is marked v, and then: the walk stays; or it goes to the child on the side b,
-- entered
unfoldable pub mark : (state : ℕ) (cursor : Cursor) → Cursor
mark v c = cursor c.slot (marked v (stack_of c))

unfoldable pub down : (words : List ℕ) (side : Bool) (cursor : Cursor) → Cursor
down W b c = cursor (kid W b c.slot) (pushed (marked (side b) (stack_of c)))

-- one move. 00: go left, or mark 01. 01: mark 10. 10: go right, or up. 11: up.
unfoldable pub move : (words : List ℕ) (rules : Rules) (cursor : Cursor) → Cursor
move W Q c =
    cond (eqb (top (stack_of c)) entered)
    (cond (deeper Q true c) (down W true c) (mark was_left c))
    (cond (eqb (top (stack_of c)) was_left)
    (mark returned c)
    (cond (eqb (top (stack_of c)) returned && deeper Q false c) (down W false c) (up_to (par W c.slot) c)))

-- "A live node is entered where the fresh cursor or a move puts it on top in state 00"
unfoldable pub enters : (count : ℕ) (cursor : Cursor) → Bool
enters n c = ltb c.slot n && eqb (top (stack_of c)) entered

-- a live node is on top in state 10, and its entry is looked for: it is a hit
unfoldable pub hits : (count : ℕ) (rules : Rules) (cursor : Cursor) → Bool
hits n Q c = ltb c.slot n && (eqb (top (stack_of c)) returned && Q.match c.slot)

-- "Each step answers a hit with its slot, or the end, with the next cursor and the nodes entered in
-- this call"; U at the end
pub record Answer : Type 0 where
  pub slot : ℕ
  pub next : Cursor
  pub entered : ℕ

abbrev pub ending : (entered : ℕ) → Answer
ending e = record { slot = U; next = ended; entered = e }

abbrev pub hitting : (cursor : Cursor) (entered : ℕ) → Answer
hitting c e = record { slot = c.slot; next = c; entered = e }

-- what a state counts
abbrev pub counts : (count : ℕ) (cursor : Cursor) → ℕ
counts n c = cond (enters n c) 1 0

-- moves until a hit or the end, with e nodes entered so far
unfoldable pub seek : (words : List ℕ) (count : ℕ) (rules : Rules) (fuel entered : ℕ)
    (cursor : Cursor) → Answer
seek W n Q zero e c = ending e
seek W n Q (suc fuel) e c =
    let d : Cursor = move W Q c in
    let r : Answer = seek W n Q fuel (e + counts n d) d in
    cond (ltb c.slot n) (cond (hits n Q d) (hitting d e) r) (ending e)

-- as many moves as a call may take; they suffice on every store that passes the check
abbrev pub fuel : (count : ℕ) → ℕ
fuel n = n * 4 + 1

-- the step of a cursor: "the call on a fresh cursor counts its starting node, none where that is U"
unfoldable pub step : (words : List ℕ) (count : ℕ) (rules : Rules) (cursor : Cursor) → Answer
step W n Q c = seek W n Q (fuel n) (counts n c) c

-- "demand 3's nodes are read off this list of states": those of a call, in order, the first state's
-- own among them
unfoldable pub call : (words : List ℕ) (count : ℕ) (rules : Rules) (fuel : ℕ) (cursor : Cursor)
    → List ℕ
call W n Q zero c = cond (enters n c) (c.slot ∷ []) []
call W n Q (suc fuel) c =
    let d : Cursor = move W Q c in
    let r : List ℕ = call W n Q fuel d in
    cond (enters n c) (c.slot ∷ []) [] ++ cond (ltb c.slot n) (cond (hits n Q d) [] r) []

-- the state after some moves; the walk stays at its end
unfoldable pub after : (words : List ℕ) (count : ℕ) (rules : Rules) (moves : ℕ) (cursor : Cursor)
    → Cursor
after W n Q zero c = c
after W n Q (suc m) c =
    let d : Cursor = after W n Q m (move W Q c) in
    cond (ltb c.slot n) d c
