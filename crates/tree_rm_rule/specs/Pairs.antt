-- "up to three pairs (old slot, new slot), by rising old slot, of entries whose slot differs after
-- all exchanges; unused pairs are (U, U)"
-- Letters: n count, z last slot, s removed slot, x vacated slot, y child of x, a slot or old slot
--   or pair, c from or pair, b to or new slot or pair, p first pair, q second pair, o third pair,
--   d pair
use Rattle.std.specs.Prelude.{cond, ◌||◌, ℕ, eqb, ltb}
use Rattle.words.specs.Ix.{U, gone, on_link}
use Rattle.words.specs.declared.pair.Pair.{Pair}
use Rattle.words.specs.declared.pair.Pairs.{Pairs}

abbrev pub none : Pair
none = record { old = U; new = U }

-- slot a after slot c's content moved to b
unfoldable pub moved_to : (from to slot : ℕ) → ℕ
moved_to c b a = cond (eqb a c) b a

-- the slot that is emptied: the child's where there is one
unfoldable pub emptied : (count vacated child : ℕ) → ℕ
emptied n x y = on_link n y (λ s. s) x

-- where the entry of slot a is at the end: x's went to s, then y's to x, then the last slot's, z,
-- to the emptied one
unfoldable pub home : (count last removed vacated child slot : ℕ) → ℕ
home n z s x y a = moved_to z (emptied n x y) (moved_to y x (moved_to x s a))

-- the pair of two slots, unless they are one
unfoldable pub named : (old new : ℕ) → Pair
named a b = cond (eqb a b) none (record { old = a; new = b })

-- of two pairs the one with the lower, and with the higher, old slot
unfoldable pub lower : (first second : Pair) → Pair
lower p q = cond (ltb q.old p.old) q p

unfoldable pub upper : (first second : Pair) → Pair
upper p q = cond (ltb q.old p.old) p q

-- by rising old slot
unfoldable pub by_old_slot : (first second third : Pair) → Pairs
by_old_slot p q o =
    let a : Pair = lower p q in
    let b : Pair = upper p q in
    let c : Pair = upper b o in
    let d : Pair = lower b o in
    record { first = lower a d; second = upper a d; third = c }

-- the slots whose entries may have moved: x, y, and the last one z where it is none of the others
unfoldable pub moved : (count last removed vacated child : ℕ) → Pairs
moved n z s x y =
    by_old_slot
    (cond (eqb x s) none (named x (home n z s x y x)))
    (cond (gone n y) none (named y (home n z s x y y)))
    (cond (eqb z s || eqb z x || eqb z y) none (named z (home n z s x y z)))
