-- "A drain steps until the end or its limit of hits, writing slots .. It answers the hits written,
-- the sum entered and the next cursor. Places past the hits written stay."
-- Letters: W words, n count, a answer of a step, d drained or first drain, e entered nodes or
--   second drain, r rest, Q rules of the lookup, c cursor, s slot
use Rattle.std.specs.Prelude.{cond, List, [], ◌∷◌, ◌++◌, ℕ, zero, suc, ◌+◌, eqb, ltb, length, drop}
use Rattle.iter.specs.Walk.{Rules, Answer, fuel, step, call}
use Rattle.iter.specs.declared.Cursor.{Cursor}

-- the slots of the hits, in order; the next cursor; the nodes entered
pub record Drained : Type 0 where
  pub slots : List ℕ
  pub next : Cursor
  pub entered : ℕ

-- a hit before the rest of a drain
abbrev pub more : (slot entered : ℕ) (drained : Drained) → Drained
more s e d = record { slots = s ∷ d.slots; next = d.next; entered = e + d.entered }

-- two drains, the second from the first one's next cursor
abbrev pub joined : (first second : Drained) → Drained
joined d e = record { slots = d.slots ++ e.slots; next = e.next; entered = d.entered + e.entered }

unfoldable pub drain : (words : List ℕ) (count : ℕ) (rules : Rules) (limit : ℕ) (cursor : Cursor)
    → Drained
drain W n Q zero c = record { slots = []; next = c; entered = 0 }
drain W n Q (suc limit) c =
    let a : Answer = step W n Q c in
    let d : Drained = more a.slot a.entered (drain W n Q limit a.next) in
    cond (ltb a.slot n) d (record { slots = []; next = a.next; entered = a.entered })

-- the nodes entered in the calls of a drain, in order
unfoldable pub calls : (words : List ℕ) (count : ℕ) (rules : Rules) (limit : ℕ) (cursor : Cursor)
    → List ℕ
calls W n Q zero c = []
calls W n Q (suc limit) c =
    let a : Answer = step W n Q c in
    let r : List ℕ = calls W n Q limit a.next in
    call W n Q (fuel n) c ++ cond (ltb a.slot n) r []

-- Document 02, item 8: "0 means the output's length". How many hits a drain with this limit may
-- write to an output of so many places.
abbrev pub limit_of_lem : (limit places : ℕ) → ℕ
limit_of_lem limit places = cond (eqb limit 0) places limit

-- the output after a drain
unfoldable pub filled : (slots out : List ℕ) → List ℕ
filled slots out = slots ++ drop (length slots) out
