-- The lines of a plan, in any order, into a plan. Its length is the count of slots. A place that no
-- line has named holds U. The lines' list has, at the place of each new slot, the number of the
-- line that gave it away, from 1 on, and 0 if none did.
-- Letters: s old slot or state, m move, L lines, i place, t stage, h shelf, c text, v new slot,
--   P plan, n line (its number), b byte, f checked
use Rattle.std.specs.Prelude.{cond, Option, None, Some, Result, Ok, Err, is_ok, ℕ, ◌+◌, length, get_or, set, eqb, ltb, leb}
use mathlib.Core.List.{List, [], ◌∷◌, foldl}
use Rattle.words.specs.Ix.{U}
use Rattle.plan_text.specs.Line.{byte_rule, end_rule, new_rule}
use Rattle.plan_text.specs.declared.line.Line.{Line}
use Rattle.plan_text.specs.declared.line.Line.TheVariants.{Start}
use Rattle.plan_text.specs.declared.line.Move.{Move}
use Rattle.plan_text.specs.declared.reading.Flaw.{Flaw}
use Rattle.plan_text.specs.declared.reading.Flaw.TheVariants.{Form, High, OldAgain, NewAgain, Missing}
use Rattle.plan_text.specs.declared.reading.State.{State}

-- nothing wrong or a flaw, with the plan and the lines as they are then
pub record Shelf : Type 0 where
  pub checked : Result Unit Flaw
  pub plan : List ℕ
  pub lines : List ℕ

abbrev pub shelf : (checked : Result Unit Flaw) (plan lines : List ℕ) → Shelf
shelf f P L = record { checked = f; plan = P; lines = L }

-- what is wrong with line n, which gives slot s the new slot v: a slot that is not below the count,
-- an old slot that has its line, a new slot that was given away
unfoldable pub flaw_of : (line old new : ℕ) (plan lines : List ℕ) → Result Unit Flaw
flaw_of n s v P L =
    cond (leb (length P) s) (Err (High n s (length P)))
    (cond (leb (length P) v) (Err (High n v (length P)))
    (cond (eqb (get_or P s 0) U)
    (cond (eqb (get_or L v 0) 0) (Ok tt) (Err (NewAgain n v (get_or L v 0))))
    (Err (OldAgain n s (get_or L (get_or P s 0) 0)))))

-- the line is taken if nothing is wrong with it
abbrev pub written : (line old new : ℕ) (plan lines : List ℕ) → Shelf
written n s v P L = shelf (Ok tt) (set P s v) (set L v n)

unfoldable pub placed : (line old new : ℕ) (plan lines : List ℕ) → Shelf
placed n s v P L = cond (is_ok (flaw_of n s v P L)) (written n s v P L) (shelf (flaw_of n s v P L) P L)

-- a complete line
unfoldable pub said : (said : Option Move) (line : ℕ) (plan lines : List ℕ) → Shelf
said (Some m) n P L = placed n m.old m.new P L
said None n P L = shelf (Err (Form n)) P L

-- lines are counted up to U
unfoldable pub next_line_lem : (line : ℕ) → ℕ
next_line_lem n = cond (ltb n U) (n + 1) n

-- the line so far, how many came before it, and the rest
pub record Stage : Type 0 where
  pub line : Line
  pub number : ℕ
  pub shelf : Shelf

abbrev pub stage : (state : State) (plan lines : List ℕ) → Stage
stage s P L = record { line = s.line; number = s.number; shelf = shelf s.checked P L }

abbrev pub begun : State
begun = record { line = Start; number = 0; checked = Ok tt }

-- the line is complete
abbrev pub lined : (stage : Stage) → Stage
lined t =
    record {
      line = Start;
      number = next_line_lem t.number;
      shelf = said (end_rule t.line) (next_line_lem t.number) t.shelf.plan t.shelf.lines;
    }

-- one more byte of it
abbrev pub longer_line : (stage : Stage) (byte : ℕ) → Stage
longer_line t b = record { line = byte_rule t.line b; number = t.number; shelf = t.shelf }

-- one byte, and a piece of the text; the first flaw stays
unfoldable pub stepped : (stage : Stage) (byte : ℕ) → Stage
stepped t b = cond (is_ok t.shelf.checked) (cond (eqb b 10) (lined t) (longer_line t b)) t

unfoldable pub fed : (stage : Stage) (text : List ℕ) → Stage
fed t c = foldl stepped t c

-- the text's last LF may be missing
unfoldable pub last_of : (stage : Stage) → Stage
last_of t = cond (new_rule t.line) t (stepped t 10)

-- the first slot from i on that no line has named
unfoldable pub first_free_lem : (place : ℕ) (plan : List ℕ) → Result Unit Flaw
first_free_lem i [] = Ok tt
first_free_lem i (v ∷ P) = cond (eqb v U) (Err (Missing i)) (first_free_lem (i + 1) P)

-- the end of the text
abbrev pub closed : (shelf : Shelf) → Shelf
closed h = cond (is_ok h.checked) (shelf (first_free_lem 0 h.plan) h.plan h.lines) h

abbrev pub finished : (stage : Stage) → Shelf
finished t = closed (last_of t).shelf
