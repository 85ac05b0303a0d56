-- The input byte by byte.
-- Letters: W words, C colours, s state or piece of the input, E entries (their numbers), b byte,
--   d desk, t stage
use Rattle.std.specs.Prelude.{cond, Ok, ℕ, eqb}
use mathlib.Core.List.{List, foldl}
use Rattle.lines.specs.Output.{Page, page}
use Rattle.iset.specs.Effects.{effect}
use Rattle.slotlist_core.specs.Reading.{byte_rule, end_rule, new_rule}
use Rattle.slotlist_core.specs.Working.{Desk, desk, job, line_in, settled_in, on_desk}
use Rattle.slotlist_core.specs.Writing.{puts, work_text}
use Rattle.slotlist_core.specs.declared.State.{State}
use Rattle.slotlist_core.specs.declared.reading.Line.{Line}
use Rattle.slotlist_core.specs.declared.reading.Line.TheVariants.{Start}
use Rattle.slotlist_core.specs.declared.working.Work.TheVariants.{Listing}

-- the line so far, the work, and the lent memory
pub record Stage : Type 0 where
  pub line : Line
  pub desk : Desk

abbrev pub stage : (state : State) (words colours entries : List ℕ) → Stage
stage s W C E = record { line = s.line; desk = desk (job s.work) W C E }

abbrev pub begun : State
begun = record { line = Start; work = Ok (Listing 0) }

-- a line is complete
abbrev pub lined : (stage : Stage) → Desk
lined t = line_in (end_rule t.line) t.desk

-- one byte, and a piece of the input
unfoldable pub stepped : (stage : Stage) (byte : ℕ) → Stage
stepped t b = cond (eqb b 10) (record { line = Start; desk = lined t }) (record { line = byte_rule t.line b; desk = t.desk })

unfoldable pub fed : (stage : Stage) (piece : List ℕ) → Stage
fed t s = foldl stepped t s

-- "the input's last LF may be missing"
unfoldable pub last_line_lem : (stage : Stage) → Desk
last_line_lem t = cond (new_rule t.line) t.desk (lined t)

-- the end of the input
abbrev pub settled_desk : (desk : Desk) → Desk
settled_desk d = on_desk (settled_in d.entries (effect d.work d.nodes d.colours)) d.entries

abbrev pub ended : (stage : Stage) → Desk
ended t = settled_desk (last_line_lem t)

-- what is printed, in the lent buffer, with the memory as it is then
pub record End : Type 0 where
  pub page : Page
  pub nodes : List ℕ
  pub colours : List ℕ
  pub entries : List ℕ

abbrev pub finished : (at : ℕ) (words colours entries out : List ℕ) → End
finished at W C E out = record { page = page at out; nodes = W; colours = C; entries = E }

abbrev pub printed_on : (out : List ℕ) (desk : Desk) → End
printed_on out d =
    record { page = puts (page 0 out) (work_text d.work d.nodes); nodes = d.nodes; colours = d.colours; entries = d.entries }

abbrev pub finish : (stage : Stage) (out : List ℕ) → End
finish t out = printed_on out (ended t)
