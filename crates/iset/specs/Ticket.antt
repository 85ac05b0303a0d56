-- Document 02, item 4: "A ticket is a slot with the version it was taken at". Reading through it is
-- refused with "11 Stale, after 2 and before 3": the check, then what an opened reading tests.
-- Letters: m map, W words, C colours, s slot, e entry, k number of a refusal, y refusal, t ticket
use Rattle.std.specs.Prelude.{ℕ, ◌+◌, ◌-◌, ◌%◌, cond, List, ◌==◌, nat_lt, Result, Ok, Err}
use Rattle.words.specs.Nodes.{entry}
use Rattle.words.specs.Refusals.{refusal_number}
use Rattle.words.specs.declared.refusal.Refusal.{Refusal}
use Rattle.words.specs.declared.node.Entry.{Entry}
use Rattle.iset.specs.Check.{first, count_number, check_rule}
use Rattle.iset.specs.Insert.{entry_of}
use Rattle.iset.specs.declared.Map.{Map}
use Rattle.iset.specs.declared.ticket.Ticket.{Ticket}

abbrev pub ticket_of : (map : Map) (slot : ℕ) → Ticket
ticket_of m s = record { slot = s; version = m.version }

-- how many changes lie between two versions, modulo 2^32
unfoldable pub age : (now taken : ℕ) → ℕ
age now taken = (now + (4294967296 - taken)) % 4294967296

-- the refusal's number, 0 for none, of a ticket; 3: "slot is not below count (U included)"
unfoldable pub ticket_number : (map : Map) (ticket : Ticket) → ℕ
ticket_number m t = cond (age m.version t.version == 0) (cond (nat_lt t.slot m.count) 0 3) 11

-- of a reading in an opened store
unfoldable pub open_read_number : (map : Map) (words colours : List ℕ) (ticket : Ticket) → ℕ
open_read_number m W C t = first (count_number m W C) (ticket_number m t)

-- and of the public call
unfoldable pub read_number_lem : (map : Map) (words colours : List ℕ) (ticket : Ticket) → ℕ
read_number_lem m W C t = first (check_rule m W C) (open_read_number m W C t)

-- what it answers: the entry
pub record ReadAnswer : Type 0 where
  pub no : ℕ
  pub entry : Entry

-- the entry of a slot
abbrev pub read_done_lem : (words : List ℕ) (slot : ℕ) → ReadAnswer
read_done_lem W s = record { no = 0; entry = entry W s }

-- a refusal: start, end and value 0
abbrev pub refused_reading : (number : ℕ) → ReadAnswer
refused_reading k = record { no = k; entry = entry_of 0 0 0 }

-- what the code's answer stands for
abbrev pub read_answer : (reading : Result Entry Refusal) → ReadAnswer
read_answer (Ok e) = record { no = 0; entry = e }
read_answer (Err y) = refused_reading (refusal_number y)

-- a call that is refused by the number k, or not
abbrev pub read_by : (words : List ℕ) (ticket : Ticket) (number : ℕ) → ReadAnswer
read_by W t k = cond (k == 0) (read_done_lem W t.slot) (refused_reading k)

-- the opened call
unfoldable pub open_read_call : (map : Map) (words colours : List ℕ) (ticket : Ticket) → ReadAnswer
open_read_call m W C t = read_by W t (open_read_number m W C t)

-- the public call
unfoldable pub read_call : (map : Map) (words colours : List ℕ) (ticket : Ticket) → ReadAnswer
read_call m W C t = read_by W t (read_number_lem m W C t)
