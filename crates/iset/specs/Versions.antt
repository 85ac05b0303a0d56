-- Document 02, item 4, as one statement about what the public calls answer and leave: the version
-- and the tickets. `proofs/Rounds` proves it.
-- Letters: m map, S state, t ticket, l triples or calls, B state before the builds, k number of a
--   refusal or rule, s slot, e entry, q range, I image (its bytes)
use Rattle.std.specs.Prelude.{◌≡◌, ℕ, ◌+◌, ◌%◌, ◌<◌, ◌≤◌, cond, List, ◌==◌, ◌≢◌}
use Rattle.words.specs.Nodes.{entry}
use Rattle.words.specs.declared.interval.Span.{Span}
use Rattle.words.specs.declared.node.Entry.{Entry}
use Rattle.iset.specs.Check.{check_rule}
use Rattle.iset.specs.Maps.{raised, raised_by}
use Rattle.iset.specs.Build.{build_call}
use Rattle.iset.specs.Remove.{remove_call}
use Rattle.iset.specs.Insert.{insert_call}
use Rattle.iset.specs.Image.{read_image_call}
use Rattle.iset.specs.Unload.{unload_call}
use Rattle.iset.specs.Tidy.{renumber_call}
use Rattle.iset.specs.Refusals.{Exactly, read_rows}
use Rattle.iset.specs.Sequence.{Call, State, all_answered, made}
use Rattle.iset.specs.Ticket.{ticket_of, ReadAnswer, refused_reading, read_call}
use Rattle.iset.specs.declared.Map.{Map}
use Rattle.iset.specs.declared.ticket.Ticket.{Ticket}

-- the version after a call of the map m that answered the number k
abbrev pub version_after : (map : Map) (number : ℕ) → ℕ
version_after m k = cond (k == 0) (raised m.version) m.version

-- reading in a state, through a ticket
abbrev pub read_in_lem : (state : State) (ticket : Ticket) → ReadAnswer
read_in_lem S t = read_call S.map S.words S.colours t

-- S is any state with a 32-bit version; a ticket of it is read after the calls l, which were made
-- one after the other, each on what the one before it answered and left
pub record Request4 (S : State) : Type 0 where
  -- "goes up by one at each build, removal and insertion .. a refusal leaves the version"; and item
  -- 6: a reading "raises it by one, as a build does"
  pub build_raises : (l : List ℕ) → let c = build_call S.map S.words S.colours l in c.answer.map.version ≡ version_after S.map c.answer.no
  pub remove_raises : (s : ℕ) → let c = remove_call S.map S.words S.colours s in c.answer.map.version ≡ version_after S.map c.answer.no
  pub insert_raises : (e : Entry) → let c = insert_call S.map S.words S.colours e in c.answer.map.version ≡ version_after S.map c.answer.no
  pub read_image_raises : (I : List ℕ) → let c = read_image_call S.map S.words S.colours I in c.answer.map.version ≡ version_after S.map c.answer.no
  -- item 13: "The version rises by the number removed"; a refusal removes none
  pub unload_raises : (k : ℕ) (q : Span) → let c = unload_call S.map S.words S.colours k q in c.answer.map.version ≡ raised_by S.map.version c.answer.gone
  -- item 14: a renumbering raises it by one, whether or not anything moves
  pub renumber_raises : (l : List ℕ) → let c = renumber_call S.map S.words S.colours l in c.answer.map.version ≡ version_after S.map c.answer.no
  pub version_run : (l : List Call) → (all_answered S l).map.version ≡ (S.map.version + made S l) % 4294967296
  -- "reading through it answers the entry or refuses .. 11 Stale, after 2 and before 3"
  pub refusals : (t : Ticket) → Exactly (read_rows S.map S.words S.colours t) (read_in_lem S t).no
  pub refused : (t : Ticket) → ((read_in_lem S t).no ≢ 0) → read_in_lem S t ≡ refused_reading (read_in_lem S t).no
  pub reads : (t : Ticket) → (read_in_lem S t).no ≡ 0 → read_in_lem S t ≡ record { no = 0; entry = entry S.words t.slot }
  -- "a ticket is refused when at least 1 and fewer than 4,294,967,296 changes have come since",
  -- whatever the store is; and with 11 if it passed when the ticket was taken
  pub stale_refused : (l : List Call) (s : ℕ) → 1 ≤ made S l → made S l < 4294967296 → (read_in_lem (all_answered S l) (ticket_of S.map s)).no ≢ 0
  pub stale : check_rule S.map S.words S.colours ≡ 0 → (l : List Call) (s : ℕ) → 1 ≤ made S l → made S l < 4294967296
      → (read_in_lem (all_answered S l) (ticket_of S.map s)).no ≡ 11
  -- without a change it reads the entry of its slot, if there is one
  pub unchanged : check_rule S.map S.words S.colours ≡ 0 → (l : List Call) (s : ℕ) → made S l ≡ 0 → s < (all_answered S l).map.count
      → read_in_lem (all_answered S l) (ticket_of S.map s) ≡ record { no = 0; entry = entry S.words s }
  -- "at exactly that many it can pass": it does if its slot is there, and there are such calls
  pub round : check_rule S.map S.words S.colours ≡ 0 → (l : List Call) (s : ℕ) → made S l ≡ 4294967296 → s < (all_answered S l).map.count
      → (read_in_lem (all_answered S l) (ticket_of S.map s)).no ≡ 0
  pub can_pass : (B : State) × (l : List Call) × (made B l ≡ 4294967296) × ((read_in_lem (all_answered B l) (ticket_of B.map 0)).no ≡ 0)
