-- What the exports of the calls on an opened store return and leave, in the form of crate iset_c's.
-- Letters: m map, W words, C colours, A places of the answer, b known (whether each bound has a
--   kind), t ticket, q query, c cursor, e entry, x interval
use Rattle.std.specs.Prelude.{Bool, true, List, ℕ}
use Rattle.words.specs.declared.interval.Interval.{Interval}
use Rattle.words.specs.declared.interval.Span.{Span}
use Rattle.words.specs.declared.node.Entry.{Entry}
use Rattle.iter.specs.declared.Cursor.{Cursor}
use Rattle.iter.specs.declared.rules.Query.{Query}
use Rattle.iset.specs.Remove.{open_remove_call}
use Rattle.iset.specs.Insert.{open_insert_call}
use Rattle.iset.specs.Unload.{open_unload_call}
use Rattle.iset.specs.Lookup.{open_start_call, open_step_call, open_drain_call}
use Rattle.iset.specs.Plain.{open_plain_call}
use Rattle.iset.specs.Find.{open_find_all_call}
use Rattle.iset.specs.Ticket.{open_read_call}
use Rattle.iset.specs.Tidy.{open_renumber_call}
use Rattle.iset.specs.Image.{open_write_image_call}
use Rattle.iset.specs.declared.Map.{Map}
use Rattle.iset_c.specs.Replies.{Exit, answer_exit, effect_exit, ranged_effect_exit, output_exit, remove_reply, insert_reply, unload_reply, renumber_reply, read_reply, write_reply, start_reply, step_reply, drain_reply, tally_reply}
use Rattle.iset.specs.declared.ticket.Ticket.{Ticket}

abbrev pub open_remove_exit : (places : List ℕ) (map : Map) (words colours : List ℕ) (slot : ℕ) → Exit
open_remove_exit A m W C slot = effect_exit remove_reply A W C (open_remove_call m W C slot)

abbrev pub open_insert_exit : (places : List ℕ) (map : Map) (words colours : List ℕ) (entry : Entry)
    → Exit
open_insert_exit A m W C e = effect_exit insert_reply A W C (open_insert_call m W C e)

abbrev pub open_unload_exit : (known : Bool) (places : List ℕ) (map : Map) (words colours : List ℕ)
    (rule : ℕ) (range : Span) → Exit
open_unload_exit b A m W C rule range = ranged_effect_exit unload_reply b A W C (open_unload_call m W C rule range)

abbrev pub open_renumber_exit : (places : List ℕ) (map : Map) (words colours plan : List ℕ) → Exit
open_renumber_exit A m W C plan = effect_exit renumber_reply A W C (open_renumber_call m W C plan)

abbrev pub open_read_exit : (places : List ℕ) (map : Map) (words colours : List ℕ) (ticket : Ticket)
    → Exit
open_read_exit A m W C t = answer_exit true A (read_reply (open_read_call m W C t))

abbrev pub open_write_image_exit : (places : List ℕ) (map : Map) (words colours out : List ℕ) → Exit
open_write_image_exit A m W C out = output_exit write_reply true A out (open_write_image_call m W C out)

abbrev pub open_start_exit : (places : List ℕ) (map : Map) (words colours : List ℕ)
    (interval : Interval) → Exit
open_start_exit A m W C x = answer_exit true A (start_reply (open_start_call m W C x))

abbrev pub open_step_exit : (known : Bool) (places : List ℕ) (map : Map) (words colours : List ℕ)
    (query : Query) (cursor : Cursor) → Exit
open_step_exit b A m W C q c = answer_exit b A (step_reply (open_step_call m W C q c))

abbrev pub open_drain_exit : (known : Bool) (places : List ℕ) (map : Map) (words colours : List ℕ)
    (query : Query) (cursor : Cursor) (limit : ℕ) (out : List ℕ) → Exit
open_drain_exit b A m W C q c limit out = output_exit drain_reply b A out (open_drain_call m W C q c limit out)

abbrev pub open_plain_exit : (known : Bool) (places : List ℕ) (map : Map) (words colours : List ℕ)
    (query : Query) (out : List ℕ) → Exit
open_plain_exit b A m W C q out = output_exit tally_reply b A out (open_plain_call m W C q out)

abbrev pub open_find_all_exit : (known : Bool) (places : List ℕ) (map : Map) (words colours : List ℕ)
    (query : Query) (out : List ℕ) → Exit
open_find_all_exit b A m W C q out = output_exit tally_reply b A out (open_find_all_call m W C q out)
