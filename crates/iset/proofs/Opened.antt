-- An opened call, which does not run the check, on a store that passes it: it answers and leaves
-- exactly what the public call does. `Sequence` has any number of calls one after the other on a
-- store that was checked once.
use Rattle.std.proofs.Common.{◌≡◌, ℕ, zero, suc, false, eqb, List, refl, arith, ne_eqb}
use Rattle.words.specs.declared.interval.Interval.{Interval}
use Rattle.words.specs.declared.interval.Span.{Span}
use Rattle.words.specs.declared.node.Entry.{Entry}
use Rattle.iter.specs.declared.Cursor.{Cursor}
use Rattle.iter.specs.declared.rules.Query.{Query}
use Rattle.iset.specs.Check.{first, check_rule}
use Rattle.iset.specs.Remove.{remove_number, open_remove_call, remove_call}
use Rattle.iset.specs.Insert.{full_number, open_insert_number, room_then_check, insert_number, open_insert_call, insert_call}
use Rattle.iset.specs.Lookup.{start_number, step_number, drain_number, open_start_call, start_call, open_step_call, step_call, open_drain_call, drain_call}
use Rattle.iset.specs.Plain.{plain_number, open_plain_call, plain_call}
use Rattle.iset.specs.Find.{open_find_all_call, find_all_call}
use Rattle.iset.specs.Image.{write_image_number, open_write_image_call, write_image_call}
use Rattle.iset.specs.Ticket.{read_number_lem, open_read_call, read_call}
use Rattle.iset.specs.Unload.{open_unload_call, unload_call}
use Rattle.iset.specs.Tidy.{propose_number, open_propose_call, propose_call, renumber_number, open_renumber_call, renumber_call}
use Rattle.iset.specs.declared.Map.{Map}
use Rattle.iset.specs.declared.ticket.Ticket.{Ticket}

-- a test that is made twice
twice : (k x : ℕ) → first (first k 0) (first k x) ≡ first k x
twice zero x = refl
twice (suc k) x = let d : eqb (suc k) 0 ≡ false = ne_eqb (suc k) 0 (λ e. omega arith) in rw (d, d)

-- the store passes
module _ (m : Map) (W C : List ℕ) (h : check_rule m W C ≡ 0) where
  pub fresh_exact_is : (x : Interval) → open_start_call m W C x ≡ start_call m W C x
  unfolding open_start_call start_call start_number
  fresh_exact_is x = rw h refl

  pub step_is : (q : Query) (c : Cursor) → open_step_call m W C q c ≡ step_call m W C q c
  unfolding open_step_call step_call step_number
  step_is q c = rw h refl

  pub drain_is : (q : Query) (c : Cursor) (limit : ℕ) (out : List ℕ) → open_drain_call m W C q c limit out ≡ drain_call m W C q c limit out
  unfolding open_drain_call drain_call drain_number
  drain_is q c limit out = rw h refl

  pub plain_is : (q : Query) (out : List ℕ) → open_plain_call m W C q out ≡ plain_call m W C q out
  unfolding open_plain_call plain_call plain_number
  plain_is q out = rw h refl

  pub find_all_is : (q : Query) (out : List ℕ) → open_find_all_call m W C q out ≡ find_all_call m W C q out
  unfolding open_find_all_call find_all_call start_number
  find_all_is q out = rw h refl

  pub read_is : (t : Ticket) → open_read_call m W C t ≡ read_call m W C t
  unfolding open_read_call read_call read_number_lem
  read_is t = rw h refl

  pub write_image_is : (out : List ℕ) → open_write_image_call m W C out ≡ write_image_call m W C out
  unfolding open_write_image_call write_image_call write_image_number
  write_image_is out = rw h refl

  pub remove_is : (s : ℕ) → open_remove_call m W C s ≡ remove_call m W C s
  unfolding open_remove_call remove_call remove_number
  remove_is s = rw h refl

  pub unload_is : (k : ℕ) (q : Span) → open_unload_call m W C k q ≡ unload_call m W C k q
  unfolding open_unload_call unload_call start_number
  unload_is k q = rw h refl

  pub propose_is : (out : List ℕ) → open_propose_call m W C out ≡ propose_call m W C out
  unfolding open_propose_call propose_call propose_number
  propose_is out = rw h refl

  pub renumber_is : (plan : List ℕ) → open_renumber_call m W C plan ≡ renumber_call m W C plan
  unfolding open_renumber_call renumber_call renumber_number
  renumber_is plan = rw h refl

  pub insert_is : (e : Entry) → open_insert_call m W C e ≡ insert_call m W C e
  unfolding open_insert_call insert_call insert_number room_then_check open_insert_number
  insert_is e = rw (h, twice (full_number m W C)) refl
