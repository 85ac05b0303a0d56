-- On a store that passes the check an export returns and leaves what the export of crate iset_c of
-- that name does. Of the planner `propose_is` of iset/proofs/Opened says it: its promise is the
-- call's rule.
use mathlib.Core.Path.{◌≡◌, ap}
use mathlib.Core.Bool.{Bool, true}
use mathlib.Core.List.{List}
use Prim.Native.Nat.{ℕ}
use Rattle.words.specs.declared.interval.Interval.{Interval}
use Rattle.words.specs.declared.interval.Span.{Span}
use Rattle.words.specs.declared.node.Entry.{Entry}
use Rattle.iter.specs.declared.Cursor.{Cursor}
use Rattle.iter.specs.declared.rules.Query.{Query}
use Rattle.iset.specs.Effects.{Effect, Output}
use Rattle.iset.specs.Check.{check_rule}
use Rattle.iset.specs.Remove.{RemoveAnswer}
use Rattle.iset.specs.Insert.{InsertAnswer}
use Rattle.iset.specs.Unload.{UnloadAnswer}
use Rattle.iset.specs.Tidy.{RenumberAnswer}
use Rattle.iset.specs.Lookup.{StartAnswer, StepAnswer, DrainAnswer}
use Rattle.iset.specs.Tallies.{TallyAnswer}
use Rattle.iset.specs.Ticket.{ReadAnswer}
use Rattle.iset.specs.Image.{WriteAnswer}
use Rattle.iset.specs.declared.Map.{Map}
use Rattle.iset.proofs.Opened.{remove_is, insert_is, unload_is, renumber_is, read_is, write_image_is, fresh_exact_is, step_is, drain_is, plain_is, find_all_is}
use Rattle.iset_c.specs.Replies.{answer_exit, effect_exit, ranged_effect_exit, output_exit, remove_reply, insert_reply, unload_reply, renumber_reply, read_reply, write_reply, start_reply, step_reply, drain_reply, tally_reply, remove_exit, insert_exit, unload_exit, renumber_exit, read_exit, write_image_exit, start_exit, step_exit, drain_exit, plain_exit, find_all_exit}
use Rattle.iset_c_open.specs.Replies.{open_remove_exit, open_insert_exit, open_unload_exit, open_renumber_exit, open_read_exit, open_write_image_exit, open_start_exit, open_step_exit, open_drain_exit, open_plain_exit, open_find_all_exit}
use Rattle.iset.specs.declared.ticket.Ticket.{Ticket}

module _ (A : List ℕ) (m : Map) (W C : List ℕ) (h : check_rule m W C ≡ 0) where
  pub remove_exit_is : (s : ℕ) → open_remove_exit A m W C s ≡ remove_exit A m W C s
  remove_exit_is s = ap (λ (k : Effect RemoveAnswer). effect_exit remove_reply A W C k) (remove_is m W C h s)

  pub insert_exit_is : (e : Entry) → open_insert_exit A m W C e ≡ insert_exit A m W C e
  insert_exit_is e = ap (λ (k : Effect InsertAnswer). effect_exit insert_reply A W C k) (insert_is m W C h e)

  pub unload_exit_is : (b : Bool) (k : ℕ) (q : Span) → open_unload_exit b A m W C k q ≡ unload_exit b A m W C k q
  unload_exit_is b k q = ap (λ (x : Effect UnloadAnswer). ranged_effect_exit unload_reply b A W C x) (unload_is m W C h k q)

  pub renumber_exit_is : (plan : List ℕ) → open_renumber_exit A m W C plan ≡ renumber_exit A m W C plan
  renumber_exit_is plan = ap (λ (x : Effect RenumberAnswer). effect_exit renumber_reply A W C x) (renumber_is m W C h plan)

  pub read_exit_is : (t : Ticket) → open_read_exit A m W C t ≡ read_exit A m W C t
  read_exit_is t = ap (λ (k : ReadAnswer). answer_exit true A (read_reply k)) (read_is m W C h t)

  pub write_image_exit_is : (out : List ℕ) → open_write_image_exit A m W C out ≡ write_image_exit A m W C out
  write_image_exit_is out = ap (λ (k : Output WriteAnswer). output_exit write_reply true A out k) (write_image_is m W C h out)

  pub start_exit_is : (x : Interval) → open_start_exit A m W C x ≡ start_exit A m W C x
  start_exit_is x = ap (λ (k : StartAnswer). answer_exit true A (start_reply k)) (fresh_exact_is m W C h x)

  pub step_exit_is : (b : Bool) (q : Query) (c : Cursor) → open_step_exit b A m W C q c ≡ step_exit b A m W C q c
  step_exit_is b q c = ap (λ (k : StepAnswer). answer_exit b A (step_reply k)) (step_is m W C h q c)

  pub drain_exit_is : (b : Bool) (q : Query) (c : Cursor) (limit : ℕ) (out : List ℕ) → open_drain_exit b A m W C q c limit out ≡ drain_exit b A m W C q c limit out
  drain_exit_is b q c limit out = ap (λ (k : Output DrainAnswer). output_exit drain_reply b A out k) (drain_is m W C h q c limit out)

  pub plain_exit_is : (b : Bool) (q : Query) (out : List ℕ) → open_plain_exit b A m W C q out ≡ plain_exit b A m W C q out
  plain_exit_is b q out = ap (λ (k : Output TallyAnswer). output_exit tally_reply b A out k) (plain_is m W C h q out)

  pub find_all_exit_is : (b : Bool) (q : Query) (out : List ℕ) → open_find_all_exit b A m W C q out ≡ find_all_exit b A m W C q out
  find_all_exit_is b q out = ap (λ (k : Output TallyAnswer). output_exit tally_reply b A out k) (find_all_is m W C h q out)
