-- "Nothing lent changes" where an opened call is refused, by an export's own refusals too: the
-- answer, and each slice that the call may write.
use mathlib.Core.Path.{refl}
use mathlib.Core.Bool.{Bool, true}
use mathlib.Core.List.{List, [], ◌∷◌}
use Prim.Native.Nat.{ℕ}
use lib.ListN.{length}
use Rattle.words.specs.declared.interval.Span.{Span}
use Rattle.words.specs.declared.node.Entry.{Entry}
use Rattle.iter.specs.declared.Cursor.{Cursor}
use Rattle.iter.specs.declared.rules.Query.{Query}
use Rattle.iset.specs.Remove.{open_remove_number, remove_slot_lem, open_remove_call}
use Rattle.iset.specs.Insert.{open_insert_number, insert_entry_lem, open_insert_call}
use Rattle.iset.specs.Unload.{open_unload_number, unload_range_lem, open_unload_call}
use Rattle.iset.specs.Tidy.{open_renumber_number, renumber_plan_lem, open_renumber_call}
use Rattle.iset.specs.Lookup.{open_start_number, open_drain_number, open_drain_call}
use Rattle.iset.specs.Plain.{open_plain_number, open_plain_call}
use Rattle.iset.specs.Find.{open_find_all_call}
use Rattle.iset.specs.Image.{open_write_image_number, open_write_image_call}
use Rattle.iset.specs.declared.Map.{Map}
use Rattle.iset_c.specs.Replies.{remove_reply, insert_reply, unload_reply, renumber_reply, write_reply, drain_reply, tally_reply}
use Rattle.iset_c.proofs.Kept.{Kept, effect_kept, ranged_effect_kept, output_kept}
use Rattle.iset_c_open.specs.Replies.{open_remove_exit, open_insert_exit, open_unload_exit, open_renumber_exit, open_drain_exit, open_plain_exit, open_find_all_exit, open_write_image_exit}

module _ (A : List ℕ) (m : Map) (W C : List ℕ) where
  pub open_remove_kept : (s : ℕ) → Kept (open_remove_exit A m W C s) A (W ∷ C ∷ [])
  unfolding open_remove_call
  open_remove_kept s = effect_kept remove_reply A W C (open_remove_number m W C s) (remove_slot_lem m W C s) _ refl

  pub open_insert_kept : (e : Entry) → Kept (open_insert_exit A m W C e) A (W ∷ C ∷ [])
  unfolding open_insert_call
  open_insert_kept e = effect_kept insert_reply A W C (open_insert_number m W C e) (insert_entry_lem m W C e) _ refl

  pub open_renumber_kept : (plan : List ℕ) → Kept (open_renumber_exit A m W C plan) A (W ∷ C ∷ [])
  unfolding open_renumber_call
  open_renumber_kept plan = effect_kept renumber_reply A W C (open_renumber_number m W C plan) (renumber_plan_lem m W C plan) _ refl

  pub open_write_image_kept : (out : List ℕ) → Kept (open_write_image_exit A m W C out) A (out ∷ [])
  unfolding open_write_image_call
  open_write_image_kept out = output_kept write_reply true A out (open_write_image_number m W C (length out)) _ _ refl

  -- b: whether the bounds have kinds
  pub open_unload_kept : (b : Bool) (k : ℕ) (q : Span) → Kept (open_unload_exit b A m W C k q) A (W ∷ C ∷ [])
  unfolding open_unload_call
  open_unload_kept b k q = ranged_effect_kept unload_reply b A W C (open_unload_number m W C k q) (unload_range_lem m W C k q) _ refl

  -- of iset_open_drain and iset_open_drain_exact
  pub open_drain_kept : (b : Bool) (q : Query) (c : Cursor) (limit : ℕ) (out : List ℕ) → Kept (open_drain_exit b A m W C q c limit out) A (out ∷ [])
  unfolding open_drain_call
  open_drain_kept b q c limit out = output_kept drain_reply b A out (open_drain_number m W C q c limit (length out)) _ _ refl

  -- of iset_open_plain and iset_open_plain_exact
  pub open_plain_kept : (b : Bool) (q : Query) (out : List ℕ) → Kept (open_plain_exit b A m W C q out) A (out ∷ [])
  unfolding open_plain_call
  open_plain_kept b q out = output_kept tally_reply b A out (open_plain_number m W C q (length out)) _ _ refl

  -- of iset_open_find_all and iset_open_find_all_exact
  pub open_find_all_kept : (b : Bool) (q : Query) (out : List ℕ) → Kept (open_find_all_exit b A m W C q out) A (out ∷ [])
  unfolding open_find_all_call
  open_find_all_kept b q out = output_kept tally_reply b A out (open_start_number m W C q) _ _ refl
