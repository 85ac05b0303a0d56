-- "Nothing lent changes" where a call is refused, by an export's own refusals too: the answer, and
-- each slice that the call may write.
use mathlib.Core.Path.{◌≡◌, refl}
use mathlib.Core.Bool.{Bool, true, false, cond}
use mathlib.Core.List.{List, [], ◌∷◌}
use Prim.Native.Nat.{ℕ, zero, suc}
use native.Mathlib.Omega.{arith}
use lib.ListN.{length}
use lib.Dec.{eqb, ltb}
use borrow.Author.Tests.{ne_eqb}
use Rattle.words.specs.declared.interval.Span.{Span}
use Rattle.words.specs.declared.node.Entry.{Entry}
use Rattle.iter.specs.declared.Cursor.{Cursor}
use Rattle.iter.specs.declared.rules.Query.{Query}
use Rattle.iset.specs.Effects.{Effect, effect, Output, output}
use Rattle.iset.specs.Build.{build_number, build_list_lem, build_call}
use Rattle.iset.specs.Remove.{remove_number, remove_slot_lem, remove_call}
use Rattle.iset.specs.Insert.{insert_number, insert_entry_lem, insert_call}
use Rattle.iset.specs.Unload.{unload_number, unload_range_lem, unload_call}
use Rattle.iset.specs.Tidy.{renumber_number, renumber_plan_lem, renumber_call}
use Rattle.iset.specs.Lookup.{start_number, drain_number, drain_call}
use Rattle.iset.specs.Plain.{plain_number, plain_call}
use Rattle.iset.specs.Find.{find_all_call}
use Rattle.iset.specs.Image.{write_image_number, write_image_call, read_image_number, read_store, read_image_call}
use Rattle.iset.specs.declared.Map.{Map}
use Rattle.iset_c.specs.Replies.{Reply, Exit, exit, number, handed, left, exit_of, effect_exit, ranged_effect_exit, output_exit, build_reply, remove_reply, insert_reply, unload_reply, renumber_reply, write_reply, drain_reply, tally_reply, build_exit, remove_exit, insert_exit, unload_exit, renumber_exit, drain_exit, plain_exit, find_all_exit, write_image_exit, read_image_exit}

-- an export that refuses leaves the answer A and the other slices, l
abbrev pub Kept : Exit → List ℕ → List (List ℕ) → Type 0
Kept x A l = (x.number ≡ 0 → ⊥) → x ≡ exit x.number A l

pub answer_kept : (b : Bool) (A : List ℕ) (R : Reply) → (number b A R ≡ 0 → ⊥) → handed b A R ≡ A
unfolding handed
answer_kept b A R d = rw (ne_eqb (number b A R) 0 d)

-- the other slices, where the call leaves them as they were if it refuses
slices_kept : (b : Bool) (A : List ℕ) (R : Reply) (old new : List (List ℕ)) → ((R.no ≡ 0 → ⊥) → new ≡ old) → (number b A R ≡ 0 → ⊥)
    → left b A R old new ≡ old
unfolding number left
slices_kept b A R old new f d = go (ltb (length A) (length R.numbers)) b d
  where
    go : (s t : Bool) → (◌≡◌ {A = ℕ} (cond s 101 (cond t R.no 102)) 0 → ⊥) → cond s old (cond t new old) ≡ old
    go true t e = refl
    go false true e = f e
    go false false e = refl

pub exit_kept : (b : Bool) (A : List ℕ) (R : Reply) (old new : List (List ℕ)) → ((R.no ≡ 0 → ⊥) → new ≡ old) → Kept (exit_of b A R old new) A old
exit_kept b A R old new f d = rw (answer_kept b A R d, slices_kept b A R old new f d)

-- a call that is refused by the number k, or not: one that writes the store, with a range or
-- without one, and one that writes an output
pub ranged_effect_kept : {K : Type 0} (reply : K → Reply) (b : Bool) (A W C : List ℕ) (k : ℕ) (x : Effect K) (a : K) → (reply x.answer).no ≡ 0
    → Kept (ranged_effect_exit reply b A W C (cond (eqb k 0) x (effect a W C))) A (W ∷ C ∷ [])
ranged_effect_kept reply b A W C zero x a z = exit_kept b A _ _ _ (λ d. absurd (d z))
ranged_effect_kept reply b A W C (suc k) x a z = rw (ne_eqb (suc k) 0 (λ e. omega arith)) (exit_kept b A _ _ _ (λ d. refl))

pub effect_kept : {K : Type 0} (reply : K → Reply) (A W C : List ℕ) (k : ℕ) (x : Effect K) (a : K) → (reply x.answer).no ≡ 0
    → Kept (effect_exit reply A W C (cond (eqb k 0) x (effect a W C))) A (W ∷ C ∷ [])
effect_kept reply A W C k x a z = ranged_effect_kept reply true A W C k x a z

pub output_kept : {K : Type 0} (reply : K → Reply) (b : Bool) (A out : List ℕ) (k : ℕ) (x : Output K) (a : K) → (reply x.answer).no ≡ 0
    → Kept (output_exit reply b A out (cond (eqb k 0) x (output a out))) A (out ∷ [])
output_kept reply b A out zero x a z = exit_kept b A _ _ _ (λ d. absurd (d z))
output_kept reply b A out (suc k) x a z = rw (ne_eqb (suc k) 0 (λ e. omega arith)) (exit_kept b A _ _ _ (λ d. refl))

module _ (A : List ℕ) (m : Map) (W C : List ℕ) where
  pub build_kept : (S : List ℕ) → Kept (build_exit A m W C S) A (W ∷ C ∷ [])
  unfolding build_call
  build_kept S = effect_kept build_reply A W C (build_number (length W) (length C) S) (build_list_lem m W C S) _ refl

  pub remove_kept : (s : ℕ) → Kept (remove_exit A m W C s) A (W ∷ C ∷ [])
  unfolding remove_call
  remove_kept s = effect_kept remove_reply A W C (remove_number m W C s) (remove_slot_lem m W C s) _ refl

  pub insert_kept : (e : Entry) → Kept (insert_exit A m W C e) A (W ∷ C ∷ [])
  unfolding insert_call
  insert_kept e = effect_kept insert_reply A W C (insert_number m W C e) (insert_entry_lem m W C e) _ refl

  pub renumber_kept : (plan : List ℕ) → Kept (renumber_exit A m W C plan) A (W ∷ C ∷ [])
  unfolding renumber_call
  renumber_kept plan = effect_kept renumber_reply A W C (renumber_number m W C plan) (renumber_plan_lem m W C plan) _ refl

  pub write_image_kept : (out : List ℕ) → Kept (write_image_exit A m W C out) A (out ∷ [])
  unfolding write_image_call
  write_image_kept out = output_kept write_reply true A out (write_image_number m W C (length out)) _ _ refl

  pub read_image_kept : (I : List ℕ) → Kept (read_image_exit A m W C I) A (W ∷ C ∷ [])
  unfolding read_image_call
  read_image_kept I = effect_kept build_reply A W C (read_image_number (length W) (length C) I) (read_store m W C I) _ refl

  -- b: whether the bounds have kinds
  pub unload_kept : (b : Bool) (k : ℕ) (q : Span) → Kept (unload_exit b A m W C k q) A (W ∷ C ∷ [])
  unfolding unload_call
  unload_kept b k q = ranged_effect_kept unload_reply b A W C (unload_number m W C k q) (unload_range_lem m W C k q) _ refl

  pub drain_kept : (b : Bool) (q : Query) (c : Cursor) (limit : ℕ) (out : List ℕ) → Kept (drain_exit b A m W C q c limit out) A (out ∷ [])
  unfolding drain_call
  drain_kept b q c limit out = output_kept drain_reply b A out (drain_number m W C q c limit (length out)) _ _ refl

  pub plain_kept : (b : Bool) (q : Query) (out : List ℕ) → Kept (plain_exit b A m W C q out) A (out ∷ [])
  unfolding plain_call
  plain_kept b q out = output_kept tally_reply b A out (plain_number m W C q (length out)) _ _ refl

  pub find_all_kept : (b : Bool) (q : Query) (out : List ℕ) → Kept (find_all_exit b A m W C q out) A (out ∷ [])
  unfolding find_all_call
  find_all_kept b q out = output_kept tally_reply b A out (start_number m W C q) _ _ refl
