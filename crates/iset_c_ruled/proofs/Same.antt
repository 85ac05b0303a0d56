-- By rule 1 an export returns and leaves what the export without a rule does.
use mathlib.Core.Path.{◌≡◌, ap}
use mathlib.Core.Bool.{Bool}
use mathlib.Core.List.{List}
use Prim.Native.Nat.{ℕ}
use Rattle.iter.specs.declared.Cursor.{Cursor}
use Rattle.iset.specs.Effects.{Output}
use Rattle.iset.specs.Lookup.{StepAnswer, DrainAnswer}
use Rattle.iset.specs.Tallies.{TallyAnswer}
use Rattle.iset.specs.declared.Map.{Map}
use Rattle.iset.proofs.Rules.{request_11}
use Rattle.iset_c.specs.Ranges.{range_of}
use Rattle.iset_c.specs.Replies.{answer_exit, output_exit, step_reply, drain_reply, tally_reply, step_exit, drain_exit, plain_exit, find_all_exit}
use Rattle.iset_c_ruled.specs.Ranges.{ruled_of}

-- b: whether the bounds have kinds
module _ (b : Bool) (A : List ℕ) (m : Map) (W C : List ℕ) (i x j y : ℕ) where
  pub step_one : (c : Cursor) → step_exit b A m W C (ruled_of 1 i x j y) c ≡ step_exit b A m W C (range_of i x j y) c
  step_one c = ap (λ (k : StepAnswer). answer_exit b A (step_reply k)) ((request_11 m W C).default_step _ c)

  pub drain_one : (c : Cursor) (limit : ℕ) (out : List ℕ) → drain_exit b A m W C (ruled_of 1 i x j y) c limit out ≡ drain_exit b A m W C (range_of i x j y) c limit out
  drain_one c limit out = ap (λ (k : Output DrainAnswer). output_exit drain_reply b A out k) ((request_11 m W C).default_drain _ c limit out)

  pub plain_one : (out : List ℕ) → plain_exit b A m W C (ruled_of 1 i x j y) out ≡ plain_exit b A m W C (range_of i x j y) out
  plain_one out = ap (λ (k : Output TallyAnswer). output_exit tally_reply b A out k) ((request_11 m W C).default_plain _ out)

  pub find_all_one : (out : List ℕ) → find_all_exit b A m W C (ruled_of 1 i x j y) out ≡ find_all_exit b A m W C (range_of i x j y) out
  find_all_one out = ap (λ (k : Output TallyAnswer). output_exit tally_reply b A out k) ((request_11 m W C).default_find _ out)
