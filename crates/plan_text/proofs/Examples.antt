-- Some texts of plans, and what they come to, computed.
use Rattle.std.specs.Prelude.{Result, Ok, Err}
use mathlib.Core.Path.{◌≡◌, refl}
use mathlib.Core.List.{List, [], ◌∷◌}
use Prim.Native.Nat.{ℕ}
use Rattle.lines.specs.Input.{digit_of_lem, on_some, appended}
use Rattle.lines.specs.Output.{decimal}
use Rattle.plan_text.specs.Line.{first_digit_lem, longer, number_byte_lem}
use Rattle.plan_text.specs.Reading.{flaw_of, placed, said, next_line_lem, stepped, fed, last_of, first_free_lem}
use Rattle.plan_text.specs.Text.{row, rows, on_line, form_text, high_text, again_text, missing_text, flaw_text}
use Rattle.plan_text.specs.declared.reading.Flaw.{Flaw}
use Rattle.plan_text.specs.declared.reading.Flaw.TheVariants.{Form, High, OldAgain, NewAgain, Missing}
use Rattle.plan_text.proofs.Meaning.{read_plan_lem}

computing : Unit {0}
unfolding digit_of_lem on_some appended decimal first_digit_lem longer number_byte_lem flaw_of placed said next_line_lem stepped fed last_of first_free_lem row rows on_line form_text high_text again_text missing_text
computing = record {}

-- what is wrong with a text, read for a map of n entries; and the plan, where nothing is
abbrev wrong : ℕ → List ℕ → Result Unit Flaw
wrong n c = (read_plan_lem n c).checked

abbrev plan : ℕ → List ℕ → List ℕ
plan n c = (read_plan_lem n c).plan

pub record Told : Type 0 where
  pub taken : (wrong 3 (48 ∷ 32 ∷ 50 ∷ 10 ∷ 49 ∷ 32 ∷ 48 ∷ 10 ∷ 50 ∷ 32 ∷ 49 ∷ 10 ∷ []) ≡ Ok tt) × (plan 3 (48 ∷ 32 ∷ 50 ∷ 10 ∷ 49 ∷ 32 ∷ 48 ∷ 10 ∷ 50 ∷ 32 ∷ 49 ∷ 10 ∷ []) ≡ 2 ∷ 0 ∷ 1 ∷ [])  -- "0 2\n1 0\n2 1\n"
  pub any_order : (wrong 3 (50 ∷ 32 ∷ 49 ∷ 10 ∷ 48 ∷ 32 ∷ 50 ∷ 10 ∷ 48 ∷ 49 ∷ 32 ∷ 48 ∷ []) ≡ Ok tt) × (plan 3 (50 ∷ 32 ∷ 49 ∷ 10 ∷ 48 ∷ 32 ∷ 50 ∷ 10 ∷ 48 ∷ 49 ∷ 32 ∷ 48 ∷ []) ≡ 2 ∷ 0 ∷ 1 ∷ [])  -- "2 1\n0 2\n01 0"
  pub empty : (wrong 0 ([]) ≡ Ok tt) × (plan 0 ([]) ≡ [])
  pub form : wrong 3 (48 ∷ 32 ∷ 50 ∷ 10 ∷ 49 ∷ 10 ∷ []) ≡ Err (Form 2)  -- "0 2\n1\n"
  pub three : wrong 3 (48 ∷ 32 ∷ 50 ∷ 32 ∷ 49 ∷ 10 ∷ []) ≡ Err (Form 1)  -- "0 2 1\n"
  pub blank : wrong 3 (48 ∷ 32 ∷ 50 ∷ 10 ∷ 10 ∷ []) ≡ Err (Form 2)  -- "0 2\n\n"
  pub old_high : wrong 3 (48 ∷ 32 ∷ 50 ∷ 10 ∷ 51 ∷ 32 ∷ 48 ∷ 10 ∷ []) ≡ Err (High 2 3 3)  -- "0 2\n3 0\n"
  pub new_high : wrong 3 (48 ∷ 32 ∷ 50 ∷ 10 ∷ 49 ∷ 32 ∷ 51 ∷ 10 ∷ []) ≡ Err (High 2 3 3)  -- "0 2\n1 3\n"
  pub old_again : wrong 3 (48 ∷ 32 ∷ 50 ∷ 10 ∷ 49 ∷ 32 ∷ 48 ∷ 10 ∷ 48 ∷ 32 ∷ 49 ∷ 10 ∷ []) ≡ Err (OldAgain 3 0 1)  -- "0 2\n1 0\n0 1\n"
  pub new_again : wrong 3 (48 ∷ 32 ∷ 50 ∷ 10 ∷ 49 ∷ 32 ∷ 48 ∷ 10 ∷ 50 ∷ 32 ∷ 50 ∷ 10 ∷ []) ≡ Err (NewAgain 3 2 1)  -- "0 2\n1 0\n2 2\n"
  pub missing : wrong 3 (48 ∷ 32 ∷ 50 ∷ 10 ∷ 50 ∷ 32 ∷ 49 ∷ 10 ∷ []) ≡ Err (Missing 1)  -- "0 2\n2 1\n"
  pub first : wrong 3 (48 ∷ 32 ∷ 50 ∷ 10 ∷ 120 ∷ 10 ∷ 51 ∷ 32 ∷ 51 ∷ 10 ∷ []) ≡ Err (Form 2)  -- "0 2\nx\n3 3\n"
  pub printed : rows 0 (2 ∷ 0 ∷ 1 ∷ []) ≡ 48 ∷ 32 ∷ 50 ∷ 10 ∷ 49 ∷ 32 ∷ 48 ∷ 10 ∷ 50 ∷ 32 ∷ 49 ∷ 10 ∷ []  -- "0 2\n1 0\n2 1\n"
  pub worded : flaw_text (Err (NewAgain 3 2 1)) ≡ 116 ∷ 97 ∷ 107 ∷ 101 ∷ 32 ∷ 116 ∷ 104 ∷ 101 ∷ 32 ∷ 112 ∷ 108 ∷ 97 ∷ 110 ∷ 58 ∷ 32 ∷ 108 ∷ 105 ∷ 110 ∷ 101 ∷ 32 ∷ 51 ∷ 58 ∷ 32 ∷ 110 ∷ 101 ∷ 119 ∷ 32 ∷ 115 ∷ 108 ∷ 111 ∷ 116 ∷ 32 ∷ 50 ∷ 32 ∷ 105 ∷ 115 ∷ 32 ∷ 111 ∷ 110 ∷ 32 ∷ 108 ∷ 105 ∷ 110 ∷ 101 ∷ 32 ∷ 49 ∷ 32 ∷ 97 ∷ 108 ∷ 114 ∷ 101 ∷ 97 ∷ 100 ∷ 121 ∷ []  -- "take the plan: line 3: new slot 2 is on line 1 already"

pub told : Told
unfolding computing
told = record { taken = (refl, refl); any_order = (refl, refl); empty = (refl, refl); form = refl; three = refl; blank = refl; old_high = refl; new_high = refl; old_again = refl; new_again = refl; missing = refl; first = refl; printed = refl; worded = refl }
