-- What a lookup that finds all hits at once answers: the plain one and the fast one.
-- Letters: k number of a refusal, y refusal, a tally or answer
use Rattle.std.specs.Prelude.{ℕ, cond, List, ◌==◌, Result, Ok, Err}
use Rattle.words.specs.Refusals.{refusal_number}
use Rattle.words.specs.declared.refusal.Refusal.{Refusal}
use Rattle.plain.specs.declared.Tally.{Tally}
use Rattle.iset.specs.Effects.{Output, output}

-- the hits, the nodes entered; a refusal has counts 0
pub record TallyAnswer : Type 0 where
  pub no : ℕ
  pub hits : ℕ
  pub entered : ℕ

abbrev pub tally_done : (tally : Tally) → TallyAnswer
tally_done a = record { no = 0; hits = a.hits; entered = a.entered }

abbrev pub refused_tally : (number : ℕ) → TallyAnswer
refused_tally k = record { no = k; hits = 0; entered = 0 }

-- what the code's answer stands for
abbrev pub tally_answer : (looked : Result Tally Refusal) → TallyAnswer
tally_answer (Ok a) = tally_done a
tally_answer (Err y) = refused_tally (refusal_number y)

-- a call that is refused by the number k, and leaves the output as it was, or is not refused
abbrev pub tally_by : (tally : Tally) (written out : List ℕ) (number : ℕ) → Output TallyAnswer
tally_by a written out k = cond (k == 0) (output (tally_done a) written) (output (refused_tally k) out)
