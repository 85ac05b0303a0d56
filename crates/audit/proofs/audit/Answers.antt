use mathlib.Core.Path.{refl}
use borrow.Author.Rules.{rules}
use Rattle.audit.specs.Survey.{whole_of}
use Rattle.audit.proofs.audit.Goals as goal

pub survey_at-found-requires : goal.survey_at-found-requires
unfolding whole_of
survey_at-found-requires c = search rules

pub returns : goal.returns
unfolding whole_of
returns c = rw c.survey_at-found.ensures refl
