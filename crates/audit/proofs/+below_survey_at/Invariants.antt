use Rattle.std.proofs.Common.{◌+◌, ◌*◌}
use Rattle.audit.proofs.+below_survey_at.Given as goal

-- the height that is left, twice: `below` hands its own on to `survey_at`, and `survey_at` one less
-- to `below`
abbrev pub decreases-below : goal.decreases-below
decreases-below l = 2 * l.height + 1

abbrev pub decreases-survey_at : goal.decreases-survey_at
decreases-survey_at l = 2 * l.height
