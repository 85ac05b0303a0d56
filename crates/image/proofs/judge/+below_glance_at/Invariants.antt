use Rattle.std.proofs.Common.{◌+◌, ◌*◌}
use Rattle.image.proofs.judge.+below_glance_at.Given as goal

-- the height that is left, twice: `below` hands its own on to `glance_at`, and `glance_at` one less
-- to `below`
abbrev pub decreases-below : goal.decreases-below
decreases-below l = 2 * l.height + 1

abbrev pub decreases-glance_at : goal.decreases-glance_at
decreases-glance_at l = 2 * l.height
