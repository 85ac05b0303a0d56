use Rattle.std.proofs.Common.{◌+◌, ◌*◌}
use Rattle.slotshell_view.proofs.nodes.View.+trail_below_trail_beside.Given as goal

-- the height that is left, twice: `trail_beside` hands its own on to `trail_below`, and
-- `trail_below` one less to `trail_beside`
abbrev pub decreases-trail_below : goal.decreases-trail_below
decreases-trail_below l = 2 * l.height

abbrev pub decreases-trail_beside : goal.decreases-trail_beside
decreases-trail_beside l = 2 * l.height + 1
