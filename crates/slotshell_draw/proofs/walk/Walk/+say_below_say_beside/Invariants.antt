use Rattle.std.proofs.Common.{◌+◌, ◌-◌, ◌*◌}
use Rattle.slotshell_draw.proofs.walk.Walk.+say_below_say_beside.Given as goal

-- the levels that are left, twice: `say_beside` hands its own on to `say_below`, and `say_below` one
-- less to `say_beside`
abbrev pub decreases-say_below : goal.decreases-say_below
decreases-say_below l = 2 * (32 - l.depth)

abbrev pub decreases-say_beside : goal.decreases-say_beside
decreases-say_beside l = 2 * (32 - l.depth) + 1
