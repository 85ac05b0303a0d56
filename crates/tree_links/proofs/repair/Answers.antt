use Rattle.tree_links.proofs.Loops.{loop_all, count_all, loop_done, loop_none, loop_on, loop_stays, count_done, count_none, count_on, last_fits, sum_fits, sum_room}
use native.Mathlib.Omega.{arith}
use Rattle.tree_links.proofs.repair.Goals as goal

pub loop-init : goal.loop-init
loop-init g c = record {
  rest = search (loop_all g.R.Rounds.round);
  slot = omega arith;
  sum = search (count_all g.R.Rounds.round g.R.Rounds.hulls);
  small = omega arith;
}

pub overflow_add-result : goal.overflow_add-result
overflow_add-result g c = search (last_fits g.R.Rounds.hulls g.met.R.Rounds.few)

pub returns-in-Break : goal.returns-in-Break
returns-in-Break g c = (search (loop_done g.R.Rounds.round), search (count_done g.R.Rounds.round g.R.Rounds.hulls))

pub overflow_add-reach : goal.overflow_add-reach
overflow_add-reach g c = search (sum_fits g.R.Rounds.hulls g.met.R.Rounds.few)

pub loop-preserved : goal.loop-preserved
loop-preserved g c = record {
  rest = search (loop_on g.R.Rounds.round);
  slot = search (loop_stays g.R.Rounds.round g.met.R.Rounds.stays);
  sum = search (count_on g.R.Rounds.round g.R.Rounds.hulls);
  small = search (sum_room g.R.Rounds.hulls g.met.R.Rounds.few);
}

pub returns : goal.returns
returns g c = (search (loop_none g.R.Rounds.round), search (count_none g.R.Rounds.round g.R.Rounds.hulls))
