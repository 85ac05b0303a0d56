use mathlib.Core.Path.{ap}
use mathlib.Core.Bool.{not}
use Rattle.tree_rm_repair.proofs.Rounds.{ready_child, ready_red, ready_repair, still_red, still_child, repair_changes}
use Rattle.tree_edit.proofs.Colours.{red_fits}
use native.Mathlib.Omega.{arith}
use Rattle.tree_rm_repair.proofs.restructure_rm.Goals as goal

pub returns-then-is_red : goal.returns-then-is_red
returns-then-is_red c = (search ready_red, search still_red)

pub set_red-requires : goal.set_red-requires
set_red-requires c = red_fits _ _ _ _ (omega arith) c.is_black_or_nil.ensures (ap not c.if-not-is_black_or_nil.true)

pub returns-then-not-is_black_or_nil : goal.returns-then-not-is_black_or_nil
returns-then-not-is_black_or_nil c = (search ready_child, search still_child)

pub returns : goal.returns
returns c = (search ready_repair, search repair_changes)
