use Rattle.tree_in.proofs.InsertRounds.{inner_is, inner_changes, rotated_most}
use native.Mathlib.Omega.{arith}
use Rattle.tree_in.proofs.repair.rotate_inner.Goals as goal

pub rotate_outer-requires : goal.rotate_outer-requires
rotate_outer-requires c = (omega arith, omega arith, omega arith, omega arith, search rotated_most)

pub returns : goal.returns
returns c = (search inner_is, search inner_changes)
