use Rattle.tree_in.proofs.InsertRounds.{uncle_black, uncle_fits, uncle_red, black_changes, red_changes}
use native.Mathlib.Omega.{arith}
use Rattle.tree_in.proofs.repair.round_at.Goals as goal

pub returns-then-is_black_or_nil : goal.returns-then-is_black_or_nil
returns-then-is_black_or_nil c = (search uncle_black, search black_changes)

pub recolour-requires : goal.recolour-requires
recolour-requires c = (omega arith, uncle_fits _ _ _ _ c.is_black_or_nil.ensures (omega arith) c.if-is_black_or_nil.false, omega arith)

pub returns : goal.returns
returns c = (search uncle_red, search red_changes)
