use Rattle.words.proofs.Laws.{slot_live}
use Rattle.tree_links.proofs.LinkLaws.{read_linked, read_unlinked}
use Rattle.plain_rule.specs.Tour.{next_of}
use native.Mathlib.Omega.{arith}
use Rattle.plain.proofs.next_slot.Goals as goal

pub returns-in_default : goal.returns-in_default
unfolding next_of
returns-in_default c = search read_unlinked

pub lowest_left-requires : goal.lowest_left-requires
unfolding next_of
lowest_left-requires c = (omega arith, search slot_live)

pub returns : goal.returns
unfolding next_of
returns c = search read_linked
