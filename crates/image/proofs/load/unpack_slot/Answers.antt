use Rattle.image.proofs.Loads.{slot_is, left_fits, right_fits, up_fits}
use borrow.Author.Rules.{rules}
use Rattle.image.proofs.load.unpack_slot.Goals as goal

pub put_node-requires : goal.put_node-requires
put_node-requires c = (search rules, search (left_fits, right_fits), search (left_fits, right_fits), search up_fits)

pub returns : goal.returns
returns c = search slot_is
