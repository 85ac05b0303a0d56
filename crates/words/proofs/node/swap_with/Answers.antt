use Rattle.words.specs.Nodes.{swap}
use Rattle.words.proofs.node.swap_with.Goals as goal

pub returns : goal.returns
unfolding swap
returns c = rw (c.put_entry-2.ensures, c.put_entry.ensures, c.entry_of-b.ensures, c.entry_of-a.ensures)
