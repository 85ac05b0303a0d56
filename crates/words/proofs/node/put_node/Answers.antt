use Rattle.words.specs.Nodes.{put_node_lem}
use Rattle.words.proofs.node.put_node.Goals as goal

pub returns : goal.returns
unfolding put_node_lem
returns c = rw (c.put_parent.ensures, c.put_child-2.ensures, c.put_child.ensures, c.put_hull.ensures, c.put_entry.ensures)
