use Rattle.words.specs.Nodes.{put_hull_lem}
use Rattle.words.proofs.node.put_hull.Goals as goal

pub returns : goal.returns
unfolding put_hull_lem
returns c = rw (c.put_word-2.ensures, c.put_word.ensures)
