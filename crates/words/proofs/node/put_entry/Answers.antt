use Rattle.words.specs.Nodes.{put_entry_lem}
use Rattle.words.proofs.node.put_entry.Goals as goal

pub returns : goal.returns
unfolding put_entry_lem
returns c = rw (c.put_word-3.ensures, c.put_word-2.ensures, c.put_word.ensures)
