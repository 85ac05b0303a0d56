use Rattle.words.proofs.Layouts.{none_fits}
use Rattle.builder.proofs.Parts.{hull_leaf, words_leaf, colours_leaf}
use Rattle.builder.proofs.Layouts.{leaf_held}
use Rattle.builder.proofs.put_leaf.Goals as goal

pub put_node-requires : goal.put_node-requires
put_node-requires c = let (span, up) = c.requires in
    (leaf_held _ _ _ _ _ _ span, none_fits _, none_fits _, up)

pub returns : goal.returns
returns c = (search hull_leaf, search words_leaf, search colours_leaf)
