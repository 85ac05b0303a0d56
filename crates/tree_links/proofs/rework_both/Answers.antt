use Rattle.tree_links.proofs.LinkLaws.{both_changes, both_fit, both_words}
use Rattle.tree_links.proofs.rework_both.Goals as goal

pub overflow_add-result : goal.overflow_add-result
overflow_add-result c = search both_fit

pub returns : goal.returns
returns c = (search both_changes, search both_words)
