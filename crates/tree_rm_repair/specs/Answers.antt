-- What the code's cases stand for.
use Rattle.tree_rm_rule.specs.Repair as rule
use Rattle.tree_rm_repair.specs.declared.Case.{Case}
use Rattle.tree_rm_repair.specs.declared.Case.TheVariants.{One, Two, Three, Four, Five}

abbrev pub case_of : (case : Case) → rule.Case
case_of One = rule.one
case_of Two = rule.two
case_of Three = rule.three
case_of Four = rule.four
case_of Five = rule.five
