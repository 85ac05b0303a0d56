use Rattle.iter.proofs.ByRule.{by_two, by_other}
use Rattle.iter.proofs.ranges.by_rule.Goals as goal

pub returns-then-rule-eq2 : goal.returns-then-rule-eq2
returns-then-rule-eq2 c = search by_two

pub returns : goal.returns
returns c = search by_other
