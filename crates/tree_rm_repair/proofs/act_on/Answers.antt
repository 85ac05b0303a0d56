use Rattle.tree_rm_repair.proofs.Rounds.{as_five, as_four, as_one, as_three, as_two, four_fits, quiet_one, quiet_two, quiet_three, loud_four, quiet_five}
use borrow.Author.Rules.{rules}
use Rattle.tree_rm_repair.proofs.act_on.Goals as goal

pub case_four-requires : goal.case_four-requires
case_four-requires c = search (rules, four_fits)

pub returns-in-One : goal.returns-in-One
returns-in-One c = (search as_one, search quiet_one)

pub returns-in-Two : goal.returns-in-Two
returns-in-Two c = (search as_two, search quiet_two)

pub returns-in-Three : goal.returns-in-Three
returns-in-Three c = (search as_three, search quiet_three)

pub returns-in-Four : goal.returns-in-Four
returns-in-Four c = (search as_four, search loud_four)

pub returns-in-Five : goal.returns-in-Five
returns-in-Five c = (search as_five, search quiet_five)
