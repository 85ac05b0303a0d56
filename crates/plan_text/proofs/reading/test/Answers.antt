use Rattle.plan_text.proofs.Arms.{old_high, new_high, old_again, new_again, no_flaw}
use Rattle.plan_text.proofs.reading.test.Goals as goal

pub returns-then-count-old : goal.returns-then-count-old
returns-then-count-old c = search old_high

pub returns-then-count-new : goal.returns-then-count-new
returns-then-count-new c = search new_high

pub returns-then-given-ne-FREE : goal.returns-then-given-ne-FREE
returns-then-given-ne-FREE c = search old_again

pub returns-then-before-ne0 : goal.returns-then-before-ne0
returns-then-before-ne0 c = search new_again

pub returns : goal.returns
returns c = search no_flaw
