use Rattle.plan_text.proofs.Arms.{byte_end, byte_more, byte_flawed}
use Rattle.plan_text.proofs.reading.State.byte.Goals as goal

pub returns-then-b-eq-LINE_END : goal.returns-then-b-eq-LINE_END
returns-then-b-eq-LINE_END c = search byte_end

pub returns-else-b-eq-LINE_END : goal.returns-else-b-eq-LINE_END
returns-else-b-eq-LINE_END c = search byte_more

pub returns-else-is_ok : goal.returns-else-is_ok
returns-else-is_ok c = search byte_flawed
