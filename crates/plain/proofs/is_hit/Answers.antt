use Rattle.plain.proofs.Asked.{is_all}
use Rattle.plain.proofs.is_hit.Goals as goal

pub returns-then-all : goal.returns-then-all
returns-then-all c = search is_all
