use Rattle.lines.specs.Output.{out_text}
use Rattle.lines.proofs.Folds.{fold_on, fold_end}
use Rattle.lines.proofs.output.put_text.Goals as goal

pub loop-b-preserved : goal.loop-b-preserved
unfolding out_text
loop-b-preserved c = search fold_on

pub returns : goal.returns
unfolding out_text
returns c = search fold_end
