use Rattle.slotshell_view.proofs.Laws.{bodies}
use Rattle.slotshell_view.proofs.nodes.View.has.Goals as goal

pub returns-then-self-le65535-clause-there : goal.returns-then-self-le65535-clause-there
returns-then-self-le65535-clause-there c = bodies c.args.self.image.now _ _ _ c.if-self-le65535.true c.image_length.ensures
