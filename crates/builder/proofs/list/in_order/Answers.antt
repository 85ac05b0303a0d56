use Rattle.builder.specs.Input.{in_order_lem}
use Rattle.words.proofs.Orders.{le_is}
use Rattle.builder.proofs.list.in_order.Goals as goal

pub returns : goal.returns
unfolding in_order_lem
returns c = rw (c.le.ensures, le_is c.interval_at-a.result c.interval_at-b.result, c.interval_at-b.ensures, c.interval_at-a.ensures)
