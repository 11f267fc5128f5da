use Rattle.fzn_levels.proofs.ByWeightLemmas.{lent_at}
use Rattle.fzn_levels.proofs.listed.order_at.Goals as goal

pub returns : goal.returns
returns c = lent_at c.args.pass.now.row.now.parts c.args.pass.now.orders.now c.args.k c.index-orders-k.result c.as_ref.result c.args.pass.now.ordered c.requires c.if-orders-k.false c.index-orders-k.is c.as_ref.ensures.value
