use Rattle.fzn_rules.proofs.EnergyTest.{product_is, product_bound}
use Rattle.fzn_rules.proofs.energy.product.Goals as goal

pub returns-clause-value : goal.returns-clause-value
returns-clause-value c = product_is c.args.amount c.args.time c.requires.amount c.requires.time

pub returns-clause-bounded : goal.returns-clause-bounded
returns-clause-bounded c = rw (product_is c.args.amount c.args.time c.requires.amount c.requires.time) (product_bound c.args.amount c.args.time c.requires.amount)
