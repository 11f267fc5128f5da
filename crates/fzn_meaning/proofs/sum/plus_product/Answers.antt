use Rattle.fzn_meaning.proofs.SumLemmas.{plus_product-bound, plus_product-fits, plus_product-is}
use Rattle.fzn_meaning.proofs.sum.plus_product.Goals as goal

pub overflow_add-result : goal.overflow_add-result
overflow_add-result c = plus_product-fits c.args.sum c.args.coefficient c.args.value c.requires.coefficient c.ranges.value c.requires.sum c.ranges.coefficient

pub returns-clause-value : goal.returns-clause-value
returns-clause-value c = plus_product-is c.args.sum c.args.coefficient c.args.value c.requires.coefficient c.ranges.value c.requires.sum c.ranges.coefficient

pub returns-clause-bound : goal.returns-clause-bound
returns-clause-bound c = rw (returns-clause-value c) (plus_product-bound c.args.sum c.args.coefficient c.args.value c.requires.coefficient c.ranges.value)
