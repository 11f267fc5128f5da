use Rattle.fzn_derive.proofs.BoundLemmas.{less_product-is}
use Rattle.fzn_derive.proofs.adder.less_product.Goals as goal

pub returns : goal.returns
returns c = less_product-is c.args.number c.args.coefficient c.args.value c.ranges.number c.ranges.coefficient c.ranges.value c.requires.number c.requires.coefficient c.requires.value
