use Rattle.std.proofs.Common.{arith}
use Rattle.fzn_clauses.specs.Keys.{key}
use Rattle.fzn_clauses.proofs.keys.key_at.Goals as goal

pub returns : goal.returns
unfolding key
returns c = omega (arith, c.saturating_add.ensures, c.saturating_mul.ensures)
