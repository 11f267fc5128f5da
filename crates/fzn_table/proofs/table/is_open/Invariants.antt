use Rattle.fzn_values.specs.Term.{numbers_in}
use Rattle.fzn_table.specs.Supports.{IsOpenUpTo}
use Rattle.fzn_table.proofs.table.is_open.Given as goal

abbrev pub invariant-loop-k : goal.invariant-loop-k
invariant-loop-k l = IsOpenUpTo l.pass.trail.now.sets l.pass.places.now (numbers_in l.pass.rows.now) l.r l.k
