use Rattle.std.specs.List.{AllWithin}
use Rattle.fzn_propagator.specs.Clause.{IsWritable}
use Rattle.fzn_terms.proofs.explanation.are_writable.Given as goal

abbrev pub invariant-loop-lit : goal.invariant-loop-lit
invariant-loop-lit l = AllWithin IsWritable l.clause 0 l.lit-index
