use Rattle.std.specs.List.{AllWithin}
use Rattle.fzn_terms.specs.Values.{IsFixed}
use Rattle.fzn_terms.proofs.values.are_fixed.Given as goal

abbrev pub invariant-loop-term : goal.invariant-loop-term
invariant-loop-term l = AllWithin (IsFixed l.trail.sets) l.terms 0 l.term-index
