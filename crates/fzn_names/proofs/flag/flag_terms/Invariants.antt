use Rattle.std.proofs.Common.{◌≡◌, length}
use Rattle.std.specs.List.{All}
use Rattle.fzn_values.specs.Term.{IsTerm}
use Rattle.fzn_names.specs.Flags.{with_terms}
use Rattle.fzn_names.proofs.flag.flag_terms.Given as goal

-- what is to come, and that it is within
abbrev pub invariant-loop-terms : goal.invariant-loop-terms
invariant-loop-terms l = record {
  built : with_terms l.flags l.terms ≡ with_terms l.initial.flags l.initial.terms;
  within : All (IsTerm (length l.flags)) l.terms;
}

abbrev pub decreases-loop-terms : goal.decreases-loop-terms
decreases-loop-terms l = length l.terms
