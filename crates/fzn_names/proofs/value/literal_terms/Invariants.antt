use Rattle.std.proofs.Common.{◌≡◌, ◌++◌, length, map}
use Rattle.fzn_names.specs.Values.{literal_value, value_term}
use Rattle.fzn_names.proofs.value.literal_terms.Given as goal

-- those so far, and those to come
abbrev pub invariant-loop-literals : goal.invariant-loop-literals
invariant-loop-literals l =
    l.terms ++ map (λ literal. value_term (literal_value literal)) l.literals ≡ map (λ literal. value_term (literal_value literal)) l.initial.literals

abbrev pub decreases-loop-literals : goal.decreases-loop-literals
decreases-loop-literals l = length l.literals
