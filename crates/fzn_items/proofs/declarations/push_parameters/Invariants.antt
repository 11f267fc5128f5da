use Rattle.std.proofs.Common.{◌≡◌, ◌++◌, length}
use Rattle.fzn_items.specs.Declarations.{parameter_lines}
use Rattle.fzn_items.proofs.declarations.push_parameters.Given as goal

-- the lines so far, and those to come
abbrev pub invariant-loop-params : goal.invariant-loop-params
invariant-loop-params l = l.text.items ++ parameter_lines l.params l.items ≡ l.initial.text.items ++ parameter_lines l.initial.params l.initial.items

abbrev pub decreases-loop-params : goal.decreases-loop-params
decreases-loop-params l = length l.params
