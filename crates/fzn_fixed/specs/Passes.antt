-- What a pass over the parts of a constraint finds.
use Rattle.std.specs.Prelude.{ℤ, List, map}
use Rattle.std.specs.List.{All}
use Rattle.fzn_domain.specs.declared.literal.Lit.{Lit}
use Rattle.fzn_rules.specs.declared.rule.Rule.TheVariants.{Fixed}
use Rattle.fzn_sets.specs.Terms.{least_value}
use Rattle.fzn_propagator.specs.Clause.{IsJustified}
use Rattle.fzn_propagator.specs.Inference.{HoldsWhereFixed}
use Rattle.fzn_terms.specs.Values.{IsFixed}
use Rattle.fzn_fixed.specs.declared.pass.Pass.{Pass}

-- the rule `fixed` justifies the clause from the constraint
abbrev pub IsJustifiedByFixed : Pass → List Lit → Type 0
IsJustifiedByFixed pass clause = IsJustified pass.trail.now pass.constraint.now Fixed clause

-- where all variables are fixed, the constraint holds
abbrev pub HoldsFixed : Pass → Type 0
HoldsFixed pass = HoldsWhereFixed pass.trail.now pass.constraint.now

-- each input has one value
abbrev pub AreFixed : Pass → Type 0
AreFixed pass = All (IsFixed pass.trail.now.sets) pass.inputs.now

-- the least values of the inputs
abbrev pub least_values : Pass → List ℤ
least_values pass = map (least_value pass.trail.now.sets) pass.inputs.now
