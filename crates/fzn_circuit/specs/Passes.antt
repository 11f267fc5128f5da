-- What a pass finds.
use Rattle.std.specs.Prelude.{List}
use Rattle.fzn_domain.specs.declared.literal.Lit.{Lit}
use Rattle.fzn_domain.specs.IntSet.{IntSet}
use Rattle.fzn_meaning.specs.declared.constraint.Constraint.TheVariants.{Circuit}
use Rattle.fzn_rules.specs.declared.rule.Rule.{Rule}
use Rattle.fzn_rules.specs.declared.rule.Rule.TheVariants.{Rows}
use Rattle.fzn_rules.specs.Rules.{IsMet}
use Rattle.fzn_propagator.specs.Clause.{IsJustified}
use Rattle.fzn_propagator.specs.Inference.{Inference, AreFoundOf}
use Rattle.fzn_terms.specs.declared.claim.Claim.{Claim}
use Rattle.fzn_terms.specs.Denied.{IsEntailed}
use Rattle.fzn_circuit.specs.declared.pass.Pass.{Pass}

-- the rule justifies the clause from the circuit of the successors
abbrev pub IsJustifiedByCircuit : Pass → Rule → List Lit → Type 0
IsJustifiedByCircuit pass rule clause = IsJustified pass.trail.now (Circuit pass.successors.now) rule clause

-- so of each of these inferences, which have its number
abbrev pub AreFoundOfCircuit : Pass → List Inference → Type 0
AreFoundOfCircuit pass found = AreFoundOf pass.number (Circuit pass.successors.now) pass.trail.now found

-- the rule `rows` is met on all sets on which so it is
abbrev pub RefutesRows : Pass → Claim → Type 0
RefutesRows pass claim = (sets : List IntSet) → IsEntailed sets claim → IsMet (Circuit pass.successors.now) sets Rows
