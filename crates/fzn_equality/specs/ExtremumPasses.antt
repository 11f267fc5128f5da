-- What a pass over an extremum finds.
use Rattle.std.specs.Prelude.{List}
use Rattle.fzn_domain.specs.declared.literal.Lit.{Lit}
use Rattle.fzn_meaning.specs.declared.constraint.Constraint.{Constraint}
use Rattle.fzn_meaning.specs.declared.constraint.Constraint.TheVariants.{Extremum}
use Rattle.fzn_rules.specs.declared.rule.Rule.TheVariants.{Rows}
use Rattle.fzn_propagator.specs.Clause.{IsJustified}
use Rattle.fzn_propagator.specs.Inference.{Inference, AreFoundOf}
use Rattle.fzn_equality.specs.declared.extremum.pass.ExtremumPass.{ExtremumPass}

abbrev pub extremum_constraint : ExtremumPass → Constraint
extremum_constraint pass = Extremum pass.extreme pass.entries.now pass.of

-- the rule `rows` justifies the clause from the extremum
abbrev pub IsJustifiedByExtremum : ExtremumPass → List Lit → Type 0
IsJustifiedByExtremum pass clause = IsJustified pass.trail.now (extremum_constraint pass) Rows clause

-- these are inferences of the pass, which have the number of its constraint
abbrev pub AreFoundOfExtremum : ExtremumPass → List Inference → Type 0
AreFoundOfExtremum pass found = AreFoundOf pass.number (extremum_constraint pass) pass.trail.now found
