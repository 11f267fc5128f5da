-- What a pass over places that are all different finds.
use Rattle.std.specs.Prelude.{ℕ, ℤ, List, length, slice_index_or}
use Rattle.std.specs.List.{count_by}
use Rattle.fzn_domain.specs.declared.literal.Lit.{Lit}
use Rattle.fzn_values.specs.declared.term.Term.{Term}
use Rattle.fzn_meaning.specs.declared.constraint.Constraint.{Constraint}
use Rattle.fzn_meaning.specs.declared.constraint.Constraint.TheVariants.{AllDifferent}
use Rattle.fzn_sets.specs.Terms.{MayBe}
use Rattle.fzn_rules.specs.declared.rule.Rule.TheVariants.{Hall}
use Rattle.fzn_rules.specs.Hall.{lies_within}
use Rattle.fzn_propagator.specs.Clause.{IsJustified}
use Rattle.fzn_propagator.specs.Inference.{Inference, AreFoundOf, HoldsWhereFixed}
use Rattle.fzn_terms.specs.Values.{IsOnly}
use Rattle.fzn_globals.specs.declared.all_different.span.Span.{Span}
use Rattle.fzn_globals.specs.declared.all_different.pass.Pass.{Pass}
use Rattle.fzn_globals.specs.Apart.{SaysEachWithin}

abbrev pub different_constraint : Pass → Constraint
different_constraint pass = AllDifferent pass.places.now

-- by the rule `hall` of the numbers from low to high
abbrev pub IsJustifiedByHall : Pass → ℤ → ℤ → List Lit → Type 0
IsJustifiedByHall pass low high clause = IsJustified pass.trail.now (different_constraint pass) (Hall low high) clause

-- these are inferences of the pass, which have the number of its constraint
abbrev pub AreFoundOfDifferent : Pass → List Inference → Type 0
AreFoundOfDifferent pass found = AreFoundOf pass.number (different_constraint pass) pass.trail.now found

-- where all variables are fixed, the places are different
abbrev pub DifferWhereFixed : Pass → Type 0
DifferWhereFixed pass = HoldsWhereFixed pass.trail.now (different_constraint pass)

-- where the place at i has this one value, the one at j has not
abbrev pub IsNotShared : Pass → ℕ → ℕ → ℤ → Type 0
IsNotShared pass i j value = (d e : Term) → IsOnly pass.trail.now.sets (slice_index_or pass.places.now i d) value → MayBe pass.trail.now.sets (slice_index_or pass.places.now j e) value → ⊥

-- how many places lie within the interval
abbrev pub count_within : Pass → Span → ℕ
count_within pass span = count_by (lies_within pass.trail.now.sets span.low span.high) pass.places.now

-- the clause says that each place which lies within it does so
abbrev pub SaysWithin : Pass → Span → List Lit → Type 0
SaysWithin pass span clause = SaysEachWithin pass.trail.now clause span.low span.high pass.places.now (length pass.places.now)
