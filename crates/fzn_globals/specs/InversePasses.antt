-- What a pass over one of two inverse lists finds.
use Rattle.std.specs.Prelude.{ℤ, List, length}
use Rattle.fzn_domain.specs.declared.literal.Lit.{Lit}
use Rattle.fzn_values.specs.declared.term.Term.{Term}
use Rattle.fzn_meaning.specs.declared.constraint.Constraint.{Constraint}
use Rattle.fzn_values.specs.Entries.{IsIndex}
use Rattle.fzn_rules.specs.declared.rule.Rule.{Rule}
use Rattle.fzn_sets.specs.Terms.{MayBe, term_at}
use Rattle.fzn_propagator.specs.Clause.{IsJustified}
use Rattle.fzn_propagator.specs.Inference.{Inference, AreFoundOf}
use Rattle.fzn_globals.specs.declared.inverse.pass.Pass.{Pass}
use Rattle.fzn_globals.specs.Ways.{inverse_of, AreIndices, LeadsBackFrom, LeadsBackOn}

abbrev pub inverse_constraint : Pass → Constraint
inverse_constraint pass = inverse_of pass.side pass.there.now pass.back.now

-- the rule justifies the clause from the inverse
abbrev pub IsJustifiedByInverse : Pass → Rule → List Lit → Type 0
IsJustifiedByInverse pass rule clause = IsJustified pass.trail.now (inverse_constraint pass) rule clause

-- so of each of these inferences, which have its number
abbrev pub AreFoundOfInverse : Pass → List Inference → Type 0
AreFoundOfInverse pass found = AreFoundOf pass.number (inverse_constraint pass) pass.trail.now found

-- an entry of the list is at this index
abbrev pub HasEntry : Pass → ℤ → Type 0
HasEntry pass i = IsIndex (length pass.there.now) i

-- the entry at i may be j
abbrev pub MayLead : Pass → ℤ → ℤ → Type 0
MayLead pass i j = MayBe pass.trail.now.sets (term_at pass.there.now i) j

-- the other list's entry at j may be i
abbrev pub MayLeadBack : Pass → ℤ → ℤ → Type 0
MayLeadBack pass i j = MayBe pass.trail.now.sets (term_at pass.back.now j) i

-- each value of the term is the index of an entry
abbrev pub AreEntries : Pass → Term → Type 0
AreEntries pass term = AreIndices pass.trail.now.sets (length pass.there.now) term

-- each value of the entry at i is of an entry that leads back
abbrev pub LeadsBackAt : Pass → ℤ → Type 0
LeadsBackAt pass i = LeadsBackFrom pass.trail.now.sets pass.there.now pass.back.now i

-- so of each entry
abbrev pub LeadsBackOnTrail : Pass → Type 0
LeadsBackOnTrail pass = LeadsBackOn pass.trail.now.sets pass.there.now pass.back.now
