-- What a pass over an element finds, and what claims of its index and its entries leave where they are denied.
use Rattle.std.specs.Prelude.{◌⊎◌, ℕ, ◌+◌, ℤ, pos, List, length}
use Rattle.fzn_domain.specs.declared.literal.Lit.{Lit}
use Rattle.fzn_domain.specs.IntSet.{IntSet}
use Rattle.fzn_values.specs.declared.term.Term.{Term}
use Rattle.fzn_meaning.specs.declared.constraint.Constraint.{Constraint}
use Rattle.fzn_meaning.specs.declared.constraint.Constraint.TheVariants.{Element}
use Rattle.fzn_values.specs.Entries.{IsIndex}
use Rattle.fzn_rules.specs.declared.rule.Rule.TheVariants.{Rows}
use Rattle.fzn_sets.specs.Terms.{MayBe}
use Rattle.fzn_propagator.specs.Clause.{IsJustified}
use Rattle.fzn_propagator.specs.Inference.{Inference, AreFoundOf}
use Rattle.fzn_terms.specs.declared.claim.Claim.{Claim}
use Rattle.fzn_terms.specs.Denied.{IsDenied}
use Rattle.fzn_equality.specs.declared.element.pass.ElementPass.{ElementPass}

abbrev pub element_constraint : ElementPass → Constraint
element_constraint pass = Element pass.index pass.entries.now pass.value

-- the rule `rows` justifies the clause from the element
abbrev pub IsJustifiedByElement : ElementPass → List Lit → Type 0
IsJustifiedByElement pass clause = IsJustified pass.trail.now (element_constraint pass) Rows clause

-- these are inferences of the pass, which have the number of its constraint
abbrev pub AreFoundOfElement : ElementPass → List Inference → Type 0
AreFoundOfElement pass found = AreFoundOf pass.number (element_constraint pass) pass.trail.now found

-- no value of the index is that of an entry
abbrev pub LeavesNoIndex : ElementPass → List IntSet → Type 0
LeavesNoIndex pass sets = (k : ℤ) → IsIndex (length pass.entries.now) k → MayBe sets pass.index k → ⊥

-- the index does not lead to the place, counted from 0, or the claim of the entry there is denied
abbrev pub IsRuledOut : List IntSet → Term → ℕ → Claim → Type 0
IsRuledOut sets index k entry = (MayBe sets index (pos (k + 1)) → ⊥) ⊎ IsDenied sets entry
