-- The membership of a pass, and what it finds.
use Rattle.std.specs.Prelude.{◌≡◌, Bool, not, ℤ, List, length}
use Rattle.std.specs.List.{All}
use Rattle.fzn_domain.specs.declared.literal.Lit.{Lit}
use Rattle.fzn_domain.specs.IntSet.{IntSet, contains}
use Rattle.fzn_meaning.specs.declared.constraint.Constraint.{Constraint}
use Rattle.fzn_meaning.specs.declared.constraint.Constraint.TheVariants.{SetIn}
use Rattle.fzn_values.specs.Term.{IsTerm}
use Rattle.fzn_rules.specs.declared.rule.Rule.TheVariants.{Rows}
use Rattle.fzn_sets.specs.Terms.{MayBe}
use Rattle.fzn_propagator.specs.Clause.{IsJustified}
use Rattle.fzn_propagator.specs.Inference.{Inference, AreFoundOf}
use Rattle.fzn_terms.specs.declared.claim.Claim.{Claim}
use Rattle.fzn_terms.specs.Denied.{IsDenied}
use Rattle.fzn_builtin.specs.declared.member.Pass.{Pass}

abbrev pub membership_constraint : Pass → Constraint
membership_constraint pass = SetIn pass.term pass.set.now pass.switch

-- the rule `rows` justifies the clause from the membership
abbrev pub IsJustifiedByMembership : Pass → List Lit → Type 0
IsJustifiedByMembership pass clause = IsJustified pass.trail.now (membership_constraint pass) Rows clause

-- so of each of these inferences, which have its number
abbrev pub AreFoundOfMembership : Pass → List Inference → Type 0
AreFoundOfMembership pass found = AreFoundOf pass.number (membership_constraint pass) pass.trail.now found

-- claims on terms of the trail; where they are denied, none of the term's values is asked for
pub record AreAsked (pass : Pass) (asked : Bool) (claims : List Claim) : Type 0 where
  pub terms : All (λ claim. IsTerm (length pass.trail.now.declared) claim.term) claims
  pub none : (sets : List IntSet) → All (IsDenied sets) claims → (v : ℤ) → MayBe sets pass.term v → contains pass.set.now v ≡ not asked
