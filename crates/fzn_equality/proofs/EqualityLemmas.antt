-- When two terms have to be equal.
use Rattle.std.proofs.Common.{◌≡◌, ℕ, List, [], length, sym, subst, inl, ℤ, pos, false, Option, Some, None}
use Rattle.std.proofs.lemmas.List.Elements.{All-head}
use Rattle.fzn_domain.specs.IntSet.{IntSet}
use Rattle.fzn_domain.specs.Narrow.{is_some_empty}
use Rattle.fzn_values.specs.declared.term.Term.{Term}
use Rattle.fzn_meaning.specs.declared.relation.Relation.{Relation}
use Rattle.fzn_meaning.specs.declared.relation.Relation.TheVariants.{Equal, NotEqual, AtMost, Below}
use Rattle.fzn_meaning.specs.declared.constraint.Constraint.TheVariants as constraint
use Rattle.fzn_meaning.specs.Meaning.{IsSwitch}
use Rattle.fzn_values.specs.Term.{IsTerm}
use Rattle.fzn_sets.specs.Terms.{MayBe, IsFixedTo, least_value, greatest_value}
use Rattle.fzn_sets.proofs.ValueLemmas.{MayBe-ends}
use Rattle.fzn_builtin_rules.specs.Rows.{AsksEquality, IsRowsMet}
use Rattle.fzn_rules.specs.Rules.{IsMet}
use Rattle.fzn_terms.specs.declared.claim.Claim.{Claim}
use Rattle.fzn_terms.specs.Denied.{IsDenied}
use Rattle.fzn_equality.specs.Equality.{IsAskedEqual}
use Rattle.fzn_equality.specs.Shared.{IsMetApart}

-- a term all of whose values are a number
pub fixed_to : (sets : List IntSet) (switch : Term) (k : ℤ) → is_some_empty sets ≡ false → IsTerm (length sets) switch → ((v : ℤ) → MayBe sets switch v → v ≡ k) → IsFixedTo sets switch k
fixed_to sets switch k filled fits only = let ends = MayBe-ends sets switch filled fits in (only (least_value sets switch) ends.0, only (greatest_value sets switch) ends.1)

asks : (sets : List IntSet) (relation : Relation) (switch : Option Term) → is_some_empty sets ≡ false → IsSwitch (length sets) switch → IsAskedEqual sets relation switch → AsksEquality sets relation switch
asks sets Equal None filled fits asked = tt
asks sets Equal (Some switch) filled fits asked = fixed_to sets switch (pos 1) filled fits asked
asks sets NotEqual (Some switch) filled fits asked = fixed_to sets switch (pos 0) filled fits asked
asks sets NotEqual None filled fits asked = absurd asked
asks sets AtMost switch filled fits asked = absurd asked
asks sets Below switch filled fits asked = absurd asked

-- the terms are to be equal, and share no value
pub met_asked : (count : ℕ) (relation : Relation) (left right : Term) (switch : Option Term) (unasked : Claim) → IsSwitch count switch → ((sets : List IntSet) → IsDenied sets unasked → IsAskedEqual sets relation switch) → IsMetApart count unasked left right (constraint.Compare relation left right switch)
unfolding IsMet IsRowsMet
met_asked count relation left right switch unasked fits asked sets denying apart =
    inl (asks sets relation switch denying.filled (subst (λ (n : ℕ). IsSwitch n switch) (sym denying.one_each) fits) (asked sets (All-head (IsDenied sets) unasked [] denying.denied)), apart)
