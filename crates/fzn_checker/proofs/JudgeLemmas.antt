-- A rule on the numbered constraint, and sets as many as variables.
use Rattle.std.proofs.Common.{◌≡◌, ℕ, ◌-◌, ◌<◌, List, Bool, true, false, ◌||◌, length, get_or, sym, ap, subst, ◌∙◌, inl, inr, arith, IfSome}
use Rattle.std.proofs.lemmas.List.{length-map, get_or_default}
use Rattle.std.proofs.lemmas.Option.{slice_get_cases}
use Rattle.fzn_domain.specs.declared.literal.Lit.{Lit}
use Rattle.fzn_domain.specs.IntSet.{IntSet}
use Rattle.fzn_domain.specs.Narrow.{denied, is_some_empty}
use Rattle.fzn_domain.proofs.NarrowLemmas.{length-denied}
use Rattle.fzn_meaning.specs.declared.constraint.Constraint.{Constraint}
use Rattle.fzn_meaning.specs.declared.model.Model.{Model}
use Rattle.fzn_meaning.specs.Meaning.{IsWellFormedConstraint}
use Rattle.fzn_meaning.specs.Solutions.{declared_sets}
use Rattle.fzn_meaning.specs.WellFormed.{IsWellFormed}
use Rattle.fzn_rules.specs.declared.rule.Rule.{Rule}
use Rattle.fzn_rules.specs.Rules.{IsMet, IsAcceptedBy}
use Rattle.fzn_sets.specs.Sets.{Narrowed, start}
use Rattle.fzn_cert.specs.Accepted.{denying, IsTrivial, IsInferredBy}

-- the present sets that began with the declared ones, after a clause was denied
pub denied_from : (model : Model) (old : Narrowed) (new : List IntSet) (clause : List Lit) → old ≡ start (declared_sets model.vars) → new ≡ denied old.present clause → new ≡ denying model clause
denied_from model old new clause old_is new_is = new_is ∙ ap (λ (s : Narrowed). denied s.present clause) old_is

-- the same where the clause is read as a slice
pub denied_by : (model : Model) (old : Narrowed) (new : List IntSet) (slice clause : List Lit) → slice ≡ clause → old ≡ start (declared_sets model.vars) → new ≡ denied old.present slice → new ≡ denying model clause
denied_by model old new slice clause same old_is new_is = denied_from model old new slice old_is new_is ∙ ap (denying model) same

pub count-declared : (model : Model) → length (declared_sets model.vars) ≡ length model.vars
count-declared model = length-map model.vars (λ var. var.domain)

pub count-sets : (model : Model) (sets : Narrowed) → sets ≡ start (declared_sets model.vars) → length sets.present ≡ length model.vars
count-sets model sets is = ap (λ (s : Narrowed). length s.present) is ∙ count-declared model

pub count-denied : (model : Model) (new : List IntSet) (clause : List Lit) → new ≡ denying model clause → length new ≡ length model.vars
count-denied model new clause is = ap length is ∙ length-denied clause (declared_sets model.vars) ∙ count-declared model

-- the numbered constraint is well formed
pub constraint_fits : (model : Model) (new : List IntSet) (clause : List Lit) (k : ℕ) (constraint : Constraint) → IsWellFormed model → new ≡ denying model clause → k < length model.constraints → constraint ≡ get_or model.constraints k constraint → IsWellFormedConstraint (length new) constraint
constraint_fits model new clause k constraint wf is below at =
    subst (λ n. IsWellFormedConstraint n constraint) (sym (count-denied model new clause is))
    (subst (IsWellFormedConstraint (length model.vars)) (sym at) (wf.constraints k constraint below))

-- a rule that is met on what is left justifies the clause
pub rule_justifies : (model : Model) (new : List IntSet) (c : ℕ) (rule : Rule) (clause : List Lit) (constraint : Constraint) → new ≡ denying model clause → c - 1 < length model.constraints → constraint ≡ get_or model.constraints (c - 1) constraint → IsMet constraint new rule → IsInferredBy model c rule clause
rule_justifies model new c rule clause constraint is below at met = elim (slice_get_cases model.constraints (c - 1)).1 [
  | inl (found, within, got, here) ↦
      let same : constraint ≡ found = at ∙ get_or_default model.constraints (c - 1) constraint found within ∙ here in
      subst (λ o. IfSome o (λ k. IsAcceptedBy k rule (declared_sets model.vars) clause)) (sym got)
      (inr (subst (λ k. IsMet k (denying model clause) rule) same (subst (λ s. IsMet constraint s rule) is met)))
  | inr past_end ↦ absurd (omega (arith, past_end.0, below))
]

-- one that is not justifies none, but for a trivial one
pub rule_fails : (model : Model) (new : List IntSet) (c : ℕ) (rule : Rule) (clause : List Lit) (constraint : Constraint) → new ≡ denying model clause → c - 1 < length model.constraints → constraint ≡ get_or model.constraints (c - 1) constraint → (IsTrivial model clause → ⊥) → (IsMet constraint new rule → ⊥) → IsInferredBy model c rule clause → ⊥
rule_fails model new c rule clause constraint is below at not_trivial not_met justified = elim (slice_get_cases model.constraints (c - 1)).1 [
  | inl (found, within, got, here) ↦
      let same : constraint ≡ found = at ∙ get_or_default model.constraints (c - 1) constraint found within ∙ here in
      elim (subst (λ o. IfSome o (λ k. IsAcceptedBy k rule (declared_sets model.vars) clause)) got justified) [
        | inl trivial ↦ not_trivial trivial
        | inr met ↦ not_met (subst (λ s. IsMet constraint s rule) (sym is) (subst (λ k. IsMet k (denying model clause) rule) (sym same) met))
      ]
  | inr past_end ↦ absurd (omega (arith, past_end.0, below))
]

-- no set was empty, and none became so
pub not_trivial : (model : Model) (old : Narrowed) (new : List IntSet) (clause : List Lit) (has_empty emptied : Bool) → old ≡ start (declared_sets model.vars) → new ≡ denying model clause → is_some_empty new ≡ (is_some_empty old.present || emptied) → has_empty ≡ is_some_empty (declared_sets model.vars) → has_empty ≡ false → emptied ≡ false → IsTrivial model clause → ⊥
not_trivial model old new clause has_empty emptied old_is new_is told empty none none_new trivial =
    let was : is_some_empty old.present ≡ false = ap (λ (s : Narrowed). is_some_empty s.present) old_is ∙ sym empty ∙ none in
    let now : is_some_empty new ≡ true = ap is_some_empty new_is ∙ trivial in
    grind arith
