-- A step that has a fault is not accepted, and it has one fault.
use Rattle.std.proofs.Common.{◌≡◌, ℕ, ℤ, List, ◌⊎◌, inl, inr, refl, sym, ◌∙◌}
use Rattle.std.specs.List.{All}
use Rattle.fzn_domain.specs.declared.literal.Lit.{Lit}
use Rattle.fzn_domain.specs.Narrow.{ChainOutcome, not_unit, no_conflict, chain_outcome}
use Rattle.fzn_meaning.specs.declared.model.Model.{Model}
use Rattle.fzn_meaning.specs.Solutions.{IsSolution}
use Rattle.fzn_cert.specs.declared.step.Inference.{Inference}
use Rattle.fzn_cert.specs.declared.step.Step.{Step}
use Rattle.fzn_cert.specs.declared.step.Step.TheVariants.{Infer, Resolve, Solution, Delete}
use Rattle.fzn_cert.specs.declared.refusal.Refusal.{Refusal}
use Rattle.fzn_cert.specs.declared.refusal.Refusal.TheVariants.{NoSuchConstraint, RuleFails, NoSuchClause, NotUnit, NoConflict, NotASolution, CutByEarlier, NoSuchVariable}
use Rattle.fzn_cert.specs.Past.{StepsPast, IsClauseHeld, clauses_held}
use Rattle.fzn_cert.specs.Accepted.{HasVariables, denying, IsConstraintNumber, IsAccepted, HasFault}

neither : {A B : Type 0} → A ⊎ B → (A → ⊥) → (B → ⊥) → ⊥
neither (inl a) p q = p a
neither (inr b) p q = q b

pub not_accepted : (model : Model) (past : StepsPast) (step : Step) (fault : Refusal) → HasFault model past step fault → IsAccepted model past step → ⊥
not_accepted model past (Infer it) NoSuchVariable f a = f a.0
not_accepted model past (Infer it) NoSuchConstraint f a = f.1 a.1
not_accepted model past (Infer it) RuleFails f a = f.2 a.2
not_accepted model past (Infer it) _ f a = f
not_accepted model past (Resolve clause ids) NoSuchVariable f a = f a.0
not_accepted model past (Resolve clause ids) NoSuchClause f a = f.1 a.1
not_accepted model past (Resolve clause ids) NotUnit f a = neither a.2 f.2 (λ conflict. let e = sym conflict ∙ f.3 in cc)
not_accepted model past (Resolve clause ids) NoConflict f a = neither a.2 f.2 (λ conflict. let e = sym conflict ∙ f.3 in cc)
not_accepted model past (Resolve clause ids) _ f a = f
not_accepted model past (Solution values) NotASolution f a = f a.0
not_accepted model past (Solution values) CutByEarlier f a = f.1 a.1
not_accepted model past (Solution values) _ f a = f
not_accepted model past (Delete ids) NoSuchClause f a = f a
not_accepted model past (Delete ids) _ f a = f

-- ---- one fault

-- the first test fails, or the second, or something after them
abbrev View : {F : Type 0} → Type 0 → Type 0 → F → F → (F → Type 0) → F → Type 0
View First Second p q Rest a = ((a ≡ p) × (First → ⊥)) ⊎ (((a ≡ q) × First × (Second → ⊥)) ⊎ (First × Second × Rest a))

one_view : {F : Type 0} (First Second : Type 0) (p q : F) (Rest : F → Type 0) → ((a b : F) → Rest a → Rest b → a ≡ b) → (a b : F) → View First Second p q Rest a → View First Second p q Rest b → a ≡ b
one_view First Second p q Rest one a b (inl x) (inl y) = x.0 ∙ sym y.0
one_view First Second p q Rest one a b (inl x) (inr (inl y)) = absurd (x.1 y.1)
one_view First Second p q Rest one a b (inl x) (inr (inr y)) = absurd (x.1 y.0)
one_view First Second p q Rest one a b (inr (inl x)) (inl y) = absurd (y.1 x.1)
one_view First Second p q Rest one a b (inr (inl x)) (inr (inl y)) = x.0 ∙ sym y.0
one_view First Second p q Rest one a b (inr (inl x)) (inr (inr y)) = absurd (x.2 y.1)
one_view First Second p q Rest one a b (inr (inr x)) (inl y) = absurd (y.1 x.0)
one_view First Second p q Rest one a b (inr (inr x)) (inr (inl y)) = absurd (y.2 x.1)
one_view First Second p q Rest one a b (inr (inr x)) (inr (inr y)) = one a b x.2 y.2

infer_view : (model : Model) (past : StepsPast) (it : Inference) (a : Refusal) → HasFault model past (Infer it) a → View (HasVariables model it.clause) (IsConstraintNumber model it.constraint) NoSuchVariable NoSuchConstraint (λ r. r ≡ RuleFails) a
infer_view model past it NoSuchVariable f = inl (refl, f)
infer_view model past it NoSuchConstraint f = inr (inl (refl, f.0, f.1))
infer_view model past it RuleFails f = inr (inr (f.0, f.1, refl))
infer_view model past it _ f = absurd f

abbrev IsChainFault : ChainOutcome → Refusal → Type 0
IsChainFault outcome a = ((a ≡ NotUnit) × (outcome ≡ not_unit)) ⊎ ((a ≡ NoConflict) × (outcome ≡ no_conflict))

one_chain : (outcome : ChainOutcome) (a b : Refusal) → IsChainFault outcome a → IsChainFault outcome b → a ≡ b
one_chain outcome a b (inl x) (inl y) = x.0 ∙ sym y.0
one_chain outcome a b (inl x) (inr y) = let e = sym x.1 ∙ y.1 in cc
one_chain outcome a b (inr x) (inl y) = let e = sym x.1 ∙ y.1 in cc
one_chain outcome a b (inr x) (inr y) = x.0 ∙ sym y.0

resolve_view : (model : Model) (past : StepsPast) (clause : List Lit) (ids : List ℕ) (a : Refusal) → HasFault model past (Resolve clause ids) a → View (HasVariables model clause) (All (IsClauseHeld past) ids) NoSuchVariable NoSuchClause (IsChainFault (chain_outcome (denying model clause) (clauses_held past ids))) a
resolve_view model past clause ids NoSuchVariable f = inl (refl, f)
resolve_view model past clause ids NoSuchClause f = inr (inl (refl, f.0, f.1))
resolve_view model past clause ids NotUnit f = inr (inr (f.0, f.1, inl (refl, f.3)))
resolve_view model past clause ids NoConflict f = inr (inr (f.0, f.1, inr (refl, f.3)))
resolve_view model past clause ids _ f = absurd f

solution_view : (model : Model) (past : StepsPast) (values : List ℤ) (a : Refusal) → HasFault model past (Solution values) a → ((a ≡ NotASolution) × (IsSolution model values → ⊥)) ⊎ ((a ≡ CutByEarlier) × IsSolution model values)
solution_view model past values NotASolution f = inl (refl, f)
solution_view model past values CutByEarlier f = inr (refl, f.0)
solution_view model past values _ f = absurd f

delete_view : (model : Model) (past : StepsPast) (ids : List ℕ) (a : Refusal) → HasFault model past (Delete ids) a → a ≡ NoSuchClause
delete_view model past ids NoSuchClause f = refl
delete_view model past ids _ f = absurd f

one_of_two : {F P : Type 0} (p q a b : F) → ((a ≡ p) × (P → ⊥)) ⊎ ((a ≡ q) × P) → ((b ≡ p) × (P → ⊥)) ⊎ ((b ≡ q) × P) → a ≡ b
one_of_two p q a b (inl x) (inl y) = x.0 ∙ sym y.0
one_of_two p q a b (inl x) (inr y) = absurd (x.1 y.1)
one_of_two p q a b (inr x) (inl y) = absurd (y.1 x.1)
one_of_two p q a b (inr x) (inr y) = x.0 ∙ sym y.0

pub one_fault : (model : Model) (past : StepsPast) (step : Step) (a b : Refusal) → HasFault model past step a → HasFault model past step b → a ≡ b
one_fault model past (Infer it) a b f g =
    one_view (HasVariables model it.clause) (IsConstraintNumber model it.constraint) NoSuchVariable NoSuchConstraint (λ r. r ≡ RuleFails) (λ r s p q. p ∙ sym q) a b
    (infer_view model past it a f) (infer_view model past it b g)
one_fault model past (Resolve clause ids) a b f g =
    let outcome = chain_outcome (denying model clause) (clauses_held past ids) in
    one_view (HasVariables model clause) (All (IsClauseHeld past) ids) NoSuchVariable NoSuchClause (IsChainFault outcome) (one_chain outcome) a b
    (resolve_view model past clause ids a f) (resolve_view model past clause ids b g)
one_fault model past (Solution values) a b f g = one_of_two NotASolution CutByEarlier a b (solution_view model past values a f) (solution_view model past values b g)
one_fault model past (Delete ids) a b f g = delete_view model past ids a f ∙ sym (delete_view model past ids b g)
