-- What a propagator finds is what the search wants, and so is it where none finds anything.
use Rattle.std.proofs.Common.{◌≡◌, ℕ, ◌+◌, ◌-◌, ◌<◌, ◌≤◌, ℤ, pos, List, length, get_or, slice_get, Option, Some, IfSome, sym, ap, ◌∙◌, subst, arith}
use Rattle.std.specs.List.{All, AllWithin, HoldsAt}
use Rattle.std.proofs.lemmas.List.{length-map, get_or_default}
use Rattle.std.proofs.lemmas.Option.{slice_get-get_or}
use Rattle.fzn_domain.specs.declared.literal.Lit.{Lit}
use Rattle.fzn_domain.specs.IntSet.{IntSet}
use Rattle.fzn_domain.specs.Narrow.{IsClauseOver, IsWithin}
use Rattle.fzn_meaning.specs.declared.constraint.Constraint.{Constraint}
use Rattle.fzn_meaning.specs.declared.model.Var.{Var}
use Rattle.fzn_meaning.specs.declared.model.Model.{Model}
use Rattle.fzn_meaning.specs.Meaning.{HasBooleanSets}
use Rattle.fzn_meaning.specs.Solutions.{declared_sets}
use Rattle.fzn_rules.specs.declared.rule.Rule.{Rule}
use Rattle.fzn_rules.specs.Rules.{IsAcceptedBy}
use Rattle.fzn_cert.specs.Accepted.{IsInferredBy}
use Rattle.fzn_trail.specs.Levels.{Levels, IsNarrower}
use Rattle.fzn_cert.specs.declared.step.Inference.{Inference}
use Rattle.fzn_propagator.specs.Inference.{IsInferenceOf, AreInferencesOf, AreExhausted, IsNumberedInference as IsFound}
use Rattle.fzn_propagator.specs.Constraints.{IsInference, IsInferenceJustified, IsQuiet}
use Rattle.fzn_propagators.specs.Propagators.{IsPropagatorOf, AreFor}
use Rattle.fzn_propagators.proofs.MadeLemmas.{some_member}
use Rattle.fzn_propagators.proofs.SpelledLemmas.{rule-spelled, few-number, literals-spelled}

-- what holds of the item at a place holds at the place
pub HoldsAt-item : {X : Type 0} (P : X → Type 0) (xs : List X) (i : ℕ) (x : X) → x ≡ get_or xs i x → i < length xs → P x → HoldsAt P xs i
HoldsAt-item P xs i x at below h d = subst P (at ∙ get_or_default xs i x d below) h

module _ (model : Model) (trail : Levels) (declared : trail.declared ≡ declared_sets model.vars) where
  pub as-many : length trail.declared ≡ length model.vars
  as-many = ap length declared ∙ length-map model.vars (λ (var : Var). var.domain)

  -- it is justified from the constraint at place k, whose number is k + 1
  justified-at : (k : ℕ) (constraint : Constraint) (c : ℕ) (rule : Rule) (clause : List Lit) → k < length model.constraints → c ≡ k + 1 → IsAcceptedBy (get_or model.constraints k constraint) rule trail.declared clause → IsInferredBy model c rule clause
  justified-at k constraint c rule clause inside is accepted =
      let A : List IntSet → Type 0 = λ sets. IsAcceptedBy (get_or model.constraints k constraint) rule sets clause in
      let P : Option Constraint → Type 0 = λ o. IfSome o (λ (x : Constraint). IsAcceptedBy x rule (declared_sets model.vars) clause) in
      let place : c - 1 ≡ k = omega arith in
      let here : slice_get model.constraints (c - 1) ≡ Some (get_or model.constraints k constraint) = ap (slice_get model.constraints) place ∙ slice_get-get_or model.constraints k constraint inside in
      subst P (sym here) (subst A declared accepted)

  justified-by : (k : ℕ) (constraint : Constraint) (found : Inference) → length model.vars ≤ 100000 → length model.constraints ≤ 100000 → k < length model.constraints → IsFound (k + 1) (get_or model.constraints k constraint) trail found → IsInferenceJustified model found
  justified-by k constraint found few_vars few_constraints inside h =
      let number = h.of_constraint in
      let over = subst (λ (n : ℕ). IsClauseOver n found.clause) as-many h.justified.forcing.over in
      let one : 1 ≤ found.constraint = omega arith in
      let within : found.constraint ≤ length model.constraints = omega arith in
      record {
        over = over;
        numbered = (one, within);
        justified = justified-at k constraint found.constraint found.rule found.clause inside number h.justified.accepted;
        spelled = (few-number (length model.constraints) found.constraint few_constraints one within, rule-spelled found.rule h.hints, literals-spelled (length model.vars) found.clause few_vars over h.justified.forcing.writable);
      }

  within-declared : (values : List ℤ) → IsNarrower trail.sets trail.declared → IsWithin trail.sets values → IsWithin trail.declared values
  within-declared values narrower h = record {
    one_each = h.one_each ∙ narrower.one_each;
    inside = λ k below. let same = narrower.one_each in narrower.within k (get_or values k (pos 0)) (h.inside k (omega arith));
  }

  module _ {P : Type 0} (number : P → ℕ) (IsFor : P → Constraint → Type 0) (Fits : P → List IntSet → Type 0) (items : List P) (are : AreFor number IsFor Fits items model) where
    -- the propagator at place k
    module _ (k : ℕ) (p : P) (at : p ≡ get_or items k p) (below : k < length items) where
      inside : k < length model.constraints
      inside = let one_each = are.one_each in omega arith

      it-is : (constraint : Constraint) → IsPropagatorOf number IsFor Fits model (k + 1) (get_or model.constraints k constraint) p
      it-is constraint = subst (λ (q : P). IsPropagatorOf number IsFor Fits model (k + 1) (get_or model.constraints k constraint) q) (sym at) (are.each k constraint p inside)

      some_constraint : Constraint
      some_constraint = some_member model.constraints k inside

      pub fits-trail : Fits p trail.declared
      fits-trail = subst (Fits p) (sym declared) (it-is some_constraint).fits

      -- what is found of this constraint
      found-at : (found : Inference) → IsInferenceOf (number p) (IsFor p) trail found → IsFound (k + 1) (get_or model.constraints k some_constraint) trail found
      found-at found h =
          let here = it-is some_constraint in
          let constraint = get_or model.constraints k some_constraint in
          subst (λ (n : ℕ). IsFound n constraint trail found) here.numbered (h constraint here.is_for)

      found-justified : (found : Inference) → IsInferenceOf (number p) (IsFor p) trail found → IsInferenceJustified model found
      found-justified found h = justified-by k some_constraint found are.few_vars are.few_constraints inside (found-at found h)

      found-inference : (found : Inference) → IsInferenceOf (number p) (IsFor p) trail found → IsInference model trail found
      found-inference found h = record { stands = found-justified found h; forces = (found-at found h).justified.forcing.forces }

      -- so is each of several
      pub all-found : (found : List Inference) → AreInferencesOf (number p) (IsFor p) trail found → All (IsInference model trail) found
      all-found found h = λ i d below. found-inference (get_or found i d) (h i d below)

      pub all-justified : (found : List Inference) → AreInferencesOf (number p) (IsFor p) trail found → All (IsInferenceJustified model) found
      all-justified found h = λ i d below. found-justified (get_or found i d) (h i d below)

    pub none-quiet : IsNarrower trail.sets trail.declared → (i : ℕ) → length items ≤ i → AllWithin (λ (p : P). AreExhausted (IsFor p) trail) items 0 i → IsQuiet model trail
    none-quiet narrower i past exhausted fixed values within k constraint inside =
        let one_each = are.one_each in
        let here = get_or model.constraints k constraint in
        let p = some_member items k (omega arith) in
        let B : List IntSet → Type 0 = λ sets. HasBooleanSets sets here in
        let boolean : B trail.declared = subst B (sym declared) (are.booleans k constraint inside) in
        (exhausted k p (omega arith) (omega arith) here (are.each k constraint p inside).is_for boolean).holds fixed values (within-declared values narrower within) within
