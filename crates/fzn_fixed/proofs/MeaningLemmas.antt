-- Where all variables are fixed and the result is one that the image admits, the constraint holds.
use Rattle.std.proofs.Common.{◌≡◌, ◌↔◌, ℕ, ◌-◌, true, List, [], ◌∷◌, length, map, get_or, refl, sym, ap₂, subst, ◌∙◌, arith, ℤ, All, Option, Some, None, IfSome, MatchOption}
use Rattle.std.proofs.lemmas.List.Elements.{All-head, All-tail, All-cons, All-from_recursion}
use Rattle.std.proofs.lemmas.Option.{none-some}
use Rattle.fzn_domain.specs.declared.literal.Lit.{Lit}
use Rattle.fzn_domain.specs.IntSet.{IntSet, contains}
use Rattle.fzn_domain.specs.Narrow.{IsWithin, set_of, value_of}
use Rattle.fzn_values.specs.declared.term.Term.{Term}
use Rattle.fzn_meaning.specs.declared.constraint.Constraint.{Constraint}
use Rattle.fzn_meaning.specs.declared.constraint.Constraint.TheVariants as constraint
use Rattle.fzn_values.specs.Term.{IsTerm, term_value, values_of}
use Rattle.fzn_meaning.specs.Meaning.{Meets, IsWellFormedConstraint, IsSwitch, switch_value}
use Rattle.fzn_sets.specs.Terms.{least_value}
use Rattle.fzn_sets.proofs.CallerLemmas.{MayBe-term_value}
use Rattle.fzn_builtin_rules.specs.Form.{form_of}
use Rattle.fzn_builtin_rules.specs.Choices.{inputs_of, result_of, Relates}
use Rattle.fzn_propagator.specs.Inference.{AllFixed}
use Rattle.fzn_fixed.specs.declared.image.Image.{Image}
use Rattle.fzn_fixed.specs.declared.parts.Parts.{Parts}
use Rattle.fzn_fixed.specs.declared.pass.Pass.{Pass}
use Rattle.fzn_fixed.specs.Demand.{AdmitsEach, AdmitsWhere}
use Rattle.fzn_terms.proofs.FixedLemmas.{fixed_to, fixed_ends}
use Rattle.fzn_fixed.specs.Denial.{IsTrueOnSets}
use Rattle.fzn_fixed.specs.Image.{Admits, IsImage}
use Rattle.fzn_fixed.specs.Parts.{ArePartsReady}
use Rattle.fzn_fixed.specs.Passes.{HoldsFixed, AreFixed, least_values}

-- the input places and the result's are terms, and their values stand in the constraint's relation where, and only where, the values meet it
abbrev pub AreInputs : Constraint → List Term → Type 0
AreInputs c inputs = ((count : ℕ) → IsWellFormedConstraint count c → All (IsTerm count) inputs × IsSwitch count (result_of c)) × ((values : List ℤ) → Relates c (values_of values inputs) (switch_value values (result_of c)) → Meets c values)

facts_of : (c : Constraint) → form_of c ≡ None → IfSome (inputs_of c) (AreInputs c)
unfolding Meets inputs_of result_of Relates IsWellFormedConstraint form_of
facts_of (constraint.Arithmetic operation left right result) other = (λ count formed. (All-from_recursion (IsTerm count) (left ∷ right ∷ []) (formed.0, (formed.1, tt)), formed.2), λ values related. related)
facts_of (constraint.IntAbs of result) other = (λ count formed. (All-from_recursion (IsTerm count) (of ∷ []) (formed.0, tt), formed.1), λ values related. related)
facts_of (constraint.Extremum extreme entries result) other = (λ count formed. (formed.0.0, formed.1), λ values related. related)
facts_of (constraint.Element index entries value) other = (λ count formed. (All-cons (IsTerm count) index entries formed.0 formed.1.0, formed.2), λ values related. related)
facts_of (constraint.SetIn term set switch) other = (λ count formed. (All-from_recursion (IsTerm count) (term ∷ []) (formed.0, tt), formed.2), λ values related. related)
facts_of (constraint.BoolXor left right result) other = (λ count formed. (All-from_recursion (IsTerm count) (left ∷ right ∷ []) (formed.0, (formed.1, tt)), formed.2), λ values related. related)
facts_of (constraint.ArrayBoolXor inputs) other = (λ count formed. (formed.0, tt), λ values related. related)
facts_of (constraint.Compare relation left right switch) other = absurd (none-some _ (sym other))
facts_of (constraint.BoolNot left right) other = absurd (none-some _ (sym other))
facts_of (constraint.BoolToInt boolean integer) other = absurd (none-some _ (sym other))
facts_of (constraint.Linear sum comparison bound switch) other = absurd (none-some _ (sym other))
facts_of (constraint.BoolLinEq sum total) other = absurd (none-some _ (sym other))
facts_of (constraint.Gated gate inputs result) other = absurd (none-some _ (sym other))
facts_of (constraint.BoolClause positive negative) other = absurd (none-some _ (sym other))
facts_of _ other = tt

inputs_facts : (c : Constraint) (inputs : List Term) → inputs_of c ≡ Some inputs → form_of c ≡ None → AreInputs c inputs
inputs_facts c inputs is other = subst (λ (o : Option (List Term)). IfSome o (AreInputs c)) is (facts_of c other)

pub inputs_fit : (count : ℕ) (parts : Parts) → ArePartsReady count parts → All (IsTerm count) parts.inputs
inputs_fit count parts ready = ((inputs_facts parts.constraint parts.inputs ready.parts_of.inputs ready.other).0 count ready.formed).0

pub result_fits : (count : ℕ) (parts : Parts) → ArePartsReady count parts → IsSwitch count parts.result
result_fits count parts ready = subst (IsSwitch count) ready.parts_of.result ((inputs_facts parts.constraint parts.inputs ready.parts_of.inputs ready.other).0 count ready.formed).1

module _ (sets : List IntSet) (values : List ℤ) (within : IsWithin sets values) where
  -- it is one that is admitted of each
  admitted : (of : Option Term) (image : Image) → IsSwitch (length sets) of → AdmitsEach sets of image → Admits image (switch_value values of)
  admitted None image fits each = each
  admitted (Some term) image fits each = each (term_value values term) (MayBe-term_value sets values term within fits)

  module _ (fixed : AllFixed sets) where
    values_are : (terms : List Term) → All (IsTerm (length sets)) terms → values_of values terms ≡ map (least_value sets) terms
    values_are [] fit = refl
    values_are (t ∷ terms) fit = ap₂ (λ (x : ℤ) (xs : List ℤ). x ∷ xs) (sym (fixed_to sets values within fixed t (All-head (IsTerm (length sets)) t terms fit)).0) (values_are terms (All-tail (IsTerm (length sets)) t terms fit))

related_of : (values : List ℤ) (of : Option Term) (image : Image) (R : Option ℤ → Type 0) → MatchOption of (R None ↔ Admits image None) (λ _. (r : ℤ) → R (Some r) ↔ Admits image (Some r)) → Admits image (switch_value values of) → R (switch_value values of)
related_of values None image R is here = is.1 here
related_of values (Some term) image R is here = (is (term_value values term)).1 here

module _ (pass : Pass) (image : Image) (is : IsImage pass.constraint.now (least_values pass) image) where
  holds_by : ((values : List ℤ) → IsWithin pass.trail.now.declared values → IsWithin pass.trail.now.sets values → Admits image (switch_value values pass.result)) → HoldsFixed pass
  holds_by each fixed values declared present =
      let C = pass.constraint.now in
      let trail = pass.trail.now in
      let inputs = pass.inputs.now in
      let count : length trail.declared ≡ length trail.sets = sym declared.one_each ∙ present.one_each in
      let same : values_of values inputs ≡ least_values pass = values_are trail.sets values present fixed inputs (subst (λ (n : ℕ). All (IsTerm n) inputs) count pass.inputs_fit) in
      let here : Admits image (switch_value values (result_of C)) = subst (λ (of : Option Term). Admits image (switch_value values of)) (sym pass.result_is) (each values declared present) in
      (inputs_facts C inputs pass.inputs_are pass.other).1 values
      (subst (λ (xs : List ℤ). Relates C xs (switch_value values (result_of C))) (sym same) (related_of values (result_of C) image (Relates C (least_values pass)) is here))

  -- each declared value of the result is admitted
  pub holds_of_each : AdmitsEach pass.trail.now.declared pass.result image → HoldsFixed pass
  holds_of_each each = holds_by (λ values declared present. admitted pass.trail.now.declared values declared pass.result image pass.result_fits each)

  -- the literal says so, and is true
  pub holds_of_literal : (lit : Lit) → AdmitsWhere pass.trail.now.declared pass.result image lit → IsTrueOnSets pass.trail.now.sets lit → HoldsFixed pass
  holds_of_literal lit where_true holds = holds_by (λ values declared present.
      let variable = where_true.variable in
      let there : contains (set_of pass.trail.now.declared lit.var) (value_of values lit.var) ≡ true = declared.inside (lit.var.0 - 1) (omega arith) in
      let now : contains (set_of pass.trail.now.sets lit.var) (value_of values lit.var) ≡ true = present.inside (lit.var.0 - 1) (let a = declared.one_each in let b = present.one_each in omega arith) in
      subst (λ (of : Option Term). Admits image (switch_value values of)) (sym where_true.of_result)
      ((where_true.admitted (value_of values lit.var) there).1 (holds (value_of values lit.var) now)))

-- some input has several values
pub holds_of_wide : (pass : Pass) → (AreFixed pass → ⊥) → HoldsFixed pass
holds_of_wide pass wide fixed values declared present =
    let count : length pass.trail.now.declared ≡ length pass.trail.now.sets = sym declared.one_each ∙ present.one_each in
    absurd (wide (λ k d below. fixed_ends pass.trail.now.sets values present fixed (get_or pass.inputs.now k d) (subst (λ (n : ℕ). IsTerm n (get_or pass.inputs.now k d)) count (pass.inputs_fit k d below))))
