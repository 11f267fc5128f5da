-- The rules `fixed` and `enum`: on sets where one is met, no choice of one value from each set meets the constraint.
use Rattle.std.proofs.Common.{◌≡◌, ◌↔◌, List, [], ◌∷◌, ◌++◌, length, map, take, drop, refl, sym, ap, ◌∙◌, arith, ℤ, Option, Some, None, IfSome, IsSomeAnd}
use Rattle.std.specs.List.{All}
use Rattle.std.proofs.lemmas.Int.{ints}
use Rattle.std.proofs.lemmas.List.{length-map}
use Rattle.std.proofs.lemmas.List.Elements.{All-head, All-tail}
use Rattle.std.proofs.Math.Seq.{take-append_seam, drop-append_seam}
use Rattle.fzn_domain.specs.IntSet.{IntSet}
use Rattle.fzn_domain.specs.Narrow.{IsWithin}
use Rattle.fzn_values.specs.declared.term.Term.{Term}
use Rattle.fzn_values.specs.declared.term.Place.{Place}
use Rattle.fzn_meaning.specs.declared.relation.Comparison.{Comparison}
use Rattle.fzn_meaning.specs.declared.constraint.Constraint.{Constraint}
use Rattle.fzn_meaning.specs.declared.constraint.Constraint.TheVariants as constraint
use Rattle.fzn_values.specs.Term.{term_value, values_of, product_at, sum_at, IsTerm}
use Rattle.fzn_meaning.specs.Comparisons.{IsSwitched}
use Rattle.fzn_meaning.specs.Linear.{IsLinear}
use Rattle.fzn_meaning.specs.Booleans.{IsBoolClause}
use Rattle.fzn_meaning.specs.Meaning.{Meets, IsWellFormedConstraint, switch_value}
use Rattle.fzn_builtin_rules.specs.Choices.{inputs_of, result_of, weighted_sum, Relates, IsChoice, NoneOf, NoChoiceFits, IsFixedMet, IsEnumMet}
use Rattle.fzn_builtin_rules.proofs.SumLemmas.{total_by-cons}
use Rattle.fzn_sets.proofs.CallerLemmas.{MayBe-term_value}
use Rattle.fzn_builtin_rules.proofs.CountLemmas.{inputs_formed}

abbrev terms : List Place → List Term
terms places = map (λ (place : Place). place.term) places

-- the sum of the products is that of the values
weighted_sum-values : (values : List ℤ) (places : List Place) → weighted_sum places (values_of values (terms places)) ≡ sum_at values places
weighted_sum-values values [] = refl
weighted_sum-values values (place ∷ places) =
    let rest = weighted_sum-values values places in
    let both = total_by-cons (product_at values) place places in
    omega (arith, ints)

values-append : (values : List ℤ) (front back : List Term) → values_of values (front ++ back) ≡ values_of values front ++ values_of values back
values-append values [] back = refl
values-append values (t ∷ front) back = ap (λ (rest : List ℤ). term_value values t ∷ rest) (values-append values front back)

clause-Relates : (values : List ℤ) (positive negative : List Term) → IsBoolClause (values_of values positive) (values_of values negative) ↔ IsBoolClause (take (length positive) (values_of values (positive ++ negative))) (drop (length positive) (values_of values (positive ++ negative)))
clause-Relates values positive negative =
    let front = values_of values positive in
    let back = values_of values negative in
    let all = values-append values positive negative in
    let count : length positive ≡ length front = sym (length-map positive (term_value values)) in
    let first : take (length positive) (values_of values (positive ++ negative)) ≡ front = ap (λ k. take k (values_of values (positive ++ negative))) count ∙ ap (take (length front)) all ∙ take-append_seam front back in
    let second : drop (length positive) (values_of values (positive ++ negative)) ≡ back = ap (λ k. drop k (values_of values (positive ++ negative))) count ∙ ap (drop (length front)) all ∙ drop-append_seam front back in
    rw (first, second) (λ met. met, λ met. met)

switched-Relates : (switch : Option ℤ) (comparison : Comparison) (x y bound : ℤ) → x ≡ y → IsSwitched switch (IsLinear comparison y bound) ↔ IsSwitched switch (IsLinear comparison x bound)
switched-Relates switch comparison x y bound same = rw same (λ met. met, λ met. met)

-- The values meet the constraint exactly where those of its places stand in its relation.
pub Relates-Meets : (c : Constraint) (values : List ℤ) → IfSome (inputs_of c) (λ inputs. Meets c values ↔ Relates c (values_of values inputs) (switch_value values (result_of c)))
unfolding Meets inputs_of result_of Relates
Relates-Meets (constraint.Compare relation left right switch) values = (λ met. met, λ met. met)
Relates-Meets (constraint.BoolNot left right) values = (λ met. met, λ met. met)
Relates-Meets (constraint.BoolToInt boolean integer) values = (λ met. met, λ met. met)
Relates-Meets (constraint.Linear sum comparison bound switch) values =
    switched-Relates (switch_value values switch) comparison (weighted_sum sum (values_of values (terms sum))) (sum_at values sum) bound (weighted_sum-values values sum)
Relates-Meets (constraint.BoolLinEq sum total) values = (λ met. weighted_sum-values values sum ∙ met, λ met. sym (weighted_sum-values values sum) ∙ met)
Relates-Meets (constraint.Arithmetic operation left right result) values = (λ met. met, λ met. met)
Relates-Meets (constraint.IntAbs of result) values = (λ met. met, λ met. met)
Relates-Meets (constraint.Extremum extreme entries result) values = (λ met. met, λ met. met)
Relates-Meets (constraint.Element index entries value) values = (λ met. met, λ met. met)
Relates-Meets (constraint.SetIn term set switch) values = (λ met. met, λ met. met)
Relates-Meets (constraint.Gated gate inputs result) values = (λ met. met, λ met. met)
Relates-Meets (constraint.BoolXor left right result) values = (λ met. met, λ met. met)
Relates-Meets (constraint.ArrayBoolXor inputs) values = (λ met. met, λ met. met)
Relates-Meets (constraint.BoolClause positive negative) values = clause-Relates values positive negative
Relates-Meets _ values = tt

relates_by : (c : Constraint) (values : List ℤ) (found : Option (List Term)) → IfSome found (λ inputs. Meets c values ↔ Relates c (values_of values inputs) (switch_value values (result_of c))) → Meets c values → IfSome found (λ inputs. Relates c (values_of values inputs) (switch_value values (result_of c)))
relates_by c values None same met = tt
relates_by c values (Some inputs) same met = same.0 met

result_formed : (c : Constraint) (sets : List IntSet) → IsWellFormedConstraint (length sets) c → IfSome (result_of c) (IsTerm (length sets))
unfolding IsWellFormedConstraint result_of
result_formed (constraint.Compare relation left right switch) sets formed = formed.2
result_formed (constraint.BoolToInt boolean integer) sets formed = formed.1
result_formed (constraint.Linear sum comparison bound switch) sets formed = formed.2
result_formed (constraint.BoolLinEq sum total) sets formed = formed.1
result_formed (constraint.Arithmetic operation left right result) sets formed = formed.2
result_formed (constraint.IntAbs of result) sets formed = formed.1
result_formed (constraint.Extremum extreme entries result) sets formed = formed.1
result_formed (constraint.Element index entries value) sets formed = formed.2
result_formed (constraint.SetIn term set switch) sets formed = formed.2
result_formed (constraint.Gated gate inputs result) sets formed = formed.1
result_formed (constraint.BoolXor left right result) sets formed = formed.2
result_formed _ sets formed = tt

module _ (sets : List IntSet) (values : List ℤ) (within : IsWithin sets values) where
  own_choice : (inputs : List Term) → All (IsTerm (length sets)) inputs → IsChoice sets inputs (values_of values inputs)
  own_choice [] formed = tt
  own_choice (t ∷ inputs) formed = (MayBe-term_value sets values t within (All-head (IsTerm (length sets)) t inputs formed), own_choice inputs (All-tail (IsTerm (length sets)) t inputs formed))

  not_none : (result : Option Term) (holds : Option ℤ → Type 0) → IfSome result (IsTerm (length sets)) → NoneOf sets result holds → holds (switch_value values result) → ⊥
  not_none None holds formed none is = none is
  not_none (Some term) holds formed none is = none (term_value values term) (MayBe-term_value sets values term within formed) is

  some_choice_fits : (c : Constraint) (found : Option (List Term)) → IfSome found (All (IsTerm (length sets))) → IfSome (result_of c) (IsTerm (length sets)) → IfSome found (λ inputs. Relates c (values_of values inputs) (switch_value values (result_of c))) → IsSomeAnd found (NoChoiceFits c sets) → ⊥
  some_choice_fits c None formed last is none = none
  some_choice_fits c (Some inputs) formed last is none = not_none (result_of c) (Relates c (values_of values inputs)) last (none (values_of values inputs) (own_choice inputs formed)) is

both_parts : {A : Type 0} (found : Option A) (P Q : A → Type 0) → IsSomeAnd found (λ a. P a × Q a) → IsSomeAnd found Q
both_parts None P Q is = is
both_parts (Some a) P Q is = is.1

no_choice_sound : (c : Constraint) (sets : List IntSet) (values : List ℤ) → IsWellFormedConstraint (length sets) c → IsSomeAnd (inputs_of c) (NoChoiceFits c sets) → IsWithin sets values → Meets c values → ⊥
no_choice_sound c sets values formed none within met =
    some_choice_fits sets values within c (inputs_of c) (inputs_formed (length sets) c formed) (result_formed c sets formed) (relates_by c values (inputs_of c) (Relates-Meets c values) met) none

pub fixed_sound : (c : Constraint) (sets : List IntSet) (values : List ℤ) → IsWellFormedConstraint (length sets) c → IsFixedMet c sets → IsWithin sets values → Meets c values → ⊥
fixed_sound c sets values formed rule within met = no_choice_sound c sets values formed (both_parts (inputs_of c) _ (NoChoiceFits c sets) rule) within met

pub enum_sound : (c : Constraint) (sets : List IntSet) (values : List ℤ) → IsWellFormedConstraint (length sets) c → IsEnumMet c sets → IsWithin sets values → Meets c values → ⊥
enum_sound c sets values formed rule within met = no_choice_sound c sets values formed (both_parts (inputs_of c) _ (NoChoiceFits c sets) rule) within met
