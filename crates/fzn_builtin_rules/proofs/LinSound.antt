-- The rule `lin`: on sets where it is met, no choice of one value from each set meets the constraint.
use Rattle.std.proofs.Common.{◌≡◌, List, inl, inr, arith, ℤ, pos, Option, Some, None, IfSome, IsSomeAnd}
use Rattle.std.proofs.lemmas.Int.{ints}
use Rattle.fzn_domain.specs.IntSet.{IntSet}
use Rattle.fzn_domain.specs.Narrow.{IsWithin}
use Rattle.fzn_values.specs.declared.term.Term.{Term}
use Rattle.fzn_meaning.specs.declared.relation.Comparison.{Comparison}
use Rattle.fzn_meaning.specs.declared.relation.Comparison.TheVariants.{AtMost, Equal, NotEqual}
use Rattle.fzn_meaning.specs.declared.constraint.Constraint.{Constraint}
use Rattle.fzn_values.specs.Term.{term_value, sum_at}
use Rattle.fzn_meaning.specs.Comparisons.{IsSwitched}
use Rattle.fzn_meaning.specs.Linear.{IsLinear}
use Rattle.fzn_meaning.specs.Meaning.{Meets, switch_value, HasBooleanValues}
use Rattle.fzn_builtin_rules.specs.Linear.{least_sum, greatest_sum, NoneCompares, AllCompare, IsExcluded}
use Rattle.fzn_builtin_rules.specs.Form.{Form, form_of, IsFormMet, IsLinMet, FormHolds}
use Rattle.fzn_builtin_rules.proofs.SumLemmas.{sum_between}
use Rattle.fzn_builtin_rules.proofs.FormLemmas.{form_holds}
use Rattle.fzn_sets.proofs.CallerLemmas.{IsBetween, fixed_value}

none_compares : (comparison : Comparison) (low high bound x : ℤ) → IsBetween low high x → NoneCompares comparison low high bound → IsLinear comparison x bound → ⊥
none_compares AtMost low high bound x between none holds = omega (arith, ints)
none_compares Equal low high bound x between none holds = elim none [ inl below ↦ omega (arith, ints) | inr above ↦ omega (arith, ints) ]
none_compares NotEqual low high bound x between none holds = holds (omega (arith, ints))

all_compare : (comparison : Comparison) (low high bound x : ℤ) → IsBetween low high x → AllCompare comparison low high bound → IsLinear comparison x bound
all_compare AtMost low high bound x between all = omega (arith, ints)
all_compare Equal low high bound x between all = omega (arith, ints)
all_compare NotEqual low high bound x between all = λ same. elim all [ inl below ↦ omega (arith, ints) | inr above ↦ omega (arith, ints) ]

-- a switch that is 0 is not 1
pub zero_not_one : (v : ℤ) → v ≡ pos 0 → v ≡ pos 1 → ⊥
zero_not_one v nought one = omega (arith, ints)

switch_sound : (switch : Option Term) (comparison : Comparison) (low high bound x : ℤ) (sets : List IntSet) (values : List ℤ) → IsBetween low high x → IsWithin sets values → IsExcluded sets switch comparison low high bound → IsSwitched (switch_value values switch) (IsLinear comparison x bound) → ⊥
switch_sound None comparison low high bound x sets values between within met holds = none_compares comparison low high bound x between met holds
switch_sound (Some term) comparison low high bound x sets values between within met holds = elim met [
  | inl on ↦ none_compares comparison low high bound x between on.1 (holds.0 (fixed_value sets values term (pos 1) within on.0))
  | inr off ↦ zero_not_one (term_value values term) (fixed_value sets values term (pos 0) within off.0) (holds.1 (all_compare comparison low high bound x between off.1))
]

pub form_sound : (form : Form) (sets : List IntSet) (values : List ℤ) → IsFormMet form sets → IsWithin sets values → FormHolds form values → ⊥
form_sound form sets values met within holds =
    switch_sound form.switch form.comparison (least_sum sets form.places) (greatest_sum sets form.places) form.bound (sum_at values form.places) sets values (sum_between sets values form.places within) within met holds

both_cases : (found : Option Form) (sets : List IntSet) (values : List ℤ) → IsSomeAnd found (λ (form : Form). IsFormMet form sets) → IsWithin sets values → IfSome found (λ (form : Form). FormHolds form values) → ⊥
both_cases None sets values met within holds = met
both_cases (Some form) sets values met within holds = form_sound form sets values met within holds

pub lin_sound : (c : Constraint) (sets : List IntSet) (values : List ℤ) → IsLinMet c sets → IsWithin sets values → HasBooleanValues values c → Meets c values → ⊥
lin_sound c sets values rule within bits met = both_cases (form_of c) sets values rule within (form_holds c values bits met)
