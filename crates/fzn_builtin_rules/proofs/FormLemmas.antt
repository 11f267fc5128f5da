-- Where a constraint has a form, the values meet it exactly where the form holds.
use Rattle.std.proofs.Common.{zero, suc, ◌≡◌, ◌↔◌, ◌⊎◌, List, [], ◌∷◌, ◌++◌, length, inl, inr, arith, ℤ, pos, negsuc, ◌-ℤ◌, ◌+ℤ◌, ◌≤ℤ◌, Option, Some, None, IfSome, IsSomeAnd}
use Rattle.std.specs.List.{AllByRecursion}
use Rattle.std.proofs.lemmas.Int.{ints}
use Rattle.std.proofs.lemmas.List.Elements.{recursion_from_All, All-from_recursion}
use Rattle.std.proofs.lemmas.List.{length-map}
use Rattle.fzn_values.specs.declared.term.Term.{Term}
use Rattle.fzn_meaning.specs.declared.relation.Relation.{Relation}
use Rattle.fzn_meaning.specs.declared.relation.Relation.TheVariants as relation
use Rattle.fzn_meaning.specs.declared.relation.Comparison.TheVariants.{AtMost}
use Rattle.fzn_meaning.specs.declared.arithmetic.Operation.TheVariants.{Plus}
use Rattle.fzn_meaning.specs.declared.boolean.Gate.{Gate}
use Rattle.fzn_meaning.specs.declared.boolean.Gate.TheVariants.{And, Or}
use Rattle.fzn_meaning.specs.declared.constraint.Constraint.{Constraint}
use Rattle.fzn_meaning.specs.declared.constraint.Constraint.TheVariants as constraint
use Rattle.fzn_values.specs.Term.{term_value, values_of, product_at, sum_at}
use Rattle.fzn_meaning.specs.Comparisons.{IsRelated, IsSwitched}
use Rattle.fzn_meaning.specs.Linear.{IsLinear}
use Rattle.fzn_meaning.specs.Meaning.{Meets, switch_value, booleans_of, IsBit, HasBooleanValues}
use Rattle.fzn_meaning.specs.Booleans.{Passes, IsBoolClause}
use Rattle.fzn_builtin_rules.specs.Form.{Form, place_with, each_with, difference, comparison_of, bound_of, passing_bound, form_of, FormHolds}
use Rattle.fzn_builtin_rules.proofs.SumLemmas.{total_by-append}
use Rattle.fzn_builtin_rules.proofs.BitSums.{one_times, minus_times, ones, sum-ones, sum-minus, AreBits, bits_of, ones_ge, ones_le, ones_of_all, all_of_ones, ones_of_any, any_of_ones, any_of_noughts, ones_of_nought}

-- one statement for another under the same switch
switched : (switch : Option ℤ) (plain form : Type 0) → plain ↔ form → IsSwitched switch plain ↔ IsSwitched switch form
switched None plain form same = same
switched (Some s) plain form same = (
  λ holds. (λ one. same.0 (holds.0 one), λ is. holds.1 (same.1 is)),
  λ holds. (λ one. same.1 (holds.0 one), λ is. holds.1 (same.0 is)),
)

related : (r : Relation) (a b x : ℤ) → x ≡ a -ℤ b → IsRelated r a b ↔ IsLinear (comparison_of r) x (bound_of r)
related relation.Equal a b x is = (λ h. omega (arith, ints), λ h. omega (arith, ints))
related relation.NotEqual a b x is = (λ h same. h (omega (arith, ints)), λ h same. h (omega (arith, ints)))
related relation.AtMost a b x is = (λ h. omega (arith, ints), λ h. omega (arith, ints))
related relation.Below a b x is = (λ h. omega (arith, ints), λ h. omega (arith, ints))

sum-difference : (values : List ℤ) (a b : Term) → sum_at values (difference a b) ≡ term_value values a -ℤ term_value values b
sum-difference values a b = omega (arith, ints, one_times (term_value values a), minus_times (term_value values b))

-- a passing gate by the number of its inputs that are 1
gated : (gate : Gate) (inputs : List Term) (xs : List ℤ) (sum : ℤ) → AreBits xs → length xs ≡ length inputs → sum ≡ pos 0 -ℤ ones xs → Passes gate xs ↔ IsLinear AtMost sum (passing_bound gate inputs)
gated And inputs xs sum bits count is = (
  λ pass. omega (arith, ints, ones_of_all xs (recursion_from_All (λ (x : ℤ). x ≡ pos 1) xs pass)),
  λ most. All-from_recursion (λ (x : ℤ). x ≡ pos 1) xs (all_of_ones xs bits (omega (arith, ints))),
)
gated Or inputs xs sum bits count is = (λ pass. omega (arith, ints, ones_of_any xs bits pass), λ most. any_of_ones xs bits (omega (arith, ints)))

parts : (values : List ℤ) (front back : List Term) → AllByRecursion (λ (term : Term). IsBit (term_value values term)) (front ++ back) → AreBits (values_of values front) × AreBits (values_of values back)
parts values [] back bits = (tt, bits_of values back bits)
parts values (t ∷ front) back bits = let rest = parts values front back bits.1 in ((bits.0, rest.0), rest.1)

some_or_none : (x : ℤ) → (pos 1 ≤ℤ x) ⊎ (x ≤ℤ pos 0)
some_or_none (pos zero) = inr (omega (arith, ints))
some_or_none (pos (suc n)) = inl (omega (arith, ints))
some_or_none (negsuc n) = inr (omega (arith, ints))

clause : (values : List ℤ) (positive negative : List Term) → AllByRecursion (λ (term : Term). IsBit (term_value values term)) (positive ++ negative) → IsBoolClause (values_of values positive) (values_of values negative) ↔ (sum_at values (each_with (pos 1) negative ++ each_with (negsuc 0) positive) ≤ℤ (pos (length negative) -ℤ pos 1))
clause values positive negative bits =
    let both = parts values positive negative bits in
    let split = total_by-append (product_at values) (each_with (pos 1) negative) (each_with (negsuc 0) positive) in
    let up = sum-ones values negative in
    let down = sum-minus values positive in
    let count = length-map negative (term_value values) in (
      λ met. elim met [
        | inl one ↦ let most = ones_le (values_of values negative) both.1 in let least = ones_of_any (values_of values positive) both.0 one in omega (arith, ints)
        | inr nought ↦ let most = ones_of_nought (values_of values negative) both.1 nought in let least = ones_ge (values_of values positive) both.0 in omega (arith, ints)
      ],
      λ most. elim (some_or_none (ones (values_of values positive))) [
        | inl some ↦ inl (any_of_ones (values_of values positive) both.0 some)
        | inr none ↦ inr (any_of_noughts (values_of values negative) both.1 (omega (arith, ints)))
      ],
    )

differ : (a b : ℤ) → IsBit a → IsBit b → (a ≡ b → ⊥) → a +ℤ b ≡ pos 1
differ a b (inl x) (inl y) other = absurd (other (omega (arith, ints)))
differ a b (inl x) (inr y) other = omega (arith, ints)
differ a b (inr x) (inl y) other = omega (arith, ints)
differ a b (inr x) (inr y) other = absurd (other (omega (arith, ints)))

abbrev TermIsBit : List ℤ → Term → Type 0
TermIsBit values term = IsBit (term_value values term)

-- Where a constraint has a form, the values meet it exactly where the form holds. Each kind of constraint that has one has a case here.
pub form-Meets : (c : Constraint) (values : List ℤ) → HasBooleanValues values c → IfSome (form_of c) (λ (form : Form). Meets c values ↔ FormHolds form values)
unfolding form_of Meets booleans_of
form-Meets (constraint.Compare relation left right switch) values bits =
    switched (switch_value values switch) _ _ (related relation (term_value values left) (term_value values right) (sum_at values (difference left right)) (sum-difference values left right))
form-Meets (constraint.BoolNot left right) values bits =
    let both = recursion_from_All (TermIsBit values) (left ∷ right ∷ []) bits in
    let one = one_times (term_value values left) in
    let other = one_times (term_value values right) in (
      λ met. let sum = differ (term_value values left) (term_value values right) both.0 both.1.0 met in omega (arith, ints),
      λ holds same. omega (arith, ints),
    )
form-Meets (constraint.BoolToInt boolean integer) values bits =
    let sum = sum-difference values boolean integer in
    (λ met. omega (arith, ints), λ holds. omega (arith, ints))
form-Meets (constraint.Linear sum comparison bound switch) values bits = (λ met. met, λ holds. holds)
form-Meets (constraint.BoolLinEq sum total) values bits =
    let split = total_by-append (product_at values) sum (place_with (negsuc 0) total ∷ []) in
    let less = minus_times (term_value values total) in
    (λ met. omega (arith, ints), λ holds. omega (arith, ints))
form-Meets (constraint.Arithmetic Plus left right result) values bits =
    let one = one_times (term_value values left) in
    let other = one_times (term_value values right) in
    let less = minus_times (term_value values result) in
    (λ met. omega (arith, ints), λ holds. omega (arith, ints))
form-Meets (constraint.Gated gate inputs result) values bits =
    let inside = recursion_from_All (TermIsBit values) (result ∷ inputs) bits in
    let same = gated gate inputs (values_of values inputs) (sum_at values (each_with (negsuc 0) inputs)) (bits_of values inputs inside.1) (length-map inputs (term_value values)) (sum-minus values inputs) in
    switched (Some (term_value values result)) _ _ same
form-Meets (constraint.BoolClause positive negative) values bits =
    clause values positive negative (recursion_from_All (TermIsBit values) (positive ++ negative) bits)
form-Meets _ values bits = tt

holds_by : (found : Option Form) (Met : Type 0) (values : List ℤ) → IfSome found (λ (form : Form). Met ↔ FormHolds form values) → Met → IfSome found (λ (form : Form). FormHolds form values)
holds_by None Met values same met = tt
holds_by (Some form) Met values same met = same.0 met

meets_by : (found : Option Form) (Met : Type 0) (values : List ℤ) → IfSome found (λ (form : Form). Met ↔ FormHolds form values) → IsSomeAnd found (λ (form : Form). FormHolds form values) → Met
meets_by None Met values same holds = absurd holds
meets_by (Some form) Met values same holds = same.1 holds

pub form_holds : (c : Constraint) (values : List ℤ) → HasBooleanValues values c → Meets c values → IfSome (form_of c) (λ (form : Form). FormHolds form values)
form_holds c values bits met = holds_by (form_of c) (Meets c values) values (form-Meets c values bits) met

pub form_meets : (c : Constraint) (values : List ℤ) → HasBooleanValues values c → IsSomeAnd (form_of c) (λ (form : Form). FormHolds form values) → Meets c values
form_meets c values bits holds = meets_by (form_of c) (Meets c values) values (form-Meets c values bits) holds
