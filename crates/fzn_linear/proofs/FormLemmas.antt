-- What a found clause and its absence say of a constraint.
use Rattle.std.proofs.Common.{◌≡◌, ℕ, ◌-◌, Bool, true, false, cond, List, [], ◌∷◌, length, get_or, refl, sym, ap, subst, ◌∙◌, inl, inr, arith, ℤ, pos, ◌-ℤ◌, ◌*ℤ◌, ◌≤ℤ◌, int_lt, All, Option, Some, None, IfSome, IsSomeAnd}
use Rattle.std.proofs.lemmas.Int.{ints}
use Rattle.std.proofs.lemmas.List.Elements.{recursion_from_All}
use Rattle.fzn_domain.specs.declared.literal.Lit.{Lit}
use Rattle.fzn_domain.specs.IntSet.{IntSet, contains, size, least, greatest}
use Rattle.fzn_domain.specs.Narrow.{IsWithin, value_of, set_of}
use Rattle.fzn_domain.proofs.SetLemmas.{only_member}
use Rattle.fzn_values.specs.declared.term.Term.{Term}
use Rattle.fzn_values.specs.declared.term.Term.TheVariants.{Constant, Variable}
use Rattle.fzn_values.specs.declared.term.Place.{Place}
use Rattle.fzn_meaning.specs.declared.relation.Comparison.{Comparison}
use Rattle.fzn_meaning.specs.declared.relation.Comparison.TheVariants.{AtMost, Equal, NotEqual}
use Rattle.fzn_meaning.specs.declared.arithmetic.Operation.TheVariants.{Plus}
use Rattle.fzn_meaning.specs.declared.constraint.Constraint.{Constraint}
use Rattle.fzn_meaning.specs.declared.constraint.Constraint.TheVariants as constraint
use Rattle.fzn_values.specs.Term.{IsTerm, IsPlace, term_value, product_at, sum_at}
use Rattle.fzn_meaning.specs.Comparisons.{IsSwitched}
use Rattle.fzn_meaning.specs.Linear.{IsLinear}
use Rattle.fzn_meaning.specs.Meaning.{HasBooleanSets, HasBooleanValues, booleans_of, switch_value, IsBit, IsSwitch}
use Rattle.fzn_meaning.proofs.CallerLemmas.{bits-choice}
use Rattle.fzn_rules.specs.declared.rule.Rule.TheVariants.{Lin}
use Rattle.fzn_sets.specs.Terms.{least_value, greatest_value, IsFixedTo}
use Rattle.fzn_builtin_rules.specs.Linear.{low_product, least_sum}
use Rattle.fzn_builtin_rules.specs.Form.{Form, form, form_of, IsFormMet, FormHolds}
use Rattle.fzn_builtin_rules.proofs.CallerLemmas.{form_meets}
use Rattle.fzn_rules.specs.Rules.{IsMet}
use Rattle.fzn_trail.specs.Levels.{Levels}
use Rattle.fzn_propagator.specs.Clause.{IsJustified}
use Rattle.fzn_propagator.specs.Inference.{AllFixed, IsTight, IsInferredOut}
use Rattle.fzn_propagator.specs.Barred.{IsToDiffer, LeavesNoBarred}
use Rattle.fzn_propagator.proofs.CallerLemmas.{one_end, flat_cond, justified_by}
use Rattle.fzn_sum.specs.Opposite.{opposites}
use Rattle.fzn_sum.specs.Refuted.{LeavesSome, LeavesEach}
use Rattle.fzn_sum.proofs.CallerLemmas.{total_le, none_barred_opposites, sum_at-opposites, opposites-twice, opposites_fit}
use Rattle.fzn_linear.specs.OppositeForm.{other_comparison, other_bound}
use Rattle.fzn_linear.specs.Sum.{IsFound, IsLeftAlone}
use Rattle.fzn_linear.specs.Switched.{IsSwitchAt}
use Rattle.fzn_terms.proofs.OrderLemmas.{ge_same}

-- ---- a clause was found

met_as : (sets : List IntSet) (constraint : Constraint) (found : Form) → form_of constraint ≡ Some found → IsFormMet found sets → IsMet constraint sets Lin
unfolding IsMet
met_as sets constraint found same met = subst (λ (f : Option Form). IsSomeAnd f (λ (x : Form). IsFormMet x sets)) (sym same) met

pub justified_found : (trail : Levels) (found : Form) (clause : List Lit) (constraint : Constraint) → form_of constraint ≡ Some found → IsFound trail found clause → IsJustified trail constraint Lin clause
justified_found trail found clause constraint same there =
    justified_by trail constraint Lin clause (IsFormMet found) (λ sets met. met_as sets constraint found same met) there

-- ---- all variables fixed

value_is : (s : IntSet) (v : ℤ) (b : Bool) → size s ≡ 1 → contains s v ≡ true → cond b (greatest s) (least s) ≡ v
value_is s v b one h = only_member s _ v one (one_end s b (omega arith)) h

module _ (sets : List IntSet) (values : List ℤ) (fixed : AllFixed sets) (within : IsWithin sets values) where
  term_is : (term : Term) (b : Bool) → IsTerm (length sets) term → cond b (greatest_value sets term) (least_value sets term) ≡ term_value values term
  term_is (Constant k) b fits = flat_cond b k
  term_is (Variable var) b fits = value_is (set_of sets var) (value_of values var) b (fixed (var.0 - 1) _ (omega arith)) (within.inside (var.0 - 1) (omega arith))

  -- the sum is no more than the least sum
  fixed_sum : (places : List Place) → All (IsPlace (length sets)) places → sum_at values places ≤ℤ least_sum sets places
  unfolding low_product
  fixed_sum places fit =
      total_le (product_at values) (low_product sets) places (λ k d below.
      let place = get_or places k d in
      ge_same (low_product sets place) (product_at values place)
      (ap (λ (x : ℤ). place.coefficient *ℤ x) (term_is place.term (int_lt place.coefficient (pos 0)) (fit k d below).0)))

  -- ---- and none was found

  fixed_to : (term : Term) (v : ℤ) → IsTerm (length sets) term → term_value values term ≡ v → IsFixedTo sets term v
  fixed_to term v fits is = (term_is term false fits ∙ is, term_is term true fits ∙ is)

  leaves_linear : (comparison : Comparison) (places : List Place) (bound s : ℤ) → s ≤ℤ least_sum sets places → (pos 0 -ℤ s) ≤ℤ least_sum sets (opposites places) → LeavesSome sets comparison places bound → IsLinear comparison s bound
  leaves_linear AtMost places bound s up down leaves = omega (arith, ints)
  leaves_linear Equal places bound s up down leaves = let a = leaves.0 in let b = leaves.1 in omega (arith, ints)
  leaves_linear NotEqual places bound s up down leaves = λ same. elim leaves [ inl below ↦ omega (arith, ints) | inr above ↦ omega (arith, ints) ]

  some_of_each : (comparison : Comparison) (places : List Place) (bound : ℤ) → LeavesEach sets comparison places bound → LeavesSome sets comparison places bound
  some_of_each AtMost places bound leaves = leaves.least
  some_of_each Equal places bound leaves = leaves
  some_of_each NotEqual places bound leaves = leaves.0

  not_linear : (comparison : Comparison) (s bound : ℤ) → IsLinear (other_comparison comparison) (pos 0 -ℤ s) (other_bound comparison bound) → IsLinear comparison s bound → ⊥
  not_linear AtMost s bound other here = omega (arith, ints)
  not_linear Equal s bound other here = other (omega (arith, ints))
  not_linear NotEqual s bound other here = here (omega (arith, ints))

  module _ (comparison : Comparison) (places : List Place) (bound : ℤ) (fit : All (IsPlace (length sets)) places) where
    up : sum_at values places ≤ℤ least_sum sets places
    up = fixed_sum places fit

    down : (pos 0 -ℤ sum_at values places) ≤ℤ least_sum sets (opposites places)
    down =
        let h = fixed_sum (opposites places) (opposites_fit (length sets) places fit) in
        let e = sum_at-opposites values places in
        omega (arith, ints)

    on_side : LeavesSome sets comparison places bound → IsLinear comparison (sum_at values places) bound
    on_side leaves = leaves_linear comparison places bound (sum_at values places) up down leaves

    off_side : LeavesSome sets (other_comparison comparison) (opposites places) (other_bound comparison bound) → IsLinear comparison (sum_at values places) bound → ⊥
    off_side leaves =
        let e : least_sum sets (opposites (opposites places)) ≡ least_sum sets places = ap (least_sum sets) (opposites-twice places) in
        let u = up in
        not_linear comparison (sum_at values places) bound
        (leaves_linear (other_comparison comparison) (opposites places) (other_bound comparison bound) (pos 0 -ℤ sum_at values places) down (omega (arith, ints)) leaves)

    zero_not_one : (v : ℤ) → v ≡ pos 0 → v ≡ pos 1 → ⊥
    zero_not_one v nought one = omega (arith, ints)

    alone_by : (switch : Option Term) → IsSwitch (length sets) switch → IfSome switch (λ (term : Term). IsBit (term_value values term)) → IsLeftAlone sets (form places comparison bound switch) → IsSwitched (switch_value values switch) (IsLinear comparison (sum_at values places) bound)
    alone_by None fits bit alone = on_side (some_of_each comparison places bound (alone true refl))
    alone_by (Some term) fits bit alone = elim bit [
      | inl nought ↦ (
        λ one. absurd (zero_not_one (term_value values term) nought one),
        λ here. absurd (off_side (some_of_each (other_comparison comparison) (opposites places) (other_bound comparison bound) (alone false (fixed_to term (pos 0) fits nought))) here),
      )
      | inr one ↦ (λ _. on_side (some_of_each comparison places bound (alone true (fixed_to term (pos 1) fits one))), λ _. one)
    ]

abbrev TermIsBit : List ℤ → Term → Type 0
TermIsBit values term = IsBit (term_value values term)

switch_bit : (c : Constraint) (values : List ℤ) → HasBooleanValues values c → IfSome (form_of c) (λ (found : Form). IfSome found.switch (TermIsBit values))
unfolding form_of booleans_of
switch_bit (constraint.Compare relation left right (Some switch)) values bits = (recursion_from_All (TermIsBit values) (switch ∷ []) bits).0
switch_bit (constraint.Linear sum comparison bound (Some switch)) values bits = (recursion_from_All (TermIsBit values) (switch ∷ []) bits).0
switch_bit (constraint.Gated gate inputs result) values bits = (recursion_from_All (TermIsBit values) (result ∷ inputs) bits).0
switch_bit (constraint.Arithmetic Plus left right result) values bits = tt
switch_bit _ values bits = tt

tight_of : (sets : List IntSet) (found : Form) → IsLeftAlone sets found → found.comparison ≡ AtMost → found.switch ≡ None → IsTight sets found.places found.bound
tight_of sets found alone comparison switch =
    subst (λ (c : Comparison). LeavesEach sets c found.places found.bound) comparison (alone true (subst (λ (s : Option Term). IsSwitchAt sets s true) (sym switch) refl))

-- ---- no value that is barred

none_barred_by : (sets : List IntSet) (comparison : Comparison) (places : List Place) (bound : ℤ) (switch : Option Term) → IsToDiffer sets (form places comparison bound switch) → IsLeftAlone sets (form places comparison bound switch) → LeavesNoBarred sets places bound
none_barred_by sets comparison places bound None differ alone = (subst (λ (c : Comparison). LeavesEach sets c places bound) differ (alone true refl)).1
none_barred_by sets comparison places bound (Some term) (inl on) alone = (subst (λ (c : Comparison). LeavesEach sets c places bound) on.1 (alone true on.0)).1
none_barred_by sets comparison places bound (Some term) (inr off) alone =
    none_barred_opposites sets places bound
    (subst (λ (c : Comparison). LeavesEach sets (other_comparison c) (opposites places) (other_bound c bound)) off.1 (alone false off.0)).1

pub sum_alone : (trail : Levels) (found : Form) (constraint : Constraint) → form_of constraint ≡ Some found → HasBooleanSets trail.declared constraint → All (IsPlace (length trail.declared)) found.places → IsSwitch (length trail.declared) found.switch → IsLeftAlone trail.sets found → IsInferredOut constraint trail
sum_alone trail found constraint same booleans fit fits alone = record {
  holds = λ fixed values declared within.
      let counts = sym within.one_each ∙ declared.one_each in
      let bits = bits-choice trail.declared values constraint declared booleans in
      let bit = subst (λ (f : Option Form). IfSome f (λ (x : Form). IfSome x.switch (TermIsBit values))) same (switch_bit constraint values bits) in
      let here = subst (λ (n : ℕ). All (IsPlace n) found.places) (sym counts) fit in
      let switch_here = subst (λ (n : ℕ). IsSwitch n found.switch) (sym counts) fits in
      let holds = alone_by trail.sets values fixed within found.comparison found.places found.bound here found.switch switch_here bit alone in
      form_meets constraint values bits (subst (λ (f : Option Form). IsSomeAnd f (λ (x : Form). FormHolds x values)) (sym same) holds);
  strong = λ asked is. subst (λ (f : Option Form). IfSome f (λ (x : Form). x.comparison ≡ AtMost → x.switch ≡ None → IsTight trail.sets x.places x.bound)) (sym same ∙ is) (tight_of trail.sets found alone);
  none_barred = λ asked is.
      subst (λ (f : Option Form). IfSome f (λ (x : Form). IsToDiffer trail.sets x → LeavesNoBarred trail.sets x.places x.bound)) (sym same ∙ is)
      (λ differ. none_barred_by trail.sets found.comparison found.places found.bound found.switch differ alone);
}
