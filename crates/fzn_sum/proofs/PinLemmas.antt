-- Clauses that leave places their one number.
use Rattle.std.proofs.Common.{◌≡◌, ◌≢◌, ℕ, ◌+◌, ◌<◌, Bool, true, false, cond, List, [], ◌∷◌, ◌++◌, length, get_or, refl, sym, ap, subst, ◌∙◌, inl, inr, arith, ℤ, pos, ◌-ℤ◌, ◌+ℤ◌, ◌*ℤ◌, ◌≤ℤ◌, int_lt, All}
use Rattle.std.specs.FinSet as set
use Rattle.std.specs.Int.{int_min, int_max}
use Rattle.std.proofs.lemmas.Int.{ints, int_min_is, int_max_is}
use Rattle.std.proofs.lemmas.Bool.{cases_eq}
use Rattle.std.proofs.lemmas.List.{get_or_default, get_or-map, length-map}
use Rattle.fzn_domain.specs.declared.literal.VarId.{VarId}
use Rattle.fzn_domain.specs.declared.literal.Lit.{Lit}
use Rattle.fzn_domain.specs.declared.literal.Op.TheVariants as op
use Rattle.fzn_domain.specs.IntSet.{IntSet, contains, least_in, greatest_in, least, greatest}
use Rattle.fzn_domain.specs.Limits.{IsInLimits}
use Rattle.fzn_domain.specs.Narrow.{set_of}
use Rattle.fzn_domain.proofs.SetLemmas.{least_le, le_greatest}
use Rattle.fzn_values.specs.declared.term.Term.{Term}
use Rattle.fzn_values.specs.declared.term.Term.TheVariants.{Constant, Variable}
use Rattle.fzn_values.specs.declared.term.Place.{Place}
use Rattle.fzn_meaning.specs.declared.relation.Comparison.TheVariants.{NotEqual}
use Rattle.fzn_values.specs.Term.{IsPlace, total_by}
use Rattle.fzn_sets.specs.Terms.{least_value, greatest_value}
use Rattle.fzn_builtin_rules.specs.Linear.{low_end, high_end, low_product, high_product, least_sum}
use Rattle.fzn_trail.specs.Levels.{Levels}
use Rattle.fzn_propagator.specs.Left.{IsLeft}
use Rattle.fzn_propagator.specs.Barred.{GivesOne}
use Rattle.fzn_propagator.proofs.CallerLemmas.{left_of_more, last_fails, false_push, forcing_push, value_where_false, denied_one, may_fail}
use Rattle.fzn_sum.specs.Opposite.{opposite_place, opposites}
use Rattle.fzn_sum.specs.Refuted.{RulesOut, IsSumConflict, IsRefutation}
use Rattle.fzn_sum.specs.Pinned.{IsPinned, IsPin, ArePinned, IsBarring}
use Rattle.fzn_sum.proofs.OppositeLemmas.{neg_times, total-opposites}
use Rattle.fzn_builtin_rules.proofs.CallerLemmas.{low_up, low_down, high_up, high_down}
use Rattle.fzn_sum.proofs.ClauseLemmas.{variable_of_place}
use Rattle.fzn_sum.proofs.PlaceLemmas.{both_signs}
use Rattle.fzn_sum.proofs.ProductLemmas.{cancel, no_times}
use Rattle.fzn_sum.proofs.SumLemmas.{total_same, total_but}

-- ---- a place that gives one number

pub one_of_zero : (sets : List IntSet) (place : Place) → place.coefficient ≡ pos 0 → GivesOne sets place
unfolding low_product high_product
one_of_zero sets place e = no_times place.coefficient (low_end sets place) e ∙ sym (no_times place.coefficient (high_end sets place) e)

either : (b : Bool) (low high : ℤ) → low ≡ high → cond b high low ≡ cond b low high
either true low high e = sym e
either false low high e = e

pub one_of_same : (sets : List IntSet) (place : Place) → least_value sets place.term ≡ greatest_value sets place.term → GivesOne sets place
unfolding low_product high_product
one_of_same sets place e = ap (λ (x : ℤ). place.coefficient *ℤ x) (either (int_lt place.coefficient (pos 0)) _ _ e)

pub one_of_constant : (sets : List IntSet) (place : Place) (k : ℤ) → place.term ≡ Constant k → GivesOne sets place
one_of_constant sets place k of = one_of_same sets place (subst (λ (t : Term). least_value sets t ≡ greatest_value sets t) (sym of) refl)

ends_in : (xs : List ℤ) → least_in xs ≤ℤ greatest_in xs
ends_in [] = omega (arith, ints)
ends_in (x ∷ []) = omega (arith, ints)
ends_in (x ∷ y ∷ ys) = around x (least_in (y ∷ ys)) (greatest_in (y ∷ ys))
  where
    around : (x low high : ℤ) → int_min x low ≤ℤ int_max x high
    around x low high = let a = int_min_is x low in let b = int_max_is x high in omega (arith, ints)

set_ordered : (s : IntSet) → least s ≤ℤ greatest s
unfolding least greatest
set_ordered s = ends_in (set.items s)

pub term_ordered : (sets : List IntSet) (term : Term) → least_value sets term ≤ℤ greatest_value sets term
term_ordered sets (Constant k) = omega (arith, ints)
term_ordered sets (Variable var) = set_ordered (set_of sets var)

pub same_of_one : (sets : List IntSet) (place : Place) → place.coefficient ≢ pos 0 → GivesOne sets place → least_value sets place.term ≡ greatest_value sets place.term
same_of_one sets place some one =
    let c = place.coefficient in
    both_signs place.coefficient
    (λ sign. cancel c _ _ some (term_ordered sets place.term) (sym (low_up sets place sign) ∙ one ∙ high_up sets place sign))
    (λ sign. cancel c _ _ some (term_ordered sets place.term) (sym (high_down sets place sign) ∙ sym one ∙ low_down sets place sign))

-- where both ends are the value, the place gives its product
low_at : (sets : List IntSet) (place : Place) (v : ℤ) → v ≡ least_value sets place.term → v ≡ greatest_value sets place.term → place.coefficient *ℤ v ≡ low_product sets place
low_at sets place v low high =
    both_signs place.coefficient
    (λ sign. ap (λ (x : ℤ). place.coefficient *ℤ x) low ∙ sym (low_up sets place sign))
    (λ sign. ap (λ (x : ℤ). place.coefficient *ℤ x) high ∙ sym (low_down sets place sign))

-- ---- no literal is wanted

pub pinned_constant : (trail : Levels) (place : Place) (k : ℤ) → place.term ≡ Constant k → IsPinned trail [] place
pinned_constant trail place k of = λ value left.
    let is : value ≡ k = subst (λ (t : Term). IsLeft trail.declared [] t value) of left in
    low_at trail.sets place value (is ∙ sym (ap (least_value trail.sets) of)) (is ∙ sym (ap (greatest_value trail.sets) of))

pub pinned_zero : (trail : Levels) (place : Place) → place.coefficient ≡ pos 0 → IsPinned trail [] place
unfolding low_product
pinned_zero trail place e = λ value left. no_times place.coefficient value e ∙ sym (no_times place.coefficient (low_end trail.sets place) e)

-- the declared set has one value
pub pinned_declared : (trail : Levels) (place : Place) (var : VarId) (value low high : ℤ) → place.term ≡ Variable var → place.coefficient ≢ pos 0 → GivesOne trail.sets place → value ≡ least (set_of trail.sets var) → contains (set_of trail.declared var) value ≡ true → low ≡ least (set_of trail.declared var) → high ≡ greatest (set_of trail.declared var) → low ≡ high → IsPinned trail [] place
pinned_declared trail place var value low high of some one value_is member low_is high_is fixed = λ v left.
    let inside = (subst (λ (t : Term). IsLeft trail.declared [] t v) of left).0 in
    let declared = set_of trail.declared var in
    let a = least_le declared v inside in
    let b = le_greatest declared v inside in
    let c = least_le declared value member in
    let d = le_greatest declared value member in
    let same : v ≡ value = omega (arith, ints) in
    let at_least : v ≡ least_value trail.sets place.term = same ∙ value_is ∙ sym (ap (least_value trail.sets) of) in
    low_at trail.sets place v at_least (at_least ∙ same_of_one trail.sets place some one)

-- ---- the literal that the variable has another value

pub pin_is : (trail : Levels) (place : Place) (var : VarId) (low value : ℤ) → place.term ≡ Variable var → place.coefficient ≢ pos 0 → GivesOne trail.sets place → low ≡ least (set_of trail.sets var) → IsInLimits low → value ≡ low → IsPin trail place (record { var = var; op = op.NotEqual; value = value })
pin_is trail place var low value of some one low_is limits same_low =
    let value_is : value ≡ least (set_of trail.sets var) = same_low ∙ low_is in
    let lit : Lit = record { var = var; op = op.NotEqual; value = value } in
    let same : least (set_of trail.sets var) ≡ greatest (set_of trail.sets var) =
    subst (λ (t : Term). least_value trail.sets t ≡ greatest_value trail.sets t) of (same_of_one trail.sets place some one) in
    record {
      of_place = of;
      writable = (omega (arith, ints), omega (arith, ints));
      impossible = denied_one lit refl (set_of trail.sets var) same (sym value_is);
      gives = λ v h.
          let at_least : v ≡ least_value trail.sets place.term = value_where_false lit refl v h ∙ value_is ∙ sym (ap (least_value trail.sets) of) in
          low_at trail.sets place v at_least (at_least ∙ same_of_one trail.sets place some one);
    }

-- ---- the loop that pins

pinned_more : (trail : Levels) (clause more : List Lit) (place : Place) → IsPinned trail clause place → IsPinned trail (clause ++ more) place
pinned_more trail clause more place pinned = λ v left. pinned v (left_of_more trail.declared clause more place.term v left)

pinned_by : (trail : Levels) (clause : List Lit) (place : Place) (lit : Lit) → IsPin trail place lit → IsPinned trail (clause ++ lit ∷ []) place
pinned_by trail clause place lit pin = λ v left.
    pin.gives v (last_fails trail.declared clause lit v (subst (λ (t : Term). IsLeft trail.declared (clause ++ lit ∷ []) t v) pin.of_place left))

pub pins_same : (trail : Levels) (places : List Place) (i except : ℕ) (clause : List Lit) (d : Place) → i < length places → ArePinned trail places i except clause → (i ≢ except → IsPinned trail clause (get_or places i d)) → ArePinned trail places (i + 1) except clause
pins_same trail places i except clause d in_places before here = record {
  still = before.still;
  pinned = λ k e below apart. elim (cases_eq k i) [
    | inl same ↦
        let at : get_or places i d ≡ get_or places k e = get_or_default places i d e in_places ∙ ap (λ (n : ℕ). get_or places n e) (sym same) in
        subst (λ (p : Place). IsPinned trail clause p) at (here (λ i_is. apart (same ∙ i_is)))
    | inr other ↦ before.pinned k e (omega arith) apart
  ];
}

pub pins_empty : (trail : Levels) (places : List Place) (i except : ℕ) (clause : List Lit) (d : Place) → i < length places → ArePinned trail places i except clause → IsPinned trail [] (get_or places i d) → ArePinned trail places (i + 1) except clause
pins_empty trail places i except clause d in_places before pinned = pins_same trail places i except clause d in_places before (λ _. pinned_more trail [] clause (get_or places i d) pinned)

pub pins_push : (trail : Levels) (places : List Place) (i except : ℕ) (clause : List Lit) (d : Place) (lit : Lit) → i < length places → IsPlace (length trail.declared) (get_or places i d) → ArePinned trail places i except clause → IsPin trail (get_or places i d) lit → ArePinned trail places (i + 1) except (clause ++ lit ∷ [])
pins_push trail places i except clause d lit in_places fits before pin =
    let longer : ArePinned trail places i except (clause ++ lit ∷ []) = record {
      still = false_push trail clause lit before.still (variable_of_place (length trail.declared) (get_or places i d) lit.var fits pin.of_place) pin.writable pin.impossible;
      pinned = λ k e below apart. pinned_more trail clause (lit ∷ []) (get_or places k e) (before.pinned k e below apart);
    } in
    pins_same trail places i except (clause ++ lit ∷ []) d in_places longer (λ _. pinned_by trail clause (get_or places i d) lit pin)

-- ---- what such a clause rules out

-- whatever the clause leaves, the sum is the number
rules_out_at : (trail : Levels) (clause : List Lit) (places : List Place) (number : ℤ) → ((choice : Place → ℤ) → All (λ (p : Place). IsLeft trail.declared clause p.term (choice p)) places → total_by (λ (p : Place). p.coefficient *ℤ choice p) places ≡ number) → RulesOut trail clause NotEqual places number
rules_out_at trail clause places number is = (
  λ choice left. let e = is choice left in omega (arith, ints),
  λ choice left.
      let e = is (λ (p : Place). choice (opposite_place p)) (λ k d below. subst (λ (p : Place). IsLeft trail.declared clause p.term (choice p)) (get_or-map opposite_place places k d d below) (left k d (more k below))) in
      let o = total-opposites (λ (p : Place). p.coefficient *ℤ choice p) (λ (p : Place). p.coefficient *ℤ choice (opposite_place p)) (λ p. neg_times p.coefficient (choice (opposite_place p))) places in
      omega (arith, ints),
)
  where
    more : (k : ℕ) → k < length places → k < length (opposites places)
    more k below = omega (arith, length-map places opposite_place)

-- where each place gives its one number, and the sum of them is the number, the clause that pins them is a conflict
pub conflict_settled : (trail : Levels) (places : List Place) (number : ℤ) (clause : List Lit) → least_sum trail.sets places ≡ number → ArePinned trail places (length places) (length places) clause → IsSumConflict trail NotEqual places number clause
conflict_settled trail places number clause is pins = record {
  still = pins.still;
  rules_out = rules_out_at trail clause places number (λ choice left.
      total_same (λ (p : Place). p.coefficient *ℤ choice p) (low_product trail.sets) places (λ k d below.
      pins.pinned k d below (λ e. omega arith) (choice (get_or places k d)) (left k d below)) ∙ is);
}

-- with the literal that bars a value of one place, the clause that pins the others forces it
pub barring_refutes : (trail : Levels) (places : List Place) (number : ℤ) (clause : List Lit) (j : ℕ) (d : Place) (lit : Lit) → j < length places → IsPlace (length trail.declared) (get_or places j d) → IsBarring trail places (get_or places j d) number lit → ArePinned trail places (length places) j clause → IsRefutation trail NotEqual places number (clause ++ lit ∷ [])
barring_refutes trail places number clause j d lit in_places fits barring pins =
    let place = get_or places j d in
    let limits = barring.in_limits in
    record {
      forcing = forcing_push trail clause lit pins.still (variable_of_place (length trail.declared) place lit.var fits barring.of_place) (omega (arith, ints), omega (arith, ints)) (may_fail lit barring.denies (set_of trail.sets lit.var) barring.member);
      rules_out = rules_out_at trail (clause ++ lit ∷ []) places number (λ choice left.
          let give = λ (p : Place). p.coefficient *ℤ choice p in
          let at : choice place ≡ lit.value =
          value_where_false lit barring.denies (choice place) (last_fails trail.declared clause lit (choice place)
          (subst (λ (t : Term). IsLeft trail.declared (clause ++ lit ∷ []) t (choice place)) barring.of_place (left j d in_places))) in
          let others : (k : ℕ) (e : Place) → k < length places → k ≢ j → low_product trail.sets (get_or places k e) ≡ give (get_or places k e) =
          λ k e below other. sym (pinned_more trail clause (lit ∷ []) (get_or places k e) (pins.pinned k e below other) (choice (get_or places k e)) (left k e below)) in
          total_but (low_product trail.sets) give places j d in_places others
          ∙ ap (λ (x : ℤ). (least_sum trail.sets places -ℤ low_product trail.sets place) +ℤ place.coefficient *ℤ x) at
          ∙ barring.barred);
    }
