-- What is left of a sum that is not to be a number.
use Rattle.std.proofs.Common.{◌≡◌, ◌≢◌, ◌⊎◌, ℕ, ◌+◌, ◌<◌, ◌≤◌, List, length, get_or, sym, ap, subst, ◌∙◌, inl, inr, arith, ℤ, pos, ◌+ℤ◌, ◌-ℤ◌, ◌*ℤ◌, ◌≤ℤ◌, ◌<ℤ◌, All, Option, Some, None, IfNone}
use Rattle.std.specs.List.{AllWithin}
use Rattle.std.proofs.lemmas.Int.{ints}
use Rattle.std.proofs.lemmas.Bool.{cases_eq}
use Rattle.std.proofs.lemmas.List.{get_or-map, length-map}
use Rattle.fzn_domain.specs.IntSet.{IntSet}
use Rattle.fzn_domain.specs.Narrow.{IsWithin}
use Rattle.fzn_values.specs.declared.term.Place.{Place}
use Rattle.fzn_meaning.specs.declared.relation.Comparison.TheVariants.{NotEqual}
use Rattle.fzn_values.specs.Term.{IsPlace, term_value, product_at}
use Rattle.fzn_sets.specs.Terms.{least_value, greatest_value}
use Rattle.fzn_sets.proofs.CallerLemmas.{MayBe-term_value, term_between}
use Rattle.fzn_builtin_rules.specs.Linear.{low_product, high_product, least_sum, greatest_sum}
use Rattle.fzn_propagator.specs.Barred.{GivesOne, LeavesNoBarred}
use Rattle.fzn_sum.specs.Opposite.{opposite_place, opposites}
use Rattle.fzn_sum.specs.Refuted.{LeavesSome}
use Rattle.fzn_sum.specs.Pinned.{IsOpenFrom, IsOnlyOpen, NoneIsBarred}
use Rattle.fzn_sum.proofs.OppositeLemmas.{low_product-opposite, opposite-twice, least_sum-opposites, sum_at-opposites}
use Rattle.fzn_sum.proofs.PinLemmas.{term_ordered}
use Rattle.fzn_builtin_rules.proofs.CallerLemmas.{low_up, low_down, high_up, high_down}
use Rattle.fzn_sum.proofs.PlaceLemmas.{both_signs}
use Rattle.fzn_terms.proofs.ProductLemmas.{mono_up, mono_down}
use Rattle.fzn_sum.proofs.SumLemmas.{total_lt_at, total_same, total_but}

-- ---- places that are open

pub only_open : (sets : List IntSet) (places : List Place) (j : ℕ) → IsOpenFrom sets places 0 j → AllWithin (GivesOne sets) places (j + 1) (length places) → IsOnlyOpen sets places j
only_open sets places j first rest = record {
  in_places = first.in_places;
  others = λ k d below apart. elim (cases_lt k j apart) [ inl before ↦ first.settled k d (omega arith) before | inr after ↦ rest k d after below ];
  several = first.several;
}
  where
    cases_lt : (k j : ℕ) → k ≢ j → (k < j) ⊎ (j + 1 ≤ k)
    cases_lt k j apart = grind arith

-- two of them: no place can be left out so that the others are settled
pub none_barred_two : (sets : List IntSet) (places : List Place) (number : ℤ) (first second : ℕ) (d : Place) → IsOpenFrom sets places 0 first → IsOpenFrom sets places (first + 1) second → LeavesNoBarred sets places number
none_barred_two sets places number first second d one other = λ j values settled within is. elim (cases_eq first j) [
  | inl same ↦ let later = other.not_before in other.several d (settled second d other.in_places (λ e. omega arith))
  | inr apart ↦ one.several d (settled first d one.in_places apart)
]

-- ---- what a place may give

between : (sets : List IntSet) (place : Place) (v : ℤ) → least_value sets place.term ≤ℤ v → v ≤ℤ greatest_value sets place.term → (low_product sets place ≤ℤ (place.coefficient *ℤ v)) × ((place.coefficient *ℤ v) ≤ℤ high_product sets place)
between sets place v low high =
    both_signs place.coefficient
    (λ sign. as_ends _ _ _ _ _ (low_up sets place sign) (high_up sets place sign) (mono_up place.coefficient _ v sign low) (mono_up place.coefficient v _ sign high))
    (λ sign. as_ends _ _ _ _ _ (low_down sets place sign) (high_down sets place sign) (mono_down place.coefficient v _ sign high) (mono_down place.coefficient _ v sign low))
  where
    as_ends : (a b c d e : ℤ) → a ≡ b → c ≡ d → b ≤ℤ e → e ≤ℤ d → (a ≤ℤ e) × (e ≤ℤ c)
    as_ends a b c d e f g h k = (omega (arith, ints), omega (arith, ints))

low_high : (sets : List IntSet) (place : Place) → low_product sets place ≤ℤ high_product sets place
low_high sets place =
    let h = between sets place (least_value sets place.term) (omega (arith, ints)) (term_ordered sets place.term) in
    let a = h.0 in
    let b = h.1 in
    omega (arith, ints)

module _ (sets : List IntSet) (values : List ℤ) (within : IsWithin sets values) where
  gives : (place : Place) → IsPlace (length sets) place → GivesOne sets place → low_product sets place ≡ product_at values place
  gives place fits one =
      let ends = term_between sets values place.term within in
      let h = between sets place (term_value values place.term) ends.0 ends.1 in
      same _ _ _ one h.0 h.1
    where
      same : (low high v : ℤ) → low ≡ high → low ≤ℤ v → v ≤ℤ high → low ≡ v
      same low high v e a b = omega (arith, ints)

-- ---- and sums of them

one_sum : (sets : List IntSet) (places : List Place) → AllWithin (GivesOne sets) places 0 (length places) → least_sum sets places ≡ greatest_sum sets places
one_sum sets places settled = total_same (low_product sets) (high_product sets) places (λ k d below. settled k d (omega arith) below)

-- the sum is not that number where each place gives its one
pub leaves_other : (sets : List IntSet) (places : List Place) (number : ℤ) → AllWithin (GivesOne sets) places 0 (length places) → least_sum sets places ≢ number → LeavesSome sets NotEqual places number
leaves_other sets places number settled other =
    let e = one_sum sets places settled in
    let o = least_sum-opposites sets places in
    elim (apart_cases _ _ other) [ inl below ↦ inl below | inr above ↦ inr (omega (arith, ints)) ]
  where
    apart_cases : (a b : ℤ) → a ≢ b → (a <ℤ b) ⊎ (b <ℤ a)
    apart_cases a b apart = grind (arith, ints)

-- or where some place gives several
pub leaves_open : (sets : List IntSet) (places : List Place) (number : ℤ) (j : ℕ) (d : Place) → j < length places → (GivesOne sets (get_or places j d) → ⊥) → LeavesSome sets NotEqual places number
leaves_open sets places number j d in_places several =
    let low = low_product sets (get_or places j d) in
    let high = high_product sets (get_or places j d) in
    let ordered = low_high sets (get_or places j d) in
    let strict : (low +ℤ pos 0) <ℤ high = strictly low high ordered several in
    let far = total_lt_at (low_product sets) (high_product sets) places j d (pos 0) in_places (λ k e below. low_high sets (get_or places k e)) strict in
    let o = least_sum-opposites sets places in
    one_side _ _ _ _ far o
  where
    strictly : (a b : ℤ) → a ≤ℤ b → (a ≡ b → ⊥) → (a +ℤ pos 0) <ℤ b
    strictly a b h apart = grind (arith, ints)

    one_side : (low high number other : ℤ) → (low +ℤ pos 0) <ℤ high → other ≡ pos 0 -ℤ high → (low <ℤ number) ⊎ (other <ℤ (pos 0 -ℤ number))
    one_side low high number other h e = grind (arith, ints)

differs_by : (low high other number s : ℤ) → low ≡ high → other ≡ pos 0 -ℤ high → low ≡ s → (low <ℤ number) ⊎ (other <ℤ (pos 0 -ℤ number)) → s ≡ number → ⊥
differs_by low high other number s e o at (inl below) is = omega (arith, ints)
differs_by low high other number s e o at (inr above) is = omega (arith, ints)

module _ (sets : List IntSet) (places : List Place) (number : ℤ) (fit : All (IsPlace (length sets)) places) where
  pub none_barred_settled : AllWithin (GivesOne sets) places 0 (length places) → LeavesSome sets NotEqual places number → LeavesNoBarred sets places number
  none_barred_settled settled leaves = λ j values _ within is.
      differs_by _ _ _ number _ (one_sum sets places settled) (least_sum-opposites sets places)
      (total_same (low_product sets) (product_at values) places (λ k d below. gives sets values within (get_or places k d) (fit k d below) (settled k d (omega arith) below))) leaves is

  pub none_barred_open : (j : ℕ) (d : Place) → IsOnlyOpen sets places j → NoneIsBarred sets places (get_or places j d) number → LeavesNoBarred sets places number
  none_barred_open j d only none = λ _ values _ within is.
      let place = get_or places j d in
      let sum = total_but (low_product sets) (product_at values) places j d only.in_places (λ k e below apart. gives sets values within (get_or places k e) (fit k e below) (only.others k e below apart)) in
      none (term_value values place.term) (MayBe-term_value sets values place.term within (fit j d only.in_places).0) (sym sum ∙ is)

-- ---- the opposite_place places

one_of_opposite : (sets : List IntSet) (place : Place) → GivesOne sets place → GivesOne sets (opposite_place place)
one_of_opposite sets place one =
    let a = low_product-opposite sets place in
    let b = low_product-opposite sets (opposite_place place) in
    let c : low_product sets (opposite_place (opposite_place place)) ≡ low_product sets place = ap (low_product sets) (opposite-twice place) in
    omega (arith, ints)

pub none_barred_opposites : (sets : List IntSet) (places : List Place) (number : ℤ) → LeavesNoBarred sets (opposites places) (pos 0 -ℤ number) → LeavesNoBarred sets places number
none_barred_opposites sets places number leaves = λ j values settled within is.
    leaves j values (λ k d below apart.
    let inside : k < length places = omega (arith, length-map places opposite_place) in
    subst (λ (p : Place). GivesOne sets p) (sym (get_or-map opposite_place places k d d inside)) (one_of_opposite sets (get_or places k d) (settled k d inside apart)))
    within (sum_at-opposites values places ∙ ap (λ (z : ℤ). pos 0 -ℤ z) is)

-- ---- where no clause is found

pub none_then : {A : Type 0} (o : Option A) (P Q : Type 0) → (P → Q) → IfNone o P → IfNone o Q
none_then None P Q f h = f h
none_then (Some x) P Q f h = tt
