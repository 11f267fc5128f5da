-- What a place gives, and the literals that explain and force it.
use Rattle.std.proofs.Common.{◌≡◌, ℕ, ◌*◌, ◌/◌, ◌<◌, ◌≤◌, true, false, List, [], sym, ap, subst, ◌∙◌, arith, ℤ, pos, negsuc, ◌+ℤ◌, ◌-ℤ◌, ◌*ℤ◌, ◌≤ℤ◌, ◌<ℤ◌, unsigned_abs, int_le}
use Rattle.std.proofs.lemmas.Int.{ints}
use Rattle.fzn_domain.specs.declared.literal.VarId.{VarId}
use Rattle.fzn_domain.specs.declared.literal.Op.TheVariants.{AtMost, AtLeast}
use Rattle.fzn_domain.specs.IntSet.{IntSet, contains, size, least, greatest}
use Rattle.fzn_domain.specs.Limits.{IsInLimits}
use Rattle.fzn_domain.specs.Narrow.{set_of}
use Rattle.fzn_domain.proofs.SetLemmas.{member_of_size, size_above_zero, least_le, le_greatest, impossible_when, possible_when}
use Rattle.fzn_values.specs.declared.term.Term.{Term}
use Rattle.fzn_values.specs.declared.term.Term.TheVariants.{Constant, Variable}
use Rattle.fzn_values.specs.declared.term.Place.{Place}
use Rattle.fzn_sets.specs.Terms.{least_value, greatest_value}
use Rattle.fzn_builtin_rules.specs.Linear.{low_product, high_product}
use Rattle.fzn_builtin_rules.proofs.CallerLemmas.{low_up, low_down, high_up, high_down}
use Rattle.fzn_trail.specs.Levels.{Levels}
use Rattle.fzn_propagator.specs.Inference.{spread_of_place}
use Rattle.fzn_propagator.specs.Left.{IsLeft}
use Rattle.fzn_sum.specs.Explained.{IsPlaceExplained, IsFloor, IsForcedBySlack}
use Rattle.fzn_terms.proofs.ProductLemmas.{mono_up, mono_down}
use Rattle.fzn_sum.proofs.ProductLemmas.{past_up, past_down, near_up, near_down}
use Rattle.fzn_terms.proofs.OrderLemmas.{le_trans, le_same}

least_at : (sets : List IntSet) (place : Place) (var : VarId) (low : ℤ) → place.term ≡ Variable var → low ≡ least (set_of sets var) → least_value sets place.term ≡ low
least_at sets place var low of is = ap (least_value sets) of ∙ sym is

greatest_at : (sets : List IntSet) (place : Place) (var : VarId) (high : ℤ) → place.term ≡ Variable var → high ≡ greatest (set_of sets var) → greatest_value sets place.term ≡ high
greatest_at sets place var high of is = ap (greatest_value sets) of ∙ sym is

at_times : (c a b low : ℤ) → a ≡ c *ℤ b → b ≡ low → a ≡ c *ℤ low
at_times c a b low h e = h ∙ ap (λ (x : ℤ). c *ℤ x) e

-- the least product by the present bound of the variable
pub product_up : (sets : List IntSet) (place : Place) (var : VarId) (low : ℤ) → pos 0 ≤ℤ place.coefficient → place.term ≡ Variable var → low ≡ least (set_of sets var) → low_product sets place ≡ place.coefficient *ℤ low
product_up sets place var low sign of is = at_times place.coefficient _ _ low (low_up sets place sign) (least_at sets place var low of is)

pub product_down : (sets : List IntSet) (place : Place) (var : VarId) (high : ℤ) → place.coefficient <ℤ pos 0 → place.term ≡ Variable var → high ≡ greatest (set_of sets var) → low_product sets place ≡ place.coefficient *ℤ high
product_down sets place var high sign of is = at_times place.coefficient _ _ high (low_down sets place sign) (greatest_at sets place var high of is)

pub top_up : (sets : List IntSet) (place : Place) (var : VarId) (high : ℤ) → pos 0 ≤ℤ place.coefficient → place.term ≡ Variable var → high ≡ greatest (set_of sets var) → high_product sets place ≡ place.coefficient *ℤ high
top_up sets place var high sign of is = at_times place.coefficient _ _ high (high_up sets place sign) (greatest_at sets place var high of is)

pub top_down : (sets : List IntSet) (place : Place) (var : VarId) (low : ℤ) → place.coefficient <ℤ pos 0 → place.term ≡ Variable var → low ≡ least (set_of sets var) → high_product sets place ≡ place.coefficient *ℤ low
top_down sets place var low sign of is = at_times place.coefficient _ _ low (high_down sets place sign) (least_at sets place var low of is)

-- ---- no literal is wanted

pub both_signs : {P : Type 0} (c : ℤ) → (pos 0 ≤ℤ c → P) → (c <ℤ pos 0 → P) → P
both_signs (pos n) up down = up (omega (arith, ints))
both_signs (negsuc m) up down = down (omega (arith, ints))

pub explained_constant : (trail : Levels) (place : Place) (k : ℤ) → place.term ≡ Constant k → IsPlaceExplained trail [] place
explained_constant trail place k of = λ value left.
    let is : value ≡ k = subst (λ (t : Term). IsLeft trail.declared [] t value) of left in
    both_signs place.coefficient
    (λ sign. le_same _ _ (low_up trail.sets place sign ∙ ap (λ (x : ℤ). place.coefficient *ℤ x) (ap (least_value trail.sets) of ∙ sym is)))
    (λ sign. le_same _ _ (low_down trail.sets place sign ∙ ap (λ (x : ℤ). place.coefficient *ℤ x) (ap (greatest_value trail.sets) of ∙ sym is)))

le_from : (a b c : ℤ) → a ≡ b → b ≤ℤ c → a ≤ℤ c
le_from a b c e h = omega (arith, ints)

pub explained_up : (trail : Levels) (place : Place) (var : VarId) (low bound : ℤ) → pos 0 ≤ℤ place.coefficient → place.term ≡ Variable var → low ≡ least (set_of trail.sets var) → bound ≡ least (set_of trail.declared var) → low ≤ℤ bound → IsPlaceExplained trail [] place
explained_up trail place var low bound sign of is declared_is h = λ value left.
    let parts = subst (λ (t : Term). IsLeft trail.declared [] t value) of left in
    let above : bound ≤ℤ value = le_from bound _ value declared_is (least_le (set_of trail.declared var) value parts.0) in
    le_from _ _ _ (product_up trail.sets place var low sign of is) (mono_up place.coefficient low value sign (le_trans low bound value h above))

pub explained_down : (trail : Levels) (place : Place) (var : VarId) (high bound : ℤ) → place.coefficient <ℤ pos 0 → place.term ≡ Variable var → high ≡ greatest (set_of trail.sets var) → bound ≡ greatest (set_of trail.declared var) → bound ≤ℤ high → IsPlaceExplained trail [] place
explained_down trail place var high bound sign of is declared_is h = λ value left.
    let parts = subst (λ (t : Term). IsLeft trail.declared [] t value) of left in
    let below : value ≤ℤ bound = subst (λ (x : ℤ). value ≤ℤ x) (sym declared_is) (le_greatest (set_of trail.declared var) value parts.0) in
    le_from _ _ _ (product_down trail.sets place var high sign of is) (mono_down place.coefficient value high sign (le_trans value bound high below h))

-- ---- the literal that says that the bound was no better

above_bound : (low v x : ℤ) → x ≡ low -ℤ pos 1 → int_le v x ≡ false → low ≤ℤ v
above_bound low v x e h = grind (arith, ints)

not_above_bound : (low v x : ℤ) → x ≡ low -ℤ pos 1 → low ≤ℤ v → int_le v x ≡ false
not_above_bound low v x e h = grind (arith, ints)

below_bound : (high v x : ℤ) → x ≡ high +ℤ pos 1 → int_le x v ≡ false → v ≤ℤ high
below_bound high v x e h = grind (arith, ints)

not_below_bound : (high v x : ℤ) → x ≡ high +ℤ pos 1 → v ≤ℤ high → int_le x v ≡ false
not_below_bound high v x e h = grind (arith, ints)

pub floor_up : (trail : Levels) (place : Place) (var : VarId) (low value : ℤ) → pos 0 ≤ℤ place.coefficient → place.term ≡ Variable var → low ≡ least (set_of trail.sets var) → IsInLimits low → value ≡ low -ℤ pos 1 → IsFloor trail place (record { var = var; op = AtMost; value = value })
floor_up trail place var low value sign of is limits value_is = record {
  of_place = of;
  writable = (omega (arith, ints), omega (arith, ints));
  impossible = impossible_when (set_of trail.sets var) (record { var = var; op = AtMost; value = value }) (λ v h. not_above_bound low v value value_is (le_from low _ v is (least_le (set_of trail.sets var) v h)));
  explains = λ v h. le_from _ _ _ (product_up trail.sets place var low sign of is) (mono_up place.coefficient low v sign (above_bound low v value value_is h));
}

pub floor_down : (trail : Levels) (place : Place) (var : VarId) (high value : ℤ) → place.coefficient <ℤ pos 0 → place.term ≡ Variable var → high ≡ greatest (set_of trail.sets var) → IsInLimits high → value ≡ high +ℤ pos 1 → IsFloor trail place (record { var = var; op = AtLeast; value = value })
floor_down trail place var high value sign of is limits value_is = record {
  of_place = of;
  writable = (omega (arith, ints), omega (arith, ints));
  impossible = impossible_when (set_of trail.sets var) (record { var = var; op = AtLeast; value = value }) (λ v h. not_below_bound high v value value_is (subst (λ (x : ℤ). v ≤ℤ x) (sym is) (le_greatest (set_of trail.sets var) v h)));
  explains = λ v h. le_from _ _ _ (product_down trail.sets place var high sign of is) (mono_down place.coefficient v high sign (below_bound high v value value_is h));
}

-- ---- the literal that is forced

holds_low : (low x : ℤ) (step : ℕ) → x ≡ low +ℤ pos step → int_le low x ≡ true
holds_low low x step e = grind (arith, ints)

fails_high : (low high x : ℤ) (step : ℕ) → x ≡ low +ℤ pos step → step < unsigned_abs (high -ℤ low) → low ≤ℤ high → int_le (x +ℤ pos 1) high ≡ true
fails_high low high x step e far h = grind (arith, ints)

holds_high : (high x : ℤ) (step : ℕ) → x ≡ high -ℤ pos step → int_le x high ≡ true
holds_high high x step e = grind (arith, ints)

fails_low : (low high x : ℤ) (step : ℕ) → x ≡ high -ℤ pos step → step < unsigned_abs (high -ℤ low) → low ≤ℤ high → int_le low (x -ℤ pos 1) ≡ true
fails_low low high x step e far h = grind (arith, ints)

past_high : (low v x : ℤ) (step : ℕ) → x ≡ low +ℤ pos step → int_le v x ≡ false → (low +ℤ pos step) <ℤ v
past_high low v x step e h = grind (arith, ints)

past_low : (high v x : ℤ) (step : ℕ) → x ≡ high -ℤ pos step → int_le x v ≡ false → v <ℤ (high -ℤ pos step)
past_low high v x step e h = grind (arith, ints)

between : (low high x : ℤ) (step : ℕ) → IsInLimits low → IsInLimits high → low ≤ℤ high → step < unsigned_abs (high -ℤ low) → x ≡ low +ℤ pos step → IsInLimits x
between low high x step a b h far e = (grind (arith, ints), grind (arith, ints))

between_down : (low high x : ℤ) (step : ℕ) → IsInLimits low → IsInLimits high → low ≤ℤ high → step < unsigned_abs (high -ℤ low) → x ≡ high -ℤ pos step → IsInLimits x
between_down low high x step a b h far e = (grind (arith, ints), grind (arith, ints))

lt_from : (a b s d : ℤ) → a ≡ b → (b +ℤ s) <ℤ d → (a +ℤ s) <ℤ d
lt_from a b s d e h = omega (arith, ints)

pub record HasEnds (s : IntSet) (low high : ℤ) : Type 0 where
  pub low_is : low ≡ least s
  pub high_is : high ≡ greatest s
  pub low_in : contains s low ≡ true
  pub high_in : contains s high ≡ true
  pub low_limits : IsInLimits low
  pub high_limits : IsInLimits high

ends_ordered : (s : IntSet) (low high : ℤ) → HasEnds s low high → low ≤ℤ high
ends_ordered s low high ends = le_from low (least s) high ends.low_is (least_le s high ends.high_in)

pub forced_up : (trail : Levels) (place : Place) (slack : ℕ) (var : VarId) (low high value : ℤ) (n step : ℕ) → pos 0 ≤ℤ place.coefficient → place.term ≡ Variable var → HasEnds (set_of trail.sets var) low high → n ≡ unsigned_abs place.coefficient → 0 < n → step ≡ slack / n → step < unsigned_abs (high -ℤ low) → value ≡ low +ℤ pos step → IsForcedBySlack trail place slack (record { var = var; op = AtMost; value = value })
forced_up trail place slack var low high value n step sign of ends size some step_is far value_is =
    let ordered = ends_ordered (set_of trail.sets var) low high ends in
    let limits = between low high value step ends.low_limits ends.high_limits ordered far value_is in
    record {
      of_place = of;
      writable = (omega (arith, ints), omega (arith, ints));
      possible = possible_when (set_of trail.sets var) (record { var = var; op = AtMost; value = value }) low ends.low_in (holds_low low value step value_is);
      not_yet_true = possible_when (set_of trail.sets var) (record { var = var; op = AtLeast; value = value +ℤ pos 1 }) high ends.high_in (fails_high low high value step value_is far ordered);
      exceeds = λ v h. lt_from _ _ (pos slack) _ (product_up trail.sets place var low sign of ends.low_is) (past_up place.coefficient low v n slack step size some sign step_is (past_high low v value step value_is h));
    }

pub forced_down : (trail : Levels) (place : Place) (slack : ℕ) (var : VarId) (low high value : ℤ) (n step : ℕ) → place.coefficient <ℤ pos 0 → place.term ≡ Variable var → HasEnds (set_of trail.sets var) low high → n ≡ unsigned_abs place.coefficient → 0 < n → step ≡ slack / n → step < unsigned_abs (high -ℤ low) → value ≡ high -ℤ pos step → IsForcedBySlack trail place slack (record { var = var; op = AtLeast; value = value })
forced_down trail place slack var low high value n step sign of ends size some step_is far value_is =
    let ordered = ends_ordered (set_of trail.sets var) low high ends in
    let limits = between_down low high value step ends.low_limits ends.high_limits ordered far value_is in
    record {
      of_place = of;
      writable = (omega (arith, ints), omega (arith, ints));
      possible = possible_when (set_of trail.sets var) (record { var = var; op = AtLeast; value = value }) high ends.high_in (holds_high high value step value_is);
      not_yet_true = possible_when (set_of trail.sets var) (record { var = var; op = AtMost; value = value -ℤ pos 1 }) low ends.low_in (fails_low low high value step value_is far ordered);
      exceeds = λ v h. lt_from _ _ (pos slack) _ (product_down trail.sets place var high sign of ends.high_is) (past_down place.coefficient high v n slack step size some sign step_is (past_low high v value step value_is h));
    }

-- ---- nothing is forced

pub spread_near : (sets : List IntSet) (place : Place) (slack : ℕ) (var : VarId) (low high : ℤ) → place.term ≡ Variable var → HasEnds (set_of sets var) low high → unsigned_abs place.coefficient * unsigned_abs (high -ℤ low) ≤ slack → spread_of_place sets place ≤ℤ pos slack
spread_near sets place slack var low high of ends near =
    let ordered = ends_ordered (set_of sets var) low high ends in
    both_signs place.coefficient
    (λ sign. spread_as _ _ _ _ _ (top_up sets place var high sign of ends.high_is) (product_up sets place var low sign of ends.low_is) (near_up place.coefficient low high slack sign ordered near))
    (λ sign. spread_as _ _ _ _ _ (top_down sets place var low sign of ends.low_is) (product_down sets place var high sign of ends.high_is) (near_down place.coefficient low high slack sign ordered near))
  where
    spread_as : (a b c d s : ℤ) → a ≡ b → c ≡ d → (b -ℤ d) ≤ℤ s → (a -ℤ c) ≤ℤ s
    spread_as a b c d s e f h = omega (arith, ints)

pub spread_constant : (sets : List IntSet) (place : Place) (k : ℤ) (slack : ℕ) → place.term ≡ Constant k → spread_of_place sets place ≤ℤ pos slack
spread_constant sets place k slack of =
    both_signs place.coefficient
    (λ sign. flat _ _ (place.coefficient *ℤ k) slack (high_up sets place sign ∙ ap (λ (t : Term). place.coefficient *ℤ greatest_value sets t) of) (low_up sets place sign ∙ ap (λ (t : Term). place.coefficient *ℤ least_value sets t) of))
    (λ sign. flat _ _ (place.coefficient *ℤ k) slack (high_down sets place sign ∙ ap (λ (t : Term). place.coefficient *ℤ least_value sets t) of) (low_down sets place sign ∙ ap (λ (t : Term). place.coefficient *ℤ greatest_value sets t) of))
  where
    flat : (a b p : ℤ) (s : ℕ) → a ≡ p → b ≡ p → (a -ℤ b) ≤ℤ pos s
    flat a b p s e f = omega (arith, ints)

-- ---- in the words of the calls

pub some_declared : (present declared : IntSet) → 0 < size present → ((v : ℤ) → contains present v ≡ true → contains declared v ≡ true) → 0 < size declared
some_declared present declared some within = let m = member_of_size present some in size_above_zero declared m.0 (within m.0 m.1)

pub ends_of : (s t : IntSet) (low high : ℤ) → s ≡ t → low ≡ least s → high ≡ greatest s → contains s low ≡ true → contains s high ≡ true → IsInLimits low → IsInLimits high → HasEnds t low high
ends_of s t low high same a b c d e f = subst (λ (x : IntSet). HasEnds x low high) same (record { low_is = a; high_is = b; low_in = c; high_in = d; low_limits = e; high_limits = f })
