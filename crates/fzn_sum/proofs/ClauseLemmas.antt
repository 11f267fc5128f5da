-- Why an explanation refutes.
use Rattle.std.proofs.Common.{◌≡◌, ℕ, ◌<◌, List, [], ◌∷◌, ◌++◌, length, get_or, sym, ap, subst, ◌∙◌, inl, inr, arith, ℤ, pos, ◌+ℤ◌, ◌*ℤ◌, ◌≤ℤ◌, ◌<ℤ◌, ◌*◌, ◌≤◌, unsigned_abs, FitsSigned, All}
use Rattle.std.specs.Int.{w128}
use Rattle.std.proofs.lemmas.Int.{ints, fits_signed_from_abs}
use Rattle.std.proofs.lemmas.Bool.{cases_eq}
use Rattle.std.proofs.lemmas.List.{get_or_default}
use Rattle.fzn_domain.specs.declared.literal.VarId.{VarId}
use Rattle.fzn_domain.specs.declared.literal.Lit.{Lit}
use Rattle.fzn_domain.specs.Narrow.{IsVariable}
use Rattle.fzn_values.specs.declared.term.Term.{Term}
use Rattle.fzn_values.specs.declared.term.Term.TheVariants.{Variable}
use Rattle.fzn_values.specs.declared.term.Place.{Place}
use Rattle.fzn_values.specs.Term.{IsTerm, IsPlace, total_by}
use Rattle.fzn_builtin_rules.specs.Linear.{low_product, least_sum}
use Rattle.fzn_trail.specs.Levels.{Levels}
use Rattle.fzn_propagator.specs.Left.{IsLeft}
use Rattle.fzn_propagator.proofs.CallerLemmas.{left_of_more, last_fails, forcing_push}
use Rattle.fzn_sum.specs.Explained.{IsPlaceExplained, IsFloor, IsForcedBySlack, ExplainsPlaces}
use Rattle.fzn_sum.specs.Refuted.{IsSumConflict, IsRefutation}
use Rattle.fzn_sum.proofs.SumLemmas.{total_le, total_lt_at}
use Rattle.fzn_meaning.specs.declared.relation.Comparison.TheVariants.{AtMost}

-- ---- what explains a place

pub explained_more : (trail : Levels) (clause more : List Lit) (place : Place) → IsPlaceExplained trail clause place → IsPlaceExplained trail (clause ++ more) place
explained_more trail clause more place explained = λ v left. explained v (left_of_more trail.declared clause more place.term v left)

pub explained_by_floor : (trail : Levels) (clause : List Lit) (place : Place) (lit : Lit) → IsFloor trail place lit → IsPlaceExplained trail (clause ++ lit ∷ []) place
explained_by_floor trail clause place lit floor = λ v left.
    floor.explains v (last_fails trail.declared clause lit v (subst (λ (t : Term). IsLeft trail.declared (clause ++ lit ∷ []) t v) floor.of_place left))

pub variable_of_place : (count : ℕ) (place : Place) (var : VarId) → IsPlace count place → place.term ≡ Variable var → IsVariable count var
variable_of_place count place var fits of = subst (λ (t : Term). IsTerm count t) of fits.0

-- ---- refutations

pub fits_sum : (z : ℤ) → unsigned_abs z ≤ 200000 * 1000000000000000000 → FitsSigned w128 z
fits_sum z h = fits_signed_from_abs w128 z (omega arith)

lt_le : (a b c : ℤ) → a <ℤ b → b ≤ℤ c → a <ℤ c
lt_le a b c h k = omega (arith, ints)

-- where the least sum exceeds the bound, an explanation of every place refutes
pub conflict : (trail : Levels) (places : List Place) (bound : ℤ) (clause : List Lit) → bound <ℤ least_sum trail.sets places → ExplainsPlaces trail places (length places) (length places) clause → IsSumConflict trail AtMost places bound clause
conflict trail places bound clause exceeds explanation = record {
  still = explanation.still;
  rules_out = λ choice left.
      lt_le bound (least_sum trail.sets places) (total_by (λ (p : Place). p.coefficient *ℤ choice p) places) exceeds
      (total_le (low_product trail.sets) (λ (p : Place). p.coefficient *ℤ choice p) places (λ k d below.
      explanation.explained k d below (λ e. omega arith) (choice (get_or places k d)) (left k d below)));
}

le_of_more : (a b : ℤ) (s : ℕ) → (a +ℤ pos s) <ℤ b → a ≤ℤ b
le_of_more a b s h = omega (arith, ints)

-- where one place gives more than the slack allows without its literal, the explanation of the others with the literal refutes
pub forcing : (trail : Levels) (places : List Place) (bound : ℤ) (slack : ℕ) (clause : List Lit) (j : ℕ) (d : Place) (lit : Lit) → bound ≡ least_sum trail.sets places +ℤ pos slack → j < length places → IsPlace (length trail.declared) (get_or places j d) → IsForcedBySlack trail (get_or places j d) slack lit → ExplainsPlaces trail places (length places) j clause → IsRefutation trail AtMost places bound (clause ++ lit ∷ [])
forcing trail places bound slack clause j d lit bound_is in_places fits forced explanation = record {
  forcing = forcing_push trail clause lit explanation.still (variable_of_place (length trail.declared) (get_or places j d) lit.var fits forced.of_place) forced.writable forced.not_yet_true;
  rules_out = λ choice left.
      let give = λ (p : Place). p.coefficient *ℤ choice p in
      let there : (low_product trail.sets (get_or places j d) +ℤ pos slack) <ℤ give (get_or places j d) =
      forced.exceeds (choice (get_or places j d)) (last_fails trail.declared clause lit (choice (get_or places j d))
      (subst (λ (t : Term). IsLeft trail.declared (clause ++ lit ∷ []) t (choice (get_or places j d))) forced.of_place (left j d in_places))) in
      let each : All (λ (p : Place). low_product trail.sets p ≤ℤ give p) places = λ k e below. elim (cases_eq k j) [
        | inl same ↦
            let at : get_or places j d ≡ get_or places k e = get_or_default places j d e in_places ∙ ap (λ (n : ℕ). get_or places n e) (sym same) in
            subst (λ (p : Place). low_product trail.sets p ≤ℤ give p) at (le_of_more _ _ slack there)
        | inr apart ↦ explained_more trail clause (lit ∷ []) (get_or places k e) (explanation.explained k e below apart) (choice (get_or places k e)) (left k e below)
      ] in
      subst (λ (b : ℤ). b <ℤ total_by give places) (sym bound_is) (total_lt_at (low_product trail.sets) give places j d (pos slack) in_places each there);
}
