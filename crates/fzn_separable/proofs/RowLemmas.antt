-- What justifies the clauses of a row, and where there is none.
use Rattle.std.proofs.Common.{◌≡◌, ℕ, suc, ◌<◌, List, [], ◌∷◌, length, get_or, refl, sym, ap, ◌∙◌, subst, arith, ℤ, pos, ◌+ℤ◌, ◌≤ℤ◌, ◌<ℤ◌, All, Option, Some, None, IsSome, unwrap_or}
use Rattle.std.proofs.lemmas.Int.{ints}
use Rattle.std.proofs.lemmas.List.Elements.{All-nil, All-cons}
use Rattle.fzn_domain.specs.declared.literal.Lit.{Lit}
use Rattle.fzn_domain.specs.IntSet.{IntSet}
use Rattle.fzn_meaning.specs.declared.row.VariablePart.{VariablePart}
use Rattle.fzn_meaning.specs.declared.row.Part.{Part}
use Rattle.fzn_meaning.specs.declared.row.Part.TheVariants as parts
use Rattle.fzn_meaning.specs.declared.row.Row.{Row}
use Rattle.fzn_meaning.specs.declared.constraint.Constraint.{Constraint}
use Rattle.fzn_meaning.specs.declared.constraint.Constraint.TheVariants as constraint
use Rattle.fzn_meaning.specs.Separable.{weight_of, total_weight, IsSeparableRow}
use Rattle.fzn_meaning.specs.Meaning.{Meets}
use Rattle.fzn_builtin_rules.specs.Form.{form_of}
use Rattle.fzn_rules.specs.declared.rule.Rule.TheVariants as rule
use Rattle.fzn_rules.specs.Rules.{IsMet}
use Rattle.fzn_rules.specs.Separable.{IsSeparableMet}
use Rattle.fzn_trail.specs.Levels.{Levels}
use Rattle.fzn_propagator.specs.Clause.{IsForcing, Says, IsJustified}
use Rattle.fzn_propagator.specs.Inference.{HoldsWhereFixed, IsInferredOut}
use Rattle.fzn_propagator.proofs.CallerLemmas.{justified_where, forcing_of_false, exhausted}
use Rattle.fzn_terms.specs.declared.claim.Claim.{Claim}
use Rattle.fzn_terms.specs.Denied.{IsClaimForced}
use Rattle.std.proofs.lemmas.Bool.{cases_eq}
use Rattle.std.proofs.Common.{inl, inr}
use Rattle.fzn_levels.specs.Levels.{sum_of, IsNoLighter, SaysNoLighter, SaysAllNoLighter, AreLeasts}
use Rattle.fzn_levels.proofs.CallerLemmas.{least_fixed}
use Rattle.fzn_separable.specs.Passes.{WeighsWhere}
use Rattle.fzn_separable.proofs.TotalLemmas.{met_above, met_barred}

-- ---- what justifies a clause

module _ (trail : Levels) (row : Row) (clause : List Lit) where
  pub row_justified : IsForcing trail clause → Says trail.declared clause (IsSeparableMet row) → IsJustified trail (constraint.Row row) rule.Row clause
  unfolding IsMet
  row_justified forcing says = justified_where trail (constraint.Row row) rule.Row clause forcing says

module _ (trail : Levels) (row : Row) (formed : IsSeparableRow (length trail.declared) row) where
  formed_on : (sets : List IntSet) → length sets ≡ length trail.declared → IsSeparableRow (length sets) row
  formed_on sets count = subst (λ (n : ℕ). IsSeparableRow n row) (sym count) formed

  -- each value of a part is barred
  pub barred_justified : (k : ℕ) (part : Part) (old clause : List Lit) → k < length row.parts → get_or row.parts k part ≡ part → SaysNoLighter trail part None old clause → IsJustified trail (constraint.Row row) rule.Row clause
  barred_justified k part old clause inside is said =
      row_justified trail row clause (forcing_of_false trail clause said.still) (λ sets left. met_barred sets row k part inside is (said.says sets left))

  -- the levels come to more than the bound
  pub above_justified : (levels : List ℤ) (old clause : List Lit) → length levels ≡ length row.parts → row.bound <ℤ sum_of levels → SaysAllNoLighter trail (length row.parts) row.parts levels old clause → IsJustified trail (constraint.Row row) rule.Row clause
  above_justified levels old clause count over said =
      row_justified trail row clause (forcing_of_false trail clause said.still) (λ sets left.
      met_above sets row levels left.filled (formed_on sets left.one_each) count (λ k p d below. said.says sets left k p d below (omega arith)) over)

  module _ (part : VariablePart) (claim : Claim) (old clause : List Lit) (forced : IsClaimForced trail claim old clause) where
    -- where the claim is true each value is barred
    pub barred_out : (k : ℕ) → k < length row.parts → ((p : Part) → get_or row.parts k p ≡ parts.Variable part) → WeighsWhere part claim None → IsJustified trail (constraint.Row row) rule.Row clause
    barred_out k inside is barred =
        row_justified trail row clause forced.forcing (λ sets left. met_barred sets row k (parts.Variable part) inside (is (parts.Variable part)) (barred sets (forced.says sets left)))

    -- where it is true the part weighs its level, and the levels come to more than the bound
    pub heavy_out : (k : ℕ) (levels : List ℤ) (weight : ℤ) (before : List Lit) → k < length row.parts → ((p : Part) → get_or row.parts k p ≡ parts.Variable part) → ((d : ℤ) → get_or levels k d ≡ weight) → length levels ≡ length row.parts → row.bound <ℤ sum_of levels → WeighsWhere part claim (Some weight) → SaysAllNoLighter trail k row.parts levels before old → IsJustified trail (constraint.Row row) rule.Row clause
    heavy_out k levels weight before inside is own count over weighs said =
        row_justified trail row clause forced.forcing (λ sets left.
        met_above sets row levels left.filled (formed_on sets left.one_each) count (λ j p d below. elim (cases_eq j k) [
          | inl same ↦
              subst (λ (n : ℕ). IsNoLighter sets (get_or row.parts n p) (Some (get_or levels n d))) (sym same)
              (subst (λ (q : Part). IsNoLighter sets q (Some (get_or levels k d))) (sym (is p))
              (subst (λ (x : ℤ). IsNoLighter sets (parts.Variable part) (Some x)) (sym (own d)) (weighs sets (forced.says sets left))))
          | inr apart ↦ said.says sets (forced.keeps sets left) j p d below apart
        ]) over)

-- ---- where all variables are fixed

weighs : (values : List ℤ) (parts : List Part) (leasts : List ℤ) → length leasts ≡ length parts → ((k : ℕ) (p : Part) (d : ℤ) → k < length leasts → weight_of values (get_or parts k p) ≡ Some (get_or leasts k d)) → All (λ (part : Part). IsSome (weight_of values part)) parts × (total_weight values parts ≡ sum_of leasts)
unfolding total_weight
weighs values [] [] count each = (All-nil (λ (part : Part). IsSome (weight_of values part)), refl)
weighs values [] (x ∷ leasts) count each = absurd (omega arith)
weighs values (part ∷ parts) [] count each = absurd (omega arith)
weighs values (part ∷ parts) (x ∷ leasts) count each =
    let here : weight_of values part ≡ Some x = each 0 part x (omega arith) in
    let others = weighs values parts leasts (omega arith) (λ k p d below. each (suc k) p d (omega arith)) in (
      All-cons (λ (p : Part). IsSome (weight_of values p)) part parts (subst (λ (o : Option ℤ). IsSome o) (sym here) refl) others.0,
      total_is (weight_of values part) x (total_weight values parts) (sum_of leasts) here others.1,
    )
  where
    total_is : (w : Option ℤ) (least others rest : ℤ) → w ≡ Some least → others ≡ rest → unwrap_or w (pos 0) +ℤ others ≡ least +ℤ rest
    total_is w least others rest e f = ap (λ (o : Option ℤ). unwrap_or o (pos 0) +ℤ others) e ∙ ap (λ (x : ℤ). least +ℤ x) f

-- the least weights come to no more than the bound, and the parts weigh these where all variables are fixed
pub row_met : (trail : Levels) (row : Row) → IsSeparableRow (length trail.declared) row → (leasts : List ℤ) → AreLeasts trail.sets row.parts leasts → sum_of leasts ≤ℤ row.bound → HoldsWhereFixed trail (constraint.Row row)
unfolding Meets
row_met trail row formed leasts are room fixed values declared present =
    let weighed = weighs values row.parts leasts are.one_each (λ k p d below.
    let inside : k < length row.parts = omega (arith, below, are.one_each) in
    least_fixed trail (get_or row.parts k p) (get_or leasts k d) (formed.parts k p inside) (are.each k p d below) fixed values declared present) in
    record { none_barred = weighed.0; most = no_more (total_weight values row.parts) (sum_of leasts) row.bound weighed.1 room }
  where
    no_more : (a b c : ℤ) → a ≡ b → b ≤ℤ c → a ≤ℤ c
    no_more a b c e h = omega (arith, ints)

-- ---- by the law of propagators

pub row_exhausted : (trail : Levels) (row : Row) → HoldsWhereFixed trail (constraint.Row row) → (other : Constraint) → constraint.Row row ≡ other → IsInferredOut other trail
unfolding form_of
row_exhausted trail row holds other same = exhausted trail (constraint.Row row) other refl same holds
