-- What justifies the clauses of a table, and where there is none.
use Rattle.std.proofs.Common.{◌≡◌, ℕ, ◌+◌, ◌*◌, ◌<◌, ◌≤◌, List, length, drop, get_or, refl, sym, ap, subst, ◌∙◌, inr, arith, ℤ, pos, All}
use Rattle.std.proofs.lemmas.List.{ext_get_or, get_or-drop, get_or-take, length-drop, length-take-le}
use Rattle.fzn_domain.specs.declared.literal.Lit.{Lit}
use Rattle.fzn_domain.specs.IntSet.{IntSet}
use Rattle.fzn_domain.specs.Narrow.{IsWithin}
use Rattle.fzn_values.specs.declared.term.Term.{Term}
use Rattle.fzn_values.specs.declared.term.Term.TheVariants.{Constant}
use Rattle.fzn_meaning.specs.declared.constraint.Constraint.{Constraint}
use Rattle.fzn_meaning.specs.declared.constraint.Constraint.TheVariants.{Table}
use Rattle.fzn_values.specs.Table.{row_at}
use Rattle.fzn_values.specs.Term.{IsTerm, values_of}
use Rattle.fzn_meaning.specs.Meaning.{Meets}
use Rattle.fzn_values.proofs.CallerLemmas.{length-values_of, get_or-values_of}
use Rattle.fzn_rules.specs.GlobalRows.{IsGlobalRowsMet}
use Rattle.fzn_builtin_rules.specs.Form.{form_of}
use Rattle.fzn_rules.specs.declared.rule.Rule.TheVariants as rule
use Rattle.fzn_rules.specs.Rules.{IsMet}
use Rattle.fzn_trail.specs.Levels.{Levels}
use Rattle.fzn_propagator.specs.Inference.{AllFixed, HoldsWhereFixed, IsInferredOut}
use Rattle.fzn_propagator.specs.Clause.{IsJustifiedBy, IsJustified}
use Rattle.fzn_propagator.proofs.CallerLemmas.{justified_by, exhausted}
use Rattle.fzn_terms.proofs.FixedLemmas.{fixed_only, now_fit}
use Rattle.fzn_table.specs.Supports.{AreRowsOutOn, AreSupported, IsSupported, number_at}

pub table_justified : (trail : Levels) (places : List Term) (rows : List ℤ) (clause : List Lit) → IsJustifiedBy trail (AreRowsOutOn places rows) clause → IsJustified trail (Table places rows) rule.Rows clause
unfolding IsMet IsGlobalRowsMet
table_justified trail places rows clause explained = justified_by trail (Table places rows) rule.Rows clause (AreRowsOutOn places rows) (λ sets met. inr met) explained

-- ---- where all variables are fixed

module _ (sets : List IntSet) (values : List ℤ) (within : IsWithin sets values) (fixed : AllFixed sets) where
  table_holds : (places : List Term) (rows : List ℤ) (v : ℤ) → All (IsTerm (length sets)) places → IsSupported sets places rows 0 v → (r : ℕ) × (r * length (values_of values places) + length (values_of values places) ≤ length rows) × (row_at (length (values_of values places)) rows r ≡ values_of values places)
  table_holds places rows v fit support =
      let e : Term = Constant (pos 0) in
      let r = support.0 in
      let count : length (values_of values places) ≡ length places = length-values_of values places in (
        r,
        subst (λ (n : ℕ). r * n + n ≤ length rows) (sym count) support.1.whole,
        row_same (values_of values places) rows r (subst (λ (n : ℕ). r * n + n ≤ length rows) (sym count) support.1.whole) (λ k below.
            let k_below : k < length places = omega (arith, count) in
            let only = fixed_only sets values within fixed (get_or places k e) (fit k e k_below) in
            ap (λ (n : ℕ). get_or rows (r * n + k) (pos 0)) count
            ∙ only.only (number_at places rows r k) (support.1.is_open k k_below)
            ∙ sym (get_or-values_of values places k (pos 0) e k_below)),
      )
    where
      row_same : (xs rows : List ℤ) (r : ℕ) → r * length xs + length xs ≤ length rows → ((k : ℕ) → k < length xs → get_or rows (r * length xs + k) (pos 0) ≡ get_or xs k (pos 0)) → row_at (length xs) rows r ≡ xs
      row_same xs rows r within same =
          let rest = length-drop (r * length xs) rows in
          let len = length-take-le (length xs) (drop (r * length xs) rows) (omega arith) in
          ext_get_or (pos 0) (row_at (length xs) rows r) xs len
          (λ k lt. get_or-take (length xs) (drop (r * length xs) rows) k (pos 0) (omega arith)
          ∙ get_or-drop (r * length xs) rows k (pos 0)
          ∙ same k (omega arith))

table_met : (trail : Levels) (places : List Term) (rows : List ℤ) → All (IsTerm (length trail.declared)) places → 0 < length places → AreSupported trail places rows (length places) → HoldsWhereFixed trail (Table places rows)
unfolding Meets
table_met trail places rows fit some supported fixed values declared present = table_holds trail.sets values present fixed places rows _ (now_fit trail values places declared present fit) (supported 0 some).least

-- ---- by the law of propagators

pub table_exhausted : (trail : Levels) (places : List Term) (rows : List ℤ) → All (IsTerm (length trail.declared)) places → 0 < length places → AreSupported trail places rows (length places) → (constraint : Constraint) → Table places rows ≡ constraint → IsInferredOut constraint trail
unfolding form_of
table_exhausted trail places rows fit some supported constraint same = exhausted trail (Table places rows) constraint refl same (table_met trail places rows fit some supported)
