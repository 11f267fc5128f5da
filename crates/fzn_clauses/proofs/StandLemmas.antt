-- The one possible literal of a clause.
use Rattle.std.proofs.Common.{◌≡◌, ℕ, ◌+◌, ◌≤◌, List, ◌∷◌, ap, subst, ◌∙◌, inl, inr, arith}
use Rattle.std.proofs.lemmas.Bool.{cases_lt}
use Rattle.fzn_domain.specs.declared.literal.Lit.{Lit}
use Rattle.fzn_domain.specs.IntSet.{IntSet}
use Rattle.fzn_clauses.specs.Guard.{literal_at, IsPossibleAt}
use Rattle.fzn_clauses.specs.State.{IsOnlyPossible, IsNextPossible, IsNonePossible}
use Rattle.fzn_clauses.proofs.GuardLemmas.{not_both}

module _ (sets : List IntSet) (clause : List Lit) (place : ℕ) (possible : IsPossibleAt sets clause place) where
  pub some_possible : IsNonePossible sets clause 0 → ⊥
  some_possible none = not_both possible.possible (none.all place (omega arith) possible.in_clause)

  pub only_possible : (start : ℕ) → IsNonePossible sets clause (place + 1) → IsNextPossible sets clause 0 start → place ≤ start → IsOnlyPossible sets clause place
  only_possible start none next high = elim (cases_lt place start) [
    | inl less ↦ absurd (not_both possible.possible (next.before place (omega arith) less))
    | inr ge ↦
        let here : start ≡ place = omega (arith, high, ge) in
        let at : IsNextPossible sets clause 0 place = subst (IsNextPossible sets clause 0) here next in
        record {
          in_clause = possible.in_clause;
          possible = possible;
          only = at.first ∙ ap (λ (lits : List Lit). literal_at clause place ∷ lits) none.none;
          others = λ i apart within. elim (cases_lt i place) [
            | inl low ↦ at.before i (omega arith) low
            | inr above ↦ none.all i (omega (arith, apart, above)) within
          ];
        }
  ]
