-- Chains clause by clause.
use Rattle.std.proofs.Common.{◌≡◌, ℕ, suc, ◌+◌, ◌<◌, List, [], ◌∷◌, length, get_or, drop, refl, sym, ap, subst, ◌∙◌, All, Some, IfSome, unwrap_or, IsSome, add-one, drop-cons}
use Rattle.fzn_cert.specs.Past.{StepsPast, clause_held, IsClauseHeld, clauses_held}
use Rattle.fzn_cert.proofs.SoundLaws.{of_clause}
use Rattle.fzn_domain.specs.declared.literal.Lit.{Lit}
use Rattle.fzn_domain.specs.IntSet.{IntSet}
use Rattle.fzn_domain.specs.Narrow.{IsClauseOver, narrowed, possible_in, by_count, ChainOutcome, accepted, not_unit, chain_outcome}

-- a clause that is held is over the variables
pub held_over : (n : ℕ) (past : StepsPast) (id : ℕ) (clause : List Lit) → All (λ held. IfSome held (IsClauseOver n)) past.clauses → Some clause ≡ clause_held past id → IsClauseOver n clause
held_over n past id clause over is =
    let held : IsClauseHeld past id = subst IsSome is refl in
    subst (λ o. IsClauseOver n (unwrap_or o [])) (sym is) (of_clause (IsClauseOver n) past id over held)

-- one more turn of a loop
pub chain-more : (past : StepsPast) (sets new : List IntSet) (ids : List ℕ) (i : ℕ) (clause : List Lit) (lit : Lit) (all : ChainOutcome) → i < length ids → Some clause ≡ clause_held past (get_or ids i 0) → possible_in sets clause ≡ lit ∷ [] → new ≡ narrowed sets lit → chain_outcome sets (clauses_held past (drop i ids)) ≡ all → chain_outcome new (clauses_held past (drop (i + 1) ids)) ≡ all
chain-more past sets new ids i clause lit all below is one new_is rest =
    ap (λ (n : ℕ). chain_outcome new (clauses_held past (drop n ids))) (add-one i)
    ∙ ap (λ (s : List IntSet). chain_outcome s (clauses_held past (drop (suc i) ids))) new_is
    ∙ sym (ap (λ (p : List Lit). by_count p accepted (λ l. chain_outcome (narrowed sets l) (clauses_held past (drop (suc i) ids))) not_unit) (ap (λ o. possible_in sets (unwrap_or o [])) (sym is) ∙ one))
    ∙ sym (ap (λ (rest_ids : List ℕ). chain_outcome sets (clauses_held past rest_ids)) (drop-cons ids i 0 below))
    ∙ rest
