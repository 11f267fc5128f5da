-- Claims without which two terms share no value.
use Rattle.std.proofs.Common.{◌≡◌, ℕ, List, [], ◌∷◌, ◌++◌, length, subst, inl, inr, arith, int_lt, ℤ, pos, ◌+ℤ◌, ◌≤ℤ◌, ◌<ℤ◌, All}
use Rattle.std.proofs.lemmas.Int.{ints}
use Rattle.std.proofs.lemmas.Bool.{cases_Bool}
use Rattle.std.proofs.lemmas.List.Elements.{All-push, All-from_recursion, recursion_from_All}
use Rattle.fzn_domain.specs.IntSet.{IntSet}
use Rattle.fzn_values.specs.declared.term.Term.{Term}
use Rattle.fzn_meaning.specs.declared.constraint.Constraint.{Constraint}
use Rattle.fzn_values.specs.Term.{IsTerm}
use Rattle.fzn_sets.specs.Terms.{MayBe}
use Rattle.fzn_rules.specs.declared.rule.Rule.TheVariants as rule
use Rattle.fzn_terms.specs.declared.claim.Claim.{Claim}
use Rattle.fzn_terms.specs.Denied.{claim_turned_round, IsDenied, AreDenying, Refute}
use Rattle.fzn_terms.proofs.ExplanationLemmas.{are_opposite}
use Rattle.fzn_equality.specs.declared.pair.Pair.{Pair}
use Rattle.fzn_equality.specs.Shared.{IsMetApart}
use Rattle.fzn_equality.proofs.ListLemmas.{All-front, All-last}

-- the sets that deny claims deny one of them alone
denying_one : (count : ℕ) (claims : List Claim) (claim : Claim) (sets : List IntSet) → AreDenying count claims sets → IsDenied sets claim → AreDenying count (claim ∷ []) sets
denying_one count claims claim sets denying denied = record {
  one_each = denying.one_each;
  filled = denying.filled;
  denied = All-from_recursion (IsDenied sets) (claim ∷ []) (denied, tt);
}

-- a claim of the one term, and its claim_turned_round of the other
pub refuted_apart : (count : ℕ) (besides claim opposite_claim : Claim) (other : Term) (constraint : Constraint) → opposite_claim ≡ claim_turned_round claim other → IsMetApart count besides claim.term other constraint → Refute count (besides ∷ claim ∷ opposite_claim ∷ []) constraint rule.Rows
refuted_apart count besides claim opposite_claim other constraint is met sets denying =
    let claims : List Claim = besides ∷ claim ∷ opposite_claim ∷ [] in
    let each = recursion_from_All (IsDenied sets) claims denying.denied in
    met sets (denying_one count claims besides sets denying each.0)
    (λ v here there. are_opposite sets claim other each.1.0 (subst (IsDenied sets) is each.1.1.0) v here there)

-- ---- one number after the other

-- where the claims are denied, the two share no number but from this one up to the high one
pub record ShareFrom (pair : Pair) (high : ℤ) (claims : List Claim) (from : ℤ) : Type 0 where
  pub terms : All (λ (c : Claim). IsTerm (length pair.trail.now.declared) c.term) claims
  pub within : (sets : List IntSet) → All (IsDenied sets) claims → (v : ℤ) → MayBe sets pair.one v → MayBe sets pair.other v → (from ≤ℤ v) × (v ≤ℤ high)

module _ (pair : Pair) (high : ℤ) where
  pub share_first : (below above : Claim) (low : ℤ) → IsTerm (length pair.trail.now.declared) below.term → IsTerm (length pair.trail.now.declared) above.term → ((sets : List IntSet) (v : ℤ) → IsDenied sets below → MayBe sets pair.one v → MayBe sets pair.other v → low ≤ℤ v) → ((sets : List IntSet) (v : ℤ) → IsDenied sets above → MayBe sets pair.one v → MayBe sets pair.other v → v ≤ℤ high) → ShareFrom pair high (below ∷ above ∷ []) low
  share_first below above low first second is_below is_above = record {
    terms = All-from_recursion (λ (c : Claim). IsTerm (length pair.trail.now.declared) c.term) (below ∷ above ∷ []) (first, (second, tt));
    within = λ sets all v here there. let each = recursion_from_All (IsDenied sets) (below ∷ above ∷ []) all in (is_below sets v each.0 here there, is_above sets v each.1.0 here there);
  }

  module _ (claims : List Claim) (from : ℤ) (so_far : ShareFrom pair high claims from) (claim : Claim) (fits : IsTerm (length pair.trail.now.declared) claim.term) where
    pub share_push : ((sets : List IntSet) → IsDenied sets claim → MayBe sets pair.one from → MayBe sets pair.other from → ⊥) → ShareFrom pair high (claims ++ claim ∷ []) (from +ℤ pos 1)
    share_push denies = record {
      terms = All-push (λ (c : Claim). IsTerm (length pair.trail.now.declared) c.term) claims claim so_far.terms fits;
      within = λ sets all v here there.
          let old = so_far.within sets (All-front (IsDenied sets) claims claim all) v here there in
          elim (cases_Bool (int_lt from v)) [
            | inl after ↦ (omega (arith, ints, old.0), old.1)
            | inr before ↦
                let same : v ≡ from = omega (arith, ints, old.0) in
                absurd (denies sets (All-last (IsDenied sets) claims claim all) (subst (MayBe sets pair.one) same here) (subst (MayBe sets pair.other) same there))
          ];
    }

    -- all numbers, and the claim besides
    pub refuted_shared : (constraint : Constraint) → high <ℤ from → IsMetApart (length pair.trail.now.declared) claim pair.one pair.other constraint → Refute (length pair.trail.now.declared) (claims ++ claim ∷ []) constraint rule.Rows
    refuted_shared constraint past met sets denying =
        let old = All-front (IsDenied sets) claims claim denying.denied in
        met sets (denying_one (length pair.trail.now.declared) (claims ++ claim ∷ []) claim sets denying (All-last (IsDenied sets) claims claim denying.denied))
        (λ v here there. let within = so_far.within sets old v here there in omega (arith, ints, within.0, within.1))
