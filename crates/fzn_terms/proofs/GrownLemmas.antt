-- Clauses that say claims one after another.
use Rattle.std.proofs.Common.{◌≡◌, ◌≢◌, ℕ, ◌+◌, ◌<◌, List, length, get_or, arith, subst, sym, inl, inr}
use Rattle.std.proofs.lemmas.Bool.{cases_lt, cases_eq}
use Rattle.std.proofs.lemmas.List.{get_or_default}
use Rattle.std.specs.List.{All}
use Rattle.fzn_domain.specs.declared.literal.Lit.{Lit}
use Rattle.fzn_domain.specs.IntSet.{IntSet}
use Rattle.fzn_trail.specs.Levels.{Levels}
use Rattle.fzn_propagator.specs.Clause.{IsFalseClause}
use Rattle.fzn_terms.specs.declared.claim.Claim.{Claim}
use Rattle.fzn_terms.specs.Denied.{IsEntailed, AreEntailedBut, IsClaimExplained, IsClaimForced, IsGrown, IsGrownToForce}

-- those below an index, but for the one at another
abbrev pub AreEntailedBelow : ℕ → ℕ → List Claim → List IntSet → Type 0
AreEntailedBelow count except claims sets = (k : ℕ) (d : Claim) → k < count → k ≢ except → IsEntailed sets (get_or claims k d)

module _ (trail : Levels) (claims : List Claim) (except : ℕ) (old : List Lit) where
  pub said_none : IsFalseClause trail old → IsGrown trail (AreEntailedBelow 0 except claims) old old
  said_none still = record { still = still; keeps = λ sets left. left; says = λ sets left k d below. absurd (omega arith) }

  module _ (i : ℕ) (clause : List Lit) (before : IsGrown trail (AreEntailedBelow i except claims) old clause) where
    pub said_more : (new : List Lit) (e : Claim) → i < length claims → IsClaimExplained trail (get_or claims i e) clause new → IsGrown trail (AreEntailedBelow (i + 1) except claims) old new
    said_more new e inside explained = record {
      still = explained.still;
      keeps = λ sets left. before.keeps sets (explained.keeps sets left);
      says = λ sets left k d below apart. elim (cases_lt k i) [
        | inl earlier ↦ before.says sets (explained.keeps sets left) k d earlier apart
        | inr past ↦
            let here : i ≡ k = omega arith in
            subst (λ (n : ℕ). IsEntailed sets (get_or claims n d)) here (subst (IsEntailed sets) (get_or_default claims i e d inside) (explained.says sets left))
      ];
    }

    -- the one that is left out
    pub said_same : i ≡ except → IsGrown trail (AreEntailedBelow (i + 1) except claims) old clause
    said_same is = record {
      still = before.still;
      keeps = before.keeps;
      says = λ sets left k d below apart. before.says sets left k d (let other : k ≢ i = omega arith in omega arith) apart;
    }

  -- the others, and the one that is forced
  pub said_forced : (clause new : List Lit) (e : Claim) → except < length claims → IsGrown trail (AreEntailedBut except claims) old clause → IsClaimForced trail (get_or claims except e) clause new → IsGrownToForce trail (λ sets. All (IsEntailed sets) claims) old new
  said_forced clause new e inside before forced = record {
    forcing = forced.forcing;
    keeps = λ sets left. before.keeps sets (forced.keeps sets left);
    says = λ sets left k d below. elim (cases_eq k except) [
      | inl is ↦ subst (λ (n : ℕ). IsEntailed sets (get_or claims n d)) (sym is) (subst (IsEntailed sets) (get_or_default claims except e d inside) (forced.says sets left))
      | inr apart ↦ before.says sets (forced.keeps sets left) k d below apart
    ];
  }
