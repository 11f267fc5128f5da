-- What a learned clause promises.
use Rattle.std.specs.Prelude.{◌≡◌, ◌⊎◌, ◌+◌, ◌<◌, List, [], ◌∷◌, ◌++◌, map, length, slice_get, Some}
use Rattle.std.specs.List.{All}
use Rattle.fzn_domain.specs.declared.literal.Lit.{Lit}
use Rattle.fzn_domain.specs.Literal.{negated}
use Rattle.fzn_domain.specs.IntSet.{IntSet}
use Rattle.fzn_domain.specs.Limits.{IsInLimits}
use Rattle.fzn_domain.specs.Narrow.{IsClauseOver, IsAcceptedFrom, possible_in}
use Rattle.fzn_trail.specs.declared.trail.Entry.{Entry}
use Rattle.fzn_trail.specs.declared.trail.Antecedent.{Antecedent}
use Rattle.fzn_trail.specs.declared.trail.Reason.{Reason}
use Rattle.fzn_trail.specs.declared.trail.Reason.TheVariants.{Decision, Implied}
use Rattle.fzn_trail.specs.Levels.{Levels, level_of, returned}
use Rattle.fzn_learned.specs.declared.learned.Learned.{Learned}
use Rattle.fzn_learned.specs.Reasoned.{Known, IsKnown, antecedent_clause, IsLoneLiteral, Open, opens, negated_decisions}

-- a known clause of which no literal is possible
pub record IsConflicting (known : Known) (sets : List IntSet) (conflict : Antecedent) : Type 0 where
  pub is_known : IsKnown known conflict
  pub is_false : possible_in sets (antecedent_clause known conflict) ≡ []

-- what an entry with this reason follows from, before what is found further on
abbrev pub antecedent_before : Reason → List Antecedent → List Antecedent
antecedent_before Decision later = later
antecedent_before (Implied antecedent) later = antecedent ∷ later

-- what the entries follow from, in order
abbrev pub antecedents_of : List Entry → List Antecedent
antecedents_of [] = []
antecedents_of (entry ∷ later) = antecedent_before entry.reason (antecedents_of later)

-- the clause is empty, or it forces a literal on the sets
abbrev pub IsEmptyOrForces : List IntSet → List Lit → Type 0
IsEmptyOrForces sets clause = (clause ≡ []) ⊎ ((lit : Lit) × IsLoneLiteral sets clause lit)

-- unit propagation along its antecedents, which are known, refutes the clause's denial
pub record IsDerived (known : Known) (declared : List IntSet) (learned : Learned) : Type 0 where
  pub accepted : IsAcceptedFrom declared learned.clause (map (antecedent_clause known) learned.antecedents)
  pub all_known : All (IsKnown known) learned.antecedents
  pub over : IsClauseOver (length declared) learned.clause
  pub in_limits : All (λ lit. IsInLimits lit.value) learned.clause

-- what every learned clause promises: unit propagation along its antecedents refutes its denial; at level 0 it is
-- empty, and above it is empty or forces a literal at its level, which is below
pub record IsLearned (known : Known) (trail : Levels) (learned : Learned) : Type 0 where
  pub accepted : IsAcceptedFrom trail.declared learned.clause (map (antecedent_clause known) learned.antecedents)
  pub all_known : All (IsKnown known) learned.antecedents
  pub over : IsClauseOver (length trail.declared) learned.clause
  pub in_limits : All (λ lit. IsInLimits lit.value) learned.clause
  pub at_level_0 : level_of trail ≡ 0 → learned.clause ≡ []
  pub below : 0 < level_of trail → learned.level < level_of trail
  pub forces : 0 < level_of trail → IsEmptyOrForces (returned learned.level trail).sets learned.clause

-- one level below the present one, where the last decision was taken, the clause forces its negation
pub record ForcesBack (trail : Levels) (learned : Learned) : Type 0 where
  pub one_less : learned.level + 1 ≡ level_of trail
  pub last : Open
  pub is_last : slice_get (opens trail.declared trail.entries) learned.level ≡ Some last
  pub stood : (returned learned.level trail).sets ≡ last.sets
  pub forced : IsLoneLiteral last.sets learned.clause (negated last.decision)

-- the plain clause says that one of the decisions is wrong, by what the entries follow from and then the conflict
pub record IsPlain (trail : Levels) (conflict : Antecedent) (learned : Learned) : Type 0 where
  pub clause : learned.clause ≡ negated_decisions trail.declared trail.entries
  pub antecedents : learned.antecedents ≡ antecedents_of trail.entries ++ conflict ∷ []
  pub back : 0 < level_of trail → ForcesBack trail learned
