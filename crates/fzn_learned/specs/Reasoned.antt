-- How the entries of a trail came to stand.
use Rattle.std.specs.Prelude.{◌≡◌, ℕ, ◌<◌, true, List, [], ◌∷◌, ◌++◌, map, length, take, slice_get, slice_index_or, Some}
use Rattle.std.specs.List.{All}
use Rattle.fzn_domain.specs.declared.literal.Lit.{Lit}
use Rattle.fzn_domain.specs.Literal.{negated}
use Rattle.fzn_domain.specs.IntSet.{IntSet}
use Rattle.fzn_domain.specs.Narrow.{IsVariable, IsClauseOver, IsOpen, can_fail, narrowed, possible_in}
use Rattle.fzn_clauses.specs.declared.clauses.Clauses.{Clauses}
use Rattle.fzn_clauses.specs.Held as numbered
use Rattle.fzn_clauses.specs.Watching.{held_by}
use Rattle.fzn_propagator.specs.declared.inferences.Inferred.{Inferred}
use Rattle.fzn_trail.specs.declared.trail.Entry.{Entry}
use Rattle.fzn_trail.specs.declared.trail.Antecedent.{Antecedent}
use Rattle.fzn_trail.specs.declared.trail.Antecedent.TheVariants.{Clause, Inference}
use Rattle.fzn_trail.specs.declared.trail.Reason.{Reason}
use Rattle.fzn_trail.specs.declared.trail.Reason.TheVariants.{Decision, Implied}
use Rattle.fzn_trail.specs.Levels.{Levels, Standing}

-- the clauses that may be antecedents: those that are held, and those of the inferences that stand
pub record Known : Type 0 where
  pub held : numbered.Held
  pub stacked : List (List Lit)

-- held clauses, and a stack of inferences
abbrev pub known_from : numbered.Held → List Inferred → Known
known_from held stack = record { held = held; stacked = map (λ (it : Inferred). it.inference.clause) stack }

abbrev pub known_of : Clauses → List Inferred → Known
known_of clauses stack = known_from (held_by clauses) stack

-- all of them are over this many variables
pub record AreOver (count : ℕ) (known : Known) : Type 0 where
  pub held : numbered.AllHeld (IsClauseOver count) known.held
  pub stacked : All (IsClauseOver count) known.stacked

-- the antecedent is one of them
abbrev pub IsKnown : Known → Antecedent → Type 0
IsKnown known (Clause id) = numbered.IsHeld known.held id
IsKnown known (Inference place) = place < length known.stacked

abbrev pub antecedent_clause : Known → Antecedent → List Lit
antecedent_clause known (Clause id) = numbered.clause_of known.held id
antecedent_clause known (Inference place) = slice_index_or known.stacked place []

-- with so many inferences left
abbrev pub cut_at : ℕ → Known → Known
cut_at n known = record known { stacked = take n known.stacked }

-- the reason is no inference from this place of the stack on
abbrev pub IsBelow : ℕ → Reason → Type 0
IsBelow n Decision = Unit {0}
IsBelow n (Implied (Clause id)) = Unit {0}
IsBelow n (Implied (Inference place)) = place < n

-- the literal is the one possible literal of the clause, and not yet true
abbrev pub IsLoneLiteral : List IntSet → List Lit → Lit → Type 0
IsLoneLiteral sets clause lit = (possible_in sets clause ≡ lit ∷ []) × (can_fail sets lit ≡ true)

-- the literal is forced by a known clause
abbrev pub IsForcedFrom : Known → List IntSet → Lit → Antecedent → Type 0
IsForcedFrom known sets lit antecedent = IsKnown known antecedent × IsLoneLiteral sets (antecedent_clause known antecedent) lit

-- the reason for asserting the literal on these sets: a decision is open there, any other is forced by a known clause
abbrev pub IsReason : Known → List IntSet → Lit → Reason → Type 0
IsReason known sets lit Decision = IsOpen sets lit
IsReason known sets lit (Implied antecedent) = IsForcedFrom known sets lit antecedent

-- the entries, each with its reason, lead one after another from the first sets to the last
abbrev pub Leads : Known → List IntSet → List Entry → List IntSet → Type 0
Leads known from [] to = from ≡ to
Leads known from (entry ∷ later) to = IsVariable (length from) entry.lit.var × IsReason known from entry.lit entry.reason × Leads known (narrowed from entry.lit) later to

-- what stood where a decision was taken, and the decision
pub record Open : Type 0 where
  pub sets : List IntSet
  pub decision : Lit

-- where an entry is a decision, what stood there, before what is found further on
abbrev pub open_at : List IntSet → Lit → Reason → List Open → List Open
open_at sets lit Decision later = record { sets = sets; decision = lit } ∷ later
open_at sets lit (Implied antecedent) later = later

-- the decisions among the entries, in order, each with the sets at which it was taken
abbrev pub opens : List IntSet → List Entry → List Open
opens from [] = []
opens from (entry ∷ later) = open_at from entry.lit entry.reason (opens (narrowed from entry.lit) later)

-- what stood at each level is what its decision was taken at, after the entries before the decision
pub record IsLevelStanding (known : Known) (trail : Levels) (k : ℕ) : Type 0 where
  pub stood : Standing
  pub here : slice_get trail.saved k ≡ Some stood
  pub lit : Lit
  pub level : ℕ
  pub later : List Entry
  pub parts : trail.entries ≡ stood.entries ++ record { lit = lit; reason = Decision; level = level } ∷ later
  pub leads : Leads known trail.declared stood.entries stood.sets
  pub below : length (opens trail.declared stood.entries) ≡ k

-- each entry has its reason, and each level above 0 begins with its one decision
pub record IsReasoned (known : Known) (trail : Levels) : Type 0 where
  pub leads : Leads known trail.declared trail.entries trail.sets
  pub one_each : length (opens trail.declared trail.entries) ≡ length trail.saved
  pub standing : (k : ℕ) → k < length trail.saved → IsLevelStanding known trail k

-- the clause that says that one of the decisions is wrong
abbrev pub negated_decisions : List IntSet → List Entry → List Lit
negated_decisions from entries = map (λ (at : Open). negated at.decision) (opens from entries)
