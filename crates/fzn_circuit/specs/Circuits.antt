-- Where the fixed successors of places lead.
use Rattle.std.specs.Prelude.{◌≡◌, ◌≢◌, ◌⊎◌, ℕ, ◌+◌, ◌-◌, ◌<◌, ◌≤◌, ℤ, pos, negsuc, List, length, slice_index_or}
use Rattle.std.specs.List.{All}
use Rattle.std.proofs.Props.{props}
use Rattle.fzn_domain.specs.declared.literal.Lit.{Lit}
use Rattle.fzn_domain.specs.IntSet.{IntSet}
use Rattle.fzn_domain.specs.Narrow.{AllFixed, IsWithin}
use Rattle.fzn_values.specs.declared.term.Term.{Term}
use Rattle.fzn_values.specs.declared.term.Term.TheVariants.{Constant}
use Rattle.fzn_values.specs.AllDifferent.{IsAllDifferent}
use Rattle.fzn_values.specs.Circuit.{reached_from}
use Rattle.fzn_values.specs.Entries.{IsIndex}
use Rattle.fzn_values.specs.Term.{IsTerm, values_of}
use Rattle.fzn_meaning.specs.Meaning.{AreTerms}
use Rattle.fzn_sets.specs.Terms.{IsFixedTo, term_at}
use Rattle.fzn_rules.specs.Cut.{LeadsInto}
use Rattle.fzn_trail.specs.Levels.{Levels}
use Rattle.fzn_domain.specs.declared.literal.Op.TheVariants.{AtMost, AtLeast, Equal}
use Rattle.fzn_propagator.specs.Clause.{Says, IsFalseClause}
use Rattle.fzn_terms.specs.Denied.{that, IsDenied}
use Rattle.fzn_terms.specs.Values.{IsTerm-prop}

-- of a constraint's list of terms on so many variables there is one proof at most
pub AreSuccessors-prop : (count : ℕ) (terms : List Term) → IsProp (AreTerms count terms)
AreSuccessors-prop count terms = Prim.hlevel (props, IsTerm-prop)

-- each successor has one value, these in order, and each is a place
pub record AreFixedPlaces (sets : List IntSet) (successors : List Term) (values : List ℤ) : Type 0 where
  pub one_each : length values ≡ length successors
  pub places : All (IsIndex (length values)) values
  pub fixed : (k : ℕ) (default : Term) → k < length successors → IsFixedTo sets (slice_index_or successors k default) (slice_index_or values k (pos 0))

-- the places that a way through fixed successors goes through, in order, and what a clause says of them
pub record IsWay (trail : Levels) (successors : List Term) (start last : ℤ) (places : List ℤ) (clause : List Lit) : Type 0 where
  pub still : IsFalseClause trail clause
  pub some : 0 < length places
  pub few : length places ≤ length successors
  pub indices : All (IsIndex (length successors)) places
  pub first : slice_index_or places 0 (pos 0) ≡ start
  pub ends : slice_index_or places (length places - 1) (pos 0) ≡ last
  pub leads : Says trail.declared clause (λ sets. All (λ place. (place ≡ last) ⊎ LeadsInto sets places (term_at successors place)) places)
  -- the steps are those of the values, and none comes back
  pub steps : (values : List ℤ) → AreFixedPlaces trail.sets successors values → (k : ℕ) → k < length places → slice_index_or places k (pos 0) ≡ reached_from values start k
  pub not_back : (k : ℕ) → 1 ≤ k → k < length places → slice_index_or places k (pos 0) ≡ start → ⊥

-- the way goes through as many places as there are, or where all successors are fixed the next step comes back
abbrev pub IsAtEnd : List IntSet → List Term → ℤ → List ℤ → Type 0
IsAtEnd sets successors start places = (length places ≡ length successors) ⊎ ((values : List ℤ) → AreFixedPlaces sets successors values → reached_from values start (length places) ≡ start)

-- where all successors are fixed, the way from the start comes back with no step before the last
abbrev pub HasNoShortWay : List IntSet → List Term → ℤ → Type 0
HasNoShortWay sets successors start =
    (values : List ℤ) → AreFixedPlaces sets successors values → (k : ℕ) → 1 ≤ k → k < length values → reached_from values start k ≡ start → ⊥

-- each value of the term is one of so many places
abbrev pub IsSuccessorInside : List IntSet → ℕ → Term → Type 0
IsSuccessorInside sets count term = IsDenied sets (that term AtMost (pos 0)) × IsDenied sets (that term AtLeast (pos (count + 1)))

-- no successor has a value that is no place
abbrev pub AreInside : List IntSet → List Term → Type 0
AreInside sets successors = All (IsSuccessorInside sets (length successors)) successors

-- the value of the successor at place i, counted from 0, where it has one, is no value of the one at place j
abbrev pub HaveNoCommonValue : List IntSet → List Term → ℕ → ℕ → Type 0
HaveNoCommonValue sets successors i j =
    (default : Term) (value : ℤ) → i ≢ j → i < length successors → j < length successors → IsFixedTo sets (slice_index_or successors i default) value
    → IsDenied sets (that (slice_index_or successors j default) Equal value)

-- where each variable has one value, no two successors are the same
abbrev pub AreDifferent : List IntSet → List Term → Type 0
AreDifferent sets successors = All (IsTerm (length sets)) successors → (values : List ℤ) → IsWithin sets values → AllFixed sets → IsAllDifferent (values_of values successors)

-- some successor has several values
abbrev pub HasOpenSuccessor : List IntSet → List Term → Type 0
HasOpenSuccessor sets successors = (k : ℕ) × (k < length successors) × ((value : ℤ) → IsFixedTo sets (slice_index_or successors k (Constant (pos 0))) value → ⊥)

-- the place that is listed for a number
abbrev pub owner_of : List ℕ → ℤ → ℕ
owner_of owners (pos number) = slice_index_or owners number 0
owner_of owners (negsuc number) = 0
