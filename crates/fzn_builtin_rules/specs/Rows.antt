-- The rule `rows`: the sets leave no value, no entry that the constraint asks for.
use Rattle.std.specs.Prelude.{◌≡◌, ◌⊎◌, true, ℤ, pos, ◌<ℤ◌, ◌≤ℤ◌, List, length, unsigned_abs, Option, Some, None}
use Rattle.std.specs.List.{All, Any}
use Rattle.fzn_domain.specs.IntSet.{IntSet, contains}
use Rattle.fzn_values.specs.declared.term.Term.{Term}
use Rattle.fzn_meaning.specs.declared.relation.Relation.{Relation}
use Rattle.fzn_meaning.specs.declared.relation.Relation.TheVariants.{Equal, NotEqual}
use Rattle.fzn_meaning.specs.declared.extremum.Extreme.{Extreme}
use Rattle.fzn_meaning.specs.declared.extremum.Extreme.TheVariants.{Least, Greatest}
use Rattle.fzn_meaning.specs.declared.constraint.Constraint.{Constraint}
use Rattle.fzn_meaning.specs.declared.constraint.Constraint.TheVariants.{Compare, BoolToInt, IntAbs, Extremum, Element, SetIn}
use Rattle.fzn_values.specs.Entries.{IsIndex}
use Rattle.fzn_sets.specs.Terms.{least_value, greatest_value, IsFixedTo, MayBe, term_at}

-- no number is in both sets
abbrev pub AreDisjoint : IntSet → IntSet → Type 0
AreDisjoint s t = (v : ℤ) → contains s v ≡ true → contains t v ≡ true → ⊥

-- every number of the first set is in the second
abbrev pub IsPartOf : IntSet → IntSet → Type 0
IsPartOf s t = (v : ℤ) → contains s v ≡ true → contains t v ≡ true

-- no number of the first set has its absolute value in the second
abbrev pub AbsolutesApart : IntSet → IntSet → Type 0
AbsolutesApart s t = (v : ℤ) → contains s v ≡ true → contains t (pos (unsigned_abs v)) ≡ true → ⊥

-- the sets of the two terms share no value
abbrev pub ShareNone : List IntSet → Term → Term → Type 0
ShareNone sets a b = (v : ℤ) → MayBe sets a v → MayBe sets b v → ⊥

-- the two terms have to be equal
abbrev pub AsksEquality : List IntSet → Relation → Option Term → Type 0
AsksEquality sets Equal None = Unit {0}
AsksEquality sets Equal (Some switch) = IsFixedTo sets switch (pos 1)
AsksEquality sets NotEqual (Some switch) = IsFixedTo sets switch (pos 0)
AsksEquality sets _ _ = ⊥

-- no value of the term is in the set, or every value is
abbrev pub IsSetAvoided : List IntSet → Term → IntSet → Type 0
IsSetAvoided sets term set = (v : ℤ) → MayBe sets term v → contains set v ≡ true → ⊥

abbrev pub IsInside : List IntSet → Term → IntSet → Type 0
IsInside sets term set = (v : ℤ) → MayBe sets term v → contains set v ≡ true

abbrev pub IsSetMissed : List IntSet → Term → IntSet → Option Term → Type 0
IsSetMissed sets term set None = IsSetAvoided sets term set
IsSetMissed sets term set (Some switch) = (IsFixedTo sets switch (pos 1) × IsSetAvoided sets term set) ⊎ (IsFixedTo sets switch (pos 0) × IsInside sets term set)

-- no index has an entry that shares a value with the term
abbrev pub NoEntryFits : List IntSet → Term → List Term → Term → Type 0
NoEntryFits sets index entries value = (k : ℤ) → IsIndex (length entries) k → MayBe sets index k → ShareNone sets (term_at entries k) value

-- every value of the entry is beyond every value of the result
abbrev pub IsBeyond : List IntSet → Extreme → Term → Term → Type 0
IsBeyond sets Greatest result entry = greatest_value sets result <ℤ least_value sets entry
IsBeyond sets Least result entry = greatest_value sets entry <ℤ least_value sets result

-- no value of the one term has its absolute value in the set of the other
abbrev pub NoAbsoluteFits : List IntSet → Term → Term → Type 0
NoAbsoluteFits sets of result = (v : ℤ) → MayBe sets of v → MayBe sets result (pos (unsigned_abs v)) → ⊥

unfoldable pub IsRowsMet : Constraint → List IntSet → Type 0
IsRowsMet (Compare relation left right switch) sets = AsksEquality sets relation switch × ShareNone sets left right
IsRowsMet (BoolToInt boolean integer) sets = ShareNone sets boolean integer
IsRowsMet (SetIn term set switch) sets = IsSetMissed sets term set switch
IsRowsMet (Element index entries value) sets = NoEntryFits sets index entries value
IsRowsMet (Extremum extreme entries result) sets = Any (IsBeyond sets extreme result) entries ⊎ All (λ entry. ShareNone sets entry result) entries
IsRowsMet (IntAbs of result) sets = NoAbsoluteFits sets of result
IsRowsMet _ sets = ⊥

-- ---- walks over two sets

-- a member of the first set, and no common member lies between the number and it
pub record IsNextCandidate (s t : IntSet) (v next : ℤ) : Type 0 where
  pub member : contains s next ≡ true
  pub greater : v <ℤ next
  pub first : (other : ℤ) → contains s other ≡ true → contains t other ≡ true → v <ℤ other → next ≤ℤ other

-- no common member is above the number
abbrev pub NoCandidate : IntSet → IntSet → ℤ → Type 0
NoCandidate s t v = (other : ℤ) → contains s other ≡ true → contains t other ≡ true → other ≤ℤ v

-- the least absolute value of a member that is above a number
pub record IsNextAbsolute (s : IntSet) (a next : ℤ) : Type 0 where
  pub member : (v : ℤ) × (contains s v ≡ true) × (pos (unsigned_abs v) ≡ next)
  pub greater : a <ℤ next
  pub first : (other : ℤ) → contains s other ≡ true → a <ℤ pos (unsigned_abs other) → next ≤ℤ pos (unsigned_abs other)

-- no member's absolute value is above the number
abbrev pub NoAbsoluteAbove : IntSet → ℤ → Type 0
NoAbsoluteAbove s a = (other : ℤ) → contains s other ≡ true → pos (unsigned_abs other) ≤ℤ a

-- a number above this one and no greater than the next absolute value of the first set that is in the second
pub record IsNextShared (s t : IntSet) (a next : ℤ) : Type 0 where
  pub greater : a <ℤ next
  pub first : (other : ℤ) → contains s other ≡ true → contains t (pos (unsigned_abs other)) ≡ true → a <ℤ pos (unsigned_abs other) → next ≤ℤ pos (unsigned_abs other)

-- no absolute value of the first set that is in the second is above the number
abbrev pub NoneShared : IntSet → IntSet → ℤ → Type 0
NoneShared s t a = (other : ℤ) → contains s other ≡ true → contains t (pos (unsigned_abs other)) ≡ true → pos (unsigned_abs other) ≤ℤ a
