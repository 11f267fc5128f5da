-- The rule `rows` of table, circuit, inverse and cumulative: the sets leave no row, no index, no amount that the constraint asks for.
use Rattle.std.specs.Prelude.{◌⊎◌, ℕ, ◌+◌, ◌*◌, ◌<◌, ◌≤◌, ℤ, pos, ◌<ℤ◌, List, length, slice_index_or}
use Rattle.std.specs.List.{Any}
use Rattle.fzn_domain.specs.IntSet.{IntSet}
use Rattle.fzn_values.specs.declared.term.Term.{Term}
use Rattle.fzn_values.specs.declared.term.Term.TheVariants.{Constant}
use Rattle.fzn_meaning.specs.declared.constraint.Constraint.{Constraint}
use Rattle.fzn_meaning.specs.declared.constraint.Constraint.TheVariants.{Table, Cumulative, Circuit, Inverse}
use Rattle.fzn_values.specs.Entries.{IsIndex}
use Rattle.fzn_sets.specs.Terms.{greatest_value, MayBe}

-- each value of row r, counted from 0, is in its place's set
abbrev pub MayBeRow : List IntSet → List Term → List ℤ → ℕ → Type 0
MayBeRow sets places rows r = (k : ℕ) → k < length places → MayBe sets (slice_index_or places k (Constant (pos 0))) (slice_index_or rows (r * length places + k) (pos 0))

-- some value of row r, counted from 0, is not in its place's set
abbrev pub IsRowOut : List IntSet → List Term → List ℤ → ℕ → Type 0
IsRowOut sets places rows r = (k : ℕ) × (k < length places) × (MayBe sets (slice_index_or places k (Constant (pos 0))) (slice_index_or rows (r * length places + k) (pos 0)) → ⊥)

-- so of each whole row
abbrev pub AreRowsOut : List IntSet → List Term → List ℤ → Type 0
AreRowsOut sets places rows = (r : ℕ) → r * length places + length places ≤ length rows → IsRowOut sets places rows r

-- no index of a list of this many entries is in the term's set
abbrev pub HasNoIndex : List IntSet → ℕ → Term → Type 0
HasNoIndex sets count term = (index : ℤ) → IsIndex count index → MayBe sets term index → ⊥

-- the term is below 0 everywhere
abbrev pub IsBelowZero : List IntSet → Term → Type 0
IsBelowZero sets term = greatest_value sets term <ℤ pos 0

-- some duration, some use or the capacity
abbrev pub HasAmountBelowZero : List IntSet → List Term → List Term → Term → Type 0
HasAmountBelowZero sets durations uses capacity = Any (IsBelowZero sets) durations ⊎ (Any (IsBelowZero sets) uses ⊎ IsBelowZero sets capacity)

unfoldable pub IsGlobalRowsMet : Constraint → List IntSet → Type 0
IsGlobalRowsMet (Table places rows) sets = AreRowsOut sets places rows
IsGlobalRowsMet (Circuit successors) sets = Any (HasNoIndex sets (length successors)) successors
IsGlobalRowsMet (Inverse forward backward) sets = Any (HasNoIndex sets (length forward)) forward ⊎ Any (HasNoIndex sets (length backward)) backward
IsGlobalRowsMet (Cumulative starts durations uses capacity) sets = HasAmountBelowZero sets durations uses capacity
IsGlobalRowsMet _ sets = ⊥
