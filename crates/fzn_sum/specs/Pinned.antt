-- When a clause leaves places their one number, and the literal that bars a value of the last open place.
use Rattle.std.specs.Prelude.{◌≡◌, ◌≢◌, ℕ, ◌<◌, ◌≤◌, true, false, ℤ, ◌+ℤ◌, ◌-ℤ◌, ◌*ℤ◌, List, length, slice_index_or}
use Rattle.std.specs.List.{AllWithin}
use Rattle.fzn_domain.specs.declared.literal.Lit.{Lit}
use Rattle.fzn_domain.specs.declared.literal.Op.TheVariants as op
use Rattle.fzn_domain.specs.Literal.{is_true_at}
use Rattle.fzn_domain.specs.IntSet.{IntSet, contains, is_possible}
use Rattle.fzn_domain.specs.Limits.{IsInLimits}
use Rattle.fzn_domain.specs.Narrow.{set_of}
use Rattle.fzn_values.specs.declared.term.Term.TheVariants.{Variable}
use Rattle.fzn_values.specs.declared.term.Place.{Place}
use Rattle.fzn_sets.specs.Terms.{MayBe}
use Rattle.fzn_builtin_rules.specs.Linear.{low_product, least_sum}
use Rattle.fzn_trail.specs.Levels.{Levels}
use Rattle.fzn_propagator.specs.Clause.{IsWritable, IsFalseClause}
use Rattle.fzn_propagator.specs.Left.{IsLeft}
use Rattle.fzn_propagator.specs.Barred.{GivesOne, AreSettledBut}

-- the first place from an index on that may give several numbers
pub record IsOpenFrom (sets : List IntSet) (places : List Place) (from first : ℕ) : Type 0 where
  pub in_places : first < length places
  pub not_before : from ≤ first
  pub settled : AllWithin (GivesOne sets) places from first
  pub several : (default : Place) → ¬ (GivesOne sets (slice_index_or places first default))

-- the only place that may give several numbers
pub record IsOnlyOpen (sets : List IntSet) (places : List Place) (only : ℕ) : Type 0 where
  pub in_places : only < length places
  pub others : AreSettledBut sets places only
  pub several : (default : Place) → ¬ (GivesOne sets (slice_index_or places only default))

-- at each value that the clause leaves, the place gives what is its least on the trail
abbrev pub IsPinned : Levels → List Lit → Place → Type 0
IsPinned trail clause place = (value : ℤ) → IsLeft trail.declared clause place.term value → place.coefficient *ℤ value ≡ low_product trail.sets place

-- a literal that is false on the trail, and without which the place gives its least
pub record IsPin (trail : Levels) (place : Place) (lit : Lit) : Type 0 where
  pub of_place : place.term ≡ Variable lit.var
  pub writable : IsWritable lit
  pub impossible : is_possible (set_of trail.sets lit.var) lit ≡ false
  pub gives : (value : ℤ) → is_true_at lit value ≡ false → place.coefficient *ℤ value ≡ low_product trail.sets place

-- a clause that is false on the trail and pins the places before an index, one place left out
pub record ArePinned (trail : Levels) (places : List Place) (before except : ℕ) (clause : List Lit) : Type 0 where
  pub still : IsFalseClause trail clause
  pub pinned : (k : ℕ) (default : Place) → k < before → k ≢ except → IsPinned trail clause (slice_index_or places k default)

-- what the sum is where one place has this value and each other one gives its least
abbrev pub sum_with : List IntSet → List Place → Place → ℤ → ℤ
sum_with sets places place value = (least_sum sets places -ℤ low_product sets place) +ℤ place.coefficient *ℤ value

-- the literal that the open place has not the value with which the sum is the number, where that is one of its values
pub record IsBarring (trail : Levels) (places : List Place) (place : Place) (number : ℤ) (lit : Lit) : Type 0 where
  pub of_place : place.term ≡ Variable lit.var
  pub denies : lit.op ≡ op.NotEqual
  pub in_limits : IsInLimits lit.value
  pub member : contains (set_of trail.sets lit.var) lit.value ≡ true
  pub barred : sum_with trail.sets places place lit.value ≡ number

-- no value of the open place makes the sum the number
abbrev pub NoneIsBarred : List IntSet → List Place → Place → ℤ → Type 0
NoneIsBarred sets places place number = (value : ℤ) → MayBe sets place.term value → sum_with sets places place value ≢ number
