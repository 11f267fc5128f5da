-- What a sum that is not to be a number bars: that its terms take values which make it the number.
use Rattle.std.specs.Prelude.{◌≡◌, ◌≢◌, ◌⊎◌, ℕ, ◌<◌, ℤ, pos, List, length, slice_index_or, MatchOption}
use Rattle.fzn_domain.specs.IntSet.{IntSet}
use Rattle.fzn_domain.specs.Narrow.{IsWithin}
use Rattle.fzn_values.specs.declared.term.Place.{Place}
use Rattle.fzn_meaning.specs.declared.relation.Comparison.TheVariants.{Equal, NotEqual}
use Rattle.fzn_values.specs.Term.{sum_at}
use Rattle.fzn_sets.specs.Terms.{IsFixedTo}
use Rattle.fzn_builtin_rules.specs.Linear.{low_product, high_product}
use Rattle.fzn_builtin_rules.specs.Form.{Form}

-- the place gives one number, whichever value of its set its term takes
abbrev pub GivesOne : List IntSet → Place → Type 0
GivesOne sets place = low_product sets place ≡ high_product sets place

-- each place gives one number, but for the one at an index
abbrev pub AreSettledBut : List IntSet → List Place → ℕ → Type 0
AreSettledBut sets places left_out = (k : ℕ) (default : Place) → k < length places → k ≢ left_out → GivesOne sets (slice_index_or places k default)

-- where at most one place may give several numbers, no values of the sets make the sum the number
abbrev pub LeavesNoBarred : List IntSet → List Place → ℤ → Type 0
LeavesNoBarred sets places number = (left_out : ℕ) (values : List ℤ) → AreSettledBut sets places left_out → IsWithin sets values → sum_at values places ≢ number

-- the sum is not to be the bound: by its comparison, or by a switch that is fixed to 0
abbrev pub IsToDiffer : List IntSet → Form → Type 0
IsToDiffer sets found = MatchOption found.switch (found.comparison ≡ NotEqual) (λ term.
    (IsFixedTo sets term (pos 1) × (found.comparison ≡ NotEqual)) ⊎ (IsFixedTo sets term (pos 0) × (found.comparison ≡ Equal)))
