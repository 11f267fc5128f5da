-- The least and the greatest sum, each place by itself.
use Rattle.std.specs.Prelude.{◌≡◌, ◌⊎◌, ℤ, pos, ◌*ℤ◌, ◌≤ℤ◌, ◌<ℤ◌, int_lt, if◌then◌else◌, List, Option, MatchOption}
use Rattle.fzn_domain.specs.IntSet.{IntSet}
use Rattle.fzn_values.specs.declared.term.Term.{Term}
use Rattle.fzn_values.specs.declared.term.Place.{Place}
use Rattle.fzn_meaning.specs.declared.relation.Comparison.{Comparison}
use Rattle.fzn_meaning.specs.declared.relation.Comparison.TheVariants.{AtMost, Equal, NotEqual}
use Rattle.fzn_values.specs.Term.{total_by}
use Rattle.fzn_sets.specs.Terms.{least_value, greatest_value, IsFixedTo}

-- the value at which a place gives least, and the one at which it gives most
abbrev pub low_end : List IntSet → Place → ℤ
low_end sets place = if int_lt place.coefficient (pos 0) then greatest_value sets place.term else least_value sets place.term

abbrev pub high_end : List IntSet → Place → ℤ
high_end sets place = if int_lt place.coefficient (pos 0) then least_value sets place.term else greatest_value sets place.term

unfoldable pub low_product : List IntSet → Place → ℤ
low_product sets place = place.coefficient *ℤ low_end sets place

unfoldable pub high_product : List IntSet → Place → ℤ
high_product sets place = place.coefficient *ℤ high_end sets place

abbrev pub least_sum : List IntSet → List Place → ℤ
least_sum sets places = total_by (low_product sets) places

abbrev pub greatest_sum : List IntSet → List Place → ℤ
greatest_sum sets places = total_by (high_product sets) places

-- no sum from low to high compares so with the bound
abbrev pub NoneCompares : Comparison → ℤ → ℤ → ℤ → Type 0
NoneCompares AtMost low high bound = bound <ℤ low
NoneCompares Equal low high bound = (bound <ℤ low) ⊎ (high <ℤ bound)
NoneCompares NotEqual low high bound = (low ≡ bound) × (high ≡ bound)

-- every sum from low to high compares so with the bound
abbrev pub AllCompare : Comparison → ℤ → ℤ → ℤ → Type 0
AllCompare AtMost low high bound = high ≤ℤ bound
AllCompare Equal low high bound = (low ≡ bound) × (high ≡ bound)
AllCompare NotEqual low high bound = (bound <ℤ low) ⊎ (high <ℤ bound)

-- without a switch no sum compares so; with one it is fixed to 1 and no sum does, or to 0 and every sum does
abbrev pub IsExcluded : List IntSet → Option Term → Comparison → ℤ → ℤ → ℤ → Type 0
IsExcluded sets switch comparison low high bound = MatchOption switch (NoneCompares comparison low high bound) (λ term.
    (IsFixedTo sets term (pos 1) × NoneCompares comparison low high bound) ⊎ (IsFixedTo sets term (pos 0) × AllCompare comparison low high bound))
