-- Lists in which one value is raised, and the place of a variable.
use Rattle.std.specs.Prelude.{ℕ, ℤ, pos, ◌+ℤ◌, zero, suc, Bool, if◌then◌else◌, List, [], ◌∷◌, Option}
use Rattle.std.specs.List.{position}
use Rattle.std.specs.Ordering.{int_eq}
use Rattle.fzn_domain.specs.declared.literal.VarId.{VarId}
use Rattle.fzn_values.specs.declared.term.Term.{Term}
use Rattle.fzn_meaning.specs.declared.row.Listed.{Listed}
use Rattle.fzn_meaning.specs.Separable.{listed_at}
use Rattle.fzn_dependence.specs.Decided.{is_place_of}
use Rattle.fzn_weights.specs.Weights.{both_weights}

-- what is listed for a value, and so much more where it is the one that is raised
abbrev pub raised_entry : Bool → Option ℤ → Option ℤ → Option ℤ
raised_entry is_raised entry more = if is_raised then both_weights entry more else entry

-- for each of so many values from low on: what was listed for it, and for this one value so much more
abbrev pub raised_from : ℤ → ℕ → ℤ → Option ℤ → Option Listed → List (Option ℤ)
raised_from low zero value more old = []
raised_from low (suc count) value more old = raised_entry (int_eq low value) (listed_at old low) more ∷ raised_from (low +ℤ pos 1) count value more old

-- the first place of the variable, counted from 0
abbrev pub place_in : VarId → List Term → Option ℕ
place_in var places = position (is_place_of var) places
