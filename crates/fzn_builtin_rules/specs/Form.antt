-- Constraints as a sum with a test, which a Boolean term may switch.
use Rattle.std.specs.Prelude.{ℕ, ◌*◌, ◌≤◌, ℤ, pos, negsuc, ◌-ℤ◌, List, [], ◌∷◌, ◌++◌, map, length, Option, Some, None, IsSomeAnd}
use Rattle.std.specs.List.{All}
use Rattle.fzn_list.specs.Limits.{longest}
use Rattle.fzn_domain.specs.IntSet.{IntSet}
use Rattle.fzn_domain.specs.Limits.{IsSmall}
use Rattle.fzn_values.specs.declared.term.Term.{Term}
use Rattle.fzn_values.specs.declared.term.Place.{Place}
use Rattle.fzn_meaning.specs.declared.relation.Relation.{Relation}
use Rattle.fzn_meaning.specs.declared.relation.Relation.TheVariants.{Equal, NotEqual, AtMost, Below}
use Rattle.fzn_meaning.specs.declared.relation.Comparison.{Comparison}
use Rattle.fzn_meaning.specs.declared.relation.Comparison.TheVariants as sum
use Rattle.fzn_meaning.specs.declared.arithmetic.Operation.TheVariants.{Plus}
use Rattle.fzn_meaning.specs.declared.boolean.Gate.{Gate}
use Rattle.fzn_meaning.specs.declared.boolean.Gate.TheVariants.{And, Or}
use Rattle.fzn_meaning.specs.declared.constraint.Constraint.{Constraint}
use Rattle.fzn_meaning.specs.declared.constraint.Constraint.TheVariants.{Compare, BoolNot, BoolToInt, Linear, BoolLinEq, Arithmetic, Gated, BoolClause}
use Rattle.fzn_values.specs.Term.{sum_at, IsPlace}
use Rattle.fzn_meaning.specs.Comparisons.{IsSwitched}
use Rattle.fzn_meaning.specs.Linear.{IsLinear}
use Rattle.fzn_meaning.specs.Meaning.{switch_value, IsSwitch}
use Rattle.fzn_builtin_rules.specs.Linear.{least_sum, greatest_sum, IsExcluded}

-- the sum over the places compares so with the bound; with a switch, exactly where this term is 1
pub record Form : Type 0 where
  pub places : List Place
  pub comparison : Comparison
  pub bound : ℤ
  pub switch : Option Term

abbrev pub form : List Place → Comparison → ℤ → Option Term → Form
form places comparison bound switch = record { places = places; comparison = comparison; bound = bound; switch = switch }

abbrev pub place_with : ℤ → Term → Place
place_with coefficient term = record { coefficient = coefficient; term = term }

-- the same coefficient at each term
abbrev pub each_with : ℤ → List Term → List Place
each_with coefficient terms = map (place_with coefficient) terms

-- the one term less the other
abbrev pub difference : Term → Term → List Place
difference left right = place_with (pos 1) left ∷ place_with (negsuc 0) right ∷ []

-- how the difference of two terms that stand so compares with a bound
abbrev pub comparison_of : Relation → Comparison
comparison_of Equal = sum.Equal
comparison_of NotEqual = sum.NotEqual
comparison_of AtMost = sum.AtMost
comparison_of Below = sum.AtMost

abbrev pub bound_of : Relation → ℤ
bound_of Equal = pos 0
bound_of NotEqual = pos 0
bound_of AtMost = pos 0
bound_of Below = negsuc 0

-- what the inputs, each counted -1, are at most where they pass
abbrev pub passing_bound : Gate → List Term → ℤ
passing_bound And inputs = pos 0 -ℤ pos (length inputs)
passing_bound Or inputs = negsuc 0

unfoldable pub form_of : Constraint → Option Form
form_of (Compare relation left right switch) = Some (form (difference left right) (comparison_of relation) (bound_of relation) switch)
form_of (BoolNot left right) = Some (form (place_with (pos 1) left ∷ place_with (pos 1) right ∷ []) sum.Equal (pos 1) None)
form_of (BoolToInt boolean integer) = Some (form (difference boolean integer) sum.Equal (pos 0) None)
form_of (Linear places comparison bound switch) = Some (form places comparison bound switch)
form_of (BoolLinEq places total) = Some (form (places ++ place_with (negsuc 0) total ∷ []) sum.Equal (pos 0) None)
form_of (Arithmetic Plus left right result) = Some (form (place_with (pos 1) left ∷ place_with (pos 1) right ∷ place_with (negsuc 0) result ∷ []) sum.Equal (pos 0) None)
form_of (Gated gate inputs result) = Some (form (each_with (negsuc 0) inputs) sum.AtMost (passing_bound gate inputs) (Some result))
form_of (BoolClause positive negative) = Some (form (each_with (pos 1) negative ++ each_with (negsuc 0) positive) sum.AtMost (pos (length negative) -ℤ pos 1) None)
form_of _ = None

-- the sum compares so with the bound; with a switch, exactly where this term is 1
abbrev pub FormHolds : Form → List ℤ → Type 0
FormHolds found values = IsSwitched (switch_value values found.switch) (IsLinear found.comparison (sum_at values found.places) found.bound)

abbrev pub IsFormMet : Form → List IntSet → Type 0
IsFormMet found sets = IsExcluded sets found.switch found.comparison (least_sum sets found.places) (greatest_sum sets found.places) found.bound

-- lin: a constraint that has a form, by that form
abbrev pub IsLinMet : Constraint → List IntSet → Type 0
IsLinMet constraint sets = IsSomeAnd (form_of constraint) (λ found. IsFormMet found sets)

-- places and a switch over this many variables, and numbers within the limits
pub record Fits (count : ℕ) (found : Form) : Type 0 where
  pub places_fit : All (IsPlace count) found.places
  pub short : length found.places ≤ 2 * longest
  pub bounded : IsSmall found.bound
  pub switch_fits : IsSwitch count found.switch
