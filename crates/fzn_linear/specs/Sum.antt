-- A sum with its opposite places, and what is found, or left alone, where it compares with a bound.
use Rattle.std.specs.Prelude.{◌≡◌, ℕ, ◌≤◌, Bool, List, length, unsigned_abs}
use Rattle.std.proofs.Props.{props}
use Rattle.std.specs.List.{All}
use Rattle.fzn_domain.specs.declared.literal.Lit.{Lit}
use Rattle.fzn_domain.specs.IntSet.{IntSet}
use Rattle.fzn_values.specs.declared.term.Place.{Place}
use Rattle.fzn_values.specs.Term.{IsPlace}
use Rattle.fzn_builtin_rules.specs.Form.{Form, IsFormMet}
use Rattle.fzn_trail.specs.Levels.{Levels}
use Rattle.fzn_terms.specs.Values.{IsTerm-prop}
use Rattle.fzn_propagator.specs.Clause.{IsJustifiedBy}
use Rattle.fzn_sum.specs.Opposite.{opposites}
use Rattle.fzn_sum.specs.Refuted.{LeavesEach}
use Rattle.fzn_linear.specs.Switched.{form_where, IsSwitchAt}
use Rattle.fzn_linear.specs.declared.form.SumForm.{SumForm}

-- a sum over some of this many variables, with its opposite places
pub record IsSumWithOpposite (count : ℕ) (sum : SumForm) (opposite : List Place) : Type 0 where
  pub places_fit : All (IsPlace count) sum.places
  pub opposite_fit : All (IsPlace count) opposite
  pub short : length sum.places ≤ 200000
  pub opposite_short : length opposite ≤ 200000
  pub opposite_is : opposite ≡ opposites sum.places
  pub bounded : unsigned_abs sum.bound ≤ 1000000001

pub IsSum-prop : (count : ℕ) (sum : SumForm) (opposite : List Place) → IsProp (IsSumWithOpposite count sum opposite)
IsSum-prop count sum opposite = Prim.hlevel (props, IsTerm-prop)

-- a clause that is false or forces one literal, and on whose denied sets the form is met by the rule
abbrev pub IsFound : Levels → Form → List Lit → Type 0
IsFound trail found clause = IsJustifiedBy trail (IsFormMet found) clause

-- the ends of the sum leave what the form says of it
abbrev pub IsFormLeft : List IntSet → Form → Type 0
IsFormLeft sets found = LeavesEach sets found.comparison found.places found.bound

-- so of what has to hold by the value of the switch, where it has one
abbrev pub IsLeftAlone : List IntSet → Form → Type 0
IsLeftAlone sets found = (on : Bool) → IsSwitchAt sets found.switch on → IsFormLeft sets (form_where on found)
