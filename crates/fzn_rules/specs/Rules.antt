-- When a rule is met, and when a clause is accepted by one.
use Rattle.std.specs.Prelude.{◌≡◌, ◌⊎◌, true, List}
use Rattle.fzn_domain.specs.declared.literal.Lit.{Lit}
use Rattle.fzn_domain.specs.IntSet.{IntSet}
use Rattle.fzn_domain.specs.Narrow.{denied, is_some_empty}
use Rattle.fzn_meaning.specs.declared.constraint.Constraint.{Constraint}
use Rattle.fzn_rules.specs.declared.rule.Rule.{Rule}
use Rattle.fzn_rules.specs.declared.rule.Rule.TheVariants.{Lin, Rows, Box, Fixed, Enum, Hall, Load, Energy, Cut, Pair, Row}
use Rattle.fzn_builtin_rules.specs.Choices.{IsFixedMet, IsEnumMet}
use Rattle.fzn_rules.specs.Cut.{IsCutMet}
use Rattle.fzn_rules.specs.Energy.{IsEnergyMet}
use Rattle.fzn_builtin_rules.specs.Form.{IsLinMet}
use Rattle.fzn_rules.specs.GlobalRows.{IsGlobalRowsMet}
use Rattle.fzn_rules.specs.Hall.{IsHallMet}
use Rattle.fzn_rules.specs.Load.{IsLoadMet}
use Rattle.fzn_rules.specs.Pair.{IsPairMet}
use Rattle.fzn_rules.specs.Separable.{IsRowMet}
use Rattle.fzn_builtin_rules.specs.Product.{IsBoxMet}
use Rattle.fzn_builtin_rules.specs.Rows.{IsRowsMet}

-- The rule shows that no choice of one value from each set meets the constraint. It is asked for sets
-- of which none is empty. A rule on a constraint that it does not know is not met.
unfoldable pub IsMet : Constraint → List IntSet → Rule → Type 0
IsMet constraint sets Lin = IsLinMet constraint sets
IsMet constraint sets Rows = IsRowsMet constraint sets ⊎ IsGlobalRowsMet constraint sets
IsMet constraint sets Box = IsBoxMet constraint sets
IsMet constraint sets Fixed = IsFixedMet constraint sets
IsMet constraint sets Enum = IsEnumMet constraint sets
IsMet constraint sets (Hall low high) = IsHallMet constraint sets low high
IsMet constraint sets (Load time) = IsLoadMet constraint sets time
IsMet constraint sets (Energy from until) = IsEnergyMet constraint sets from until
IsMet constraint sets (Cut places) = IsCutMet constraint sets places
IsMet constraint sets (Pair first second) = IsPairMet constraint sets first second
IsMet constraint sets Row = IsRowMet constraint sets

-- A clause is accepted from a constraint where a set is empty without the values that make the clause
-- true, or where the rule is met on what is left.
abbrev pub IsAcceptedBy : Constraint → Rule → List IntSet → List Lit → Type 0
IsAcceptedBy constraint rule declared clause = (is_some_empty (denied declared clause) ≡ true) ⊎ IsMet constraint (denied declared clause) rule
