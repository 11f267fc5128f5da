-- The numbers that a rule is given.
use Rattle.std.specs.Prelude.{ℤ, ◌≤ℤ◌, List, [], ◌∷◌}
use Rattle.fzn_rules.specs.declared.rule.TheConstants.{LEAST_HINT, GREATEST_HINT}
use Rattle.fzn_rules.specs.declared.rule.Rule.{Rule}
use Rattle.fzn_rules.specs.declared.rule.Rule.TheVariants.{Lin, Rows, Box, Fixed, Enum, Hall, Load, Energy, Cut, Pair, Row}

abbrev pub IsHint : ℤ → Type 0
IsHint hint = (LEAST_HINT ≤ℤ hint) × (hint ≤ℤ GREATEST_HINT)

abbrev pub hints_of : Rule → List ℤ
hints_of Lin = []
hints_of Rows = []
hints_of Box = []
hints_of Fixed = []
hints_of Enum = []
hints_of (Hall low high) = low ∷ high ∷ []
hints_of (Load time) = time ∷ []
hints_of (Energy from until) = from ∷ until ∷ []
hints_of (Cut places) = places
hints_of (Pair first second) = first ∷ second ∷ []
hints_of Row = []
