-- Positions in a file, and faults at positions.
use Rattle.std.specs.Prelude.{Bool, List, [], ◌∷◌, Option, Some, None, map, if◌then◌else◌}
use Rattle.fzn_lexer.specs.declared.fault.Fault.{Fault}
use Rattle.fzn_lexer.specs.declared.fault.FaultKind.{FaultKind}
use Rattle.fzn_lexer.specs.declared.token.Position.{Position}
use Rattle.fzn_tree.specs.declared.tree.Basic.{Basic}
use Rattle.fzn_tree.specs.declared.tree.Basic.TheVariants as basics
use Rattle.fzn_tree.specs.declared.tree.Literal.{Literal}
use Rattle.fzn_tree.specs.declared.tree.Literal.TheVariants as l

abbrev pub first : {A : Type 0} → List A → Option A
first [] = None
first (x ∷ xs) = Some x

-- this one alone, where the test holds
abbrev pub when : {A : Type 0} → Bool → A → List A
when test x = if test then x ∷ [] else []

-- a fault of this kind at each position
abbrev pub at : FaultKind → List Position → List Fault
at kind positions = map (λ position. record { kind = kind; position = position }) positions

-- ---- where the first token of each stands

abbrev pub position_of_literal : Literal → Position
position_of_literal (l.Bool value position) = position
position_of_literal (l.Int number) = number.position
position_of_literal (l.Range range) = range.low.position
position_of_literal (l.Set position values) = position

abbrev pub position_of : Basic → Position
position_of (basics.Literal literal) = position_of_literal literal
position_of (basics.Name name) = name.position
