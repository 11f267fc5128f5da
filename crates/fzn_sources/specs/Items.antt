-- The items of a file, and which of them states which constraint.
use Rattle.std.specs.Prelude.{◌≡◌, List, [], ◌∷◌, ◌++◌, Option, Some, None, Ok, IsSome, if◌then◌else◌, drop, length, map}
use Rattle.fzn_lexer.specs.declared.token.Span.{Span}
use Rattle.fzn_lexer.specs.declared.token.Symbol.TheVariants.{Semicolon}
use Rattle.fzn_lexer.specs.declared.token.Token.{Token}
use Rattle.fzn_lexer.specs.Kinds.{is_symbol}
use Rattle.fzn_lexer.specs.Tokens.{Lexes}
use Rattle.fzn_meaning.specs.declared.constraint.Constraint.{Constraint}
use Rattle.fzn_parser.specs.Parse.{IsTree}
use Rattle.fzn_registry.specs.Registry.{name_spelled}
use Rattle.fzn_tree.specs.declared.tree.Con.{Con}
use Rattle.fzn_tree.specs.declared.tree.Tree.{Tree}
use Rattle.fzn_typing.specs.Faults.{tree_names}
use Rattle.fzn_typing.specs.Models.{stated, written}
use Rattle.std.specs.Prelude.{ℕ}

-- ---- items

-- the item that has begun, or else one that begins here
abbrev pub begun_or : Option Span → Span → Span
begun_or (Some item) span = item
begun_or None span = span

-- the items of these tokens, where one may have begun before: each goes from its first token to its `;`
abbrev pub items_from : Option Span → List Token → List Span
items_from begun [] = []
items_from begun (token ∷ later) =
    if is_symbol Semicolon token.kind then record (begun_or begun token.span) { end = token.span.end } ∷ items_from None later
    else items_from (Some (begun_or begun token.span)) later

abbrev pub item_spans : List Token → List Span
item_spans tokens = items_from None tokens

-- ---- constraints

-- each constraint that these parts of a tree state, with the item of its part
abbrev pub stated_by : {Part : Type 0} → (Part → List Constraint) → List Part → List Span → List (Span × Constraint)
stated_by states [] items = []
stated_by states (part ∷ parts) [] = []
stated_by states (part ∷ parts) (item ∷ items) = map (λ constraint. (item, constraint)) (states part) ++ stated_by states parts items

-- A file has the items of its predicates, then of its parameters, then of its variables and arrays, then of its constraints, and then that of
-- its goal.
abbrev pub parameter_items : Tree → List Span → List Span
parameter_items tree items = drop (length tree.predicates) items

abbrev pub declaration_items : Tree → List Span → List Span
declaration_items tree items = drop (length tree.params) (parameter_items tree items)

abbrev pub constraint_items : Tree → List Span → List Span
constraint_items tree items = drop (length tree.vars) (declaration_items tree items)

abbrev pub goal_items : Tree → List Span → List Span
goal_items tree items = drop (length tree.cons) (constraint_items tree items)

-- the numbered constraints, each with the item that states it: those of the constraint items, and then those of the declarations
abbrev pub sourced : Tree → List Span → List (Span × Constraint)
sourced tree items =
    stated_by (stated (tree_names tree)) tree.cons (constraint_items tree items) ++ stated_by (written (tree_names tree)) tree.vars (declaration_items tree items)

abbrev pub item_in : Span × Constraint → Span
item_in source = source.0

abbrev pub constraint_in : Span × Constraint → Constraint
constraint_in source = source.1

-- these are the constraints of the bytes' model, and for each the item that states it
pub record AreSources (bytes : List ℕ) (constraints : List Constraint) (sources : List Span) : Type 0 where
  pub tokens : List Token
  pub lexed : Lexes bytes (Ok tokens)
  pub tree : Tree
  pub parsed : IsTree tokens tree
  pub items : sources ≡ map item_in (sourced tree (item_spans tokens))
  pub states : constraints ≡ map constraint_in (sourced tree (item_spans tokens))

-- the registry has the constraint's name
abbrev pub IsNamed : Con → Type 0
IsNamed con = IsSome (name_spelled con.name.text)
