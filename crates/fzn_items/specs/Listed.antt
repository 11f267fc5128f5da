-- The list of the items of a file.
use Rattle.std.specs.Prelude.{◌≡◌, ◌≢◌, ◌⊎◌, ◌+◌, ◌-◌, ℕ, List, [], ◌++◌, Option, None, Some, IfSome, Ok, Err, length}
use Rattle.std.specs.List.{All, flat_map}
use Rattle.fzn_lexer.specs.declared.fault.Fault.{Fault}
use Rattle.fzn_lexer.specs.declared.halt.Halt.{Halt}
use Rattle.fzn_lexer.specs.declared.halt.Halt.TheVariants as errors
use Rattle.fzn_lexer.specs.declared.token.Span.{Span}
use Rattle.fzn_lexer.specs.declared.token.Token.{Token}
use Rattle.fzn_lexer.specs.Tokens.{Lexes}
use Rattle.fzn_meaning.specs.declared.model.Model.{Model}
use Rattle.fzn_parser.specs.Parse.{IsTree}
use Rattle.fzn_reading.specs.Over.{IsAnnotationOver}
use Rattle.fzn_reading.specs.Reads.{Reads}
use Rattle.fzn_strategy.specs.declared.annotation.Annotation.{Annotation}
use Rattle.fzn_tree.specs.declared.tree.Tree.{Tree}
use Rattle.fzn_typing.specs.Faults.{faults_of, tree_names}
use Rattle.fzn_typing.specs.Typed.{IsTyped}
use Rattle.fzn_mending.specs.declared.places.ConstantGoal.{ConstantGoal}
use Rattle.fzn_items.specs.declared.counts.Counts.{Counts}
use Rattle.fzn_mending.specs.declared.places.Place.{Place}
use Rattle.fzn_sources.specs.Items.{item_spans, parameter_items, declaration_items, constraint_items, goal_items}
use Rattle.fzn_items.specs.Declarations.{parameter_lines, declaration_lines}
use Rattle.fzn_items.specs.Statements.{con_lines, written_lines}
use Rattle.fzn_mending.specs.Mending.{mended, mended_places, constant}
use Rattle.fzn_items.specs.Ending.{search_line, goal_line, place_line, constant_line, counts_line}

-- ---- the text

-- the lines of declarations and constraints, with these items
abbrev pub statements_text : Tree → List Span → List ℕ
statements_text tree items =
    parameter_lines tree.params (parameter_items tree items)
    ++ declaration_lines (tree_names tree) tree.vars (declaration_items tree items)
    ++ con_lines (tree_names tree) 1 tree.cons (constraint_items tree items)
    ++ written_lines (tree_names tree) (1 + length tree.cons) tree.vars (declaration_items tree items)

-- the lines of what is mended, in the file that has these bytes
abbrev pub mended_text : List ℕ → List Place → Option ConstantGoal → List ℕ
mended_text bytes types goal = flat_map (place_line bytes) types ++ constant_line goal

abbrev pub constant_count : Option ConstantGoal → ℕ
constant_count None = 0
constant_count (Some goal) = 1

-- how many of each there are, and how many places are mended
abbrev pub listed_counts : Tree → Model → List Place → Option ConstantGoal → Counts
listed_counts tree model types goal = record {
  parameters = length tree.params;
  variables = length model.vars;
  arrays = length tree.vars - length model.vars;
  constraints = length model.constraints;
  mended = length types + constant_count goal;
}

abbrev pub items_text : List ℕ → Tree → List Span → Model → List Annotation → List Place → Option ConstantGoal → List ℕ
items_text bytes tree items model annotations types goal =
    statements_text tree items
    ++ flat_map search_line annotations
    ++ goal_line goal model.goal (goal_items tree items)
    ++ mended_text bytes types goal
    ++ counts_line (listed_counts tree model types goal)

-- ---- the answer

-- the text lists the model of this tree, with some search annotations over its variables
pub record IsList (bytes : List ℕ) (tree : Tree) (items : List Span) (model : Model) (types : List Place) (goal : Option ConstantGoal) (text : List ℕ) (counts : Counts) : Type 0 where
  pub annotations : List Annotation
  pub over : All (IsAnnotationOver (length model.vars)) annotations
  pub is : text ≡ items_text bytes tree items model annotations types goal
  pub counted : counts ≡ listed_counts tree model types goal

-- Where the file has no fault, the tree listed is its own and nothing is mended. Else it is that of its tokens mended.
abbrev pub IsOwnOrMended : List Token → Tree → Tree → List Place → Option ConstantGoal → Type 0
IsOwnOrMended tokens stated tree types goal =
    ((faults_of stated ≡ []) × (tree ≡ stated) × (types ≡ []) × (goal ≡ None))
    ⊎ ((faults_of stated ≢ []) × IsTree (mended stated.params tokens) tree × (types ≡ mended_places stated.params tokens) × (goal ≡ constant stated.params tokens))

-- The bytes state a model, or would do so mended, and the text lists it.
pub record IsListing (bytes text : List ℕ) (counts : Counts) : Type 0 where
  pub tokens : List Token
  pub lexed : Lexes bytes (Ok tokens)
  pub stated : Tree
  pub parsed : IsTree tokens stated
  pub tree : Tree
  pub types : List Place
  pub goal : Option ConstantGoal
  pub mending : IsOwnOrMended tokens stated tree types goal
  pub model : Model
  pub typed : IsTyped tree (Ok model)
  pub list : IsList bytes tree (item_spans tokens) model types goal text counts

-- this fault, unless memory ran out
abbrev pub IsFaultOrMemory : Fault → Halt Fault → Type 0
IsFaultOrMemory fault errors.Memory = Unit {0}
IsFaultOrMemory fault (errors.Fault other) = other ≡ fault

-- else they have this first fault
abbrev pub IsListingFault : List ℕ → Halt Fault → Type 0
IsListingFault bytes halt = Reads bytes (Err halt)

-- the same of the whole file
pub record Itemizes (file : Option (List ℕ)) (text : List ℕ) (counts : Counts) : Type 0 where
  pub bytes : List ℕ
  pub whole : IfSome file (λ all. all ≡ bytes)
  pub listing : IsListing bytes text counts
