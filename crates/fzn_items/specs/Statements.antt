-- The line of each constraint.
use Rattle.std.specs.Prelude.{ℕ, ◌+◌, List, [], ◌∷◌, ◌++◌, Option, Some, None, codes, length}
use Rattle.std.specs.List.{flat_map}
use Rattle.std.specs.Fmt.{decimal}
use Rattle.fzn_domain.specs.declared.literal.VarId.{VarId}
use Rattle.fzn_lexer.specs.declared.token.Span.{Span}
use Rattle.fzn_meaning.specs.declared.model.Kind.{Kind}
use Rattle.fzn_meaning.specs.declared.model.Kind.TheVariants.{Integer, Boolean}
use Rattle.fzn_names.specs.Values.{NameList, meaning_of, term_of}
use Rattle.fzn_names.specs.Variables.{kind_of}
use Rattle.fzn_names.specs.declared.names.Declared.{Declared}
use Rattle.fzn_names.specs.declared.names.Declared.TheVariants.{Variable, Array}
use Rattle.fzn_tree.specs.declared.tree.Arg.{Arg}
use Rattle.fzn_tree.specs.declared.tree.Arg.TheVariants as args
use Rattle.fzn_tree.specs.declared.tree.Base.{Base}
use Rattle.fzn_tree.specs.declared.tree.Base.TheVariants as bases
use Rattle.fzn_tree.specs.declared.tree.Basic.{Basic}
use Rattle.fzn_tree.specs.declared.tree.Basic.TheVariants as basics
use Rattle.fzn_tree.specs.declared.tree.Con.{Con}
use Rattle.fzn_tree.specs.declared.tree.Name.{Name}
use Rattle.fzn_tree.specs.declared.tree.SingleVar.{SingleVar}
use Rattle.fzn_tree.specs.declared.tree.Var.{Var}
use Rattle.fzn_tree.specs.declared.tree.Var.TheVariants as vars
use Rattle.fzn_typing.specs.Models.{written}
use Rattle.fzn_items.specs.Marks.{defined_by}
use Rattle.fzn_items.specs.Pieces.{span_text, position_text, variable_text, number_text}

-- ---- arguments

-- the number of a variable, or the name of an array of variables; nothing for what else has a name
abbrev pub named_text : List ℕ → Option Declared → List ℕ
named_text name (Some (Variable kind var)) = variable_text var
named_text name (Some (Array kind entries)) = codes " " ++ name
named_text name _ = []

abbrev pub name_text : NameList → Name → List ℕ
name_text names name = named_text name.text (meaning_of names name.text)

abbrev pub basic_text : NameList → Basic → List ℕ
basic_text names (basics.Literal literal) = []
basic_text names (basics.Name name) = name_text names name

-- of an array literal the numbers of its variables
abbrev pub arg_text : NameList → Arg → List ℕ
arg_text names (args.Basic basic) = basic_text names basic
arg_text names (args.Array array) = flat_map (λ entry. number_text (term_of names entry)) array.entries

-- ---- one constraint

abbrev pub defines_text : Option VarId → List ℕ
defines_text None = []
defines_text (Some var) = codes " defines" ++ variable_text var

-- the number of the constraint, and its name
abbrev pub numbered_text : ℕ → List ℕ → List ℕ
numbered_text number name = codes "constraint " ++ decimal number ++ codes " " ++ name

-- the same, the item that states it, and what it defines
abbrev pub head_of : ℕ → List ℕ → Span → Option VarId → List ℕ
head_of number name item defined = numbered_text number name ++ position_text item.position ++ span_text item ++ defines_text defined ++ codes " :"

-- the same, and what it is about
abbrev pub statement_line : ℕ → List ℕ → Span → Option VarId → List ℕ → List ℕ
statement_line number name item defined about = head_of number name item defined ++ about ++ codes "\n"

-- ---- constraint items

abbrev pub con_line : NameList → ℕ → Span → Con → List ℕ
con_line names number item con = statement_line number con.name.text item (defined_by names con.anns) (flat_map (arg_text names) con.args)

-- the lines of these constraint items, where the first has this number
abbrev pub con_lines : NameList → ℕ → List Con → List Span → List ℕ
con_lines names number [] items = []
con_lines names number (con ∷ cons) [] = []
con_lines names number (con ∷ cons) (item ∷ items) = con_line names number item con ++ con_lines names (number + 1) cons items

-- ---- declarations

abbrev pub equality_name : Kind → List ℕ
equality_name Integer = codes "int_eq"
equality_name Boolean = codes "bool_eq"

-- `= e` behind a variable x is about x and e
abbrev pub pair_text : NameList → Name → Basic → List ℕ
pair_text names name value = name_text names name ++ basic_text names value

abbrev pub equality_line : NameList → ℕ → Span → SingleVar → Basic → List ℕ
equality_line names number item var value = statement_line number (equality_name (kind_of var.base)) item None (pair_text names var.name value)

abbrev pub value_lines : NameList → ℕ → Span → SingleVar → Option Basic → List ℕ
value_lines names number item var None = []
value_lines names number item var (Some value) = equality_line names number item var value

abbrev pub entry_line : NameList → ℕ → Span → Basic → List ℕ
entry_line names number item entry = statement_line number (codes "set_in") item None (number_text (term_of names entry))

abbrev pub entry_lines : NameList → ℕ → Span → List Basic → List ℕ
entry_lines names number item [] = []
entry_lines names number item (entry ∷ more) = entry_line names number item entry ++ entry_lines names (number + 1) item more

-- entries of a range or a listed set are about one entry each
abbrev pub element_lines : NameList → ℕ → Span → Base → List Basic → List ℕ
element_lines names number item (bases.Values values) entries = entry_lines names number item entries
element_lines names number item _ entries = []

-- the constraints that a declaration states
abbrev pub var_lines : NameList → ℕ → Span → Var → List ℕ
var_lines names number item (vars.Single var) = value_lines names number item var var.value
var_lines names number item (vars.Array var) = element_lines names number item var.base var.array.entries

-- the lines of what these declarations state, where the first constraint has this number
abbrev pub written_lines : NameList → ℕ → List Var → List Span → List ℕ
written_lines names number [] items = []
written_lines names number (var ∷ vars) [] = []
written_lines names number (var ∷ vars) (item ∷ items) = var_lines names number item var ++ written_lines names (number + length (written names var)) vars items
