-- The faults of one variable or array.
use Rattle.std.specs.Prelude.{ℕ, ◌+◌, Bool, not, ◌&&◌, List, [], ◌∷◌, ◌++◌, Option, Some, None, flat_map, length, nat_eq, nat_lt}
use Rattle.fzn_lexer.specs.declared.fault.Fault.{Fault}
use Rattle.fzn_lexer.specs.declared.fault.FaultKind.TheVariants.{SetRefused, UnboundedInt, DuplicateName, UnknownName, «Type» as WrongType, Length, TooMany, OutputAnnotation}
use Rattle.fzn_lexer.specs.declared.token.Position.{Position}
use Rattle.fzn_meaning.specs.Meaning.{longest}
use Rattle.fzn_meaning.specs.declared.model.Kind.{Kind}
use Rattle.fzn_meaning.specs.declared.model.Kind.TheVariants as k
use Rattle.fzn_names.specs.Annotations.{is_bad_mark, is_bad_array_mark, mark_faults}
use Rattle.fzn_tree.specs.declared.tree.ArrayVar.{ArrayVar}
use Rattle.fzn_tree.specs.declared.tree.Base.{Base}
use Rattle.fzn_tree.specs.declared.tree.Base.TheVariants as bases
use Rattle.fzn_tree.specs.declared.tree.Basic.{Basic}
use Rattle.fzn_tree.specs.declared.tree.SingleVar.{SingleVar}
use Rattle.fzn_tree.specs.declared.tree.Var.{Var}
use Rattle.fzn_tree.specs.declared.tree.Var.TheVariants as vars
use Rattle.fzn_registry.specs.declared.signature.Argument.{Argument}
use Rattle.fzn_registry.specs.declared.signature.Argument.TheVariants.{Integer, Boolean}
use Rattle.fzn_names.specs.Positions.{when, at}
use Rattle.fzn_names.specs.Types.{sets_in, unknown_in, wrong_in, repeated}
use Rattle.fzn_names.specs.Values.{NameList}
use Rattle.fzn_names.specs.Variables.{kind_of}

abbrev pub set_types : Base → List Position
set_types (bases.Set position values) = position ∷ []
set_types _ = []

abbrev pub unbounded_types : Base → List Position
unbounded_types (bases.Int position) = position ∷ []
unbounded_types _ = []

-- a variable of the type, or an entry, takes a constant or a variable
abbrev pub wanted_of : Kind → Argument
wanted_of k.Integer = Integer
wanted_of k.Boolean = Boolean

abbrev pub unknown_values : NameList → Option Basic → List Position
unknown_values earlier None = []
unknown_values earlier (Some value) = unknown_in earlier value

abbrev pub wrong_written : NameList → Argument → Option Basic → List Position
wrong_written earlier wanted None = []
wrong_written earlier wanted (Some value) = wrong_in earlier wanted value

-- how many numbered constraints a declaration adds: one for a written value, one for each entry of a range or a listed set
abbrev pub added_by_value : Option Basic → ℕ
added_by_value None = 0
added_by_value (Some value) = 1

abbrev pub added_by_entries : Base → List Basic → ℕ
added_by_entries (bases.Values values) entries = length entries
added_by_entries _ entries = 0

abbrev pub added_by : Var → ℕ
added_by (vars.Single var) = added_by_value var.value
added_by (vars.Array var) = added_by_entries var.base var.array.entries

-- with these the constraints pass their limit
abbrev pub passes_limit : ℕ → ℕ → Bool
passes_limit before more = not (nat_lt longest before) && nat_lt longest (before + more)

-- the faults of a variable behind these names and this many constraints
unfoldable pub single_faults : NameList → ℕ → SingleVar → List Fault
single_faults earlier before var =
    at SetRefused (set_types var.base)
    ++ at UnboundedInt (unbounded_types var.base)
    ++ at DuplicateName (repeated earlier var.name)
    ++ at UnknownName (unknown_values earlier var.value)
    ++ at WrongType (wrong_written earlier (wanted_of (kind_of var.base)) var.value)
    ++ at TooMany (when (passes_limit before (added_by_value var.value)) var.name.position)
    ++ at OutputAnnotation (mark_faults is_bad_mark var.anns)

unfoldable pub array_faults : NameList → ℕ → ArrayVar → List Fault
array_faults earlier before var =
    at SetRefused (set_types var.base ++ flat_map (sets_in earlier) var.array.entries)
    ++ at DuplicateName (repeated earlier var.name)
    ++ at UnknownName (flat_map (unknown_in earlier) var.array.entries)
    ++ at WrongType (flat_map (wrong_in earlier (wanted_of (kind_of var.base))) var.array.entries)
    ++ at Length (when (not (nat_eq (length var.array.entries) var.size.count)) var.array.position)
    ++ at TooMany (when (passes_limit before (added_by_entries var.base var.array.entries)) var.name.position)
    ++ at OutputAnnotation (mark_faults (is_bad_array_mark (length var.array.entries)) var.anns)

abbrev pub var_faults : NameList → ℕ → Var → List Fault
var_faults earlier before (vars.Single var) = single_faults earlier before var
var_faults earlier before (vars.Array var) = array_faults earlier before var
