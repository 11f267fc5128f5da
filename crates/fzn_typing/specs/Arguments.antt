-- Arguments of constraints: where they are faulty, and what they stand for.
use Rattle.std.specs.Prelude.{ℕ, ◌%◌, Bool, true, ◌&&◌, ◌||◌, ℤ, pos, List, [], ◌∷◌, ◌++◌, Option, Some, None, flat_map, length, slice_get, nat_eq, nat_lt, is_none}
use Rattle.std.specs.List.{list_any}
use Rattle.fzn_domain.specs.IntSet.{IntSet, no_values}
use Rattle.fzn_lexer.specs.declared.token.Position.{Position}
use Rattle.fzn_values.specs.declared.term.Term.{Term}
use Rattle.fzn_values.specs.declared.term.Term.TheVariants as terms
use Rattle.fzn_values.specs.Term.{number_in, numbers_in}
use Rattle.fzn_names.specs.Positions.{first}
use Rattle.fzn_names.specs.Types.{sets_in, unknown_in, wrong_in}
use Rattle.fzn_names.specs.Values.{NameList, basic_meaning, term_of, entry_terms, terms_meant, set_in}
use Rattle.fzn_names.specs.Signs.{is_negative}
use Rattle.fzn_tree.specs.declared.tree.Arg.{Arg}
use Rattle.fzn_tree.specs.declared.tree.Arg.TheVariants as args
use Rattle.fzn_tree.specs.declared.tree.Array.{Array}
use Rattle.fzn_registry.specs.declared.signature.Argument.{Argument}
use Rattle.fzn_registry.specs.declared.signature.Argument.TheVariants.{Integer, Boolean, IntegerConstant, BooleanConstant, IntegerList, BooleanList, IntegerConstantList, BooleanConstantList}
use Rattle.fzn_registry.specs.declared.signature.Lengths.{Lengths}
use Rattle.fzn_registry.specs.declared.signature.Lengths.TheVariants.{Free, SameLength, NotEmpty, Table, Tasks}

-- ---- where arguments are faulty, in the order in which they are written

-- at an entry that is a set
abbrev pub set_entries : NameList → Arg → List Position
set_entries names (args.Basic basic) = []
set_entries names (args.Array array) = flat_map (sets_in names) array.entries

-- at a name that is not declared
abbrev pub unknown_names : NameList → Arg → List Position
unknown_names names (args.Basic basic) = unknown_in names basic
unknown_names names (args.Array array) = flat_map (unknown_in names) array.entries

-- what the entries of a list are to be
abbrev pub entry_of : Argument → Option Argument
entry_of IntegerList = Some Integer
entry_of BooleanList = Some Boolean
entry_of IntegerConstantList = Some IntegerConstant
entry_of BooleanConstantList = Some BooleanConstant
entry_of _ = None

-- at entries of another type than is wanted, or at the bracket where no list is wanted
abbrev pub wrong_entries : NameList → Option Argument → Array → List Position
wrong_entries names None array = array.position ∷ []
wrong_entries names (Some wanted) array = flat_map (wrong_in names wanted) array.entries

abbrev pub wrong_parts : NameList → Argument → Arg → List Position
wrong_parts names wanted (args.Basic basic) = wrong_in names wanted basic
wrong_parts names wanted (args.Array array) = wrong_entries names (entry_of wanted) array

abbrev pub wrong_arguments : NameList → List Argument → List Arg → List Position
wrong_arguments names (wanted ∷ more) (arg ∷ others) = wrong_parts names wanted arg ++ wrong_arguments names more others
wrong_arguments names _ _ = []

-- as many arguments as are wanted, and none of another type
abbrev pub has_types : NameList → List Argument → List Arg → Bool
has_types names wanted all = nat_eq (length all) (length wanted) && is_none (first (wrong_arguments names wanted all))

-- ---- what arguments stand for; else 0, no entries and no values, which no model has where nothing is faulty

abbrev pub term_given : NameList → Option Arg → Term
term_given names (Some (args.Basic basic)) = term_of names basic
term_given names _ = terms.Constant (pos 0)

abbrev pub terms_given : NameList → Option Arg → List Term
terms_given names None = []
terms_given names (Some (args.Basic basic)) = terms_meant (basic_meaning names basic)
terms_given names (Some (args.Array array)) = entry_terms names array.entries

abbrev pub set_given : NameList → Option Arg → IntSet
set_given names (Some (args.Basic basic)) = set_in (basic_meaning names basic)
set_given names _ = no_values

-- the argument at this place
abbrev pub argument_term : NameList → List Arg → ℕ → Term
argument_term names all i = term_given names (slice_get all i)

abbrev pub terms_at : NameList → List Arg → ℕ → List Term
terms_at names all i = terms_given names (slice_get all i)

abbrev pub set_at : NameList → List Arg → ℕ → IntSet
set_at names all i = set_given names (slice_get all i)

abbrev pub number_given : NameList → List Arg → ℕ → ℤ
number_given names all i = number_in (argument_term names all i)

abbrev pub numbers_at : NameList → List Arg → ℕ → List ℤ
numbers_at names all i = numbers_in (terms_at names all i)

-- ---- lengths and signs

abbrev pub length_at : NameList → List Arg → ℕ → ℕ
length_at names all i = length (terms_at names all i)

abbrev pub has_lengths : NameList → Lengths → List Arg → Bool
has_lengths names Free all = true
has_lengths names (SameLength a b) all = nat_eq (length_at names all a) (length_at names all b)
has_lengths names (NotEmpty a) all = nat_lt 0 (length_at names all a)
has_lengths names (Table row table) all = nat_lt 0 (length_at names all row) && nat_eq (length_at names all table % length_at names all row) 0
has_lengths names (Tasks a b c) all = nat_eq (length_at names all a) (length_at names all b) && nat_eq (length_at names all b) (length_at names all c)

-- a constant below 0 is at this place, alone or among entries
abbrev pub has_negative : NameList → List Arg → ℕ → Bool
has_negative names all i = is_negative (argument_term names all i) || list_any is_negative (terms_at names all i)
