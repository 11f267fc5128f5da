-- What literals and names stand for.
use Rattle.std.specs.Prelude.{ℕ, true, false, ℤ, pos, List, [], Option, Some, None, map, bytes_eq}
use Rattle.std.specs.FinSet as set
use Rattle.std.specs.Map.{lookup}
use Rattle.fzn_domain.specs.IntSet.{IntSet, no_values, range}
use Rattle.fzn_meaning.specs.declared.model.Kind.TheVariants.{Integer, Boolean}
use Rattle.fzn_values.specs.declared.term.Term.{Term}
use Rattle.fzn_values.specs.declared.term.Term.TheVariants as terms
use Rattle.fzn_names.specs.declared.names.Declared.{Declared}
use Rattle.fzn_names.specs.declared.names.Declared.TheVariants.{Constant, Set, Constants, Array, Variable}
use Rattle.fzn_tree.specs.declared.tree.Basic.{Basic}
use Rattle.fzn_tree.specs.declared.tree.Basic.TheVariants as basics
use Rattle.fzn_tree.specs.declared.tree.Literal.{Literal}
use Rattle.fzn_tree.specs.declared.tree.Literal.TheVariants as l

-- names, in order of declaration
abbrev pub NameList : Type 0
NameList = List (List ℕ × Declared)

-- what the name stands for, if it is declared
abbrev pub meaning_of : NameList → List ℕ → Option Declared
meaning_of names text = lookup (bytes_eq text) names

abbrev pub listed_set : List ℤ → IntSet
listed_set values = set.from_list values

abbrev pub literal_value : Literal → Declared
literal_value (l.Bool true position) = Constant Boolean (pos 1)
literal_value (l.Bool false position) = Constant Boolean (pos 0)
literal_value (l.Int number) = Constant Integer number.value
literal_value (l.Range r) = Set (range r.low.value r.high)
literal_value (l.Set position values) = Set (listed_set values)

-- none where the name is not declared
abbrev pub basic_meaning : NameList → Basic → Option Declared
basic_meaning names (basics.Literal literal) = Some (literal_value literal)
basic_meaning names (basics.Name name) = meaning_of names name.text

-- ---- terms

-- a constant or a variable; else 0, which no model has where nothing is faulty
abbrev pub value_term : Declared → Term
value_term (Constant kind value) = terms.Constant value
value_term (Variable kind var) = terms.Variable var
value_term _ = terms.Constant (pos 0)

abbrev pub term_in : Option Declared → Term
term_in None = terms.Constant (pos 0)
term_in (Some value) = value_term value

abbrev pub term_of : NameList → Basic → Term
term_of names basic = term_in (basic_meaning names basic)

abbrev pub entry_terms : NameList → List Basic → List Term
entry_terms names entries = map (term_of names) entries

-- the entries of an array; else none, as above
abbrev pub value_terms : Declared → List Term
value_terms (Constants kind entries) = entries
value_terms (Array kind entries) = entries
value_terms _ = []

abbrev pub terms_meant : Option Declared → List Term
terms_meant None = []
terms_meant (Some value) = value_terms value

-- a set; else none, as above
abbrev pub value_set : Declared → IntSet
value_set (Set values) = values
value_set _ = no_values

abbrev pub set_in : Option Declared → IntSet
set_in None = no_values
set_in (Some value) = value_set value
