-- The text of an answer (MiniZinc Handbook, "FlatZinc output").
use Rattle.std.specs.Prelude.{◌≡◌, ℕ, Bool, true, false, ℤ, pos, List, [], ◌∷◌, ◌++◌, codes, length, if◌then◌else◌}
use Rattle.std.specs.List.{flat_map}
use Rattle.std.specs.Fmt.{decimal, signed_decimal}
use Rattle.std.specs.Ordering.{int_eq}
use Rattle.fzn_domain.specs.Narrow.{value_of}
use Rattle.fzn_meaning.specs.declared.model.Kind.{Kind}
use Rattle.fzn_meaning.specs.declared.model.Kind.TheVariants.{Integer, Boolean}
use Rattle.fzn_meaning.specs.declared.model.IndexRange.{IndexRange}
use Rattle.fzn_meaning.specs.declared.model.OutputItem.{OutputItem}
use Rattle.fzn_meaning.specs.declared.model.OutputItem.TheVariants.{Single, Array}
use Rattle.fzn_meaning.specs.declared.model.Model.{Model}
use Rattle.fzn_values.specs.declared.term.Term.{Term}
use Rattle.fzn_values.specs.Term.{term_value}
use Rattle.fzn_printer.specs.declared.printer.Ending.{Ending}
use Rattle.fzn_printer.specs.declared.printer.Ending.TheVariants.{Complete, Unsatisfiable, NodeLimit, SolutionLimit}

-- an integer in decimal; 0 is `false` and 1 is `true`
abbrev pub value_text : Kind → ℤ → List ℕ
value_text Integer value = signed_decimal value
value_text Boolean value = if int_eq value (pos 0) then codes "false" else codes "true"

abbrev pub entry_text : Kind → List ℤ → Term → List ℕ
entry_text kind values term = value_text kind (term_value values term)

-- the first, and each further one after a comma and a space
abbrev pub entries_text : Kind → List ℤ → List Term → List ℕ
entries_text kind values [] = []
entries_text kind values (first ∷ further) = entry_text kind values first ++ flat_map (λ entry. codes ", " ++ entry_text kind values entry) further

-- the entries in brackets
abbrev pub list_text : Kind → List ℤ → List Term → List ℕ
list_text kind values entries = codes "[" ++ entries_text kind values entries ++ codes "]"

-- both bounds as they were given
abbrev pub range_text : IndexRange → List ℕ
range_text range = signed_decimal range.low ++ codes ".." ++ signed_decimal range.high

-- the line of a marked declaration
abbrev pub item_text : List ℤ → OutputItem → List ℕ
item_text values (Single name kind var) = name ++ codes " = " ++ value_text kind (value_of values var) ++ (codes ";" ++ 10 ∷ [])
item_text values (Array name kind ranges entries) =
    name ++ codes " = array" ++ decimal (length ranges) ++ codes "d("
    ++ flat_map (λ range. range_text range ++ codes ", ") ranges ++ list_text kind values entries ++ (codes ");" ++ 10 ∷ [])

-- the lines of the marked declarations, and ten dashes
abbrev pub shown : Model → List ℤ → List ℕ
shown model values = flat_map (item_text values) model.shown ++ (codes "----------" ++ 10 ∷ [])

-- whether nothing is left to find
abbrev pub is_closed : Ending → Bool
is_closed Complete = true
is_closed Unsatisfiable = true
is_closed NodeLimit = false
is_closed SolutionLimit = false

-- the line that ends an answer, by whether it is closed and whether a solution was printed
abbrev pub ending_text : Bool → Bool → List ℕ
ending_text true true = codes "==========" ++ 10 ∷ []
ending_text true false = codes "=====UNSATISFIABLE=====" ++ 10 ∷ []
ending_text false true = []
ending_text false false = codes "=====UNKNOWN=====" ++ 10 ∷ []
