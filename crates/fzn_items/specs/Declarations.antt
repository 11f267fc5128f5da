-- The lines of parameters, variables and arrays.
use Rattle.std.specs.Prelude.{ℕ, ℤ, List, [], ◌∷◌, ◌++◌, codes, filter, length}
use Rattle.std.specs.List.{flat_map}
use Rattle.std.specs.Fmt.{signed_decimal}
use Rattle.fzn_lexer.specs.declared.token.Span.{Span}
use Rattle.fzn_meaning.specs.declared.model.IndexRange.{IndexRange}
use Rattle.fzn_names.specs.Annotations.{is_marked, is_array_mark, listed_terms, ranges_in}
use Rattle.fzn_names.specs.Values.{NameList, meaning_of, term_in, term_of}
use Rattle.fzn_tree.specs.declared.tree.Ann.{Ann, out-Ann}
use Rattle.fzn_tree.specs.declared.tree.ArrayVar.{ArrayVar}
use Rattle.fzn_tree.specs.declared.tree.Base.{Base}
use Rattle.fzn_tree.specs.declared.tree.Base.TheVariants as bases
use Rattle.fzn_tree.specs.declared.tree.Basic.{Basic}
use Rattle.fzn_tree.specs.declared.tree.Name.{Name}
use Rattle.fzn_tree.specs.declared.tree.Param.{Param}
use Rattle.fzn_tree.specs.declared.tree.SingleVar.{SingleVar}
use Rattle.fzn_tree.specs.declared.tree.Values.{Values}
use Rattle.fzn_tree.specs.declared.tree.Values.TheVariants as values_are
use Rattle.fzn_tree.specs.declared.tree.Var.{Var}
use Rattle.fzn_tree.specs.declared.tree.Var.TheVariants as vars
use Rattle.fzn_items.specs.Marks.{is_defined}
use Rattle.fzn_items.specs.Pieces.{span_text, mark_text, number_text, term_text}

-- ---- parameters

abbrev pub parameter_line : Span → Param → List ℕ
parameter_line item param = codes "parameter " ++ param.name.text ++ span_text item ++ codes "\n"

-- the lines of these parameters, with their items
abbrev pub parameter_lines : List Param → List Span → List ℕ
parameter_lines [] items = []
parameter_lines (param ∷ params) [] = []
parameter_lines (param ∷ params) (item ∷ items) = parameter_line item param ++ parameter_lines params items

-- ---- variables

abbrev pub after_comma : ℤ → List ℕ
after_comma value = codes "," ++ signed_decimal value

-- the values in braces
abbrev pub listed_text : List ℤ → List ℕ
listed_text [] = codes "{}"
listed_text (value ∷ more) = codes "{" ++ signed_decimal value ++ flat_map after_comma more ++ codes "}"

-- a set as it is declared
abbrev pub values_text : Values → List ℕ
values_text (values_are.Range r) = signed_decimal r.low.value ++ codes ".." ++ signed_decimal r.high
values_text (values_are.Listed values) = listed_text values

abbrev pub type_text : Base → List ℕ
type_text bases.Bool = codes " bool"
type_text (bases.Values values) = codes " int " ++ values_text values
type_text _ = codes " int"

-- the number of the variable, and its name
abbrev pub single_text : NameList → Name → List ℕ
single_text names name = codes "var" ++ number_text (term_in (meaning_of names name.text)) ++ codes " " ++ name.text

abbrev pub marks_text : List Ann → List ℕ
marks_text anns = mark_text (codes " output") (is_marked anns) ++ mark_text (codes " defined") (is_defined anns)

-- the same, its type, its item and its marks
abbrev pub single_line : NameList → Span → SingleVar → List ℕ
single_line names item var = single_text names var.name ++ type_text var.base ++ span_text item ++ marks_text var.anns ++ codes "\n"

-- ---- arrays

abbrev pub dimension_text : IndexRange → List ℕ
dimension_text range = codes " " ++ signed_decimal range.low ++ codes ".." ++ signed_decimal range.high

-- the index ranges of an output mark
abbrev pub ranges_text : Ann → List ℕ
ranges_text ann = codes " output" ++ flat_map dimension_text (ranges_in (listed_terms (out-Ann ann).args))

-- the marks among the annotations of an array with this many entries, which are one at most where nothing is faulty
abbrev pub shown_text : ℕ → List Ann → List ℕ
shown_text count anns = flat_map ranges_text (filter (is_array_mark count) anns)

-- the name of the array, and its item
abbrev pub array_text : Name → Span → List ℕ
array_text name item = codes "array " ++ name.text ++ span_text item

abbrev pub cells_text : NameList → List Basic → List ℕ
cells_text names entries = codes " :" ++ flat_map (λ entry. term_text (term_of names entry)) entries

-- the same, its mark and its entries
abbrev pub array_line : NameList → Span → ArrayVar → List ℕ
array_line names item var = array_text var.name item ++ shown_text (length var.array.entries) var.anns ++ cells_text names var.array.entries ++ codes "\n"

-- ---- one or the other

abbrev pub declaration_line : NameList → Span → Var → List ℕ
declaration_line names item (vars.Single var) = single_line names item var
declaration_line names item (vars.Array var) = array_line names item var

-- the lines of these declarations, with their items
abbrev pub declaration_lines : NameList → List Var → List Span → List ℕ
declaration_lines names [] items = []
declaration_lines names (var ∷ vars) [] = []
declaration_lines names (var ∷ vars) (item ∷ items) = declaration_line names item var ++ declaration_lines names vars items
