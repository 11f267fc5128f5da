-- Numbers, places and terms as text.
use Rattle.std.specs.Prelude.{ℕ, ◌+◌, Bool, true, false, List, [], ◌++◌, codes}
use Rattle.std.specs.Fmt.{decimal, signed_decimal}
use Rattle.fzn_domain.specs.declared.literal.VarId.{VarId}
use Rattle.fzn_lexer.specs.declared.token.Position.{Position}
use Rattle.fzn_lexer.specs.declared.token.Span.{Span}
use Rattle.fzn_values.specs.declared.term.Term.{Term}
use Rattle.fzn_values.specs.declared.term.Term.TheVariants as terms

-- the first and the last byte, both counted from 1, of what goes from one index up to another
abbrev pub bytes_text : ℕ → ℕ → List ℕ
bytes_text start end = codes " bytes " ++ decimal (start + 1) ++ codes ".." ++ decimal end

abbrev pub span_text : Span → List ℕ
span_text item = bytes_text item.start item.end

abbrev pub position_text : Position → List ℕ
position_text position = codes " line " ++ decimal position.line ++ codes " column " ++ decimal position.column

-- the word, where the mark stands
abbrev pub mark_text : List ℕ → Bool → List ℕ
mark_text word true = word
mark_text word false = []

-- a space, and the number of the variable
abbrev pub variable_text : VarId → List ℕ
variable_text var = codes " " ++ decimal var.0

-- the number of a variable, and nothing for a constant
abbrev pub number_text : Term → List ℕ
number_text (terms.Constant value) = []
number_text (terms.Variable var) = variable_text var

-- the number of a variable, or a constant
abbrev pub term_text : Term → List ℕ
term_text (terms.Constant value) = codes " =" ++ signed_decimal value
term_text (terms.Variable var) = variable_text var
