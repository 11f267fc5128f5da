-- The text of each line of a certificate.
use Rattle.std.specs.Prelude.{ℕ, Bool, true, false, ℤ, List, [], ◌∷◌, ◌++◌, map, codes}
use Rattle.std.specs.List.{join_with_byte}
use Rattle.std.specs.Fmt.{decimal, signed_decimal}
use Rattle.fzn_domain.specs.declared.literal.Op.{Op}
use Rattle.fzn_domain.specs.declared.literal.Op.TheVariants.{AtMost, AtLeast, Equal, NotEqual}
use Rattle.fzn_domain.specs.declared.literal.Lit.{Lit}
use Rattle.fzn_rules.specs.declared.rule.Rule.{Rule}
use Rattle.fzn_rules.specs.Hints.{hints_of}
use Rattle.fzn_rules.specs.declared.rule.Rule.TheVariants.{Lin, Rows, Box, Fixed, Enum, Hall, Load, Energy, Cut, Pair, Row}
use Rattle.fzn_cert.specs.declared.step.Step.{Step}
use Rattle.fzn_cert.specs.declared.step.Step.TheVariants.{Infer, Resolve, Solution, Delete}
use Rattle.fzn_cert.specs.declared.header.Header.{Header}
use Rattle.fzn_cert.specs.declared.step.Version.{Version}
use Rattle.fzn_cert.specs.declared.step.Version.TheVariants.{One, Two}

-- ---- words

abbrev pub op_text : Op → List ℕ
op_text AtMost = codes "<="
op_text AtLeast = codes ">="
op_text Equal = codes "=="
op_text NotEqual = codes "!="

abbrev pub literal_text : Lit → List ℕ
literal_text lit = decimal lit.var.0 ++ (op_text lit.op ++ signed_decimal lit.value)

abbrev pub rule_name : Rule → List ℕ
rule_name Lin = codes "lin"
rule_name Rows = codes "rows"
rule_name Box = codes "box"
rule_name Fixed = codes "fixed"
rule_name Enum = codes "enum"
rule_name (Hall a b) = codes "hall"
rule_name (Load t) = codes "load"
rule_name (Energy t u) = codes "energy"
rule_name (Cut ps) = codes "cut"
rule_name (Pair i j) = codes "pair"
rule_name Row = codes "row"

abbrev pub hints : Rule → List ℤ
hints rule = hints_of rule

-- the words of a step's line
abbrev pub step_words : Step → List (List ℕ)
step_words (Infer it) = codes "i" ∷ decimal it.constraint ∷ rule_name it.rule ∷ (map signed_decimal (hints it.rule) ++ codes ";" ∷ map literal_text it.clause)
step_words (Resolve clause ids) = codes "r" ∷ (map literal_text clause ++ codes ";" ∷ map decimal ids)
step_words (Solution values) = codes "s" ∷ map signed_decimal values
step_words (Delete ids) = codes "d" ∷ map decimal ids

-- ---- steps

-- one space between each two words, and none elsewhere
unfoldable pub spaced : List (List ℕ) → List ℕ
spaced words = join_with_byte 32 words

abbrev pub step_text : Step → List ℕ
step_text step = spaced (step_words step)

-- the text, and its line feed
abbrev pub step_line : Step → List ℕ
step_line step = step_text step ++ 10 ∷ []

-- ---- the other lines

abbrev pub version_text : Version → List ℕ
version_text One = codes "fzc 1"
version_text Two = codes "fzc 2"

abbrev pub counts_text : ℕ → ℕ → List ℕ
counts_text variables constraints = codes "vars " ++ decimal variables ++ codes " cons " ++ decimal constraints

-- the first two lines
abbrev pub header_text : Version → ℕ → ℕ → List ℕ
header_text version variables constraints = version_text version ++ 10 ∷ [] ++ counts_text variables constraints ++ 10 ∷ []

abbrev pub header_lines : Header → List ℕ
header_lines header = header_text header.version header.variables header.constraints

-- the last line
abbrev pub end_line : Bool → List ℕ
end_line true = codes "e closed" ++ 10 ∷ []
end_line false = codes "e open" ++ 10 ∷ []
