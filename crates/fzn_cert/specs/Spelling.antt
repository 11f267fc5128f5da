-- The lines of a certificate: the one spelling of each step, and which steps have one.
use Rattle.std.specs.Prelude.{◌≡◌, ℕ, ◌^◌, ◌<◌, ◌≤◌, ℤ, ◌≤ℤ◌, ◌<ℤ◌, List, [], ◌∷◌, length}
use Rattle.std.specs.List.{AllByRecursion}
use Rattle.fzn_domain.specs.declared.literal.Lit.{Lit}
use Rattle.fzn_domain.specs.Limits.{IsNearLimits}
use Rattle.fzn_rules.specs.declared.rule.Rule.{Rule}
use Rattle.fzn_rules.specs.declared.rule.Rule.TheVariants.{Cut}
pub use Rattle.fzn_rules.specs.Hints.{IsHint}
use Rattle.fzn_cert.specs.declared.step.Step.{Step}
use Rattle.fzn_cert.specs.declared.step.Step.TheVariants.{Infer, Resolve, Solution, Delete}
use Rattle.fzn_cert.specs.declared.header.Header.{Header}
use Rattle.fzn_cert.specs.declared.limits.TheConstants.{LINE_LIMIT, LAST_STEP}
use Rattle.fzn_cert.specs.declared.step.Version.{Version}
use Rattle.fzn_cert.specs.declared.step.Version.TheVariants.{Two}
unfoldable pub use Rattle.fzn_cert.specs.Text.{op_text, literal_text, rule_name, hints, step_words, spaced, step_text, step_line, version_text, counts_text, header_text, header_lines, end_line}

-- ---- numbers and literals

abbrev pub IsBetween : ℤ → ℤ → ℤ → Type 0
IsBetween low high z = (low ≤ℤ z) × (z ≤ℤ high)

-- at least 1, and at most 18 digits
abbrev pub IsNumber : ℕ → Type 0
IsNumber n = (1 ≤ n) × (n < 10 ^ 18)

-- from -1,000,000,001 to 1,000,000,001
abbrev pub IsValue : ℤ → Type 0
IsValue z = IsNearLimits z

abbrev pub IsLiteral : Lit → Type 0
IsLiteral lit = IsNumber lit.var.0 × IsValue lit.value

-- each number is below the next
unfoldable pub Rises : List ℤ → Type 0
Rises [] = Unit {0}
Rises (x ∷ []) = Unit {0}
Rises (x ∷ y ∷ rest) = (x <ℤ y) × Rises (y ∷ rest)

unfoldable pub IdsRise : List ℕ → Type 0
IdsRise [] = Unit {0}
IdsRise (x ∷ []) = Unit {0}
IdsRise (x ∷ y ∷ rest) = (x < y) × IdsRise (y ∷ rest)

-- ---- steps

-- the hints of `cut` rise
abbrev pub IsRule : Rule → Type 0
IsRule (Cut ps) = AllByRecursion IsHint ps × Rises ps
IsRule rule = AllByRecursion IsHint (hints rule)

-- version 1 has no `d` step, and the ids of one rise
abbrev pub IsSpelled : Version → Step → Type 0
IsSpelled v (Infer it) = IsNumber it.constraint × IsRule it.rule × AllByRecursion IsLiteral it.clause
IsSpelled v (Resolve clause ids) = AllByRecursion IsLiteral clause × AllByRecursion IsNumber ids
IsSpelled v (Solution values) = AllByRecursion IsValue values
IsSpelled v (Delete ids) = (v ≡ Two) × (0 < length ids) × AllByRecursion IsNumber ids × IdsRise ids

-- the line keeps the limit, and the number of the step, which stands after this many, is at most the last one
abbrev pub HasLineRoom : ℕ → Step → Type 0
HasLineRoom steps step = (length (step_text step) ≤ LINE_LIMIT) × (steps < LAST_STEP)

-- the step has a line after this many steps
abbrev pub HasLine : Version → ℕ → Step → Type 0
HasLine version steps step = IsSpelled version step × HasLineRoom steps step

-- ---- the first two lines

-- no more than 18 digits
abbrev pub IsSized : ℕ → Type 0
IsSized n = n < 10 ^ 18

abbrev pub IsHeader : Header → Type 0
IsHeader header = IsSized header.variables × IsSized header.constraints
