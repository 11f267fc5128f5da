-- Intervals of a constraint's places in which nothing meets it.
use Rattle.std.specs.Prelude.{◌⊎◌, ◌*◌, ◌≤◌, ℤ, pos, ◌*ℤ◌, ◌<ℤ◌, ◌≤ℤ◌, unsigned_abs}
use Rattle.fzn_domain.specs.IntSet.{width}
use Rattle.fzn_values.specs.declared.term.Term.{Term}
use Rattle.fzn_meaning.specs.declared.arithmetic.Operation.{Operation}
use Rattle.fzn_meaning.specs.declared.arithmetic.Operation.TheVariants as operation
use Rattle.fzn_meaning.specs.declared.constraint.Constraint.{Constraint}
use Rattle.fzn_meaning.specs.declared.constraint.Constraint.TheVariants.{Arithmetic, IntAbs}
use Rattle.fzn_meaning.specs.Arithmetic.{IsArithmetic}
use Rattle.fzn_rules.specs.declared.rule.Rule.{Rule}
use Rattle.fzn_rules.specs.declared.rule.Rule.TheVariants.{Box, Enum, Rows}
use Rattle.fzn_terms.specs.declared.interval.Interval.{Interval}
use Rattle.fzn_terms.specs.Intervals.{IsIn, IsLimitedInterval}
use Rattle.fzn_arithmetic.specs.declared.excluded.Shape.{Shape}
use Rattle.fzn_arithmetic.specs.declared.excluded.Shape.TheVariants.{Product, Quotient, Remainder, Absolute}

-- the constraint of three places, and the rule for it
abbrev pub shaped : Shape → Term → Term → Term → Constraint
shaped Product left right of = Arithmetic operation.Times left right of
shaped Quotient left right of = Arithmetic operation.Quotient left right of
shaped Remainder left right of = Arithmetic operation.Remainder left right of
shaped Absolute left right of = IntAbs left of

abbrev pub rule_of : Shape → Rule
rule_of Product = Box
rule_of Quotient = Enum
rule_of Remainder = Enum
rule_of Absolute = Rows

-- every product exceeds the third interval, or every one is below it
abbrev pub IsProductBeyond : Interval → Interval → Interval → Type 0
IsProductBeyond left right of =
    ((x y : ℤ) → IsIn left x → IsIn right y → of.high <ℤ (x *ℤ y))
    ⊎ ((x y : ℤ) → IsIn left x → IsIn right y → (x *ℤ y) <ℤ of.low)

-- no absolute value of a number of the first interval is in the second
abbrev pub IsAbsoluteBeyond : Interval → Interval → Type 0
IsAbsoluteBeyond of absolute = (x : ℤ) → IsIn of x → IsIn absolute (pos (unsigned_abs x)) → ⊥

-- no two numbers of the first intervals give one of the third
abbrev pub NoneGives : Operation → Interval → Interval → Interval → Type 0
NoneGives given left right of = (x y r : ℤ) → IsIn left x → IsIn right y → IsArithmetic given x y r → IsIn of r → ⊥

-- there are at most 4,096 pairs
abbrev pub IsFew : Interval → Interval → Type 0
IsFew left right = (width left.low left.high * width right.low right.high) ≤ 4096

-- so many numbers with so many others, by their product
pub record AreFewPairs (wide high : ℤ) : Type 0 where
  pub some : pos 1 ≤ℤ wide
  pub more : pos 1 ≤ℤ high
  pub few : (wide *ℤ high) ≤ℤ pos 4096

abbrev pub Excludes : Shape → Interval → Interval → Interval → Type 0
Excludes Product left right of = IsProductBeyond left right of
Excludes Quotient left right of = IsFew left right × NoneGives operation.Quotient left right of
Excludes Remainder left right of = IsFew left right × NoneGives operation.Remainder left right of
Excludes Absolute left right of = IsAbsoluteBeyond left of

-- nothing in the intervals meets the constraint
pub record IsShapeExcluded (shape : Shape) (left right of : Interval) : Type 0 where
  pub left_limited : IsLimitedInterval left
  pub right_limited : IsLimitedInterval right
  pub of_limited : IsLimitedInterval of
  pub none : Excludes shape left right of
