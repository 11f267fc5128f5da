-- The rule `box`: the bounds of a product exclude each value of the result.
use Rattle.std.specs.Prelude.{◌⊎◌, ℤ, ◌*ℤ◌, ◌<ℤ◌, List, [], ◌∷◌}
use Rattle.std.specs.List.{All}
use Rattle.fzn_domain.specs.IntSet.{IntSet}
use Rattle.fzn_values.specs.declared.term.Term.{Term}
use Rattle.fzn_meaning.specs.declared.arithmetic.Operation.{Operation}
use Rattle.fzn_meaning.specs.declared.arithmetic.Operation.TheVariants.{Times}
use Rattle.fzn_meaning.specs.declared.constraint.Constraint.{Constraint}
use Rattle.fzn_meaning.specs.declared.constraint.Constraint.TheVariants.{Arithmetic}
use Rattle.fzn_sets.specs.Terms.{least_value, greatest_value}

-- the four products of the bounds of two terms
abbrev pub corners : List IntSet → Term → Term → List ℤ
corners sets left right =
    (least_value sets left *ℤ least_value sets right)
    ∷ (least_value sets left *ℤ greatest_value sets right)
    ∷ (greatest_value sets left *ℤ least_value sets right)
    ∷ (greatest_value sets left *ℤ greatest_value sets right)
    ∷ []

-- all four, so also the least of them, exceed the result's greatest value, or all four are below its least
abbrev pub IsProductOut : List IntSet → Term → Term → Term → Type 0
IsProductOut sets left right result =
    All (λ product. greatest_value sets result <ℤ product) (corners sets left right)
    ⊎ All (λ product. product <ℤ least_value sets result) (corners sets left right)

abbrev pub IsArithmeticOut : List IntSet → Operation → Term → Term → Term → Type 0
IsArithmeticOut sets Times left right result = IsProductOut sets left right result
IsArithmeticOut sets _ left right result = ⊥

unfoldable pub IsBoxMet : Constraint → List IntSet → Type 0
IsBoxMet (Arithmetic operation left right result) sets = IsArithmeticOut sets operation left right result
IsBoxMet _ sets = ⊥
