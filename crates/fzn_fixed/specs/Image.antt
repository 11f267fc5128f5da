-- Which values of the result make a constraint hold.
use Rattle.std.specs.Prelude.{◌≡◌, ◌≢◌, ◌↔◌, ℤ, List, Option, Some, None, MatchOption}
use Rattle.fzn_meaning.specs.declared.constraint.Constraint.{Constraint}
use Rattle.fzn_builtin_rules.specs.Choices.{result_of, Relates}
use Rattle.fzn_fixed.specs.declared.image.Image.{Image}
use Rattle.fzn_fixed.specs.declared.image.Image.TheVariants.{Holds, Only, AllBut}

-- with this value of the result, or without a result, the constraint holds
abbrev pub Admits : Image → Option ℤ → Type 0
Admits Holds None = Unit {0}
Admits (Only v) (Some r) = r ≡ v
Admits (AllBut v) (Some r) = r ≢ v
Admits _ _ = ⊥

-- so where the inputs have these values
abbrev pub IsImage : Constraint → List ℤ → Image → Type 0
IsImage constraint values image =
    MatchOption (result_of constraint) (Relates constraint values None ↔ Admits image None)
    (λ _. (r : ℤ) → Relates constraint values (Some r) ↔ Admits image (Some r))
