-- Boolean constraints on 0 and 1 (MiniZinc Handbook, "FlatZinc builtins": bool_not, bool2int, bool_and, bool_or, bool_xor,
-- array_bool_and, array_bool_or, array_bool_xor, bool_clause).
use Rattle.std.specs.Prelude.{◌≡◌, ◌≢◌, ◌↔◌, ◌⊎◌, ◌%◌, ℤ, pos, List}
use Rattle.std.specs.List.{All, Any, count_by}
use Rattle.std.specs.Ordering.{int_eq}
use Rattle.fzn_meaning.specs.declared.boolean.Gate.{Gate}
use Rattle.fzn_meaning.specs.declared.boolean.Gate.TheVariants.{And, Or}

-- the two differ
abbrev pub IsBoolNot : ℤ → ℤ → Type 0
IsBoolNot a b = a ≢ b

-- the two are one number
abbrev pub IsBoolToInt : ℤ → ℤ → Type 0
IsBoolToInt boolean integer = boolean ≡ integer

-- all inputs are 1, or one at least is 1
abbrev pub Passes : Gate → List ℤ → Type 0
Passes And inputs = All (λ x. x ≡ pos 1) inputs
Passes Or inputs = Any (λ x. x ≡ pos 1) inputs

-- the result is 1 exactly when the inputs pass
abbrev pub IsGated : Gate → List ℤ → ℤ → Type 0
IsGated gate inputs result = (result ≡ pos 1) ↔ Passes gate inputs

-- r is 1 exactly when one of the two is 1 and the other is not
abbrev pub IsBoolXor : ℤ → ℤ → ℤ → Type 0
IsBoolXor a b r = (r ≡ pos 1) ↔ (((a ≡ pos 1) × (b ≢ pos 1)) ⊎ ((a ≢ pos 1) × (b ≡ pos 1)))

-- an odd number are 1
abbrev pub IsArrayBoolXor : List ℤ → Type 0
IsArrayBoolXor inputs = count_by (λ x. int_eq x (pos 1)) inputs % 2 ≡ 1

-- some positive one is 1, or some negative one is 0
abbrev pub IsBoolClause : List ℤ → List ℤ → Type 0
IsBoolClause positive negative = Any (λ x. x ≡ pos 1) positive ⊎ Any (λ x. x ≡ pos 0) negative
