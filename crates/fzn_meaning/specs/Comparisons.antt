-- Two numbers compared (MiniZinc Handbook, "FlatZinc builtins": int_eq, int_ne, int_le, int_lt, bool_eq, bool_le, bool_lt), and the
-- forms whose names end in _reif.
use Rattle.std.specs.Prelude.{◌≡◌, ◌≢◌, ◌↔◌, ℤ, pos, ◌<ℤ◌, ◌≤ℤ◌, Option, Some, None}
use Rattle.fzn_meaning.specs.declared.relation.Relation.{Relation}
use Rattle.fzn_meaning.specs.declared.relation.Relation.TheVariants.{Equal, NotEqual, AtMost, Below}

-- a is equal to b, not equal to b, at most b, below b
abbrev pub IsRelated : Relation → ℤ → ℤ → Type 0
IsRelated Equal a b = a ≡ b
IsRelated NotEqual a b = a ≢ b
IsRelated AtMost a b = a ≤ℤ b
IsRelated Below a b = a <ℤ b

-- without a switch the plain form holds; with one, the switch is 1 exactly when it does
abbrev pub IsSwitched : Option ℤ → Type 0 → Type 0
IsSwitched None plain = plain
IsSwitched (Some switch) plain = (switch ≡ pos 1) ↔ plain
