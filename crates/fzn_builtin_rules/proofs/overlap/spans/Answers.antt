use Rattle.std.proofs.Common.{◌≡◌, IsTrue, arith, ℤ, ◌≤ℤ◌, int_le}
use Rattle.std.proofs.lemmas.Int.{ints}
use Rattle.fzn_builtin_rules.proofs.overlap.spans.Goals as goal
use mir.Syntax.{w64}
use mir.Val.{to_z, of_z}

le_holds : (x y a b : ℤ) → x ≡ a → y ≡ b → a ≤ℤ b → IsTrue (int_le x y)
le_holds x y a b e f h = grind (arith, ints)

pub returns-then-min : goal.returns-then-min
returns-then-min c = (
  λ yes. (omega (arith, ints), omega (arith, ints)),
  λ both. le_holds (to_z w64 (of_z w64 c.max.result)) (to_z w64 (of_z w64 c.max-then-min.result)) c.max.result c.max-then-min.result (omega (arith, ints)) (omega (arith, ints)) (omega (arith, ints)),
)
