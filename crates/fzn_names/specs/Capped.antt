-- Numbers up to one more than an array's greatest size.
use Rattle.std.specs.Prelude.{ℕ, min}

unfoldable pub capped : ℕ → ℕ
capped n = min n 100001
