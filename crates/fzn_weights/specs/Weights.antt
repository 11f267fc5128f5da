-- What is weighed at a value, put together.
use Rattle.std.specs.Prelude.{ℤ, ◌+ℤ◌, Option, None, Some}
use Rattle.std.specs.Option.{option_map}

-- two weights together; none where either is barred
abbrev pub both_weights : Option ℤ → Option ℤ → Option ℤ
both_weights None more = None
both_weights (Some weight) more = option_map (λ w. weight +ℤ w) more
