-- How many there may be of what.
use Rattle.std.specs.Prelude.{ℕ}
use Rattle.fzn_list.specs.Limits.{longest}

-- the limit on variables, on constraints and on the entries of one array
abbrev pub most : ℕ
most = longest

-- the limit on the values that are listed in one set
abbrev pub most_listed : ℕ
most_listed = 65536

-- how deep the brackets and parentheses of one annotation nest
abbrev pub deepest : ℕ
deepest = 64
