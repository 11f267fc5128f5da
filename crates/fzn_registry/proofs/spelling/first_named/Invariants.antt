use Rattle.std.proofs.Common.{◌≡◌, length, map}
use Rattle.fzn_registry.specs.Spelling.{first_named}
use Rattle.fzn_registry.proofs.spelling.first_named.Given as goal

-- what the search finds from here on is what it finds from the start
abbrev pub invariant-loop-rows : goal.invariant-loop-rows
invariant-loop-rows l = first_named (map (λ row. (row.0.now, row.1)) l.rows) l.name ≡ first_named (map (λ row. (row.0.now, row.1)) l.initial.rows) l.name

abbrev pub decreases-loop-rows : goal.decreases-loop-rows
decreases-loop-rows l = length l.rows
