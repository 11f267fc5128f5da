use Rattle.std.proofs.Common.{◌≡◌, ◌++◌, length}
use Rattle.std.specs.List.{All, Contains}
use Rattle.std.specs.Vec.Iter.{into_iter_items, into_iter_len}
use Rattle.fzn_meaning.specs.Solutions.{declared_sets}
use Rattle.fzn_derive.specs.Derived.{IsDerivable}
use Rattle.fzn_derive.specs.Room.{IsClear}
use Rattle.fzn_derive.proofs.trying.derivable.Given as goal

abbrev pub invariant-loop-candidate : goal.invariant-loop-candidate
invariant-loop-candidate l = (l.yielded ++ into_iter_items l.candidate-iterator ≡ l.fn.candidates.items)
    × (into_iter_len l.candidate-iterator ≡ length (into_iter_items l.candidate-iterator))
    × IsClear (length l.vars) l.room
    × All (IsDerivable l.given (declared_sets l.vars)) l.found
    × All (Contains l.yielded) l.found
    × All (λ candidate. IsDerivable l.given (declared_sets l.vars) candidate → Contains l.found candidate) l.yielded
