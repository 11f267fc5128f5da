use Rattle.std.proofs.Common.{ℕ, All, take}
use Rattle.fzn_domain.specs.Limits.{IsSmall}
use Rattle.fzn_derive.specs.Room.{cell_of}
use Rattle.fzn_derive.proofs.adder.Adder.are_small.Given as goal

abbrev pub invariant-loop-i : goal.invariant-loop-i
invariant-loop-i l = All (λ (place : ℕ). IsSmall (cell_of l.self place).sum) (take l.i l.self.touched.items)
