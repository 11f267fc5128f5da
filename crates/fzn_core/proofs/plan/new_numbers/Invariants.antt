use Rattle.std.proofs.Common.{◌≡◌, map, take}
use Rattle.fzn_core.specs.Planned.{new_number}
use Rattle.fzn_core.proofs.plan.new_numbers.Given as goal

abbrev pub invariant-loop-id : goal.invariant-loop-id
invariant-loop-id l = l.new ≡ map (new_number l.numbers) (take l.id-index l.ids)
