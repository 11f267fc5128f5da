use Rattle.std.proofs.Common.{◌≡◌, take}
use Rattle.std.specs.List.{filter_map}
use Rattle.fzn_core.specs.Kept.{kept_steps}
use Rattle.fzn_core.specs.Core.{inferred_from}
use Rattle.fzn_core.proofs.cited.numbers_in.Given as goal

abbrev pub invariant-loop-place : goal.invariant-loop-place
invariant-loop-place l = l.numbers.items ≡ filter_map inferred_from (take l.place (kept_steps l.kept))
