use Rattle.std.proofs.Common.{◌≡◌, take}
use Rattle.fzn_learned.specs.Learned.{antecedents_of}
use Rattle.fzn_learned.proofs.plain.plain_antecedents.Given as goal

abbrev pub invariant-loop-place : goal.invariant-loop-place
invariant-loop-place l = l.antecedents ≡ antecedents_of (take l.place l.trail.entries)
