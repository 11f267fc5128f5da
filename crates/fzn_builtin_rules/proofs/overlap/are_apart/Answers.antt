use Rattle.std.proofs.Common.{rules}
use Rattle.std.proofs.lemmas.Int.{to_z-of_z}
use Rattle.fzn_builtin_rules.proofs.OverlapLemmas.{walk_falls}
use Rattle.fzn_builtin_rules.proofs.overlap.are_apart.Goals as goal
use mir.Syntax.{w64}
use mir.Val.{to_z, SFits}

pub loop-value-smaller : goal.loop-value-smaller
loop-value-smaller c = let fits : SFits w64 c.in-Some.next = search rules in simp to_z-of_z (walk_falls c.args.first.now (to_z w64 c.loop-value.value-bits) c.in-Some.next (search rules) (search rules))
