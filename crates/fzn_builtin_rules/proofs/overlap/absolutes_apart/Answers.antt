use Rattle.std.proofs.Common.{rules, pos}
use Rattle.std.proofs.lemmas.Int.{to_z-of_z}
use Rattle.fzn_domain.proofs.SetLemmas.{width_falls}
use Rattle.fzn_builtin_rules.proofs.overlap.absolutes_apart.Goals as goal
use mir.Syntax.{w64}
use mir.Val.{to_z, SFits}

pub loop-absolute-smaller : goal.loop-absolute-smaller
loop-absolute-smaller c = let fits : SFits w64 c.in-Some.next = search rules in simp to_z-of_z (width_falls (to_z w64 c.loop-absolute.absolute-bits) c.in-Some.next (pos 1000000000) (search rules) (search rules))
