use Rattle.std.proofs.Common.{take, map}
use Rattle.std.specs.List.{All, zip}
use Rattle.fzn_domain.specs.declared.literal.VarId.{VarId}
use Rattle.fzn_derive.specs.Apart.{IsPairTold}
use Rattle.fzn_derive.proofs.apart.tell_from_others.Given as goal

-- the pairs so far are told apart
abbrev pub invariant-loop-i : goal.invariant-loop-i
invariant-loop-i l = All (IsPairTold l.given) (take l.i (zip (map (λ (other : VarId). (l.first, other)) l.others) l.ids))
