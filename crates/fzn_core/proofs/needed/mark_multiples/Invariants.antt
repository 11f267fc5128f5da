use Rattle.std.proofs.Common.{map, take}
use Rattle.fzn_core.specs.Marks.{HasMore}
use Rattle.fzn_core.proofs.needed.mark_multiples.Given as goal

abbrev pub invariant-loop-multiple : goal.invariant-loop-multiple
invariant-loop-multiple l = HasMore l.initial.marks.items l.marks.items (map (λ multiple. multiple.constraint) (take l.multiple-index l.multiples))
