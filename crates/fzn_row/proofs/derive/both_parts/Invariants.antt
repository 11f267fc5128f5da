use Rattle.std.proofs.Common.{◌≡◌, ◌++◌, map}
use Rattle.fzn_meaning.specs.declared.row.Part.TheVariants.{Variable, Table}
use Rattle.fzn_row.proofs.derive.both_parts.Given as goal

abbrev pub invariant-loop-part : goal.invariant-loop-part
invariant-loop-part l = l.all ≡ map Variable l.yielded

abbrev pub invariant-loop-begun : goal.invariant-loop-begun
invariant-loop-begun l = l.all ≡ map Variable l.fn.parts.items ++ map (λ begun. Table begun.part) l.yielded
