use Rattle.std.proofs.Common.{◌≡◌, ◌≤◌, ◌*◌, length}
use Rattle.fzn_names.specs.Annotations.{ranges_in, size_of}
use Rattle.fzn_names.specs.Capped.{capped}
use Rattle.fzn_names.proofs.annotation.capped_size.Given as goal

-- the indices so far with those to come
abbrev pub invariant-loop-terms : goal.invariant-loop-terms
invariant-loop-terms l = record {
  built : capped (l.size * size_of (ranges_in l.terms)) ≡ capped (size_of (ranges_in l.initial.terms));
  low : l.size ≤ 100001;
}

abbrev pub decreases-loop-terms : goal.decreases-loop-terms
decreases-loop-terms l = length l.terms
