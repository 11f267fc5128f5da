use Rattle.std.proofs.Common.{◌≡◌, ◌+◌, ◌≤◌, length, drop}
use Rattle.fzn_core.specs.Core.{IsNeeded}
use Rattle.fzn_core.specs.Marks.{AreMarksOf}
use Rattle.fzn_core.proofs.needed.needed_marks.Given as goal

abbrev pub invariant-loop-place : goal.invariant-loop-place
invariant-loop-place l = record {
  inside : l.place ≤ length l.derivations;
  len : length l.marks.items ≡ l.own + length l.derivations + 1;
  marks : AreMarksOf (IsNeeded (l.own + l.place) (drop l.place l.derivations) l.numbers) l.marks.items;
}

abbrev pub decreases-loop-place : goal.decreases-loop-place
decreases-loop-place l = l.place
