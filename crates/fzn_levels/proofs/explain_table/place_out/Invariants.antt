use Rattle.std.proofs.Common.{ℕ, ◌+◌, ◌*◌, ◌<◌, length, get_or, pos, IfSome}
use Rattle.std.specs.Prelude.{IfNone}
use Rattle.fzn_values.specs.declared.term.Term.TheVariants.{Constant}
use Rattle.fzn_sets.specs.Terms.{MayBe}
use Rattle.fzn_levels.specs.Levels.{IsPlaceOut}
use Rattle.fzn_levels.proofs.explain_table.place_out.Given as goal

abbrev pub invariant-loop-k : goal.invariant-loop-k
invariant-loop-k l = record {
  found : IfSome l.found (IsPlaceOut l.pass.trail.now.sets l.table l.r);
  none : IfNone l.found ((i : ℕ) → i < l.k → MayBe l.pass.trail.now.sets (get_or l.table.places i (Constant (pos 0))) (get_or l.table.rows (l.r * length l.table.places + i) (pos 0)));
}
