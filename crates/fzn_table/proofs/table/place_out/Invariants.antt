use Rattle.std.proofs.Common.{IfSome, IfNone}
use Rattle.fzn_values.specs.Term.{numbers_in}
use Rattle.fzn_table.specs.Supports.{IsOutAt, IsOpenUpTo}
use Rattle.fzn_table.proofs.table.place_out.Given as goal

abbrev pub invariant-loop-k : goal.invariant-loop-k
invariant-loop-k l = record {
  out : IfSome l.found (IsOutAt l.pass.trail.now.sets l.pass.places.now (numbers_in l.pass.rows.now) l.r);
  open_so_far : IfNone l.found (IsOpenUpTo l.pass.trail.now.sets l.pass.places.now (numbers_in l.pass.rows.now) l.r l.k);
}
