use Rattle.std.proofs.Common.{arith, ◌∙◌}
use Rattle.std.proofs.lemmas.List.{length-drop, take_rest}
use Rattle.fzn_streams.proofs.CallerLemmas.{Appends-take_more}
use Rattle.fzn_streams.proofs.output.put.Goals as goal

pub loop-written-preserved : goal.loop-written-preserved
loop-written-preserved g c = record {
  within = omega (arith, c.in_ok-written.ensures.bound, length-drop c.loop-written.written c.args.bytes.now);
  so_far = Appends-take_more (g.W.Write.contents c.args.out.now) (g.W.Write.contents c.loop-written.out) (g.W.Write.contents c.write_some.new.self) c.args.bytes.now c.loop-written.written c.in_ok-written.field-0 c.loop-written.invariant.so_far (rw (take_rest c.args.bytes.now c.loop-written.written) at c.in_ok-written.ensures.bytes);
  same = c.in_ok-written.ensures.due.0 ∙ c.loop-written.invariant.same;
}
