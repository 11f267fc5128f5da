use Rattle.std.proofs.Common.{◌∙◌, arith}
use Rattle.fzn_printer.specs.Shown.{shown}
use Rattle.fzn_streams.proofs.CallerLemmas.{Appends-then, front-left, front-then, front-each, front-each-at, each-more, Puts-last, Puts-stopped}
use Rattle.fzn_printer.proofs.answer.put_solutions.Goals as goal

pub returns-in_err-put_assignment-clause-text : goal.returns-in_err-put_assignment-clause-text
returns-in_err-put_assignment-clause-text g c = Puts-stopped _ _ _ _ c.from_residual.ensures.0 (front-each-at (shown c.args.model.now) _ _ _ c.args.found.now c.loop-values.values-index c.values-item.result (omega arith) c.values-item.is c.loop-values.invariant.text c.in_err-put_assignment.ensures.text)

pub loop-values-preserved : goal.loop-values-preserved
loop-values-preserved g c = record {
  text = each-more (shown c.args.model.now) _ _ _ c.args.found.now c.loop-values.values-index c.values-item.result (omega arith) c.values-item.is c.loop-values.invariant.text c.in_ok-put_assignment.ensures.text;
  same = c.in_ok-put_assignment.ensures.due.0 ∙ c.loop-values.invariant.same;
}
