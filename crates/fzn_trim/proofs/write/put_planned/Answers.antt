use Rattle.std.proofs.Common.{◌<◌, ◌≤◌, length, arith}
use Rattle.fzn_core.specs.Planned.{planned_step}
use Rattle.fzn_trim.proofs.WriteLemmas.{step-stopped, steps-written}
use Rattle.fzn_trim.proofs.write.put_planned.Goals as goal

pub returns-in_err-put_line-clause-text : goal.returns-in_err-put_line-clause-text
returns-in_err-put_line-clause-text g c =
    let lines = c.args.plan.now.lines.items in
    let within : c.loop-place.place < length lines = omega (arith, c.args.plan.now.lines.ok.0, c.len-place-end.ensures) in
    step-stopped (planned_step c.args.plan.now c.args.held.now) lines (g.W.Write.contents c.args.new.now) c.from_residual.result c.loop-place.place c.index.result.now
    c.from_residual.ensures.0 within (g.W.Write.contents c.loop-place.new) (g.W.Write.contents c.put_line.new.new) c.index.ensures c.loop-place.invariant.text c.in_err-put_line.ensures.text

pub returns-clause-text : goal.returns-clause-text
returns-clause-text g c =
    let lines = c.args.plan.now.lines.items in
    let past_end : length lines ≤ c.loop-place.place = omega (arith, c.args.plan.now.lines.ok.0, c.len-place-end.ensures) in
    steps-written (planned_step c.args.plan.now c.args.held.now) lines (g.W.Write.contents c.args.new.now) (g.W.Write.contents c.loop-place.new) c.loop-place.place past_end c.loop-place.invariant.text
