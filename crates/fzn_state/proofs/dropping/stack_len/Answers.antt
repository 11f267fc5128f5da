-- Each entry is below the place behind its inference.
use Rattle.std.proofs.Common.{◌<◌, length, arith}
use Rattle.fzn_state.proofs.StackLemmas.{max-above, AllBelow-next, AllBelow-all}
use Rattle.fzn_state.proofs.dropping.stack_len.Goals as goal

pub loop-i-preserved : goal.loop-i-preserved
loop-i-preserved c =
    let within : c.loop-i.i < length c.args.trail.now.entries = omega arith in
    let above = max-above c.loop-i.len c.place_after.result in
    let most = c.max-len.ensures in
    AllBelow-next c.loop-i.len c.place_after.result c.max-len.result c.loop-i.i c.args.trail.now.entries c.entry.result (omega arith) (omega arith) within c.entry.ensures c.place_after.ensures c.loop-i.invariant

pub returns : goal.returns
returns c = AllBelow-all c.loop-i.len c.loop-i.i c.args.trail.now.entries (omega arith) c.loop-i.invariant
