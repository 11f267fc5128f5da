use Rattle.std.proofs.Common.{sym, ◌∙◌}
use Rattle.std.proofs.lemmas.List.{take_rest}
use Rattle.fzn_cert_line.proofs.RiseLaws.{ids_rise_more, ids_rise_not, ids_rise_short}
use Rattle.fzn_cert_line.proofs.parse.ids_rise.Goals as goal

pub returns-then-left : goal.returns-then-left
returns-then-left c = sym (ids_rise_not c.loop-left.left.now _ _ c.loop-left-test.true c.if-left.true) ∙ c.loop-left.invariant

pub loop-left-preserved : goal.loop-left-preserved
loop-left-preserved c = rw (take_rest c.loop-left.left.now 1) (ids_rise_more c.loop-left.left.now _ _ c.loop-left-test.true c.if-left.false ∙ c.loop-left.invariant)

pub returns : goal.returns
returns c = sym (ids_rise_short c.loop-left.left.now c.loop-left-test.false) ∙ c.loop-left.invariant
