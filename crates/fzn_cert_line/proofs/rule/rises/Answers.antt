use Rattle.std.proofs.Common.{sym, ◌∙◌}
use Rattle.std.proofs.lemmas.List.{take_rest}
use Rattle.fzn_cert_line.proofs.RiseLaws.{rises_more, rises_not, rises_short}
use Rattle.fzn_cert_line.proofs.rule.rises.Goals as goal

pub returns-then-not-is_below : goal.returns-then-not-is_below
returns-then-not-is_below c = sym (rises_not c.loop-left.left.now _ _ c.loop-left-test.true (sym c.is_below.ensures ∙ c.if-not-is_below.true)) ∙ c.loop-left.invariant

pub loop-left-preserved : goal.loop-left-preserved
loop-left-preserved c = rw (take_rest c.loop-left.left.now 1) (rises_more c.loop-left.left.now _ _ c.loop-left-test.true (sym c.is_below.ensures ∙ c.if-not-is_below.false) ∙ c.loop-left.invariant)

pub returns : goal.returns
returns c = sym (rises_short c.loop-left.left.now c.loop-left-test.false) ∙ c.loop-left.invariant
