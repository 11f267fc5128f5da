use Rattle.std.proofs.Common.{arith, sym, ◌∙◌}
use Rattle.std.proofs.lemmas.Bool.{true≢false}
use Rattle.fzn_circuit.proofs.same.has_open.Goals as goal

pub returns-then-not-is_fixed : goal.returns-then-not-is_fixed
returns-then-not-is_fixed c = λ told. (c.loop-k.k, omega (arith, c.loop-k-test.true, c.loop-k.auto.k-end), λ v fixed. true≢false (sym (c.is_fixed.ensures.1 (fixed.0 ∙ sym fixed.1)) ∙ c.if-not-is_fixed.true))
