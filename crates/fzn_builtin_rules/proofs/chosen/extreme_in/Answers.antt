use Rattle.std.proofs.Common.{◌≡◌, ◌∙◌, arith}
use Rattle.std.proofs.lemmas.Int.{ints}
use Rattle.fzn_builtin_rules.specs.Numbered.{choice_at}
use Rattle.fzn_builtin_rules.proofs.ChosenLemmas.{extreme_start, extreme_step, extreme_stop}
use Rattle.fzn_builtin_rules.proofs.chosen.extreme_in.Goals as goal
use mir.Syntax.{w64}
use mir.Val.{to_z, of_z}

pub loop-k-init : goal.loop-k-init
loop-k-init c =
    let passed : to_z w64 (of_z w64 c.value_in-best.result) ≡ c.value_in-best.result = omega (arith, ints) in
    extreme_start c.args.sets.now.present c.args.extreme c.args.entries.now _ c.args.number c.rest_in-left.result (to_z w64 (of_z w64 c.value_in-best.result)) c.requires.some (passed ∙ c.value_in-best.ensures.value) c.rest_in-left.ensures

pub loop-k-preserved : goal.loop-k-preserved
loop-k-preserved c =
    let passed : to_z w64 (of_z w64 c.further-best.result) ≡ c.further-best.result = omega (arith, ints) in
    let value : to_z w64 (of_z w64 c.value_in-value.result) ≡ c.value_in-value.result = omega (arith, ints) in
    extreme_step c.args.sets.now.present c.args.extreme c.args.entries.now (choice_at c.args.sets.now.present c.args.entries.now c.args.number) c.loop-k.k _ c.loop-k.left c.rest_in-left-in-loop-k.result (to_z w64 c.loop-k.best-bits) (to_z w64 (of_z w64 c.value_in-value.result)) (to_z w64 (of_z w64 c.further-best.result)) c.loop-k-test.true c.loop-k.invariant (value ∙ c.value_in-value.ensures.value) c.rest_in-left-in-loop-k.ensures (passed ∙ c.further-best.ensures)

pub returns : goal.returns
returns c = extreme_stop c.args.sets.now.present c.args.extreme c.args.entries.now (choice_at c.args.sets.now.present c.args.entries.now c.args.number) c.loop-k.k c.loop-k.left (to_z w64 c.loop-k.best-bits) c.loop-k-test.false c.loop-k.invariant
