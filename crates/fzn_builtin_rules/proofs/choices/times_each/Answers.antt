use Rattle.std.proofs.Common.{◌*◌, drop, ◌+◌, length}
use Rattle.std.proofs.lemmas.List.Elements.{All-drop}
use Rattle.fzn_values.specs.Term.{IsTerm}
use Rattle.fzn_builtin_rules.specs.Choices.{choices}
use Rattle.fzn_builtin_rules.proofs.ChoiceLemmas.{some_choice}
use Rattle.fzn_builtin_rules.proofs.CountLemmas.{if_none, drop_next, one_more, too_many}
use Rattle.fzn_builtin_rules.proofs.choices.times_each.Goals as goal

pub returns-in_err-product-clause-none : goal.returns-in_err-product-clause-none
returns-in_err-product-clause-none c =
    let sets = c.args.sets.now.present in
    let terms = c.args.terms.now in
    let i = c.loop-term.term-index in
    if_none c.from_residual.result _
    (too_many sets _ (drop i terms) (drop (i + 1) terms) c.loop-term.product (c.args.count * choices sets terms) (drop_next terms i _ c.loop-term-test.true) c.loop-term.invariant.product
    (some_choice sets (drop (i + 1) terms) c.requires.nonempty (All-drop (IsTerm (length sets)) (i + 1) terms c.requires.terms)) c.in_err-product.ensures.none)

pub loop-term-preserved : goal.loop-term-preserved
loop-term-preserved c =
    let sets = c.args.sets.now.present in
    let terms = c.args.terms.now in
    let i = c.loop-term.term-index in
    record {
      product = one_more sets _ (drop i terms) (drop (i + 1) terms) c.loop-term.product c.in_ok-product.product (c.args.count * choices sets terms) (drop_next terms i _ c.loop-term-test.true) c.loop-term.invariant.product c.in_ok-product.ensures.value;
      some = c.in_ok-product.ensures.some;
      few = c.in_ok-product.ensures.few;
    }
