use Rattle.std.proofs.Common.{arith, ◌≡◌, ◌<◌, ◌∙◌, length, ap, subst, get_or, List}
use Rattle.std.proofs.lemmas.List.{length_push}
use Rattle.fzn_meaning.specs.declared.row.Part.{Part}
use Rattle.fzn_levels.proofs.ByWeightLemmas.{AreOrdersBefore, orders_more}
use Rattle.fzn_levels.proofs.by_weight.orders_of.Goals as goal

pub loop-part-preserved : goal.loop-part-preserved
loop-part-preserved c =
    let items = c.in_ok-push.ensures.items in
    let count = c.loop-part.invariant.count in
    let longer = length_push c.loop-part.orders.items c.in_ok-order_of.field-0 in
    let inside : c.loop-part.part-index < length c.args.row.now.parts = subst (λ (ps : List Part). c.loop-part.part-index < length ps) c.as_slice-part-items.ensures c.loop-part-test.true in
    record {
      count = ap length items ∙ omega arith;
      are = orders_more c.args.row.now.parts c.loop-part.orders.items c.push.new.self.items c.loop-part.part-index c.part-item.result c.in_ok-order_of.field-0 inside count
          (c.part-item.is ∙ ap (λ (ps : List Part). get_or ps c.loop-part.part-index c.part-item.result) c.as_slice-part-items.ensures) items c.in_ok-order_of.ensures c.loop-part.invariant.are;
    }

pub returns : goal.returns
returns c =
    let past = c.loop-part.auto.part-index-end in
    let end = c.loop-part-test.false in
    let len = ap length c.as_slice-part-items.ensures in
    let whole : c.loop-part.part-index ≡ length c.args.row.now.parts = omega arith in
    subst (AreOrdersBefore c.args.row.now.parts c.loop-part.orders.items) whole c.loop-part.invariant.are
