-- One part more is counted.
use Rattle.std.proofs.Common.{rules, arith, ◌≡◌, ◌≤◌, get_or, sym, ap, ◌∙◌}
use Rattle.fzn_head.specs.Extended.{listed_of}
use Rattle.fzn_head.proofs.ExtendedLaws.{listed-more}
use Rattle.fzn_head.proofs.extender.parts_held.Goals as goal

pub loop-part-preserved : goal.loop-part-preserved
loop-part-preserved c =
    let parts = c.args.parts.now in
    let part = c.part-item.result in
    let more = listed-more parts c.loop-part.part-index part c.loop-part-test.true in
    let here : listed_of (get_or parts c.loop-part.part-index part) ≡ c.listed_of.result = ap listed_of (sym c.part-item.is) ∙ sym c.listed_of.ensures in
    let few : c.listed_of.result ≤ 18446744073709551615 = search rules in
    record {
      so_far = omega (arith, c.loop-part.invariant.so_far);
      small = omega (arith, c.loop-part.invariant.small);
    }
