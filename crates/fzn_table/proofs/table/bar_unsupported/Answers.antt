use Rattle.std.proofs.Common.{arith}
use borrow.Author.Count.{below_more}
use Rattle.fzn_values.specs.Term.{numbers_in}
use Rattle.fzn_table.specs.Supports.{HasSupports}
use Rattle.fzn_table.proofs.table.bar_unsupported.Goals as goal

pub loop-p-preserved : goal.loop-p-preserved
loop-p-preserved c =
    let pass = c.args.pass.now in
    record {
      supported = λ nothing. below_more (HasSupports pass.trail.now pass.places.now (numbers_in pass.rows.now)) c.loop-p.p (c.loop-p.invariant.supported (c.bar_place.ensures.kept nothing)) (c.in_ok-is_each_tested.ensures.none nothing);
      marks = c.bar_place.ensures.marks;
      found = c.bar_place.ensures.found;
    }

pub returns-clause-none : goal.returns-clause-none
returns-clause-none c = λ nothing p below. c.loop-p.invariant.supported nothing p (omega (arith, below, c.loop-p-test.false))
