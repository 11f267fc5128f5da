use Rattle.std.proofs.Common.{◌≡◌, Bool, true, false, string_bytes, subst, arith}
use Rattle.std.specs.Bool.{OnTrue}
use Rattle.fzn_meaning.specs.declared.model.Model.{Model}
use Rattle.fzn_core.specs.Kept.{IsTrimOf}
use Rattle.fzn_core.specs.Planned.{planned}
use Rattle.fzn_trim.specs.Behind.{IsTrimBehind}
use Rattle.fzn_trim.proofs.ShorterLemmas.{one-stated}
use Rattle.fzn_trim.proofs.shorter.tested_front.Goals as goal

of-true : (b : Bool) (Fact : Type 0) → OnTrue b Fact → b ≡ true → Fact
of-true true Fact h is = h
of-true false Fact h is = cc

-- the model of the bytes is the one that was read, and the steps stand the test for it with what the head derives
pub returns-then-branch : goal.returns-then-branch
returns-then-branch c = λ own reads.
    let model = c.in-Ok.file.model in
    let steps = planned c.args.plan.now c.args.held.now.steps in
    let same : model ≡ own = one-stated c.one_model.ensures c.args.bytes.now model own c.in-Ok.ensures.right reads in
    subst (λ (m : Model). IsTrimBehind m c.args.most c.args.held.now steps (string_bytes c.in_ok-front.front)) same (record {
      left = c.front_with.new.model;
      opens = c.in_ok-front.ensures.front;
      few = omega arith;
      trim = of-true c.in_ok-is_trim.field-0 (IsTrimOf c.front_with.new.model c.args.held.now steps) c.in_ok-is_trim.ensures c.if-branch.true;
    })
