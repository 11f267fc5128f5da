use Rattle.std.proofs.Common.{◌≡◌, length, ap, subst, sym, ◌∙◌, arith}
use Rattle.fzn_trail.specs.declared.trail.Reason.TheVariants.{Decision}
use Rattle.fzn_trail.specs.Levels.{asserted}
use Rattle.fzn_trail_tests.specs.Carried.{IsCarried}
use Rattle.fzn_trail_tests.proofs.CarriedLemmas.{IsCarried-decided}
use Rattle.fzn_trail_tests.proofs.second_opinion.Tested.decide.Goals as goal

pub returns : goal.returns
returns c =
    let trail = c.args.self.now.trail in
    let seen : trail.mark ≡ length trail.entries = omega (arith, c.seen.ensures.value, c.len.ensures.value, c.if-seen-len.false) in
    subst (IsCarried c.args.self.now.clauses) (sym (c.in_ok-is_left.ensures.ok ∙ ap (asserted c.args.lit Decision) c.in_ok-push_level.ensures.ok))
    (IsCarried-decided c.args.self.now.clauses trail c.requires.carried c.args.lit Decision seen c.requires.variable c.len.ensures.narrower)
