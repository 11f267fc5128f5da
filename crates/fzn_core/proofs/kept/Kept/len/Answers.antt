use Rattle.std.proofs.Common.{◌≡◌, Option, length, sym, subst}
use Rattle.fzn_core.specs.declared.plan.Plan.{Plan}
use Rattle.fzn_core.specs.Kept.{kept_by}
use Rattle.fzn_core.proofs.kept.Kept.len.Goals as goal

pub returns-in-Some : goal.returns-in-Some
returns-in-Some c =
    let held = c.args.self.now.held in
    subst (λ (plan : Option Plan). c.len-in-Some.result ≡ length (kept_by plan held)) (sym c.in-Some.is) (c.len-in-Some.ensures held)
