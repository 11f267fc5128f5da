use Rattle.std.proofs.Common.{List, Option, sym, subst, IfSome}
use Rattle.fzn_domain.specs.declared.literal.Lit.{Lit}
use Rattle.fzn_linear.specs.Kinds.{form_of_sum}
use Rattle.fzn_linear.specs.Passes.{IsInferredGuarded}
use Rattle.fzn_linear.specs.Sum.{IsFound}
use Rattle.fzn_linear.proofs.FormLemmas.{justified_found}
use Rattle.fzn_linear.proofs.side.Side.hand_over.Goals as goal

pub returns-clause-found : goal.returns-clause-found
returns-clause-found c =
    let trail = c.args.self.now.pass.trail.now in
    let form = form_of_sum c.args.self.now.pass.form.now in
    let cause = subst (λ (f : Option (List Lit)). IfSome f (IsInferredGuarded c.args.self.now)) c.in-Some.is c.requires in
    let there = subst (λ (ls : List Lit). IsFound c.args.self.now.pass.trail.now (form_of_sum c.args.self.now.pass.form.now) ls) (sym c.in_ok-all.ensures) cause in
    record {
      still = λ constraint is. c.hand_over.ensures.found trail constraint (justified_found trail form c.in_ok-all.all constraint is there);
      kept = c.hand_over.ensures.kept;
    }
