use Rattle.std.proofs.Common.{[], ◌∷◌, ◌++◌, length, sym, ap, subst, ◌∙◌, ℤ}
use Rattle.fzn_domain.proofs.DomainLemmas.{real}
use Rattle.fzn_domain.specs.declared.literal.Op.TheVariants.{Equal}
use Rattle.fzn_values.specs.Term.{IsTerm}
use Rattle.fzn_globals.specs.Ways.{IsMissed}
use Rattle.fzn_globals.proofs.WayLemmas.{missed_push}
use Rattle.fzn_globals.proofs.inverse.pairs.push_missing.Goals as goal

pub returns-in_ok-push : goal.returns-in_ok-push
returns-in_ok-push c =
    let trail = c.args.pass.now.trail.now in
    let number = c.args.number.now in
    let more = ap (λ (x : ℤ). c.args.clause.now ++ record { var = c.in-Variable.var; op = Equal; value = x } ∷ []) (real number c.requires.limits) in
    subst (IsMissed trail c.args.term number c.args.clause.now) (sym (c.in_ok-push.ensures.ok ∙ more))
    (missed_push trail c.args.term c.in-Variable.var number c.args.clause.now c.in-Variable.is (subst (IsTerm (length trail.declared)) c.in-Variable.is c.requires.term) c.requires.limits c.requires.missing c.requires.forcing)
