use Rattle.std.proofs.Common.{sym, subst, All, IfSome}
use Rattle.fzn_domain.specs.Narrow.{IsClauseOver}
use Rattle.fzn_checker.proofs.JudgeLemmas.{denied_from, count-denied}
use Rattle.fzn_checker.proofs.judge.judge_resolve.Goals as goal

pub follow-requires-clause-over : goal.follow-requires-clause-over
follow-requires-clause-over c =
    subst (λ n. All (λ held. IfSome held (IsClauseOver n)) c.args.history.now.clauses)
    (sym (count-denied c.args.model.now c.deny.new.sets.present c.args.clause.now (denied_from c.args.model.now c.args.sets.now c.deny.new.sets.present c.args.clause.now c.requires.sets c.in_ok-emptied.ensures.sets)))
    c.requires.history.variables
