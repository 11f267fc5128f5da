use Rattle.std.proofs.Common.{sym, subst}
use Rattle.fzn_values.specs.Term.{IsTerm}
use Rattle.fzn_terms.proofs.interval.Interval.outside.Goals as goal

pub returns-then-self-clause-terms : goal.returns-then-self-clause-terms
returns-then-self-clause-terms c = λ count fits. (subst (IsTerm count) (sym c.other_than.ensures.term) fits, c.never.ensures count)
