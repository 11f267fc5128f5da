use Rattle.fzn_equality.proofs.equality.unasked.Goals as goal

pub returns-in-Equal-None-clause-term : goal.returns-in-Equal-None-clause-term
returns-in-Equal-None-clause-term c = λ count fits. c.never.ensures count
