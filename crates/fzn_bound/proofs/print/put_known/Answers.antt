use Rattle.fzn_bound.proofs.print.put_known.Goals as goal

pub returns-in-NoObjective-clause-text : goal.returns-in-NoObjective-clause-text
returns-in-NoObjective-clause-text g c = rw c.in-NoObjective.is c.put.ensures.text
