use Rattle.fzn_builtin.proofs.member.Pass.otherwise.Goals as goal

pub returns-in-None-clause-term : goal.returns-in-None-clause-term
returns-in-None-clause-term c = c.never.ensures _
