use Rattle.fzn_fixed.proofs.pass.Pass.admitted.Goals as goal

pub returns-in_default-clause-term : goal.returns-in_default-clause-term
returns-in_default-clause-term c = c.never.ensures _
