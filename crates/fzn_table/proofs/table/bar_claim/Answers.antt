use Rattle.fzn_table.specs.Passes.{table_of_pass}
use Rattle.fzn_table.proofs.table.bar_claim.Goals as goal

pub returns-clause-found : goal.returns-clause-found
returns-clause-found c =
    let pass = c.args.pass.now in
    c.hand_over.ensures.found pass.trail.now (table_of_pass pass) (rw c.in-Some.is at c.in_ok-clause.ensures.found) c.requires.before

pub returns-in_err-hand_over-clause-found : goal.returns-in_err-hand_over-clause-found
returns-in_err-hand_over-clause-found c =
    let pass = c.args.pass.now in
    c.hand_over.ensures.found pass.trail.now (table_of_pass pass) (rw c.in-Some.is at c.in_ok-clause.ensures.found) c.requires.before
