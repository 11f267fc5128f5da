use Rattle.fzn_table.proofs.pass.Pass.count.Goals as goal

pub returns : goal.returns
returns c = c.args.self.now.counted
