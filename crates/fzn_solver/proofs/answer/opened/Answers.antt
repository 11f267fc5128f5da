-- With what is derived the model is well formed too.
use Rattle.std.specs.Prelude.{string_bytes}
use Rattle.fzn_solver.proofs.OpenedLemmas.{formed-result}
use Rattle.fzn_solver.proofs.answer.opened.Goals as goal

pub returns-clause-formed : goal.returns-clause-formed
returns-clause-formed c = formed-result string_bytes c.args.model.now c.open_with.new.model c.open_with.result c.requires c.open_with.ensures
