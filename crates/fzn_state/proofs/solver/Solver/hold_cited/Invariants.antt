use Rattle.std.proofs.Common.{List}
use Rattle.fzn_meaning.specs.declared.model.Model.{Model}
use Rattle.fzn_cert.specs.declared.step.Step.{Step}
use Rattle.fzn_state.specs.Changes.{IsReduced}
use Rattle.fzn_state.specs.Search.{IsAfter}
use Rattle.fzn_state.proofs.solver.Solver.hold_cited.Given as goal

-- what was held so far changed nothing else
abbrev pub invariant-cited : goal.invariant-cited
invariant-cited l = (model : Model) (steps : List Step) → IsAfter model l.fn.self steps → IsReduced model l.fn.self l.self steps
