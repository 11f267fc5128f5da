-- A possible literal is one of the clause's.
use Rattle.std.proofs.Common.{length, subst, sym, List}
use Rattle.fzn_domain.specs.declared.literal.Lit.{Lit}
use Rattle.fzn_domain.specs.Narrow.{IsClauseOver}
use Rattle.fzn_state.proofs.VariableLemmas.{variable-of}
use Rattle.fzn_engine.proofs.moves.enqueue.Goals as goal

pub assert-requires : goal.assert-requires
assert-requires c =
    let O : List Lit → Type 0 = λ clause. IsClauseOver (length c.args.solver.now.trail.declared) clause in
    variable-of c.args.solver.now.trail.sets (length c.args.solver.now.trail.declared) c.clause_of.result.now c.in-Some.lit c.in-Some.ensures.0 (subst O (sym c.clause_of.ensures) c.requires.over) c.in-Some.ensures.1
