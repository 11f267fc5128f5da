-- The number of a held clause.
use Rattle.std.proofs.Common.{ℕ, List, Some, get_or, ap, subst, sym, ◌∙◌}
use Rattle.fzn_cert.specs.Past.{clause_held}
use Rattle.fzn_cert.specs.Accepted.{past_after}
use Rattle.fzn_trail.specs.declared.trail.Antecedent.{Antecedent}
use Rattle.fzn_learned.specs.Reasoned.{IsKnown, antecedent_clause}
use Rattle.fzn_state.specs.State.{known_in}
use Rattle.fzn_state.specs.Search.{stock_of}
use Rattle.fzn_state.proofs.solver.Solver.write_antecedent.Goals as goal

pub returns-in-Clause-clause-number : goal.returns-in-Clause-clause-number
returns-in-Clause-clause-number g c =
    let old = c.args.self.now in
    let past = past_after c.args.model.now (g.S.Sink.written c.args.sink.now) in
    let known = subst (λ (s : Antecedent). IsKnown (known_in (stock_of c.args.self.now)) s) c.in-Clause.is c.requires.known in
    let numbered = c.requires.ready.state.state.core.numbered in
    ap (λ (ns : List ℕ). clause_held past (get_or ns c.in-Clause.id.0 0)) c.as_slice.ensures
    ∙ numbered.gives c.in-Clause.id known
    ∙ ap (λ (s : Antecedent). Some (antecedent_clause (known_in (stock_of c.args.self.now)) s)) (sym c.in-Clause.is)
