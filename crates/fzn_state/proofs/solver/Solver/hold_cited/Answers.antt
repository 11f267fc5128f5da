-- One inference after the other.
use Rattle.std.proofs.Common.{sym, subst}
use Rattle.fzn_state.specs.declared.solver.Solver.{Solver}
use Rattle.fzn_state.specs.Changes.{IsReduced}
use Rattle.fzn_state.proofs.ForgetLemmas.{nothing-reduced, reduced-through}
use Rattle.fzn_state.proofs.solver.Solver.hold_cited.Goals as goal
use Rattle.fzn_state.proofs.solver.Solver.hold_cited.Goals.{in-Some+in_ok-hold_written, in_default}

pub cited-preserved : goal.cited-preserved
cited-preserved c = λ model steps h.
    let F : Solver → Type 0 = λ s. IsReduced model c.args.self.now s steps in
    let t = c.cited.invariant model steps h in
    let u = reduced-through t (nothing-reduced t.state (record c.cited.self.notes { cited = c.next_cited.new.self })) in
    elim c.match-next_cited.branch [
      | in-Some+in_ok-hold_written w ↦ subst F (sym w.self-is) (reduced-through u (w.in_ok-hold_written.ensures.reduced model steps u.state))
      | in_default w ↦ subst F (sym w.self-is) u
    ]
