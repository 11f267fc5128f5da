-- The flags are those of the trail, and a sweep keeps what is held.
use Rattle.std.proofs.Common.{Bool, List, sym, subst}
use Rattle.fzn_clauses.specs.declared.clauses.Clauses.{Clauses}
use Rattle.fzn_reduction.specs.Forgetting.{AreFlagged, HasForgotten}
use Rattle.fzn_reduction.proofs.ForgetLemmas.{forgotten-swept, forgotten-through}
use Rattle.fzn_reduction.proofs.forgetting.forget.Goals as goal
use Rattle.fzn_reduction.proofs.forgetting.forget.Goals.{then-is_sweep_due, else-is_sweep_due}

pub returns : goal.returns
returns c =
    let F : List Bool → Type 0 = λ flags. AreFlagged flags c.args.trail.now in
    let forgotten = c.drop_idle.ensures c.args.trail.now (subst F (sym c.as_slice-are_reasons.ensures.value) c.in_ok-flags.ensures) in
    let H : Clauses → Type 0 = λ clauses. HasForgotten c.args.trail.now c.args.cuts.now c.args.clauses.now clauses in
    elim c.if-is_sweep_due.branch [
      | then-is_sweep_due w ↦ subst H (sym w.clauses-is) (forgotten-through forgotten (forgotten-swept w.sweep.ensures.held w.sweep.ensures.watching))
      | else-is_sweep_due w ↦ subst H (sym w.clauses-is) forgotten
    ]
