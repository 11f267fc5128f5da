-- The flags are those of the trail.
use Rattle.std.proofs.Common.{Bool, List, sym, subst}
use Rattle.fzn_reduction.specs.Forgetting.{AreFlagged}
use Rattle.fzn_reduction.proofs.forgetting.forget_units.Goals as goal

pub returns : goal.returns
returns c =
    let F : List Bool → Type 0 = λ flags. AreFlagged flags c.args.trail.now in
    c.drop_idle.ensures c.args.trail.now (subst F (sym c.as_slice-are_reasons.ensures.value) c.in_ok-flags.ensures)
