use Rattle.std.proofs.Common.{sym, subst, ◌∙◌, length, w64, to_z, of_z}
use Rattle.std.specs.List.{All}
use Rattle.fzn_domain.specs.Limits.{IsInLimits}
use Rattle.fzn_values.specs.Term.{IsTerm}
use Rattle.fzn_cumulative.proofs.PropagatorLemmas.{constants_formed}
use Rattle.fzn_domain.proofs.DomainLemmas.{real}
use Rattle.fzn_cumulative.specs.Passes.{tasks_of}
use Rattle.fzn_cumulative.proofs.fixed_tasks.is_kept_at_least.Goals as goal

pub holds-requires : goal.holds-requires
holds-requires c =
    let sets = c.args.pass.now.trail.now.sets in
    let tasks = tasks_of c.args.pass.now in
    let capacity = real _ c.least_of.ensures.in_limits in
    constants_formed sets (length c.args.pass.now.trail.now.declared) tasks c.in_ok-new.field-0 c.in_ok-new-2.field-0 c.in_ok-new-3.field-0 (to_z w64 (of_z w64 c.least_of.result)) c.args.pass.now.ready
    (c.in_ok-new.ensures ∙ c.in_ok-starts.ensures.same)
    (c.in_ok-new-2.ensures ∙ c.in_ok-durations.ensures.same)
    (c.in_ok-new-3.ensures ∙ c.in_ok-uses.ensures.same)
    (subst (All (IsTerm 0)) (sym c.in_ok-new.ensures) c.in_ok-starts.ensures.limits)
    (subst (All (IsTerm 0)) (sym c.in_ok-new-2.ensures) c.in_ok-durations.ensures.limits)
    (subst (All (IsTerm 0)) (sym c.in_ok-new-3.ensures) c.in_ok-uses.ensures.limits)
    (subst IsInLimits (sym capacity) c.least_of.ensures.in_limits)
