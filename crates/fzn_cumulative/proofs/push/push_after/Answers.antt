use Rattle.std.proofs.Common.{◌∙◌, inl, arith, ap, w64, to_z, of_z}
use Rattle.std.proofs.lemmas.Int.{ints}
use Rattle.std.proofs.lemmas.Result.{IfOk-weaker}
use Rattle.fzn_domain.proofs.DomainLemmas.{real}
use Rattle.fzn_sets.specs.Terms.{least_value}
use Rattle.fzn_terms.proofs.CaseLemmas.{either}
use Rattle.fzn_cumulative.proofs.PushLemmas.{but_latest, free_after}
use Rattle.fzn_cumulative.specs.Passes.{tasks_of}
use Rattle.fzn_cumulative.proofs.push.push_after.Goals as goal

pub returns-then-least_end-time : goal.returns-then-least_end-time
returns-then-least_end-time c = let end = c.least_end.ensures in inl (omega (arith, ints))

pub push_out-requires-clause-present : goal.push_out-requires-clause-present
push_out-requires-clause-present c =
    let sets = c.args.pass.now.trail.now.sets in
    let end = c.least_end.ensures in
    but_latest sets (tasks_of c.args.pass.now) c.args.time.now _ _ c.args.k (omega (arith, ints))
    (real _ c.least_of-shortest.ensures.in_limits ∙ c.least_of-shortest.ensures.value ∙ ap (least_value sets) c.duration.ensures.value)
    (real _ c.least_of-least.ensures.in_limits ∙ c.least_of-least.ensures.value ∙ ap (least_value sets) c.uses.ensures.value)

pub returns : goal.returns
returns c =
    let sets = c.args.pass.now.trail.now.sets in
    IfOk-weaker c.push_out.result _ _
    (λ found.
    either found (λ justified. justified)
    (free_after sets (tasks_of c.args.pass.now) c.args.time.now (to_z w64 (of_z w64 c.least_of-shortest.result)) _ c.args.k (real _ c.least_of-least.ensures.in_limits ∙ c.least_of-least.ensures.value ∙ ap (least_value sets) c.uses.ensures.value)))
    c.push_out.ensures
