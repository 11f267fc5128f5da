use Rattle.std.proofs.Common.{◌∙◌, inl, arith, ap}
use Rattle.std.proofs.lemmas.Int.{ints}
use Rattle.std.proofs.lemmas.Result.{IfOk-weaker}
use Rattle.fzn_domain.proofs.DomainLemmas.{real}
use Rattle.fzn_sets.specs.Terms.{least_value, greatest_value}
use Rattle.fzn_terms.proofs.CaseLemmas.{either}
use Rattle.fzn_cumulative.proofs.PushLemmas.{but_earliest, free_before}
use Rattle.fzn_cumulative.specs.Passes.{tasks_of}
use Rattle.fzn_cumulative.proofs.push.push_before.Goals as goal

pub returns-then-time-greatest_of : goal.returns-then-time-greatest_of
returns-then-time-greatest_of c =
    let latest = c.greatest_of.ensures.value ∙ ap (greatest_value c.args.pass.now.trail.now.sets) c.start.ensures.value in
    let bits = real _ c.greatest_of.ensures.in_limits in
    inl (omega (arith, ints))

pub push_out-requires-clause-present : goal.push_out-requires-clause-present
push_out-requires-clause-present c =
    let sets = c.args.pass.now.trail.now.sets in
    let latest = c.greatest_of.ensures.value ∙ ap (greatest_value c.args.pass.now.trail.now.sets) c.start.ensures.value in
    let bits = real _ c.greatest_of.ensures.in_limits in
    but_earliest sets (tasks_of c.args.pass.now) c.args.time.now _ _ c.args.k (omega (arith, ints))
    (real _ c.least_of-shortest.ensures.in_limits ∙ c.least_of-shortest.ensures.value ∙ ap (least_value sets) c.duration.ensures.value)
    (real _ c.least_of-least.ensures.in_limits ∙ c.least_of-least.ensures.value ∙ ap (least_value sets) c.uses.ensures.value)

pub returns : goal.returns
returns c =
    let sets = c.args.pass.now.trail.now.sets in
    IfOk-weaker c.push_out.result _ _
    (λ found.
    either found (λ justified. justified)
    (free_before sets (tasks_of c.args.pass.now) c.args.time.now _ _ c.args.k
    (real _ c.least_of-shortest.ensures.in_limits ∙ c.least_of-shortest.ensures.value ∙ ap (least_value sets) c.duration.ensures.value)
    (real _ c.least_of-least.ensures.in_limits ∙ c.least_of-least.ensures.value ∙ ap (least_value sets) c.uses.ensures.value)))
    c.push_out.ensures
