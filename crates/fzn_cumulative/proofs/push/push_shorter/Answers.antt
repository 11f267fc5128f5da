use Rattle.std.proofs.Common.{◌≡◌, ◌∙◌, inl, arith, ap, ℤ, pos, ◌+ℤ◌, ◌-ℤ◌, w64, to_z, of_z}
use Rattle.std.proofs.lemmas.Int.{ints}
use Rattle.std.proofs.lemmas.Result.{IfOk-weaker}
use Rattle.fzn_domain.proofs.DomainLemmas.{real}
use Rattle.fzn_sets.specs.Terms.{least_value, greatest_value}
use Rattle.fzn_terms.proofs.CaseLemmas.{either}
use Rattle.fzn_cumulative.specs.Loads.{start_at}
use Rattle.fzn_cumulative.proofs.LoadLemmas.{earliest_is, limits_least}
use Rattle.fzn_cumulative.proofs.PushLemmas.{but_shortest, free_for_long}
use Rattle.fzn_cumulative.proofs.push.push_shorter.Goals as goal
use Rattle.fzn_cumulative.specs.Passes.{tasks_of}
use Rattle.fzn_cumulative.proofs.push.push_shorter.Goals.{After-least_of}

-- so long that it ends just after the time
shortest : (c : After-least_of) → to_z w64 (of_z w64 (to_z w64 (of_z w64 (to_z w64 (of_z w64 c.args.time.now) -ℤ to_z w64 (of_z w64 c.least_of.result))) +ℤ pos 1)) ≡ (c.args.time.now -ℤ least_value c.args.pass.now.trail.now.sets (start_at (tasks_of c.args.pass.now) c.args.k)) +ℤ pos 1
shortest c =
    earliest_is c.args.time.now c.least_of.result c.requires.time (limits_least _ c.least_of.ensures.in_limits)
    ∙ ap (λ (n : ℤ). (c.args.time.now -ℤ n) +ℤ pos 1) (c.least_of.ensures.value ∙ ap (least_value c.args.pass.now.trail.now.sets) c.start-start.ensures.value)

pub returns-then-time-greatest_of : goal.returns-then-time-greatest_of
returns-then-time-greatest_of c =
    let latest = c.greatest_of.ensures.value ∙ ap (greatest_value c.args.pass.now.trail.now.sets) c.start-start.ensures.value in
    let bits = real _ c.greatest_of.ensures.in_limits in
    inl (omega (arith, ints))

pub push_out-requires-clause-present : goal.push_out-requires-clause-present
push_out-requires-clause-present c =
    let sets = c.args.pass.now.trail.now.sets in
    let latest = c.greatest_of.ensures.value ∙ ap (greatest_value c.args.pass.now.trail.now.sets) c.start-start.ensures.value in
    let bits = real _ c.greatest_of.ensures.in_limits in
    but_shortest sets (tasks_of c.args.pass.now) c.args.time.now _ _ c.args.k (omega (arith, ints)) (shortest (goal.at.push_out-requires-clause-present c).After-least_of)
    (real _ c.least_of-least.ensures.in_limits ∙ c.least_of-least.ensures.value ∙ ap (least_value sets) c.uses.ensures.value)

pub returns : goal.returns
returns c =
    let sets = c.args.pass.now.trail.now.sets in
    IfOk-weaker c.push_out.result _ _
    (λ found.
    either found (λ justified. justified)
    (free_for_long sets (tasks_of c.args.pass.now) c.args.time.now _ _ c.args.k (shortest (goal.at.returns c).After-least_of)
    (real _ c.least_of-least.ensures.in_limits ∙ c.least_of-least.ensures.value ∙ ap (least_value sets) c.uses.ensures.value)))
    c.push_out.ensures
