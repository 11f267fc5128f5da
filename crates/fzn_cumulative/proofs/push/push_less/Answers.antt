use Rattle.std.proofs.Common.{◌≡◌, ◌∙◌, ◌*◌, inl, inr, arith, ap, ℤ, pos, ◌+ℤ◌, ◌-ℤ◌, ◌≤ℤ◌, w64, to_z, of_z}
use Rattle.std.proofs.lemmas.Int.{ints}
use Rattle.std.proofs.lemmas.Result.{IfOk-weaker}
use Rattle.fzn_domain.proofs.DomainLemmas.{real}
use Rattle.fzn_sets.specs.Terms.{least_value, greatest_value}
use Rattle.fzn_terms.proofs.CaseLemmas.{either}
use Rattle.fzn_domain.specs.Limits.{IsInLimits}
use Rattle.fzn_cumulative.specs.Loads.{others_of}
use Rattle.fzn_cumulative.proofs.PushLemmas.{but_least, free_to_use}
use Rattle.fzn_cumulative.proofs.push.push_less.Goals as goal
use Rattle.fzn_cumulative.specs.Passes.{tasks_of}
use Rattle.fzn_cumulative.proofs.push.push_less.Goals.{After-greatest_of}

amount_is : (most others greatest used : ℤ) → IsInLimits most → pos 0 ≤ℤ others → others ≤ℤ pos (100000 * 1000000000) → most ≡ greatest → others ≡ used → to_z w64 (of_z w64 (to_z w64 (of_z w64 (to_z w64 (of_z w64 most) -ℤ to_z w64 (of_z w64 others))) +ℤ pos 1)) ≡ (greatest -ℤ used) +ℤ pos 1
amount_is most others greatest used limits low high a b = omega (arith, ints, limits.0, limits.1)

-- one more than what is left
amount : (c : After-greatest_of) → to_z w64 (of_z w64 (to_z w64 (of_z w64 (to_z w64 (of_z w64 c.greatest_of.result) -ℤ to_z w64 (of_z w64 c.others_at-others.result))) +ℤ pos 1)) ≡ (greatest_value c.args.pass.now.trail.now.sets c.args.pass.now.capacity -ℤ others_of c.args.pass.now.trail.now.sets c.args.time.now c.args.k (tasks_of c.args.pass.now)) +ℤ pos 1
amount c =
    amount_is c.greatest_of.result c.others_at-others.result (greatest_value c.args.pass.now.trail.now.sets c.args.pass.now.capacity) (others_of c.args.pass.now.trail.now.sets c.args.time.now c.args.k (tasks_of c.args.pass.now))
    c.greatest_of.ensures.in_limits c.others_at-others.ensures.low c.others_at-others.ensures.high c.greatest_of.ensures.value c.others_at-others.ensures.value

pub returns-then-not-surely_runs : goal.returns-then-not-surely_runs
returns-then-not-surely_runs c = inl (cc)

pub returns-then-amount-lt0 : goal.returns-then-amount-lt0
returns-then-amount-lt0 c = let over = amount (goal.at.returns-then-amount-lt0 c).After-greatest_of in inr (inl (omega (arith, ints)))

pub push_out-requires-clause-present : goal.push_out-requires-clause-present
push_out-requires-clause-present c =
    let sets = c.args.pass.now.trail.now.sets in
    but_least sets (tasks_of c.args.pass.now) c.args.time.now _ _ c.args.k (cc)
    (real _ c.least_of-shortest.ensures.in_limits ∙ c.least_of-shortest.ensures.value ∙ ap (least_value sets) c.duration.ensures.value)

pub returns : goal.returns
returns c =
    let sets = c.args.pass.now.trail.now.sets in
    IfOk-weaker c.push_out.result _ _
    (λ found.
    either found (λ justified. justified)
    (free_to_use sets (tasks_of c.args.pass.now) c.args.time.now (to_z w64 (of_z w64 c.least_of-shortest.result)) _ c.args.k (amount (goal.at.returns c).After-greatest_of)))
    c.push_out.ensures
