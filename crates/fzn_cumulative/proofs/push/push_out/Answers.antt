use Rattle.std.proofs.Common.{rules, ◌≡◌, ◌∙◌, ◌*◌, ◌≤ℤ◌, ◌+ℤ◌, ◌-ℤ◌, ap, arith, inl, inr, get_or, w64, to_z, of_z, FitsSigned, List, ℤ, pos, sym, subst}
use Rattle.std.specs.Int.{int_max}
use Rattle.std.specs.List.{All}
use Rattle.std.proofs.lemmas.Int.{ints}
use Rattle.std.proofs.lemmas.Result.{IfOk-weaker}
use Rattle.fzn_domain.specs.Limits.{IsInLimits}
use Rattle.fzn_sets.specs.Terms.{greatest_value}
use Rattle.fzn_terms.specs.declared.claim.Claim.{Claim}
use Rattle.fzn_terms.specs.Denied.{IsEntailed, IsDenied, IsGrownToForce, AreEntailedBut}
use Rattle.fzn_terms.proofs.CaseLemmas.{either}
use Rattle.fzn_cumulative.specs.Loads.{others_of, start_at, duration_at, uses_at}
use Rattle.fzn_cumulative.specs.Claims.{use_claims, IsLeast}
use Rattle.fzn_cumulative.specs.Passes.{tasks_of}
use Rattle.fzn_cumulative.proofs.LoadLemmas.{claims_are, least_is}
use Rattle.fzn_cumulative.proofs.PushLemmas.{push_inferred}
use Rattle.fzn_cumulative.proofs.push.push_out.Goals as goal
use Rattle.fzn_cumulative.proofs.push.push_out.Goals.{After-task_claims-claims, After-greatest_of}

-- not below 0, nor far above what a task or the capacity may be
IsAmount : ℤ → Type 0
IsAmount amount = (pos 0 ≤ℤ amount) × (amount ≤ℤ pos 3000000001)

is_amount : (m u : ℤ) → IsLeast u → m ≡ int_max u (pos 0) → IsAmount m
unfolding IsAmount
is_amount m u near is = (grind (arith, ints), grind (arith, ints, near.1))

sum_is : (others amount : ℤ) → pos 0 ≤ℤ others → others ≤ℤ pos (100000 * 1000000000) → IsAmount amount → to_z w64 (of_z w64 (to_z w64 (of_z w64 others) +ℤ to_z w64 (of_z w64 amount))) ≡ others +ℤ amount
unfolding IsAmount
sum_is others amount low high some = omega (arith, ints, some.0, some.1)

excess_is : (others amount most : ℤ) → pos 0 ≤ℤ others → others ≤ℤ pos (100000 * 1000000000) → IsAmount amount → IsInLimits most → to_z w64 (of_z w64 (to_z w64 (of_z w64 (to_z w64 (of_z w64 others) +ℤ to_z w64 (of_z w64 amount))) -ℤ to_z w64 (of_z w64 most))) ≡ (others +ℤ amount) -ℤ most
unfolding IsAmount
excess_is others amount most low high some limits = omega (arith, ints, some.0, some.1, limits.0, limits.1)

spare_is : (others amount most : ℤ) → pos 0 ≤ℤ others → others ≤ℤ pos (100000 * 1000000000) → IsAmount amount → IsInLimits most → to_z w64 (of_z w64 (to_z w64 (of_z w64 (to_z w64 (of_z w64 (to_z w64 (of_z w64 others) +ℤ to_z w64 (of_z w64 amount))) -ℤ to_z w64 (of_z w64 most))) -ℤ pos 1)) ≡ ((others +ℤ amount) -ℤ most) -ℤ pos 1
unfolding IsAmount
spare_is others amount most low high some limits = omega (arith, ints, some.0, some.1, limits.0, limits.1)

fits : (others amount most : ℤ) → pos 0 ≤ℤ others → others ≤ℤ pos (100000 * 1000000000) → IsAmount amount → IsInLimits most → FitsSigned w64 (to_z w64 (of_z w64 (to_z w64 (of_z w64 others) +ℤ to_z w64 (of_z w64 amount))) -ℤ to_z w64 (of_z w64 most))
unfolding IsAmount
fits others amount most low high some limits =
    let sum = sum_is others amount low high some in
    let a0 = some.0 in
    let a1 = some.1 in
    let m0 = limits.0 in
    let m1 = limits.1 in
    search (rules, ints)

room : (others but amount most greatest excess : ℤ) → others ≡ but → most ≡ greatest → excess ≡ (others +ℤ amount) -ℤ most → excess ≤ℤ pos 0 → (but +ℤ amount) ≤ℤ greatest
room others but amount most greatest excess a b e h = omega (arith, ints)

-- what the use comes to, as the code computes it
amount : (c : After-greatest_of) → c.max.result ≡ int_max (pos 0) c.args.least
amount c =
    let same = least_is c.args.least c.requires.least in
    let is : c.max.result ≡ int_max c.args.least (pos 0) = rw same at c.max.ensures.value in
    is ∙ either_way c.args.least
  where
    either_way : (x : ℤ) → int_max x (pos 0) ≡ int_max (pos 0) x
    either_way x = grind (arith, ints)

some : (c : After-greatest_of) → IsAmount c.max.result
some c = is_amount c.max.result (to_z w64 (of_z w64 c.args.least)) (subst IsLeast (sym (least_is c.args.least c.requires.least)) c.requires.least) c.max.ensures.value

pub overflow_sub-excess : goal.overflow_sub-excess
overflow_sub-excess c = fits c.args.others c.max.result c.greatest_of.result c.requires.others.low c.requires.others.high (some (goal.at.overflow_sub-excess c).After-greatest_of) c.greatest_of.ensures.in_limits

pub returns-then-excess-le0 : goal.returns-then-excess-le0
returns-then-excess-le0 c =
    let sets = c.args.pass.now.trail.now.sets in
    let tasks = tasks_of c.args.pass.now in
    let before = (goal.at.returns-then-excess-le0 c).After-greatest_of in
    let others = c.requires.others in
    let but = others_of sets c.args.time.now c.args.k tasks in
    let excess = excess_is c.args.others c.max.result c.greatest_of.result others.low others.high (some before) c.greatest_of.ensures.in_limits in
    inl (subst (λ (n : ℤ). (but +ℤ n) ≤ℤ greatest_value sets tasks.capacity) (amount before)
    (room c.args.others but c.max.result c.greatest_of.result (greatest_value sets tasks.capacity) _ others.value c.greatest_of.ensures.value excess (omega (arith, ints))))

-- the claims on the task
claims : (c : After-task_claims-claims) → c.task_claims-claims.result ≡ use_claims (tasks_of c.args.pass.now) c.args.k c.args.time.now c.args.shortest c.args.least
claims c =
    let tasks = tasks_of c.args.pass.now in
    claims_are (start_at tasks c.args.k) (duration_at tasks c.args.k) (uses_at tasks c.args.k) c.args.time.now c.args.shortest c.args.least c.task_claims-claims.result c.requires.time c.requires.shortest c.requires.least c.task_claims-claims.ensures.value

pub force_claims-requires-clause-present : goal.force_claims-requires-clause-present
force_claims-requires-clause-present c =
    subst (λ (xs : List Claim). AreEntailedBut c.args.forced xs c.args.pass.now.trail.now.sets) (sym (claims (goal.at.force_claims-requires-clause-present c).After-task_claims-claims)) c.requires.present

pub returns : goal.returns
returns c =
    IfOk-weaker c.force_claims.result _ _
    (λ found told.
    let at = goal.at.returns c in
    let sets = c.args.pass.now.trail.now.sets in
    let tasks = tasks_of c.args.pass.now in
    let same = claims at.After-task_claims-claims in
    let others = c.requires.others in
    let much = amount at.After-greatest_of in
    let spare = spare_is c.args.others c.max.result c.greatest_of.result others.low others.high (some at.After-greatest_of) c.greatest_of.ensures.in_limits
    ∙ ap (λ (n : ℤ). ((n +ℤ c.max.result) -ℤ c.greatest_of.result) -ℤ pos 1) others.value
    ∙ ap (λ (n : ℤ). ((others_of sets c.args.time.now c.args.k tasks +ℤ n) -ℤ c.greatest_of.result) -ℤ pos 1) much in
    either found
    (λ forced.
    push_inferred c.args.pass.now.trail.now tasks c.args.time.now c.args.shortest c.args.least c.greatest_of.result _ c.args.k c.explain_capacity.new.clause c.explain_uses.new.clause c.force_claims.new.clause c.args.pass.now.ready c.requires.place
    c.in_ok-explain_capacity.ensures c.in_ok-explain_uses.ensures spare c.greatest_of.ensures.value
    (subst (λ (xs : List Claim). IsGrownToForce c.args.pass.now.trail.now (λ sets. All (IsEntailed sets) xs) c.explain_uses.new.clause c.force_claims.new.clause) same forced))
    (λ none. inr (λ default. subst (λ (xs : List Claim). IsDenied c.args.pass.now.trail.now.sets (get_or xs c.args.forced default)) same (none default)))
    told)
    c.force_claims.ensures
