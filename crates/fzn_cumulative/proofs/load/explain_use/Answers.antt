use Rattle.std.proofs.Common.{◌≡◌, ◌∙◌, ap, refl, List, sym, subst}
use Rattle.std.proofs.lemmas.Result.{on_ok_weaker}
use Rattle.fzn_sets.specs.Terms.{least_value, greatest_value}
use Rattle.fzn_terms.specs.declared.claim.Claim.{Claim}
use Rattle.fzn_terms.specs.Denied.{IsGrown, AreEntailedBut}
use Rattle.fzn_terms.proofs.OrderLemmas.{le_same}
use Rattle.fzn_cumulative.specs.Claims.{use_claims}
use Rattle.fzn_cumulative.specs.Loads.{start_at, duration_at, uses_at}
use Rattle.fzn_cumulative.specs.Passes.{tasks_of}
use Rattle.fzn_cumulative.proofs.ClaimLemmas.{task_entailed}
use Rattle.fzn_cumulative.proofs.LoadLemmas.{claims_are, use_explained, run_parts, limits_least}
use Rattle.fzn_cumulative.proofs.load.explain_use.Goals as goal
use Rattle.fzn_cumulative.proofs.load.explain_use.Goals.{After-task_claims-claims}

-- the claims, of the numbers of the trail
claims : (c : After-task_claims-claims) → c.task_claims-claims.result ≡ use_claims (tasks_of c.args.pass.now) c.args.k c.args.time.now (least_value c.args.pass.now.trail.now.sets (duration_at (tasks_of c.args.pass.now) c.args.k)) (least_value c.args.pass.now.trail.now.sets (uses_at (tasks_of c.args.pass.now) c.args.k))
claims c =
    let sets = c.args.pass.now.trail.now.sets in
    let tasks = tasks_of c.args.pass.now in
    let same = claims_are (start_at tasks c.args.k) (duration_at tasks c.args.k) (uses_at tasks c.args.k) c.args.time.now c.least_of-shortest.result c.least_of-least.result c.task_claims-claims.result c.requires.time
    (limits_least _ c.least_of-shortest.ensures.in_limits) (limits_least _ c.least_of-least.ensures.in_limits) c.task_claims-claims.ensures.value in
    let shortest = c.least_of-shortest.ensures.value ∙ ap (least_value sets) c.duration.ensures.value in
    let least = c.least_of-least.ensures.value ∙ ap (least_value sets) c.uses.ensures.value in
    cc

pub explain_claims-requires-clause-present : goal.explain_claims-requires-clause-present
explain_claims-requires-clause-present c =
    let sets = c.args.pass.now.trail.now.sets in
    let tasks = tasks_of c.args.pass.now in
    let runs = run_parts (greatest_value sets (start_at tasks c.args.k)) c.args.time.now (least_value sets (start_at tasks c.args.k)) (least_value sets (duration_at tasks c.args.k)) c.requires.runs in
    subst (λ (xs : List Claim). AreEntailedBut 4 xs c.args.pass.now.trail.now.sets) (sym (claims (goal.at.explain_claims-requires-clause-present c).After-task_claims-claims))
    (task_entailed (start_at tasks c.args.k) (duration_at tasks c.args.k) (uses_at tasks c.args.k) c.args.time.now _ _ _ sets 4 (λ _. runs.0) (λ _. runs.1) (λ _. le_same _ _ refl) (λ _. le_same _ _ refl))

pub returns : goal.returns
returns c =
    on_ok_weaker c.explain_claims.result
    (λ said.
    use_explained c.args.pass.now.trail.now (tasks_of c.args.pass.now) c.args.time.now c.args.k c.args.clause.now c.explain_claims.new.clause c.args.pass.now.ready c.requires.place
    (subst (λ (xs : List Claim). IsGrown c.args.pass.now.trail.now (AreEntailedBut 4 xs) c.args.clause.now c.explain_claims.new.clause) (claims (goal.at.returns c).After-task_claims-claims) said))
    c.explain_claims.ensures
