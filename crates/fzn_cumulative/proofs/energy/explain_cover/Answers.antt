use Rattle.std.proofs.Common.{◌≡◌, ◌≤ℤ◌, arith, ap, List, refl, sym, subst, ◌∙◌, ℤ, pos, ◌+ℤ◌, ◌-ℤ◌, w64, to_z, of_z}
use Rattle.std.proofs.lemmas.Int.{ints}
use Rattle.std.proofs.lemmas.Result.{on_ok_weaker}
use Rattle.fzn_domain.specs.Limits.{IsInLimits}
use Rattle.fzn_sets.specs.Terms.{least_value}
use Rattle.fzn_terms.specs.declared.claim.Claim.{Claim}
use Rattle.fzn_terms.specs.Denied.{IsGrown, AreEntailedBut}
use Rattle.fzn_cumulative.specs.Claims.{task_claims}
use Rattle.fzn_cumulative.specs.Loads.{IsTime, start_at, duration_at, uses_at}
use Rattle.fzn_cumulative.specs.Passes.{tasks_of}
use Rattle.fzn_cumulative.proofs.ClaimLemmas.{task_same, task_entailed}
use Rattle.fzn_cumulative.specs.Energies.{least_cover}
use Rattle.fzn_cumulative.proofs.EnergyLemmas.{cover_latest, cover_earliest, energy_explained}
use Rattle.fzn_terms.proofs.OrderLemmas.{le_same}
use Rattle.fzn_domain.proofs.DomainLemmas.{real}
use Rattle.fzn_cumulative.proofs.energy.explain_cover.Goals as goal
use Rattle.fzn_cumulative.proofs.energy.explain_cover.Goals.{After-task_claims-claims}

latest_is : (u x c : ℤ) → IsTime u → pos 0 ≤ℤ x → x ≤ℤ pos 1000000000 → x ≡ c → to_z w64 (of_z w64 (to_z w64 (of_z w64 u) -ℤ to_z w64 (of_z w64 x))) ≡ u -ℤ c
latest_is u x c time low high e = omega (arith, ints, time.0, time.1)

earliest_is : (f x c s d : ℤ) → IsTime f → pos 0 ≤ℤ x → x ≤ℤ pos 1000000000 → x ≡ c → IsInLimits s → s ≡ d → to_z w64 (of_z w64 (to_z w64 (of_z w64 (to_z w64 (of_z w64 f) +ℤ to_z w64 (of_z w64 x))) -ℤ to_z w64 (of_z w64 s))) ≡ (f +ℤ c) -ℤ d
earliest_is f x c s d time low high e limits h = omega (arith, ints, time.0, time.1, limits.0, limits.1)

-- the claims, of the numbers of the trail
claims : (c : After-task_claims-claims) → c.task_claims-claims.result ≡ task_claims (start_at (tasks_of c.args.pass.now) c.args.k) (duration_at (tasks_of c.args.pass.now) c.args.k) (uses_at (tasks_of c.args.pass.now) c.args.k) (c.args.span.now.until -ℤ least_cover c.args.pass.now.trail.now.sets c.args.span.now.from c.args.span.now.until (start_at (tasks_of c.args.pass.now) c.args.k) (duration_at (tasks_of c.args.pass.now) c.args.k)) ((c.args.span.now.from +ℤ least_cover c.args.pass.now.trail.now.sets c.args.span.now.from c.args.span.now.until (start_at (tasks_of c.args.pass.now) c.args.k) (duration_at (tasks_of c.args.pass.now) c.args.k)) -ℤ least_value c.args.pass.now.trail.now.sets (duration_at (tasks_of c.args.pass.now) c.args.k)) (least_value c.args.pass.now.trail.now.sets (duration_at (tasks_of c.args.pass.now) c.args.k)) (least_value c.args.pass.now.trail.now.sets (uses_at (tasks_of c.args.pass.now) c.args.k))
claims c =
    let sets = c.args.pass.now.trail.now.sets in
    let short = c.least_of-shortest.ensures.value ∙ ap (least_value sets) c.duration.ensures.value in
    task_same (start_at (tasks_of c.args.pass.now) c.args.k) (duration_at (tasks_of c.args.pass.now) c.args.k) (uses_at (tasks_of c.args.pass.now) c.args.k) _ _ _ _ _ _ _ _ c.task_claims-claims.result c.task_claims-claims.ensures.value
    (latest_is c.args.span.now.until c.least_cover-covered.result _ c.args.span.now.ends c.least_cover-covered.ensures.low c.least_cover-covered.ensures.high c.least_cover-covered.ensures.value)
    (earliest_is c.args.span.now.from c.least_cover-covered.result _ c.least_of-shortest.result _ c.args.span.now.begins c.least_cover-covered.ensures.low c.least_cover-covered.ensures.high c.least_cover-covered.ensures.value c.least_of-shortest.ensures.in_limits short)
    (real _ c.least_of-shortest.ensures.in_limits ∙ short)
    (real _ c.least_of-least.ensures.in_limits ∙ c.least_of-least.ensures.value ∙ ap (least_value sets) c.uses.ensures.value)

pub explain_claims-requires-clause-present : goal.explain_claims-requires-clause-present
explain_claims-requires-clause-present c =
    let trail = c.args.pass.now.trail.now in
    let covered = least_cover trail.sets c.args.span.now.from c.args.span.now.until (start_at (tasks_of c.args.pass.now) c.args.k) (duration_at (tasks_of c.args.pass.now) c.args.k) in
    subst (λ (xs : List Claim). AreEntailedBut 4 xs c.args.pass.now.trail.now.sets) (sym (claims (goal.at.explain_claims-requires-clause-present c).After-task_claims-claims))
    (task_entailed (start_at (tasks_of c.args.pass.now) c.args.k) (duration_at (tasks_of c.args.pass.now) c.args.k) (uses_at (tasks_of c.args.pass.now) c.args.k) _ _ _ _ trail.sets 4
    (λ _. cover_latest trail (tasks_of c.args.pass.now) c.args.k c.args.span.now.from c.args.span.now.until covered refl c.requires.covers)
    (λ _. cover_earliest trail (tasks_of c.args.pass.now) c.args.k c.args.span.now.from c.args.span.now.until covered refl c.requires.covers)
    (λ _. le_same _ _ refl) (λ _. le_same _ _ refl))

pub returns : goal.returns
returns c =
    let trail = c.args.pass.now.trail.now in
    let covered = least_cover trail.sets c.args.span.now.from c.args.span.now.until (start_at (tasks_of c.args.pass.now) c.args.k) (duration_at (tasks_of c.args.pass.now) c.args.k) in
    on_ok_weaker c.explain_claims.result
    (λ said.
    energy_explained trail (tasks_of c.args.pass.now) c.args.k c.args.span.now.from c.args.span.now.until covered refl c.requires.covers c.args.clause.now c.explain_claims.new.clause c.args.pass.now.ready c.requires.place
    (subst (λ (xs : List Claim). IsGrown c.args.pass.now.trail.now (AreEntailedBut 4 xs) c.args.clause.now c.explain_claims.new.clause) (claims (goal.at.returns c).After-task_claims-claims) said))
    c.explain_claims.ensures
