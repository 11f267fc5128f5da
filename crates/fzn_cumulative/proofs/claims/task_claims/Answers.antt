use Rattle.std.proofs.Common.{◌≡◌, length, arith, sym, subst, ℤ, w64, to_z, of_z}
use Rattle.std.proofs.lemmas.Int.{ints}
use Rattle.std.proofs.lemmas.List.Elements.{All-from_recursion}
use Rattle.std.specs.List.{All}
use Rattle.fzn_terms.specs.Denied.{IsNear, IsSayable}
use Rattle.fzn_cumulative.specs.Claims.{task_claims}
use Rattle.fzn_cumulative.specs.Loads.{start_at, duration_at, uses_at}
use Rattle.fzn_cumulative.specs.Passes.{tasks_of}
use Rattle.fzn_cumulative.proofs.claims.task_claims.Goals as goal

near_is : (n : ℤ) → IsNear n → to_z w64 (of_z w64 n) ≡ n
near_is n near = omega (arith, ints, near.0, near.1)

pub returns-clause-value : goal.returns-clause-value
returns-clause-value c =
    let latest = near_is _ c.requires.latest in
    let earliest = near_is _ c.requires.earliest in
    let shortest = near_is _ c.requires.shortest in
    let least = near_is _ c.requires.least in
    cc

pub returns-clause-sayable : goal.returns-clause-sayable
returns-clause-sayable c =
    let tasks = tasks_of c.args.pass.now in
    let ready = c.args.pass.now.ready in
    let inside = c.requires.place in
    subst (All (IsSayable (length c.args.pass.now.trail.now.declared))) (sym (returns-clause-value c))
    (All-from_recursion (IsSayable (length c.args.pass.now.trail.now.declared)) (task_claims (start_at tasks c.args.k) (duration_at tasks c.args.k) (uses_at tasks c.args.k) c.args.latest c.args.earliest c.args.shortest c.args.least)
    (record { term = ready.starts.0 c.args.k _ inside; near = c.requires.latest }, (record { term = ready.starts.0 c.args.k _ inside; near = c.requires.earliest }, (record { term = ready.durations.0 c.args.k _ (omega arith); near = c.requires.shortest }, (record { term = ready.uses.0 c.args.k _ (omega arith); near = c.requires.least }, tt)))))
