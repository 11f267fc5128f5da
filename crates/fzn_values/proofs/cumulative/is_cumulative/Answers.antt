use Rattle.std.proofs.Common.{◌≤ℤ◌, pos, get_or, subst, sym, rules}
use Rattle.std.specs.List.{All}
use Rattle.std.proofs.lemmas.Int.{to_z-of_z}
use Rattle.fzn_values.specs.Cumulative.{tasks, load_at, NoneNegative}
use Rattle.fzn_values.proofs.CumulativeLemmas.{cumulative_from}
use Rattle.fzn_values.proofs.cumulative.is_cumulative.Goals as goal
use mir.Syntax.{w64}

-- the load is greatest at some start
pub returns : goal.returns
returns c =
    let durations : NoneNegative c.args.durations.now = search rules in
    let uses : NoneNegative c.args.uses.now = search rules in
    let capacity : pos 0 ≤ℤ c.args.capacity = search rules in
    let e = to_z-of_z w64 c.args.capacity c.ranges.capacity in (
      (λ y. cumulative_from c.args.starts.now c.args.durations.now c.args.uses.now c.args.capacity durations uses capacity
          (subst (λ b. All (λ t. load_at t (tasks c.args.starts.now c.args.durations.now c.args.uses.now) ≤ℤ b) c.args.starts.now) e (c.is_kept_at_starts.ensures.0 y))),
      (λ h. c.is_kept_at_starts.ensures.1
          (subst (λ b. All (λ t. load_at t (tasks c.args.starts.now c.args.durations.now c.args.uses.now) ≤ℤ b) c.args.starts.now) (sym e) (λ k d lt. h.within (get_or c.args.starts.now k d)))),
    )
