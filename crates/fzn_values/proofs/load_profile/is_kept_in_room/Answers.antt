use Rattle.std.proofs.Common.{◌+◌, ◌≤ℤ◌, pos, List, ℤ, drop, replicate, subst, sym, arith}
use Rattle.std.proofs.lemmas.Int.{to_z-of_z}
use Rattle.fzn_values.specs.Cumulative.{Task, tasks}
use Rattle.fzn_values.specs.LoadProfile.{load_after}
use Rattle.fzn_values.proofs.LoadProfileLemmas.{kept_at_starts, kept_at_times}
use Rattle.fzn_values.proofs.load_profile.is_kept_in_room.Goals as goal
use mir.Syntax.{w64}

-- the first times are the starts of the block, in another order
pub returns : goal.returns
returns g c =
    let block : List ℤ = c.args.block.now in
    let front : List ℤ = c.put_in_order.new.times in
    let rest : List ℤ = drop c.len.result (replicate g.row.N (pos 9223372036854775807)) in
    let changes : List ℤ = c.add_tasks.new.changes in
    let chosen : List Task = tasks c.args.starts.now c.args.durations.now c.args.uses.now in
    let same = to_z-of_z w64 c.args.capacity c.ranges.capacity in (
      (λ y. kept_at_starts block front rest changes chosen c.args.capacity c.put_in_order.ensures.same c.add_tasks.ensures.profile
          (λ k lt. subst (λ b. load_after (k + 1) changes ≤ℤ b) same (c.stays_within.ensures.0 y k (omega arith)))),
      (λ h. c.stays_within.ensures.1
          (λ k lt. subst (λ b. load_after (k + 1) changes ≤ℤ b) (sym same) (kept_at_times block front rest changes chosen c.args.capacity c.put_in_order.ensures.same c.add_tasks.ensures.profile h k (omega arith)))),
    )
