-- The clause is held as one more, or under a free number.
use Rattle.std.proofs.Common.{ℕ, ◌+◌, List, [], ◌∷◌, ◌++◌, set, sym, subst}
use Rattle.fzn_cert.specs.declared.step.Step.TheVariants.{Resolve}
use Rattle.fzn_state.specs.Changes.{IsReduced}
use Rattle.fzn_state.proofs.ForgetLemmas.{nothing-reduced}
use Rattle.fzn_state.proofs.SettlingLemmas.{next-held, next-put}
use Rattle.fzn_state.proofs.solver.Solver.hold_unit.Goals as goal

pub returns-in_default : goal.returns-in_default
returns-in_default c = record {
  reduced = λ model steps ids first h accepted few.
      let noted = (nothing-reduced h (record c.args.self.now.notes { stock = c.next_free.new.self })).state in
      let t = next-held noted first c.args.clause.now ids accepted few c.hold.new.self c.in_ok-id.ensures.held in
      record { state = t.state; trail = t.trail; tally = t.tally };
}

pub returns : goal.returns
returns c = record {
  reduced = λ model steps ids first h accepted few.
      let free = c.in-Some.free in
      let clause = c.args.clause.now in
      let N : List ℕ → Type 0 = λ numbers. IsReduced model c.args.self.now (record c.args.self.now { clauses = c.put.new.self; numbers = numbers; alive = c.push.new.self; notes = record c.args.self.now.notes { stock = c.next_free.new.self }; steps = c.args.self.now.steps + 1 }) (steps ++ Resolve c.args.clause.now ids ∷ []) in
      let A : List ℕ → Type 0 = λ alive. IsReduced model c.args.self.now (record c.args.self.now { clauses = c.put.new.self; numbers = set c.args.self.now.numbers c.in-Some.free.0 (c.args.self.now.steps + 1); alive = alive; notes = record c.args.self.now.notes { stock = c.next_free.new.self }; steps = c.args.self.now.steps + 1 }) (steps ++ Resolve c.args.clause.now ids ∷ []) in
      subst N (sym c.set.ensures) (subst A (sym c.in_ok-push.ensures.ok)
      (next-put h first clause ids accepted few c.put.new.self free c.in-Some.ensures.in_range c.in-Some.ensures.free c.in_ok-put.ensures.ok c.in_ok-put.ensures.watching (record c.args.self.now.notes { stock = c.next_free.new.self })));
}
