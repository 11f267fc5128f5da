-- What earlier numbers gave they still give.
use Rattle.std.proofs.Common.{ℕ, ◌+◌, ◌<◌, List, length, take, subst, sym, ◌∙◌, arith}
use Rattle.fzn_cert.specs.Accepted.{past_after}
use Rattle.fzn_state.specs.State.{known_in}
use Rattle.fzn_state.specs.Search.{stock_of}
use Rattle.fzn_state.specs.Antecedents.{GiveAntecedents}
use Rattle.fzn_state.proofs.WrittenLemmas.{written-through, GiveAntecedents-next}
use Rattle.fzn_state.proofs.solver.Solver.write_antecedents.Goals as goal

pub loop-antecedent-preserved : goal.loop-antecedent-preserved
loop-antecedent-preserved g c =
    let initial = c.args.self.now in
    let before = g.S.Sink.written c.loop-antecedent.sink in
    let now = g.S.Sink.written c.write_antecedent.new.sink in
    let so_far = c.loop-antecedent.invariant in
    let w = c.in_ok-number.ensures.written in
    let within : c.loop-antecedent.antecedent-index < length c.args.antecedents.now = omega arith in
    let more = GiveAntecedents-next c.args.model.now before now (known_in (stock_of initial)) (known_in (stock_of c.loop-antecedent.self)) c.loop-antecedent.numbers c.args.antecedents.now c.loop-antecedent.antecedent-index _ c.in_ok-number.number w.kept so_far.0.known so_far.1 within c.in_ok-number.ensures.number in
    let N : List ℕ → Type 0 = λ ns. GiveAntecedents (past_after c.args.model.now (g.S.Sink.written c.write_antecedent.new.sink)) (known_in (stock_of c.args.self.now)) ns (take (c.loop-antecedent.antecedent-index + 1) c.args.antecedents.now) in (
      written-through so_far.0 w,
      subst N (sym c.in_ok-push.ensures.ok) more,
      c.in_ok-number.ensures.left.kept,
      c.in_ok-number.ensures.left.same ∙ so_far.3,
    )
