use Rattle.std.proofs.lemmas.Result.{on_ok_weaker}
use Rattle.std.proofs.lemmas.Bool.{false≢true}
use Rattle.fzn_globals.specs.InversePasses.{inverse_constraint}
use Rattle.fzn_globals.proofs.KindLemmas.{lists_met}
use Rattle.fzn_globals.proofs.WayLemmas.{open_holds}
use Rattle.fzn_globals.proofs.inverse.find_by_inverse.Goals as goal

pub returns-clause-none : goal.returns-clause-none
returns-clause-none c =
    let pass = c.args.pass.now in
    let last = c.find_on_list-2.ensures in
    on_ok_weaker c.find_on_list-2.result (λ leads nothing.
    lists_met pass.trail.now pass.side pass.there.now pass.back.now pass.fit pass.back_fit (c.in_ok-find_on_list.ensures.none (last.kept nothing)) (leads nothing))
    last.none

pub returns-then-not-are_fixed-clause-none : goal.returns-then-not-are_fixed-clause-none
returns-then-not-are_fixed-clause-none c = λ nothing.
    let pass = c.args.pass.now in
    open_holds pass.trail.now (inverse_constraint pass) pass.there.now pass.fit (λ all. false≢true (c.if-not-are_fixed.ensures.1 all))
