use Rattle.std.proofs.Common.{pos, ◌<ℤ◌, arith, sym, subst}
use Rattle.std.specs.List.{All}
use Rattle.std.proofs.lemmas.Int.{ints}
use Rattle.std.proofs.lemmas.List.Elements.{All-nil, All-push}
use Rattle.fzn_globals.specs.Apart.{numbers}
use Rattle.fzn_globals.specs.DifferentPasses.{IsJustifiedByHall, count_within}
use Rattle.fzn_globals.proofs.HallLemmas.{excess_explained}
use Rattle.fzn_globals.proofs.KindLemmas.{hall_justified}
use Rattle.fzn_globals.proofs.all_different.hall.explain_hall.Goals as goal

pub returns-then-room-count : goal.returns-then-room-count
returns-then-room-count c =
    let pass = c.args.pass.now in
    let trail = pass.trail.now in
    let places = pass.places.now in
    let span = c.args.span.now in
    let clause = c.explain_places.new.clause in
    let ens = c.in_ok-count.ensures in
    let more : numbers span.low span.high <ℤ pos (count_within pass span) = omega (arith, ints, ens.count, c.numbers-room.ensures, c.if-room-count.true) in
    subst (All (IsJustifiedByHall pass span.low span.high)) (sym c.in_ok-push.ensures.items)
    (All-push (IsJustifiedByHall pass span.low span.high) c.new-clauses.result.items clause (subst (All (IsJustifiedByHall pass span.low span.high)) (sym c.new-clauses.ensures.items) (All-nil (IsJustifiedByHall pass span.low span.high)))
    (hall_justified trail places span.low span.high clause (excess_explained trail places span.low span.high span.ordered clause ens.still ens.within more)))
