-- What is taken out is justified, and so are the others.
use Rattle.std.proofs.Common.{All, subst}
use Rattle.std.proofs.lemmas.List.Elements.{All-head, All-tail}
use Rattle.fzn_propagator.specs.Constraints.{IsInferenceJustified}
use Rattle.fzn_propagators.proofs.forcing.take_forcing.Goals as goal

pub is_standing-requires-clause-justified : goal.is_standing-requires-clause-justified
is_standing-requires-clause-justified c =
    let P = IsInferenceJustified c.args.model.now in
    All-head P c.in_ok-inference.inference c.take_first.new.self (subst (All P) c.in_ok-inference.ensures.some c.loop.invariant)

pub returns-then-is_standing-clause-justified : goal.returns-then-is_standing-clause-justified
returns-then-is_standing-clause-justified c =
    let P = IsInferenceJustified c.args.model.now in
    All-tail P c.in_ok-inference.inference c.take_first.new.self (subst (All P) c.in_ok-inference.ensures.some c.loop.invariant)

pub loop-preserved : goal.loop-preserved
loop-preserved c =
    let P = IsInferenceJustified c.args.model.now in
    All-tail P c.in_ok-inference.inference c.take_first.new.self (subst (All P) c.in_ok-inference.ensures.some c.loop.invariant)
