use Rattle.std.proofs.Common.{sym, subst, length}
use Rattle.fzn_rules.specs.declared.rule.Rule.{Rule}
use Rattle.fzn_propagator.specs.Inference.{HasWritableHints}
use Rattle.fzn_globals.specs.InversePasses.{inverse_constraint, IsJustifiedByInverse, AreFoundOfInverse}
use Rattle.fzn_globals.proofs.KindLemmas.{pair_hints}
use Rattle.fzn_globals.proofs.inverse.pairs.find_pair.Goals as goal
use Rattle.fzn_globals.proofs.inverse.pairs.find_pair.Goals.{After-hand_over}

pub hand_over-requires : goal.hand_over-requires
hand_over-requires c =
    let pass = c.args.pass.now in
    record { hints = subst HasWritableHints (sym c.pair_rule.ensures) (pair_hints pass.side (length pass.there.now) c.args.i.now c.args.j.now pass.short c.requires.first c.requires.second) }

-- what is handed over is justified
found : (c : After-hand_over) → AreFoundOfInverse c.args.pass.now c.hand_over.new.self
found c =
    let pass = c.args.pass.now in
    let clause = c.in-Some.clause in
    let justified = subst (λ (r : Rule). IsJustifiedByInverse pass r clause) (sym c.pair_rule.ensures) (rw c.in-Some.is at c.in_ok-clause.ensures.found) in
    c.hand_over.ensures.found pass.trail.now (inverse_constraint pass) justified c.requires.before

pub returns-clause-found : goal.returns-clause-found
returns-clause-found c = found (goal.at.returns-clause-found c).After-hand_over

pub returns-in_err-hand_over-clause-found : goal.returns-in_err-hand_over-clause-found
returns-in_err-hand_over-clause-found c = found (goal.at.returns-in_err-hand_over-clause-found c).After-hand_over
