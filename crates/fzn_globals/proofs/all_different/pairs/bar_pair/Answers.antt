use Rattle.std.proofs.Common.{ℤ, sym, subst}
use Rattle.fzn_domain.proofs.DomainLemmas.{real}
use Rattle.fzn_rules.specs.declared.rule.Rule.TheVariants as rule
use Rattle.fzn_propagator.specs.Inference.{HasWritableHints}
use Rattle.fzn_globals.specs.DifferentPasses.{different_constraint, IsJustifiedByHall, AreFoundOfDifferent}
use Rattle.fzn_globals.proofs.KindLemmas.{hall_hints}
use Rattle.fzn_globals.proofs.all_different.pairs.bar_pair.Goals as goal
use Rattle.fzn_globals.proofs.all_different.pairs.bar_pair.Goals.{After-hand_over}

pub hand_over-requires : goal.hand_over-requires
hand_over-requires c =
    let limits = c.requires.limits in
    record { hints = subst (λ (v : ℤ). HasWritableHints (rule.Hall v v)) (sym (real c.args.value.now limits)) (hall_hints c.args.value.now c.args.value.now limits limits) }

-- what is handed over is justified
found : (c : After-hand_over) → AreFoundOfDifferent c.args.pass.now c.hand_over.new.self
found c =
    let pass = c.args.pass.now in
    let justified = subst (λ (v : ℤ). IsJustifiedByHall pass v v c.in-Some.clause) (sym (real c.args.value.now c.requires.limits)) (rw c.in-Some.is at c.in_ok-clause.ensures.found) in
    c.hand_over.ensures.found pass.trail.now (different_constraint pass) justified c.requires.before

pub returns-clause-found : goal.returns-clause-found
returns-clause-found c = found (goal.at.returns-clause-found c).After-hand_over

pub returns-in_err-hand_over-clause-found : goal.returns-in_err-hand_over-clause-found
returns-in_err-hand_over-clause-found c = found (goal.at.returns-in_err-hand_over-clause-found c).After-hand_over
