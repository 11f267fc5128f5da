use Rattle.std.proofs.Common.{Some, ℤ, sym, subst₂}
use Rattle.std.proofs.lemmas.List.Elements.{All-pop}
use Rattle.fzn_domain.proofs.DomainLemmas.{real}
use Rattle.fzn_rules.specs.declared.rule.Rule.TheVariants as rule
use Rattle.fzn_propagator.specs.Inference.{HasWritableHints}
use Rattle.fzn_globals.specs.DifferentPasses.{different_constraint, IsJustifiedByHall, AreFoundOfDifferent}
use Rattle.fzn_globals.proofs.KindLemmas.{hall_hints}
use Rattle.fzn_globals.proofs.all_different.hall.find_in.Goals as goal
use Rattle.fzn_globals.proofs.all_different.hall.find_in.Goals.{After-hand_over}

pub hand_over-requires : goal.hand_over-requires
hand_over-requires c =
    let span = c.in-Some.span in
    record { hints = subst₂ (λ (x y : ℤ). HasWritableHints (rule.Hall x y)) (sym (real span.low span.begins)) (sym (real span.high span.ends)) (hall_hints span.low span.high span.begins span.ends) }

-- what is handed over is justified
found : (c : After-hand_over) → AreFoundOfDifferent c.args.pass.now c.hand_over.new.self
found c =
    let pass = c.args.pass.now in
    let span = c.in-Some.span in
    let popped = All-pop (IsJustifiedByHall pass span.low span.high) c.loop-clause.clauses.items c.pop.new.self.items (Some c.in-Some-pop.clause) c.in-Some-pop.ensures.items c.loop-clause.invariant.left in
    let justified = subst₂ (λ (x y : ℤ). IsJustifiedByHall pass x y c.in-Some-pop.clause) (sym (real span.low span.begins)) (sym (real span.high span.ends)) popped.1 in
    c.hand_over.ensures.found pass.trail.now (different_constraint pass) justified c.loop-clause.invariant.found

pub loop-clause-preserved : goal.loop-clause-preserved
loop-clause-preserved c =
    let pass = c.args.pass.now in
    let span = c.in-Some.span in
    record {
      found = found (goal.at.loop-clause-preserved c).After-hand_over;
      left = (All-pop (IsJustifiedByHall pass span.low span.high) c.loop-clause.clauses.items c.pop.new.self.items (Some c.in-Some-pop.clause) c.in-Some-pop.ensures.items c.loop-clause.invariant.left).0;
    }

pub returns-in_err-hand_over : goal.returns-in_err-hand_over
returns-in_err-hand_over c = found (goal.at.returns-in_err-hand_over c).After-hand_over
