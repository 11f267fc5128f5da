use Rattle.std.proofs.Common.{length, ap, sym, subst, ◌∙◌}
use Rattle.fzn_domain.proofs.NarrowLemmas.{length-narrowed}
use Rattle.fzn_domain.specs.Narrow.{possible_in}
use Rattle.fzn_sets.specs.declared.chain.Link.{Link}
use Rattle.fzn_sets.specs.Link.{IsLink}
use Rattle.fzn_learned.specs.Reasoned.{known_of, antecedent_clause}
use Rattle.fzn_learned.proofs.TrialLemmas.{chain-more}
use Rattle.fzn_learned.proofs.trial.ends_well.Goals as goal

pub loop-antecedent-preserved : goal.loop-antecedent-preserved
loop-antecedent-preserved c =
    let known = known_of c.args.clauses.now c.args.inferences.now in
    let sets = c.loop-antecedent.sets.present in
    let here = c.in_ok-follow in
    let link = subst (λ (l : Link). IsLink sets c.clause_of.result.now c.follow.new.sets.present l) c.in-Narrowed.is here.ensures.link in
    let lit = link.0 in
    record {
      rest = chain-more (antecedent_clause known) sets c.follow.new.sets.present c.args.antecedents.now c.loop-antecedent.antecedent-index _ lit _ c.loop-antecedent-test.true (ap (possible_in sets) (sym c.clause_of.ensures) ∙ link.1) link.2 c.loop-antecedent.invariant.rest;
      same_length = ap length link.2 ∙ length-narrowed sets lit ∙ c.loop-antecedent.invariant.same_length;
      declared = c.follow.ensures.declared ∙ c.loop-antecedent.invariant.declared;
    }
