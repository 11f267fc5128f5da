use Rattle.std.proofs.Common.{ℕ, length, ap, sym, subst, ◌∙◌}
use Rattle.fzn_domain.proofs.NarrowLemmas.{length-denied}
use Rattle.fzn_learned.specs.Reasoned.{known_of, AreOver}
use Rattle.fzn_learned.proofs.trial.is_refuted.Goals as goal

pub ends_well-requires-clause-over : goal.ends_well-requires-clause-over
ends_well-requires-clause-over c =
    subst (λ (n : ℕ). AreOver n (known_of c.args.clauses.now c.args.inferences.now)) (sym (ap length c.in_ok-deny.ensures.sets ∙ length-denied c.args.clause.now c.args.sets.now.present)) c.requires.all_over
