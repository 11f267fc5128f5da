use Rattle.fzn_domain.proofs.DomainLemmas.{real}
use Rattle.fzn_sets.proofs.CallerLemmas.{MayBe-between}
use Rattle.fzn_terms.proofs.EndLemmas.{ends_may}
use Rattle.fzn_terms.proofs.values.least_of.Goals as goal

pub returns-clause-member : goal.returns-clause-member
returns-clause-member c =
    let trail = c.args.trail.now in
    rw (real _ c.least_value.ensures.in_limits, c.least_value.ensures.value, c.sets.ensures.present) (ends_may trail.sets trail.declared c.args.term c.requires.term c.sets.ensures.narrower c.requires.filled).0

pub returns-clause-first : goal.returns-clause-first
returns-clause-first c v may = rw (real _ c.least_value.ensures.in_limits, c.least_value.ensures.value, c.sets.ensures.present) (MayBe-between c.args.trail.now.sets c.args.term v may).0
