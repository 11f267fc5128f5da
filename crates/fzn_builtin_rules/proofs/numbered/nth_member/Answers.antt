use Rattle.std.proofs.Common.{◌∙◌}
use Rattle.fzn_domain.proofs.DomainLemmas.{real}
use Rattle.fzn_builtin_rules.proofs.ChoiceLemmas.{nth_at}
use Rattle.fzn_builtin_rules.proofs.numbered.nth_member.Goals as goal

pub returns-clause-value : goal.returns-clause-value
returns-clause-value c = real _ c.nth.ensures.in_limits ∙ nth_at c.args.n c.args.set.now c.nth.result c.nth.ensures.member c.nth.ensures.place
