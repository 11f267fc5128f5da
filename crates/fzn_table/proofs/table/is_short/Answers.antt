use Rattle.fzn_domain.proofs.DomainLemmas.{real}
use Rattle.fzn_table.proofs.TableLemmas.{empty_span, span_computed}
use Rattle.fzn_table.proofs.table.is_short.Goals as goal

pub returns-then-is_empty : goal.returns-then-is_empty
returns-then-is_empty c = (λ told. empty_span c.args.set.now (c.is_empty.ensures.empty.0 told), λ short. c.if-is_empty.true)

pub returns-else-is_empty : goal.returns-else-is_empty
returns-else-is_empty c =
    rw (real _ c.max.ensures.in_limits, real _ c.min.ensures.in_limits, ← c.max.ensures.value, ← c.min.ensures.value)
    (span_computed c.min.result c.max.result c.min.ensures.in_limits c.max.ensures.in_limits)
