use Rattle.std.proofs.Common.{◌≡◌, ◌+◌, ◌<ℤ◌, arith, ap, ◌∙◌}
use Rattle.std.proofs.lemmas.Int.{ints}
use Rattle.fzn_domain.proofs.DomainLemmas.{real}
use Rattle.fzn_clauses.specs.Keys.{bucket_of}
use Rattle.fzn_clauses.proofs.SpareLemmas.{SparesUpTo-none, SparesUpTo-inequalities, SparesUpTo-two}
use Rattle.fzn_clauses.proofs.state.next_inequality.Goals.{else-from-own-via-then-from-own+else-max-least, else-from-own-via-else-from-own}
use Rattle.fzn_clauses.proofs.state.next_inequality.Goals as goal

pub returns-then-from-lt-INEQUALITIES : goal.returns-then-from-lt-INEQUALITIES
returns-then-from-lt-INEQUALITIES c earlier lit = SparesUpTo-none earlier c.args.domain.now lit c.args.from

pub returns-then-max-least : goal.returns-then-max-least
returns-then-max-least c earlier lit =
    let own : c.bucket_of-own.result ≡ bucket_of c.min-least.result = c.bucket_of-own.ensures ∙ ap bucket_of (real _ c.min-least.ensures.in_limits) in
    SparesUpTo-inequalities earlier c.args.domain.now lit c.min-least.result c.min-least.ensures.member c.args.from (10 + c.bucket_of-own.result)
    c.if-from-lt-INEQUALITIES.false c.if-from-own.true (λ place low high e. omega (arith, e, high, own))

pub returns-else-from-own : goal.returns-else-from-own
returns-else-from-own c earlier lit =
    let later = c.max-else-from-own.ensures in
    elim c.else-from-own.branch [
      | else-from-own-via-then-from-own+else-max-least w ↦
          let min = real _ c.min-least.ensures.in_limits in
          let max = real _ w.max.ensures.in_limits in
          let less : c.min-least.result <ℤ w.max.result = grind (arith, ints, w.if-max-least.false, min, max) in
          SparesUpTo-two earlier c.args.domain.now lit c.min-least.result w.max.result c.min-least.ensures.member w.max.ensures.member less
          c.args.from c.max-else-from-own.result c.if-from-lt-INEQUALITIES.false (omega (arith, later))
      | else-from-own-via-else-from-own w ↦
          let own : c.bucket_of-own.result ≡ bucket_of c.min-least.result = c.bucket_of-own.ensures ∙ ap bucket_of (real _ c.min-least.ensures.in_limits) in
          SparesUpTo-inequalities earlier c.args.domain.now lit c.min-least.result c.min-least.ensures.member c.args.from c.max-else-from-own.result
          c.if-from-lt-INEQUALITIES.false (omega (arith, later)) (λ place low high e. omega (arith, e, low, own, w.if-from-own.false))
    ]
