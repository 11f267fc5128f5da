use Rattle.std.proofs.Common.{not, ap, subst, arith}
use Rattle.std.proofs.lemmas.Int.{ints}
use Rattle.fzn_domain.proofs.DomainLemmas.{real}
use Rattle.fzn_terms.proofs.OrderLemmas.{le_test}
use Rattle.fzn_table.specs.Passes.{MayHave}
use Rattle.fzn_table.proofs.TableLemmas.{unequal}
use Rattle.fzn_table.proofs.table.claim_out.Goals as goal

pub returns-then-value-ends-clause-present : goal.returns-then-value-ends-clause-present
returns-then-value-ends-clause-present c = λ v may.
    let limited = c.interval_of-ends.ensures.limited in
    le_test _ c.interval_of-ends.result.low v (omega (arith, ints, limited.0)) (c.interval_of-ends.ensures.inside v may).0

pub returns-then-ends-value-clause-present : goal.returns-then-ends-value-clause-present
returns-then-ends-value-clause-present c = λ v may.
    let limited = c.interval_of-ends.ensures.limited in
    le_test v c.interval_of-ends.result.high _ (c.interval_of-ends.ensures.inside v may).1 (omega (arith, ints, limited.1))

pub returns-clause-present : goal.returns-clause-present
returns-clause-present c = λ v may.
    rw (real c.args.value.now c.requires.number)
    (ap not (unequal v c.args.value.now (λ same. c.requires.out (subst (MayHave c.args.pass.now c.args.k) same may))))
