-- The least value of a set with more than one value splits it.
use Rattle.std.proofs.Common.{◌≡◌, true, ℤ, ◌≤ℤ◌, length, sym, subst, arith}
use Rattle.fzn_domain.specs.declared.literal.Op.TheVariants.{AtMost}
use Rattle.fzn_domain.specs.IntSet.{IntSet, contains}
use Rattle.fzn_domain.specs.Narrow.{IsVariable}
use Rattle.fzn_domain.proofs.DomainLemmas.{real}
use Rattle.fzn_search.specs.Fixed.{Splits}
use Rattle.fzn_search.proofs.FixedLemmas.{splits_at_least}
use Rattle.fzn_search.proofs.search.Search.next.Goals as goal

pub returns-clause-found : goal.returns-clause-found
returns-clause-found c =
    let sets = c.args.trail.now.sets in
    let var = c.in_ok-var.var in
    let least = c.min.result in
    let declared_var = c.in_ok-var.ensures.variable in
    let one_each = c.domain.ensures.narrower.one_each in
    let is_var : IsVariable (length sets) var = (omega arith, omega arith) in
    let member : contains c.domain.result.now least ≡ true = c.min.ensures.member in
    let first : (value : ℤ) → contains c.domain.result.now value ≡ true → least ≤ℤ value = c.min.ensures.first in
    subst (λ (v : ℤ). Splits sets (record { var = var; op = AtMost; value = v })) (sym (real least c.min.ensures.in_limits))
    (splits_at_least sets var least is_var c.in_ok-var.ensures.many
    (subst (λ (s : IntSet). contains s least ≡ true) c.domain.ensures.value member)
    (subst (λ (s : IntSet). (value : ℤ) → contains s value ≡ true → least ≤ℤ value) c.domain.ensures.value first)
    c.min.ensures.in_limits)
