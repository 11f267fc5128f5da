use Rattle.std.proofs.Common.{◌≡◌, ◌∙◌, sym, ap, subst, true, ℤ, ◌≤ℤ◌, int_le, arith}
use Rattle.std.proofs.lemmas.Int.{ints}
use Rattle.fzn_domain.proofs.DomainLemmas.{real}
use Rattle.fzn_domain.specs.declared.literal.Op.TheVariants.{AtMost, AtLeast}
use Rattle.fzn_values.specs.declared.term.Term.TheVariants.{Variable}
use Rattle.fzn_sets.proofs.ValueLemmas.{MayBe-between}
use Rattle.fzn_terms.specs.declared.claim.Claim.{Claim}
use Rattle.fzn_terms.specs.Denied.{that, IsEntailed}
use Rattle.fzn_terms.proofs.OrderLemmas.{at_most, le_test}
use Rattle.fzn_levels.proofs.explain.explain_listed.Goals as goal
use Rattle.fzn_levels.proofs.explain.explain_listed.Goals.{After-at_least, After-at_most}

at_least : (v n : ℤ) → int_le n v ≡ true → n ≤ℤ v
at_least v n h = grind (arith, ints)

low : (c : After-at_least) → c.at_least.result ≡ that (Variable c.args.part.now.var) AtLeast c.told_ends-ends.result.low
low c = c.at_least.ensures ∙ ap (that (Variable c.args.part.now.var) AtLeast) (real c.told_ends-ends.result.low c.told_ends-ends.ensures.limited.0)

high : (c : After-at_most) → c.at_most.result ≡ that (Variable c.args.part.now.var) AtMost c.told_ends-ends.result.high
high c = c.at_most.ensures ∙ ap (that (Variable c.args.part.now.var) AtMost) (real c.told_ends-ends.result.high c.told_ends-ends.ensures.limited.1)

pub explain-requires-clause-present : goal.explain-requires-clause-present
explain-requires-clause-present c =
    let sets = c.args.pass.now.trail.now.sets in
    let term = Variable c.args.part.now.var in
    subst (λ (claim : Claim). IsEntailed sets claim) (sym (low (goal.at.explain-requires-clause-present c).After-at_least))
    (λ v may. le_test c.told_ends-ends.result.low _ v c.told_ends-ends.ensures.low (MayBe-between sets term v may).0)

pub explain-requires-2-clause-present : goal.explain-requires-2-clause-present
explain-requires-2-clause-present c =
    let sets = c.args.pass.now.trail.now.sets in
    let term = Variable c.args.part.now.var in
    subst (λ (claim : Claim). IsEntailed sets claim) (sym (high (goal.at.explain-requires-2-clause-present c).After-at_most))
    (λ v may. le_test v _ c.told_ends-ends.result.high (MayBe-between sets term v may).1 c.told_ends-ends.ensures.high)

pub explain_entries-requires-clause-ends : goal.explain_entries-requires-clause-ends
explain_entries-requires-clause-ends c =
    let first = c.in_ok-explain.ensures in
    let second = c.in_ok-explain-2.ensures in
    λ sets left v may. (
      at_least v c.told_ends-ends.result.low (subst (λ (claim : Claim). IsEntailed sets claim) (low (goal.at.explain_entries-requires-clause-ends c).After-at_least) (first.says sets (second.keeps sets left)) v may),
      at_most v c.told_ends-ends.result.high (subst (λ (claim : Claim). IsEntailed sets claim) (high (goal.at.explain_entries-requires-clause-ends c).After-at_most) (second.says sets left) v may),
    )

pub explain_lighter-requires-clause-ends : goal.explain_lighter-requires-clause-ends
explain_lighter-requires-clause-ends c =
    let first = c.in_ok-explain.ensures in
    let second = c.in_ok-explain-2.ensures in
    λ sets left v may. (
      at_least v c.told_ends-ends.result.low (subst (λ (claim : Claim). IsEntailed sets claim) (low (goal.at.explain_lighter-requires-clause-ends c).After-at_least) (first.says sets (second.keeps sets left)) v may),
      at_most v c.told_ends-ends.result.high (subst (λ (claim : Claim). IsEntailed sets claim) (high (goal.at.explain_lighter-requires-clause-ends c).After-at_most) (second.says sets left) v may),
    )
