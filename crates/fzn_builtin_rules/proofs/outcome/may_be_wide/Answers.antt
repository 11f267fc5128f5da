use Rattle.std.proofs.Common.{◌≡◌, ◌↔◌, IsTrue, ℤ, subst, arith}
use Rattle.std.proofs.lemmas.Int.{ints}
use Rattle.std.proofs.lemmas.Bool.{false≢true}
use Rattle.fzn_sets.specs.Terms.{MayBe}
use Rattle.fzn_sets.proofs.CallerLemmas.{MayBe-between}
use Rattle.fzn_builtin_rules.proofs.outcome.may_be_wide.Goals as goal
use mir.Syntax.{w64}
use mir.Val.{to_z, of_z}

pub returns-then-value-least_value : goal.returns-then-value-least_value
returns-then-value-least_value c = (λ no. absurd (false≢true no), λ may. absurd (let between = MayBe-between c.args.sets.now.present c.args.term c.args.value.now may in omega (arith, ints)))

pub returns-then-value-greatest_value : goal.returns-then-value-greatest_value
returns-then-value-greatest_value c = (λ no. absurd (false≢true no), λ may. absurd (let between = MayBe-between c.args.sets.now.present c.args.term c.args.value.now may in omega (arith, ints)))

pub returns : goal.returns
returns c =
    let passed : to_z w64 (of_z w64 c.narrow.result) ≡ c.args.value.now = omega (arith, ints) in
    subst (λ (v : ℤ). IsTrue c.may_be.result ↔ MayBe c.args.sets.now.present c.args.term v) passed c.may_be.ensures
