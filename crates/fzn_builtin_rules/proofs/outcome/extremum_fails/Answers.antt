use Rattle.std.proofs.Common.{◌≡◌, ◌↔◌, IsTrue, ℤ, subst, arith}
use Rattle.std.proofs.lemmas.Int.{ints}
use Rattle.fzn_meaning.specs.Extrema.{IsExtremum}
use Rattle.fzn_sets.specs.Terms.{MayBe}
use Rattle.fzn_builtin_rules.specs.Numbered.{choice_at}
use Rattle.fzn_builtin_rules.proofs.OutcomeLemmas.{one_result}
use Rattle.fzn_builtin_rules.proofs.outcome.extremum_fails.Goals as goal
use mir.Syntax.{w64}
use mir.Val.{to_z, of_z}

pub returns : goal.returns
returns c =
    let passed : to_z w64 (of_z w64 c.extreme_in.result) ≡ c.extreme_in.result = omega (arith, ints) in
    one_result c.args.sets.now.present c.args.of (IsExtremum c.args.extreme (choice_at c.args.sets.now.present c.args.entries.now c.args.number)) c.extreme_in.result c.may_be.result c.extreme_in.ensures
    (subst (λ (v : ℤ). IsTrue c.may_be.result ↔ MayBe c.args.sets.now.present c.args.of v) passed c.may_be.ensures)
