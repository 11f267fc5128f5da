use Rattle.std.proofs.Common.{◌≡◌, IsTrue, true, pos, subst, arith}
use Rattle.std.proofs.lemmas.Int.{ints}
use Rattle.std.proofs.lemmas.Bool.{false≢true}
use Rattle.fzn_sets.proofs.CallerLemmas.{MayBe-between, only_value}
use Rattle.fzn_builtin_rules.proofs.outcome.result_fails.Goals as goal

-- the one value that is not left out is 1
pub returns-else-holds : goal.returns-else-holds
returns-else-holds c =
    let sets = c.args.sets.now.present in
    let term = c.args.term in
    let never = λ (h : IsTrue c.args.holds). false≢true (subst (λ b. b ≡ true) c.if-holds.false h) in (
      λ yes value may same. never (same.0 (let between = MayBe-between sets term value may in let fixed = c.is_fixed_to.ensures.0 yes in omega (arith, ints))),
      λ none. c.is_fixed_to.ensures.1 (only_value sets term (pos 1) c.requires.nonempty c.requires.term (λ v may other. none v may (λ one. absurd (other one), λ h. absurd (never h)))),
    )
