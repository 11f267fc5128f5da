use Rattle.std.proofs.Common.{◌≡◌, pos, ◌-ℤ◌, ◌≤ℤ◌, ◌<ℤ◌, sym, subst, arith, rules, to_z, of_z, to_z-of_z, FitsSigned, w64}
use Rattle.std.proofs.lemmas.Int.{ints}
use Rattle.fzn_domain.specs.Allowed.{selected}
use Rattle.fzn_numbers.specs.Ascending.{IsNextFrom, NoneFrom}
use Rattle.fzn_domain.specs.IntSet.{IsRunEnd}
use Rattle.fzn_domain.specs.declared.allowed.Values.TheVariants.{AllBut}
use Rattle.fzn_domain.proofs.DomainLemmas.{real}
use Rattle.fzn_domain.proofs.CountLemmas.{run_before_hole, run_to_end}
use Rattle.fzn_domain.proofs.allowed.run_end_before.Goals as goal

pub returns-in-Some-clause-run : goal.returns-in-Some-clause-run
returns-in-Some-clause-run c =
    let value = real _ c.requires.value_in_limits in
    let high = real _ c.requires.high_in_limits in
    let next = subst (λ b. IsNextFrom c.args.holes.now b c.in-Some.hole) value c.in-Some.ensures.found in
    let fits : FitsSigned w64 c.in-Some.hole = search rules in
    let hole = to_z-of_z fits in
    let under : c.in-Some.hole ≤ℤ c.args.high = omega (arith, ints) in
    let before : to_z w64 (of_z w64 (to_z w64 (of_z w64 c.in-Some.hole) -ℤ pos 1)) ≡ c.in-Some.hole -ℤ pos 1 = grind (arith, ints, hole, under, next.from_bound, c.requires.value_in_limits.0, c.requires.high_in_limits.1) in
    subst (λ r. IsRunEnd (selected c.args.value c.args.high (AllBut c.args.holes.now)) c.args.value r) (sym before)
    (run_before_hole c.args.value c.args.high c.in-Some.hole c.args.holes.now next c.requires.member under)

pub returns-in_default-clause-run : goal.returns-in_default-clause-run
returns-in_default-clause-run c =
    let value = real _ c.requires.value_in_limits in
    let high = real _ c.requires.high_in_limits in
    let next = subst (λ b. IsNextFrom c.args.holes.now b c.in-Some.hole) value c.in-Some.ensures.found in
    let fits : FitsSigned w64 c.in-Some.hole = search rules in
    let hole = to_z-of_z fits in
    let over : c.args.high <ℤ c.in-Some.hole = omega (arith, ints) in
    rw high (run_to_end c.args.value c.args.high c.args.holes.now c.requires.ordered (λ v there h. let first = next.first v there h in omega (arith, ints)))

pub returns-in_default-2-clause-run : goal.returns-in_default-2-clause-run
returns-in_default-2-clause-run c =
    let value = real _ c.requires.value_in_limits in
    let high = real _ c.requires.high_in_limits in
    let none = subst (NoneFrom c.args.holes.now) value (c.in_default.ensures.none) in
    rw high (run_to_end c.args.value c.args.high c.args.holes.now c.requires.ordered (λ v there h. absurd (let before = none v there in omega (arith, ints))))
