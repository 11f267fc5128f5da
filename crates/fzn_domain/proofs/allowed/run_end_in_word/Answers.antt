use Rattle.std.proofs.Common.{ℤ, ◌<ℤ◌, ◌≤ℤ◌, arith, rules, refl, sym, subst, w64, FitsSigned, to_z-of_z}
use Rattle.std.proofs.lemmas.Int.{ints}
use Rattle.fzn_domain.specs.declared.allowed.Values.TheVariants.{Word}
use Rattle.fzn_domain.specs.Allowed.{selected}
use Rattle.fzn_domain.specs.IntSet.{IsRunEnd}
use Rattle.fzn_domain.proofs.CountLemmas.{run_inside, run_over}
use Rattle.fzn_domain.proofs.allowed.run_end_in_word.Goals as goal

pub returns-then-end-high-clause-run : goal.returns-then-end-high-clause-run
returns-then-end-high-clause-run c =
    let fits : FitsSigned w64 c.run_end-end.result = search rules in
    let run : IsRunEnd c.args.set.now c.args.value c.run_end-end.result = subst (λ (v : ℤ). IsRunEnd c.args.set.now v c.run_end-end.result) (to_z-of_z c.ranges.value) c.run_end-end.ensures in
    let less : c.run_end-end.result <ℤ c.args.high = omega (arith, ints, fits) in
    subst (λ (e : ℤ). IsRunEnd (selected c.args.value c.args.high (Word c.args.set.now)) c.args.value e) (sym (to_z-of_z fits))
    (run_inside c.args.value c.args.high c.run_end-end.result (Word c.args.set.now) c.args.set.now (λ v. refl) run less)

pub returns-else-end-high-clause-run : goal.returns-else-end-high-clause-run
returns-else-end-high-clause-run c =
    let fits : FitsSigned w64 c.run_end-end.result = search rules in
    let run : IsRunEnd c.args.set.now c.args.value c.run_end-end.result = subst (λ (v : ℤ). IsRunEnd c.args.set.now v c.run_end-end.result) (to_z-of_z c.ranges.value) c.run_end-end.ensures in
    let more : c.args.high ≤ℤ c.run_end-end.result = omega (arith, ints, fits) in
    subst (λ (e : ℤ). IsRunEnd (selected c.args.value c.args.high (Word c.args.set.now)) c.args.value e) (sym (to_z-of_z c.ranges.high))
    (run_over c.args.value c.args.high c.run_end-end.result (Word c.args.set.now) c.args.set.now (λ v. refl) c.requires.ordered run more)
