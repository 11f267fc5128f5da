use Rattle.std.proofs.Common.{◌≡◌, false, pos, ◌+ℤ◌, ◌≤ℤ◌, sym, ap, ◌∙◌, arith, to_z, of_z, w64}
use Rattle.std.proofs.lemmas.Int.{ints}
use Rattle.fzn_domain.specs.declared.allowed.Values.TheVariants.{Listed}
use Rattle.fzn_domain.specs.IntSet.{contains}
use Rattle.fzn_domain.proofs.DomainLemmas.{real}
use Rattle.fzn_domain.proofs.CountLemmas.{run_of_allowed}
use Rattle.fzn_domain.proofs.allowed.run_end_in.Goals as goal

pub returns-else-has-clause-run : goal.returns-else-has-clause-run
returns-else-has-clause-run c =
    let value = real _ c.requires.value_in_limits in
    let high = real _ c.requires.high_in_limits in
    let end = to_z w64 c.loop-end.end-bits in
    let kept = c.loop-end.invariant in
    let first : c.args.value ≤ℤ end = omega (arith, ints, kept.0) in
    let last : end ≤ℤ c.args.high = omega (arith, ints, kept.1) in
    let next : to_z w64 (of_z w64 (end +ℤ pos 1)) ≡ end +ℤ pos 1 = grind (arith, ints, first, last, c.requires.value_in_limits.0, c.requires.high_in_limits.1) in
    let out : contains c.args.list.now (end +ℤ pos 1) ≡ false = ap (contains c.args.list.now) (sym next) ∙ (sym c.has.ensures ∙ c.if-has.false) in
    run_of_allowed c.args.value c.args.high end (Listed c.args.list.now) first last (λ v h k. kept.2 v (omega (arith, ints)) k) (λ _. out)

pub returns-after-loop-end-clause-run : goal.returns-after-loop-end-clause-run
returns-after-loop-end-clause-run c =
    let value = real _ c.requires.value_in_limits in
    let high = real _ c.requires.high_in_limits in
    let end = to_z w64 c.loop-end.end-bits in
    let kept = c.loop-end.invariant in
    let first : c.args.value ≤ℤ end = omega (arith, ints, kept.0) in
    let last : end ≤ℤ c.args.high = omega (arith, ints, kept.1) in
    run_of_allowed c.args.value c.args.high end (Listed c.args.list.now) first last (λ v h k. kept.2 v (omega (arith, ints)) k) (λ less. absurd (omega (arith, ints)))
