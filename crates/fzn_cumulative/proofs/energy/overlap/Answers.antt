use Rattle.std.proofs.Common.{rules, ◌≡◌, sym, subst, ◌∙◌, arith, ℤ, pos, negsuc, ◌+ℤ◌, ◌-ℤ◌, ◌≤ℤ◌, w64, to_z, of_z, FitsSigned}
use Rattle.std.specs.Int.{int_min, int_max}
use Rattle.std.proofs.lemmas.Int.{ints, to_z-of_z}
use Rattle.fzn_domain.specs.Limits.{IsInLimits}
use Rattle.fzn_cumulative.specs.Loads.{IsTime}
use Rattle.fzn_cumulative.proofs.EnergyLemmas.{end_near, begin_near, overlap_is, overlap_high}
use Rattle.fzn_domain.proofs.DomainLemmas.{real}
use Rattle.fzn_cumulative.proofs.energy.overlap.Goals as goal

sum_is : (s d : ℤ) → IsInLimits s → IsInLimits d → to_z w64 (of_z w64 (to_z w64 (of_z w64 s) +ℤ to_z w64 (of_z w64 d))) ≡ s +ℤ d
sum_is s d a b = omega (arith, ints, a.0, a.1, b.0, b.1)

time_is : (t : ℤ) → IsTime t → to_z w64 (of_z w64 t) ≡ t
time_is t a = omega (arith, ints, a.0, a.1)

end_is : (s d u e : ℤ) → IsInLimits s → IsInLimits d → IsTime u → e ≡ int_min (to_z w64 (of_z w64 (to_z w64 (of_z w64 s) +ℤ to_z w64 (of_z w64 d)))) (to_z w64 (of_z w64 u)) → e ≡ int_min (s +ℤ d) u
end_is s d u e a b t is = is ∙ rw (sum_is s d a b, time_is u t)

begin_is : (s f b : ℤ) → IsInLimits s → IsTime f → b ≡ int_max (to_z w64 (of_z w64 s)) (to_z w64 (of_z w64 f)) → b ≡ int_max s f
begin_is s f b a t is = is ∙ rw (real s a, time_is f t)

difference_is : (e b : ℤ) → (negsuc 1999999999 ≤ℤ e) × (e ≤ℤ pos 2000000000) → (negsuc 999999999 ≤ℤ b) × (b ≤ℤ pos 2000000000) → to_z w64 (of_z w64 (to_z w64 (of_z w64 e) -ℤ to_z w64 (of_z w64 b))) ≡ e -ℤ b
difference_is e b p q = omega (arith, ints, p.0, p.1, q.0, q.1)

difference_fits : (e b : ℤ) → (negsuc 1999999999 ≤ℤ e) × (e ≤ℤ pos 2000000000) → (negsuc 999999999 ≤ℤ b) × (b ≤ℤ pos 2000000000) → FitsSigned w64 (to_z w64 (of_z w64 e) -ℤ to_z w64 (of_z w64 b))
difference_fits e b p q = let e0 = p.0 in let e1 = p.1 in let b0 = q.0 in let b1 = q.1 in search (rules, ints)

pub overflow_sub-end : goal.overflow_sub-end
overflow_sub-end c =
    let end = end_is c.args.start.now c.args.duration.now c.args.span.now.until c.min-end.result c.requires.start c.requires.duration c.args.span.now.ends c.min-end.ensures.value in
    let begin = begin_is c.args.start.now c.args.span.now.from c.max-begin.result c.requires.start c.args.span.now.begins c.max-begin.ensures.value in
    difference_fits c.min-end.result c.max-begin.result (end_near c.args.start.now c.args.duration.now c.args.span.now.until c.min-end.result c.requires.start c.requires.duration c.args.span.now.ends end) (begin_near c.args.start.now c.args.span.now.from c.max-begin.result c.requires.start c.args.span.now.begins begin)

pub returns-clause-value : goal.returns-clause-value
returns-clause-value c =
    let fits : FitsSigned w64 c.max.result = search rules in
    let end = end_is c.args.start.now c.args.duration.now c.args.span.now.until c.min-end.result c.requires.start c.requires.duration c.args.span.now.ends c.min-end.ensures.value in
    let begin = begin_is c.args.start.now c.args.span.now.from c.max-begin.result c.requires.start c.args.span.now.begins c.max-begin.ensures.value in
    let difference = difference_is c.min-end.result c.max-begin.result (end_near c.args.start.now c.args.duration.now c.args.span.now.until c.min-end.result c.requires.start c.requires.duration c.args.span.now.ends end) (begin_near c.args.start.now c.args.span.now.from c.max-begin.result c.requires.start c.args.span.now.begins begin) in
    to_z-of_z w64 c.max.result fits
    ∙ overlap_is c.args.span.now.from c.args.span.now.until c.args.start.now c.args.duration.now c.min-end.result c.max-begin.result c.max.result end begin (c.max.ensures.value ∙ rw difference)

pub returns-clause-high : goal.returns-clause-high
returns-clause-high c =
    subst (λ (x : ℤ). x ≤ℤ pos 1000000000) (sym (returns-clause-value c)) (overlap_high c.args.span.now.from c.args.span.now.until c.args.start.now c.args.duration.now c.requires.duration)
