use Rattle.std.proofs.Common.{◌^◌, ◌≡◌, ◌+◌, ◌*◌, ◌≤◌, length, get_or, rules, arith, sym, ap, ◌∙◌, subst, true, false, FitsSigned, w64, to_z, of_z, ℤ, Option, None, IfSome, unsigned_abs}
use Rattle.std.proofs.lemmas.Int.{ints, to_z-of_z}
use Rattle.fzn_domain.specs.IntSet.{contains}
use Rattle.fzn_meaning.specs.Separable.{weighed}
use Rattle.fzn_rules.specs.Separable.{IsLeastOf}
use Rattle.fzn_rules.proofs.LeastLemmas.{IsWeightBefore, before-skip, before-more, before-all, lesser-bounded}
use Rattle.fzn_rules.proofs.separable.least_listed.Goals as goal
use Rattle.fzn_rules.proofs.separable.least_listed.Goals.{then-contains, else-contains}

pub loop-i-preserved : goal.loop-i-preserved
loop-i-preserved c =
    let k = to_z w64 (of_z w64 c.args.coefficient) in
    let set = c.args.set.now in
    let listed = c.args.listed.now in
    let i = c.loop-i.i in
    let low : FitsSigned w64 listed.low = search rules in
    elim c.if-contains.branch [
      | then-contains w ↦
          let more = before-more set k listed i c.loop-i.least c.loop-i.invariant.least w.weighed-weight.result
          (subst (λ (v : ℤ). contains set v ≡ true) (omega (arith, ints)) (sym c.contains.ensures ∙ w.if-contains.true))
          (w.weighed-weight.ensures.value ∙ rw w.as_slice.ensures (ap (λ (v : ℤ). weighed k v (get_or listed.weights i None)) (omega (arith, ints)))) in
          record {
            least = subst (IsLeastOf (IsWeightBefore set k listed (i + 1))) (sym (w.least-is ∙ w.lesser-least.ensures)) more;
            bounded = subst (λ (o : Option ℤ). IfSome o (λ (x : ℤ). unsigned_abs x ≤ 1000000000000 * 2 ^ 63 + 1000000000000000000)) (sym (w.least-is ∙ w.lesser-least.ensures)) (lesser-bounded c.loop-i.least w.weighed-weight.result c.loop-i.invariant.bounded w.weighed-weight.ensures.bounded);
          }
      | else-contains w ↦
          let skip = before-skip set k listed i c.loop-i.least c.loop-i.invariant.least (subst (λ (v : ℤ). contains set v ≡ false) (omega (arith, ints)) (sym c.contains.ensures ∙ w.if-contains.false)) in
          record {
            least = subst (IsLeastOf (IsWeightBefore set k listed (i + 1))) (sym w.least-is) skip;
            bounded = subst (λ (o : Option ℤ). IfSome o (λ (x : ℤ). unsigned_abs x ≤ 1000000000000 * 2 ^ 63 + 1000000000000000000)) (sym w.least-is) c.loop-i.invariant.bounded;
          }
    ]

pub returns-clause-least : goal.returns-clause-least
returns-clause-least c =
    let coefficient : FitsSigned w64 c.args.coefficient = c.ranges.coefficient in
    let whole : c.loop-i.i ≡ length c.args.listed.now.weights = omega arith in
    let h = simp to_z-of_z at c.loop-i.invariant.least in
    before-all c.args.set.now c.args.coefficient c.args.listed.now c.loop-i.least
    (subst (λ n. IsLeastOf (IsWeightBefore c.args.set.now c.args.coefficient c.args.listed.now n) c.loop-i.least) whole h)
