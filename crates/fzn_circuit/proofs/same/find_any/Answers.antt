use Rattle.std.proofs.Common.{◌≡◌, ℕ, inl, inr, arith, subst}
use Rattle.std.proofs.lemmas.Bool.{cases_lt}
use Rattle.fzn_circuit.specs.Circuits.{HaveNoCommonValue}
use Rattle.fzn_circuit.proofs.SameLemmas.{apart_different}
use Rattle.fzn_circuit.proofs.same.find_any.Goals as goal

pub loop-j-preserved : goal.loop-j-preserved
loop-j-preserved c = record {
  found = c.in_ok-find_pair.ensures.found;
  apart = λ j below. elim (cases_lt j c.loop-j.j) [
    | inl before ↦ c.loop-j.invariant.apart j before
    | inr past ↦
        let here : c.loop-j.j ≡ j = omega arith in
        subst (HaveNoCommonValue c.args.pass.now.trail.now.sets c.args.pass.now.successors.now c.loop-i.i) here (c.in_ok-find_pair.ensures.none c.if-not-is_empty.ensures)
  ];
}

pub loop-i-preserved : goal.loop-i-preserved
loop-i-preserved c = record {
  found = c.loop-j.invariant.found;
  apart = λ i j below. elim (cases_lt i c.loop-i.i) [
    | inl before ↦ c.loop-i.invariant.apart i j before
    | inr past ↦
        let here : c.loop-i.i ≡ i = omega arith in
        subst (λ (n : ℕ). HaveNoCommonValue c.args.pass.now.trail.now.sets c.args.pass.now.successors.now n j) here
        (λ d v apart one other. c.loop-j.invariant.apart j (omega (arith, other, c.loop-j-test.false, c.loop-j.auto.j-end)) d v apart one other)
  ];
}

pub returns-clause-none : goal.returns-clause-none
returns-clause-none c = λ empty.
    apart_different c.args.pass.now.trail.now.sets c.args.pass.now.successors.now (λ i j below. c.loop-i.invariant.apart i j (omega (arith, below, c.loop-i-test.false, c.loop-i.auto.i-end)))
