use Rattle.std.proofs.Common.{◌-◌, subst, refl, arith}
use Rattle.fzn_domain.specs.Narrow.{IsClauseOver}
use Rattle.fzn_checker.proofs.JudgeLemmas.{denied_by, constraint_fits, rule_justifies, rule_fails, not_trivial}
use Rattle.fzn_checker.proofs.judge.judge_infer.Goals as goal

pub refutes-requires-clause-constraint : goal.refutes-requires-clause-constraint
refutes-requires-clause-constraint c =
    constraint_fits c.args.model.now c.deny.new.sets.present c.args.inference.now.clause (c.args.inference.now.constraint - 1) c.index-as_slice-constraint.result c.requires.model
    (denied_by c.args.model.now c.args.sets.now c.deny.new.sets.present c.as_slice-clause.result.now c.args.inference.now.clause c.as_slice-clause.ensures c.requires.sets c.in_ok-emptied.ensures.sets)
    (omega (arith, c.if-constraint-eq0.false, c.if-constraint-len.false, c.len-else-constraint-eq0.ensures))
    (rw c.as_slice.ensures at c.index-as_slice-constraint.is)

pub returns-then-refutes-clause-judged : goal.returns-then-refutes-clause-judged
returns-then-refutes-clause-judged c =
    λ past. (
      subst (λ n. IsClauseOver n c.args.inference.now.clause) c.len.ensures (subst (IsClauseOver c.len.result) c.as_slice-clause.ensures (c.if-not-has_variables.ensures.0 refl)),
      (omega (arith, c.if-constraint-eq0.false), omega (arith, c.if-constraint-len.false, c.len-else-constraint-eq0.ensures)),
      rule_justifies c.args.model.now c.deny.new.sets.present c.args.inference.now.constraint c.args.inference.now.rule c.args.inference.now.clause c.index-as_slice-constraint.result
          (denied_by c.args.model.now c.args.sets.now c.deny.new.sets.present c.as_slice-clause.result.now c.args.inference.now.clause c.as_slice-clause.ensures c.requires.sets c.in_ok-emptied.ensures.sets)
          (omega (arith, c.if-constraint-eq0.false, c.if-constraint-len.false, c.len-else-constraint-eq0.ensures))
          (rw c.as_slice.ensures at c.index-as_slice-constraint.is)
          (c.if-refutes.ensures.met.0 refl),
    )

pub returns-else-refutes-clause-judged : goal.returns-else-refutes-clause-judged
returns-else-refutes-clause-judged c =
    let now = denied_by c.args.model.now c.args.sets.now c.deny.new.sets.present c.as_slice-clause.result.now c.args.inference.now.clause c.as_slice-clause.ensures c.requires.sets c.in_ok-emptied.ensures.sets in
    λ past. (
      subst (λ n. IsClauseOver n c.args.inference.now.clause) c.len.ensures (subst (IsClauseOver c.len.result) c.as_slice-clause.ensures (c.if-not-has_variables.ensures.0 refl)),
      (omega (arith, c.if-constraint-eq0.false), omega (arith, c.if-constraint-len.false, c.len-else-constraint-eq0.ensures)),
      rule_fails c.args.model.now c.deny.new.sets.present c.args.inference.now.constraint c.args.inference.now.rule c.args.inference.now.clause c.index-as_slice-constraint.result now
          (omega (arith, c.if-constraint-eq0.false, c.if-constraint-len.false, c.len-else-constraint-eq0.ensures))
          (rw c.as_slice.ensures at c.index-as_slice-constraint.is)
          (not_trivial c.args.model.now c.args.sets.now c.deny.new.sets.present c.args.inference.now.clause c.args.has_empty c.in_ok-emptied.emptied c.requires.sets now c.in_ok-emptied.ensures.emptied c.requires.empty c.if-has_empty.false c.if-emptied.false)
          (λ met. let e = c.if-refutes.ensures.met.1 met in cc),
    )
