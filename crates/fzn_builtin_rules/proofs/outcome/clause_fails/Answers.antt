use Rattle.std.proofs.Common.{◌≡◌, ℕ, ℤ, pos, subst}
use Rattle.std.specs.List.{count_by}
use Rattle.std.specs.Ordering.{int_eq}
use Rattle.fzn_builtin_rules.specs.Numbered.{choice_at}
use Rattle.fzn_builtin_rules.proofs.OutcomeLemmas.{clause_true, clause_open}
use Rattle.fzn_builtin_rules.proofs.outcome.clause_fails.Goals as goal

pub returns-then-count_value-eq0 : goal.returns-then-count_value-eq0
returns-then-count_value-eq0 c =
    let sets = c.args.sets.now.present in
    let negative = c.args.negative.now in
    clause_open sets c.args.positive.now negative c.args.number c.count_value.result c.count_value-then-count_value-eq0.result c.count_value.ensures c.if-count_value-eq0.true
    (subst (λ (n : ℕ). c.count_value-then-count_value-eq0.result ≡ count_by (λ (x : ℤ). int_eq x (pos 0)) (choice_at sets negative n)) c.rest_after-rest.ensures c.count_value-then-count_value-eq0.ensures)

pub returns-else-count_value-eq0 : goal.returns-else-count_value-eq0
returns-else-count_value-eq0 c =
    clause_true c.args.sets.now.present c.args.positive.now c.args.negative.now c.args.number c.count_value.result c.count_value.ensures c.if-count_value-eq0.false
