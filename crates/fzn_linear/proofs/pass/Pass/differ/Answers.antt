use Rattle.std.proofs.Common.{List, Option, ap, subst, ◌∙◌, rules, w64, of_z, to_z, FitsSigned, IfNone}
use Rattle.std.proofs.lemmas.Int.{to_z-of_z}
use Rattle.fzn_domain.specs.declared.literal.Lit.{Lit}
use Rattle.fzn_meaning.specs.declared.relation.Comparison.TheVariants.{NotEqual}
use Rattle.fzn_builtin_rules.specs.Form.{Form}
use Rattle.fzn_sum.specs.Refuted.{LeavesEach}
use Rattle.fzn_linear.specs.Sum.{IsFormLeft}
use Rattle.fzn_linear.proofs.RefuteLemmas.{as_sum}
use Rattle.fzn_linear.proofs.pass.Pass.differ.Goals as goal

pub returns-in-None-clause-none : goal.returns-in-None-clause-none
returns-in-None-clause-none c = λ empty switched.
    let sets = c.args.self.now.trail.now.sets in
    let sum = c.sum_where-sum.result.now in
    let fits : FitsSigned w64 c.sum_where-sum.result.now.bound = search rules in
    let left = subst (λ (f : Option (List Lit)). IfNone f (LeavesEach c.args.self.now.trail.now.sets NotEqual c.as_slice.result.now (to_z w64 (of_z w64 c.sum_where-sum.result.now.bound)))) c.in-None.is c.in_ok-clause.ensures.none in
    subst (λ (f : Form). IsFormLeft c.args.self.now.trail.now.sets f) c.sum_where-sum.ensures.value
    (as_sum (LeavesEach sets) sum _ _ (ap (λ (f : Form). f.comparison) c.sum_where-sum.ensures.value ∙ c.requires.differs) c.as_slice.ensures (to_z-of_z w64 sum.bound fits) left)
