use Rattle.std.proofs.Common.{◌∙◌, sym, ap, subst, ◌≤ℤ◌, FitsSigned, ℤ}
use mir.Syntax.{w128}
use Rattle.std.proofs.lemmas.Int.{to_z-of_z}
use Rattle.std.proofs.lemmas.Result.{on_ok_weaker}
use Rattle.fzn_domain.proofs.DomainLemmas.{real}
use Rattle.fzn_domain.specs.declared.literal.Op.TheVariants.{AtMost, AtLeast}
use Rattle.fzn_values.specs.declared.term.Term.TheVariants.{Variable}
use Rattle.fzn_meaning.specs.Separable.{weight_at}
use Rattle.fzn_terms.specs.Denied.{that}
use Rattle.fzn_levels.proofs.LevelLemmas.{said_from, said_to}
use Rattle.fzn_levels.proofs.explain.explain_plain.Goals as goal

pub highest-high-requires-clause-present : goal.highest-high-requires-clause-present
highest-high-requires-clause-present c = λ weight is.
    let level : FitsSigned w128 c.args.level = c.ranges.level in
    let bits = real c.greatest_of.result c.greatest_of.ensures.in_limits in
    subst (λ (x : ℤ). x ≤ℤ weight) (sym (to_z-of_z w128 c.args.level level))
    (c.requires.present weight (c.greatest_of.result, c.greatest_of.ensures.member, ap (weight_at c.args.part.now) (sym bits) ∙ is))

pub lowest-low-requires-clause-present : goal.lowest-low-requires-clause-present
lowest-low-requires-clause-present c = λ weight is.
    let level : FitsSigned w128 c.args.level = c.ranges.level in
    let bits = real c.least_of.result c.least_of.ensures.in_limits in
    subst (λ (x : ℤ). x ≤ℤ weight) (sym (to_z-of_z w128 c.args.level level))
    (c.requires.present weight (c.least_of.result, c.least_of.ensures.member, ap (weight_at c.args.part.now) (sym bits) ∙ is))

pub returns-then-part-lt0 : goal.returns-then-part-lt0
returns-then-part-lt0 c =
    let level : FitsSigned w128 c.args.level = c.ranges.level in
    let heavy = simp to_z-of_z at c.highest-high.ensures.heavy in
    let claim = c.at_most.ensures ∙ ap (that (Variable c.args.part.now.var) AtMost) (real c.highest-high.result c.highest-high.ensures.in_limits) in
    on_ok_weaker c.explain.result
    (λ said. said_to c.args.pass.now.trail.now c.args.part.now c.at_most.result c.args.clause.now c.explain.new.clause said c.highest-high.result c.args.level claim heavy)
    c.explain.ensures

pub returns-else-part-lt0 : goal.returns-else-part-lt0
returns-else-part-lt0 c =
    let level : FitsSigned w128 c.args.level = c.ranges.level in
    let heavy = simp to_z-of_z at c.lowest-low.ensures.heavy in
    let claim = c.at_least.ensures ∙ ap (that (Variable c.args.part.now.var) AtLeast) (real c.lowest-low.result c.lowest-low.ensures.in_limits) in
    on_ok_weaker c.explain-else-part-lt0.result
    (λ said. said_from c.args.pass.now.trail.now c.args.part.now c.at_least.result c.args.clause.now c.explain-else-part-lt0.new.clause said c.lowest-low.result c.args.level claim heavy)
    c.explain-else-part-lt0.ensures
