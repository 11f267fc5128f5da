use Rattle.std.proofs.Common.{rules, ◌≡◌, ◌∙◌, sym, ap, FitsSigned, w64}
use Rattle.std.proofs.lemmas.Int.{to_z-of_z}
use Rattle.std.proofs.lemmas.Result.{on_ok_weaker}
use Rattle.fzn_domain.specs.declared.literal.Op.TheVariants.{NotEqual}
use Rattle.fzn_values.specs.declared.term.Term.TheVariants.{Variable}
use Rattle.fzn_meaning.specs.Separable.{weight_at}
use Rattle.fzn_terms.specs.Denied.{that}
use Rattle.fzn_levels.proofs.LevelLemmas.{entry_absent, said_entry}
use Rattle.fzn_levels.proofs.explain.explain_entry.Goals as goal
use Rattle.fzn_levels.proofs.explain.explain_entry.Goals.{After-other_than}

claim : (c : After-other_than) → c.other_than.result ≡ that (Variable c.args.part.now.var) NotEqual c.value_at-value.result
claim c =
    let value : FitsSigned w64 c.value_at-value.result = search rules in
    c.other_than.ensures.value ∙ ap (that (Variable c.args.part.now.var) NotEqual) (to_z-of_z w64 c.value_at-value.result value)

pub explain-requires-clause-present : goal.explain-requires-clause-present
explain-requires-clause-present c =
    let told = c.if-not-is_light.false in
    entry_absent c.args.pass.now.trail.now.sets c.args.part.now c.other_than.result c.value_at-value.result c.args.level c.entry_weight.result
    (claim (goal.at.explain-requires-clause-present c).After-other_than) (c.entry_weight.ensures.value ∙ ap (weight_at c.args.part.now) (sym c.value_at-value.ensures.value)) (c.is_light.ensures.some told) (c.is_light.ensures.light told) c.requires.present

pub returns : goal.returns
returns c =
    on_ok_weaker c.explain.result
    (λ said. said_entry c.args.pass.now.trail.now c.args.part.now c.other_than.result c.args.clause.now c.explain.new.clause said c.args.listed.now c.args.i c.args.level
    (claim (goal.at.returns c).After-other_than ∙ ap (that (Variable c.args.part.now.var) NotEqual) c.value_at-value.ensures.value))
    c.explain.ensures
