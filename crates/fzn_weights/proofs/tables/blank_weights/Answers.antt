use Rattle.std.proofs.Common.{◌++◌, ◌∷◌, [], sym, ap, ◌∙◌, List, Option, ℤ}
use Rattle.fzn_values.specs.Term.{numbers_in}
use Rattle.fzn_meaning.specs.Solutions.{declared_sets}
use Rattle.fzn_weights.proofs.TableLemmas.{blank-more}
use Rattle.fzn_weights.proofs.tables.blank_weights.Goals as goal

pub loop-r-preserved : goal.loop-r-preserved
loop-r-preserved c =
    c.in_ok-push.ensures.ok ∙ ap (λ (es : List (Option ℤ)). es ++ c.blank_weight.result ∷ []) c.loop-r.invariant
    ∙ sym (blank-more (declared_sets c.args.vars.now) c.args.places.now (numbers_in c.args.rows.now) c.loop-r.r c.blank_weight.result c.blank_weight.ensures)
