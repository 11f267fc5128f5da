use Rattle.std.proofs.Common.{length, List, All, Some, sym, ap, subst, ◌∙◌}
use Rattle.fzn_values.specs.declared.term.Term.{Term}
use Rattle.fzn_values.specs.Term.{IsTerm}
use Rattle.fzn_fixed.proofs.MeaningLemmas.{inputs_fit, result_fits}
use Rattle.fzn_fixed.proofs.pass.Pass.new.Goals as goal

pub invariant_of-result : goal.invariant_of-result
invariant_of-result c =
    let count = length c.args.trail.now.declared in
    let ready = c.requires.ready in
    record {
      inputs_fit = subst (λ (xs : List Term). All (IsTerm count) xs) (sym c.as_slice.ensures) (inputs_fit count c.args.parts.now ready);
      result_fits = result_fits count c.args.parts.now ready;
      inputs_are = ready.parts_of.inputs ∙ ap (λ (xs : List Term). Some xs) (sym c.as_slice.ensures);
      result_is = ready.parts_of.result;
      other = ready.other;
      filled = c.requires.filled;
    }
