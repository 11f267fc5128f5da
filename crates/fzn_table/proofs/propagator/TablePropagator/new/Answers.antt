use Rattle.std.proofs.Common.{List, ℤ, sym, subst, ◌∙◌}
use Rattle.fzn_values.specs.declared.term.Term.{Term}
use Rattle.fzn_values.specs.Term.{numbers_in}
use Rattle.fzn_table.specs.Chains.{AreAllChained}
use Rattle.fzn_table.proofs.propagator.TablePropagator.new.Goals as goal

pub invariant_of-result : goal.invariant_of-result
invariant_of-result c =
    let chains = c.in_ok-new.field-0.chains.items in
    let here = subst (λ (places : List Term). AreAllChained places (numbers_in c.constants.result.now) chains) (c.as_slice.ensures ∙ sym c.in_ok-share.ensures) c.in_ok-new.ensures in
    record { chained = subst (λ (rows : List ℤ). AreAllChained c.in_ok-share.field-0 rows chains) (c.constants.ensures ∙ sym c.in_ok-share-2.ensures) here }
