use Rattle.std.proofs.Common.{arith, sym, ◌∙◌}
use Rattle.std.proofs.lemmas.Option.{get_or_from_slice_get}
use Rattle.fzn_core.specs.Kept.{kept_steps}
use Rattle.fzn_core.specs.Core.{inferred_from}
use Rattle.fzn_core.proofs.ListLemmas.{found-more}
use Rattle.fzn_core.proofs.cited.numbers_in.Goals as goal

pub loop-place-preserved : goal.loop-place-preserved
loop-place-preserved c =
    let steps = kept_steps c.args.kept.now in
    let place = c.loop-place.place in
    let step = c.in-Some.step in
    found-more inferred_from c.loop-place.numbers.items c.push_number.new.numbers.items steps place step (omega arith)
    (sym (get_or_from_slice_get steps place step step (sym c.in_ok-step.ensures ∙ c.in-Some.is))) c.loop-place.invariant c.in_ok-push_number.ensures
