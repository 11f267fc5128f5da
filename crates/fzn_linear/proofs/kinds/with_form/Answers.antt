use Rattle.std.proofs.Common.{◌≡◌, length, sym, subst}
use Rattle.fzn_linear.specs.declared.sum.SumPropagator.{SumPropagator}
use Rattle.fzn_linear.specs.Kinds.{form_of_sum}
use Rattle.fzn_linear.specs.Wakes.{wake_of}
use Rattle.fzn_linear.proofs.FitLemmas.{fits_of, ready_of}
use Rattle.fzn_linear.proofs.kinds.with_form.Goals as goal

pub opposite_of-requires : goal.opposite_of-requires
opposite_of-requires c =
    let fits = fits_of c.requires.formed.0 c.args.constraint.now c.args.form c.requires.form c.requires.formed.1 in
    record { places = λ k d inside. (fits.places_fit k d inside).1; bounded = fits.bounded }

pub returns-clause-fits : goal.returns-clause-fits
returns-clause-fits c = λ declared well.
    c.kind_of.ensures.fits declared well
    (ready_of (length declared) c.args.form c.in_ok-opposite.opposite (fits_of (length declared) c.args.constraint.now c.args.form c.requires.form well) c.in_ok-opposite.ensures)

pub returns-clause-wake : goal.returns-clause-wake
returns-clause-wake c =
    subst (λ (s : SumPropagator). s.wake ≡ wake_of c.args.constraint.now (form_of_sum s.form)) (sym c.kind_of.ensures.sum) c.wake_of-wake.ensures
