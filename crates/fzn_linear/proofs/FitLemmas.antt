-- The form of a constraint that a model may have fits, and so does the opposite one.
use Rattle.std.proofs.Common.{◌≡◌, ℕ, ◌≤◌, List, length, subst, sym, ap, ◌∙◌, arith, ℤ, unsigned_abs, All, Option, IfSome}
use Rattle.std.proofs.lemmas.Int.{ints}
use Rattle.fzn_domain.specs.Limits.{IsSmall}
use Rattle.fzn_values.specs.declared.term.Place.{Place}
use Rattle.fzn_meaning.specs.declared.relation.Comparison.{Comparison}
use Rattle.fzn_meaning.specs.declared.relation.Comparison.TheVariants.{AtMost, Equal, NotEqual}
use Rattle.fzn_meaning.specs.declared.constraint.Constraint.{Constraint}
use Rattle.fzn_values.specs.Term.{IsPlace}
use Rattle.fzn_meaning.specs.Meaning.{IsWellFormedConstraint}
use Rattle.fzn_builtin_rules.specs.Form.{Form, Fits}
use Rattle.fzn_builtin_rules.proofs.CallerLemmas.{form_fits}
use Rattle.fzn_sum.specs.Opposite.{opposites}
use Rattle.fzn_sum.proofs.CallerLemmas.{opposites_fit, opposites-twice, length-opposites}
use Rattle.fzn_linear.specs.declared.form.SumForm.{SumForm}
use Rattle.fzn_linear.specs.OppositeForm.{other_bound, opposite_form}
use Rattle.fzn_linear.specs.Kinds.{form_of_sum, IsFormOf, IsSumReady}

pub fits_of : (count : ℕ) (c : Constraint) (sum : SumForm) → IsFormOf c sum → IsWellFormedConstraint count c → Fits count (form_of_sum sum)
fits_of count c sum same well = subst (λ (f : Option Form). IfSome f (Fits count)) same (form_fits count c well)

-- ---- with its opposite

small_other : (comparison : Comparison) (bound : ℤ) → IsSmall bound → unsigned_abs (other_bound comparison bound) ≤ 1000000001
small_other AtMost bound h = grind (arith, ints)
small_other Equal bound h = grind (arith, ints)
small_other NotEqual bound h = grind (arith, ints)

pub ready_of : (count : ℕ) (sum opposite : SumForm) → Fits count (form_of_sum sum) → form_of_sum opposite ≡ opposite_form (form_of_sum sum) → IsSumReady count sum opposite
ready_of count sum opposite fits same =
    let places : opposite.places ≡ opposites sum.places = ap (λ (f : Form). f.places) same in
    let bound : opposite.bound ≡ other_bound sum.comparison sum.bound = ap (λ (f : Form). f.bound) same in
    let all = subst (λ (ps : List Place). All (IsPlace count) ps) (sym places) (opposites_fit count sum.places fits.places_fit) in
    let few : length opposite.places ≤ 200000 = let short = fits.short in let same_length = ap (λ (ps : List Place). length ps) places in omega (arith, length-opposites sum.places) in
    record {
      on = record { places_fit = fits.places_fit; opposite_fit = all; short = fits.short; opposite_short = few; opposite_is = places; bounded = let h = fits.bounded in omega arith };
      off = record {
        places_fit = all;
        opposite_fit = fits.places_fit;
        short = few;
        opposite_short = fits.short;
        opposite_is = sym (ap opposites places ∙ opposites-twice sum.places);
        bounded = subst (λ (b : ℤ). unsigned_abs b ≤ 1000000001) (sym bound) (small_other sum.comparison sum.bound fits.bounded);
      };
      switch_fits = fits.switch_fits;
      opposite_is = same;
    }
