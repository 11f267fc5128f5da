-- What the propagator of a sum counts.
use Rattle.std.specs.Prelude.{◌≡◌, ◌≤◌, ℤ, List, [], ◌∷◌, length, flat_map, Option, Some, None}
use Rattle.fzn_values.specs.declared.term.Term.{Term}
use Rattle.fzn_values.specs.declared.term.Term.TheVariants.{Constant, Variable}
use Rattle.fzn_values.specs.declared.term.Place.{Place}
use Rattle.fzn_meaning.specs.declared.relation.Comparison.TheVariants.{AtMost}
use Rattle.fzn_propagator.specs.declared.counting.Counting.{Counting}
use Rattle.fzn_propagator.specs.declared.counting.Pair.{Pair}
use Rattle.fzn_linear.specs.declared.form.SumForm.{SumForm}

abbrev weight_at : ℤ → Term → List ℤ
weight_at coefficient (Variable variable) = coefficient ∷ []
weight_at coefficient (Constant value) = []

-- by what the variable of the place counts, where it has one
abbrev pub place_weight : Place → List ℤ
place_weight place = weight_at place.coefficient place.term

-- by what the variables count, in the order in which the propagator of the sum waits for them; it waits for its switch last
abbrev pub weights_in : SumForm → List ℤ
weights_in form = flat_map place_weight form.places

-- the form is of these two places, and is to be at most the bound
pub record IsPairOf (form : SumForm) (pair : Pair) : Type 0 where
  pub places : form.places ≡ pair.one ∷ pair.other ∷ []
  pub comparison : form.comparison ≡ AtMost
  pub bound : pair.bound ≡ form.bound
  pub switch : pair.switch ≡ form.switch

-- a pair counts nothing, and a sum of two places or more by its coefficients
abbrev pub CountsBy : SumForm → List ℤ → Option Pair → Type 0
CountsBy form weights (Some pair) = IsPairOf form pair × (weights ≡ [])
CountsBy form weights None = (2 ≤ length form.places) × (weights ≡ weights_in form)

abbrev pub CountsForm : SumForm → Counting → Type 0
CountsForm form counting = CountsBy form counting.weights.items counting.pair
