-- Weights that are put together, and a part that is taken out.
use Rattle.std.proofs.Common.{◌≡◌, List, refl, sym, ap, ◌∙◌, arith, ℤ, pos, ◌+ℤ◌, ◌-ℤ◌, Option, Some, None}
use Rattle.std.specs.Option.{option_map}
use Rattle.std.proofs.lemmas.Int.{ints}
use Rattle.fzn_domain.specs.declared.literal.VarId.{VarId}
use Rattle.fzn_domain.specs.Narrow.{value_of}
use Rattle.fzn_meaning.specs.declared.row.Part.TheVariants.{Variable}
use Rattle.fzn_meaning.specs.Separable.{weight_at, weight_of}
use Rattle.fzn_weights.specs.Weights.{both_weights}
use Rattle.fzn_row.specs.Draft.{Draft, blank_part, part_for}
use Rattle.fzn_row.specs.Weights.{without_part}
use Rattle.fzn_row.proofs.PartLemmas.{var-part_for}
use Rattle.fzn_row.proofs.DraftSound.{some_of, part-weight, put-weight, blank_part-weight, Exceeds}

pub both-some : (first : Option ℤ) (more : ℤ) → both_weights first (Some more) ≡ option_map (λ w. w +ℤ more) first
both-some None more = refl
both-some (Some w) more = refl

-- with the part of a variable goes what it weighed
pub taken-exceeds : (values : List ℤ) (var : VarId) (draft : Draft) (excess : ℤ) → Exceeds values draft excess
    → (w : ℤ) × (weight_at (part_for var draft.parts) (value_of values var) ≡ Some w) × Exceeds values (without_part var draft) (excess -ℤ w)
taken-exceeds values var draft excess h =
    let part = part_for var draft.parts in
    let had = some_of (weight_of values (Variable part)) (part-weight values var draft.parts h.unbarred) in
    let put = put-weight values (blank_part var) draft.parts had.0 (pos 0) h.unbarred had.1 (blank_part-weight values var) in (
      had.0,
      ap (λ (x : VarId). weight_at part (value_of values x)) (sym (var-part_for var draft.parts)) ∙ had.1,
      record { unbarred = put.unbarred; tables = h.tables; is = let e = h.is in let t = put.total in omega (arith, ints) },
    )

pub whole : (e w : ℤ) → (e -ℤ w) +ℤ w ≡ e
whole e w = omega (arith, ints)
