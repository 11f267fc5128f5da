use Rattle.std.proofs.Common.{◌≡◌, ℕ, ◌<◌, ℤ, List, length, slice_index_or, pos, ap, ap₂, sym, ◌∙◌, arith, rules}
use Rattle.std.proofs.lemmas.Int.{to_z-of_z}
use Rattle.fzn_values.specs.declared.term.Place.{Place}
use Rattle.fzn_values.specs.declared.term.Term.{Term}
use Rattle.fzn_values.specs.declared.term.Term.TheVariants.{Constant}
use Rattle.fzn_values.specs.Term.{number_in, weighted}
use Rattle.fzn_meaning.proofs.WeightedLemmas.{not_beyond_numbers, not_beyond_terms, place-weighted}
use Rattle.fzn_meaning.proofs.sum.Sum.place.Goals as goal
use mir.Syntax.{w64}
use mir.Val.{to_z, of_z, SFits}

-- the place is in both lists
in_numbers : (places : List Place) (numbers terms : List Term) (i : ℕ) → weighted numbers terms ≡ places → i < length places → i < length numbers
in_numbers places numbers terms i is within = omega (arith, ap length is, not_beyond_numbers numbers terms)

in_terms : (places : List Place) (numbers terms : List Term) (i : ℕ) → weighted numbers terms ≡ places → i < length places → i < length terms
in_terms places numbers terms i is within = omega (arith, ap length is, not_beyond_terms numbers terms)

pub bounds-as_slice-place : goal.bounds-as_slice-place
bounds-as_slice-place c =
    let there = in_numbers c.args.self.now c.self.inside.numbers c.self.inside.terms c.args.place c.self.view_is c.requires in
    omega (arith, there, ap length c.as_slice.ensures)

pub offset_bounds-as_slice-place : goal.offset_bounds-as_slice-place
offset_bounds-as_slice-place c = omega (arith, bounds-as_slice-place c, c.as_slice.type_inv.1)

pub bounds-as_slice-place-2 : goal.bounds-as_slice-place-2
bounds-as_slice-place-2 c =
    let there = in_terms c.args.self.now c.self.inside.numbers c.self.inside.terms c.args.place c.self.view_is c.requires in
    omega (arith, there, ap length c.as_slice-2.ensures)

pub offset_bounds-as_slice-place-2 : goal.offset_bounds-as_slice-place-2
offset_bounds-as_slice-place-2 c = omega (arith, bounds-as_slice-place-2 c, c.as_slice-2.type_inv.1)

pub returns : goal.returns
returns c =
    let zero : Term = Constant (pos 0) in
    let i = c.args.place in
    let numbers = c.self.inside.numbers in
    let terms = c.self.inside.terms in
    let fits : SFits w64 c.number.result = search rules in
    let coefficient : to_z w64 (of_z w64 c.number.result) ≡ number_in (slice_index_or numbers i zero) =
    to_z-of_z w64 c.number.result fits ∙ c.number.ensures ∙ ap (λ (xs : List Term). number_in (slice_index_or xs i zero)) c.as_slice.ensures in
    let term : slice_index_or c.as_slice-2.result.now i zero ≡ slice_index_or terms i zero =
    ap (λ (xs : List Term). slice_index_or xs i zero) c.as_slice-2.ensures in
    ap₂ (λ (k : ℤ) (t : Term). record { coefficient = k; term = t }) coefficient term
    ∙ sym (place-weighted numbers terms i (in_numbers c.args.self.now numbers terms i c.self.view_is c.requires) (in_terms c.args.self.now numbers terms i c.self.view_is c.requires))
    ∙ ap (λ (places : List Place). slice_index_or places i (record { coefficient = pos 0; term = zero })) c.self.view_is
