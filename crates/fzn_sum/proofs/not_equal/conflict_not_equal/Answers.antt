use Rattle.std.proofs.Common.{◌≡◌, arith, ap, sym, ◌∙◌, ℤ, pos, w64, of_z, to_z, FitsSigned}
use Rattle.std.specs.Int.{w128}
use Rattle.std.proofs.lemmas.Int.{ints, to_z-of_z}
use Rattle.fzn_values.specs.declared.term.Place.{Place}
use Rattle.fzn_values.specs.declared.term.Term.TheVariants.{Constant}
use Rattle.fzn_sum.proofs.ClauseLemmas.{fits_sum}
use Rattle.fzn_sum.proofs.PinLemmas.{conflict_settled}
use Rattle.fzn_sum.proofs.BarredLemmas.{leaves_open, leaves_other}
use Rattle.fzn_sum.proofs.not_equal.conflict_not_equal.Goals as goal

same_bits : (sum wide number : ℤ) → FitsSigned w128 sum → FitsSigned w64 number → wide ≡ to_z w64 (of_z w64 number) → of_z w128 sum ≡ of_z w128 wide → sum ≡ number
same_bits sum wide number fits small is e =
    let same : wide ≡ number = is ∙ to_z-of_z w64 number small in
    let back : to_z w128 (of_z w128 wide) ≡ number = ap (λ (x : ℤ). to_z w128 (of_z w128 x)) same ∙ omega (arith, ints) in
    sym (to_z-of_z w128 sum fits) ∙ ap (to_z w128) e ∙ back

bits_same : (sum wide number : ℤ) → FitsSigned w64 number → wide ≡ to_z w64 (of_z w64 number) → sum ≡ number → of_z w128 sum ≡ of_z w128 wide
bits_same sum wide number small is e = ap (of_z w128) (e ∙ sym (is ∙ to_z-of_z w64 number small))

pub returns-in-Some-clause-none : goal.returns-in-Some-clause-none
returns-in-Some-clause-none c =
    let at : Place = record { coefficient = pos 0; term = Constant (pos 0) } in
    let open_at = c.in-Some.ensures.found in
    leaves_open c.args.trail.now.sets c.args.places.now c.args.number c.in-Some.field-0 at open_at.in_places (open_at.several at)

pub returns-then-least_sum-from-clause-none : goal.returns-then-least_sum-from-clause-none
returns-then-least_sum-from-clause-none c =
    leaves_other c.args.trail.now.sets c.args.places.now c.args.number c.in_default.ensures.none
    (λ same. c.if-least_sum-from.true (bits_same c.least_sum.result c.from.result c.args.number c.ranges.number c.from.ensures (c.least_sum.ensures.value ∙ same)))

pub returns-clause-found : goal.returns-clause-found
returns-clause-found c =
    let fits = fits_sum c.least_sum.result c.least_sum.ensures.bounded in
    let is = same_bits c.least_sum.result c.from.result c.args.number fits c.ranges.number c.from.ensures c.if-least_sum-from.false in
    conflict_settled c.args.trail.now c.args.places.now c.args.number c.in_ok-clause.clause (sym c.least_sum.ensures.value ∙ is) c.in_ok-clause.ensures
