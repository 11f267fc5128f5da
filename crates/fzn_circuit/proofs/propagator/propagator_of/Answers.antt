use Rattle.std.proofs.Common.{◌≡◌, ◌-◌, ℕ, List, length, get_or, sym, ap, subst, ◌∙◌, arith, Option, Some, None, Result, Ok, Err, IfOk, IfSome}
use Rattle.std.proofs.lemmas.List.{length-map}
use Rattle.fzn_domain.specs.IntSet.{IntSet}
use Rattle.fzn_meaning.specs.declared.constraint.Constraint.{Constraint}
use Rattle.fzn_meaning.specs.Meaning.{IsWellFormedConstraint}
use Rattle.fzn_meaning.specs.Solutions.{declared_sets}
use Rattle.fzn_circuit.specs.declared.propagator.CircuitPropagator.{CircuitPropagator}
use Rattle.fzn_circuit.specs.Propagator.{CircuitIsFor, CircuitFits}
use Rattle.fzn_circuit.proofs.propagator.propagator_of.Goals as goal

fits_of : {E : Type 0} (result : Result (Option CircuitPropagator) E) (C : Constraint) (declared : List IntSet) → IsWellFormedConstraint (length declared) C → IfOk result (λ found. IfSome found (λ p. CircuitIsFor p C)) → IfOk result (λ found. IfSome found (λ p. CircuitFits p declared))
unfolding IsWellFormedConstraint
fits_of (Ok (Some q)) C declared formed h = subst (IsWellFormedConstraint (length declared)) (sym h) formed
fits_of (Ok None) C declared formed h = tt
fits_of (Err e) C declared formed h = tt

pub returns-clause-fits : goal.returns-clause-fits
returns-clause-fits c =
    let model = c.args.model.now in
    let C = c.index-as_slice-c.result in
    let low = c.requires.number.0 in
    let high = c.requires.number.1 in
    let here : C ≡ get_or c.args.model.now.constraints (c.args.c - 1) c.index-as_slice-c.result = c.index-as_slice-c.is ∙ ap (λ (xs : List Constraint). get_or xs (c.args.c - 1) c.index-as_slice-c.result) c.as_slice.ensures in
    let formed = subst (IsWellFormedConstraint (length model.vars)) (sym here) (c.requires.model.constraints (c.args.c - 1) C (omega arith)) in
    let count : length model.vars ≡ length (declared_sets c.args.model.now.vars) = sym (length-map model.vars (λ var. var.domain)) in
    fits_of c.propagator_for.result C (declared_sets model.vars) (subst (λ (n : ℕ). IsWellFormedConstraint n c.index-as_slice-c.result) count formed) c.propagator_for.ensures.is_for
