-- What is derived follows, is a constraint that a model may have, and is one.
use Rattle.std.proofs.Common.{◌≡◌, List, length, sym, ap, ◌∙◌, ℤ, All}
use Rattle.std.proofs.lemmas.List.Elements.{All-nil}
use Rattle.fzn_domain.specs.IntSet.{IntSet}
use Rattle.fzn_domain.specs.Narrow.{IsWithin}
use Rattle.fzn_meaning.specs.declared.constraint.Constraint.{Constraint}
use Rattle.fzn_meaning.specs.declared.constraint.Constraint.TheVariants as constraint
use Rattle.fzn_meaning.specs.declared.row.Row.{Row}
use Rattle.fzn_meaning.specs.Separable.{IsSeparableRow, RowHolds}
use Rattle.fzn_meaning.specs.Meaning.{Meets, IsWellFormedConstraint, HasBooleanSets, IsBoolean, booleans_of}
use Rattle.fzn_derive.specs.declared.derivation.Derivation.{Derivation}
use Rattle.fzn_derive.specs.declared.derivation.Derivation.TheVariants as by
use Rattle.fzn_cited.specs.declared.fault.DeriveFault.{DeriveFault}
use Rattle.fzn_cited.specs.Cited.{AreMet}
use Rattle.fzn_derive.specs.Derived.{cited, most_row_weights, IsDerivedBy, IsDeriveFault}
use Rattle.fzn_row.proofs.DerivedSound.{derived-holds, one-derived_row, no-row_fault, one-row_fault}
use Rattle.fzn_row.proofs.FormedSound.{derived_row-formed}
use Rattle.fzn_derive.proofs.SummedSound.{sum-Meets, sum-formed, one-sum, no-fault, one-fault}
use Rattle.fzn_derive.proofs.ParityLemmas.{parity-met}
use Rattle.fzn_derive.proofs.ParityLaws.{parity-formed, parity-Boolean, parity-one, parity-no_fault, parity-one_fault}
use Rattle.fzn_derive.proofs.ApartLemmas.{apart-met, apart-formed, apart-Boolean, apart-one, apart-no_fault, apart-one_fault}

row-Meets : (row : Row) (c : Constraint) (values : List ℤ) → c ≡ constraint.Row row → RowHolds row values → Meets c values
unfolding Meets
row-Meets row c values is holds = rw is holds

row-formed : (declared : List IntSet) (row : Row) (c : Constraint) → c ≡ constraint.Row row → IsSeparableRow (length declared) row → IsWellFormedConstraint (length declared) c × HasBooleanSets declared c
unfolding IsWellFormedConstraint booleans_of
row-formed declared row c is formed = rw is (formed, All-nil (IsBoolean declared))

pub derived-Meets : (given : List Constraint) (declared : List IntSet) (derivation : Derivation) (constraint : Constraint) (values : List ℤ)
    → All (IsWellFormedConstraint (length declared)) given → All (HasBooleanSets declared) given
    → IsDerivedBy given declared derivation constraint → IsWithin declared values
    → AreMet given (cited derivation) values
    → Meets constraint values
derived-Meets given declared (by.Sum multiples) constraint values well booleans derived within met = sum-Meets given declared multiples constraint values well booleans derived within met
derived-Meets given declared (by.Parity ids) constraint values well booleans derived within met = parity-met given declared ids constraint values within derived met
derived-Meets given declared (by.AllDifferent variables ids) constraint values well booleans derived within met = apart-met given (length declared) variables ids constraint values well derived met
derived-Meets given declared (by.Row items) constraint values well booleans derived within met =
    row-Meets derived.0 constraint values derived.2 (derived-holds given declared values well booleans within most_row_weights items derived.0 derived.1 met)

pub derived-formed : (given : List Constraint) (declared : List IntSet) (derivation : Derivation) (constraint : Constraint)
    → All (IsWellFormedConstraint (length declared)) given → IsDerivedBy given declared derivation constraint
    → IsWellFormedConstraint (length declared) constraint × HasBooleanSets declared constraint
derived-formed given declared (by.Sum multiples) constraint well derived = sum-formed given declared multiples constraint derived
derived-formed given declared (by.Parity ids) constraint well derived = (parity-formed given declared (length declared) ids constraint well derived, parity-Boolean given declared ids constraint derived)
derived-formed given declared (by.AllDifferent variables ids) constraint well derived = (apart-formed given (length declared) variables ids constraint derived, apart-Boolean given (length declared) variables ids constraint declared derived)
derived-formed given declared (by.Row items) constraint well derived =
    row-formed declared derived.0 constraint derived.2 (derived_row-formed given declared well most_row_weights items derived.0 derived.1)

pub one-derived : (given : List Constraint) (declared : List IntSet) (derivation : Derivation) (first second : Constraint) → IsDerivedBy given declared derivation first → IsDerivedBy given declared derivation second → first ≡ second
one-derived given declared (by.Sum multiples) first second a b = one-sum given (length declared) multiples first second a b
one-derived given declared (by.Parity ids) first second a b = parity-one given declared ids first second a b
one-derived given declared (by.AllDifferent variables ids) first second a b = apart-one given (length declared) variables ids first second a b
one-derived given declared (by.Row items) first second a b =
    a.2 ∙ ap constraint.Row (one-derived_row given declared most_row_weights items a.0 b.0 a.1 b.1) ∙ sym b.2

pub no-derive_fault : (given : List Constraint) (declared : List IntSet) (derivation : Derivation) (constraint : Constraint) (fault : DeriveFault) → IsDerivedBy given declared derivation constraint → IsDeriveFault given declared derivation fault → ⊥
no-derive_fault given declared (by.Sum multiples) constraint fault derived wrong = no-fault given (length declared) multiples constraint fault derived wrong
no-derive_fault given declared (by.Parity ids) constraint fault derived wrong = parity-no_fault given declared ids constraint fault derived wrong
no-derive_fault given declared (by.AllDifferent variables ids) constraint fault derived wrong = apart-no_fault given (length declared) variables ids constraint fault derived wrong
no-derive_fault given declared (by.Row items) constraint fault derived wrong = no-row_fault given declared most_row_weights items derived.0 fault derived.1 wrong

pub one-derive_fault : (given : List Constraint) (declared : List IntSet) (derivation : Derivation) (first second : DeriveFault) → IsDeriveFault given declared derivation first → IsDeriveFault given declared derivation second → first ≡ second
one-derive_fault given declared (by.Sum multiples) first second x y = one-fault given (length declared) multiples first second x y
one-derive_fault given declared (by.Parity ids) first second x y = parity-one_fault given declared ids first second x y
one-derive_fault given declared (by.AllDifferent variables ids) first second x y = apart-one_fault given (length declared) variables ids first second x y
one-derive_fault given declared (by.Row items) first second x y = one-row_fault given declared most_row_weights items first second x y
