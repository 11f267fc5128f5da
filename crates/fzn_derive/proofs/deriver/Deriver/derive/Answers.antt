use Rattle.std.proofs.Common.{◌≡◌, ◌⊎◌, ◌∙◌, length, sym, subst, ℕ, List, All, IfOk, IfErr}
use Rattle.std.proofs.lemmas.List.{length-map}
use Rattle.fzn_meaning.specs.declared.model.Var.{Var}
use Rattle.fzn_meaning.specs.Meaning.{IsWellFormedConstraint}
use Rattle.fzn_meaning.specs.Solutions.{declared_sets}
use Rattle.fzn_cited.specs.declared.fault.DeriveFault.{DeriveFault}
use Rattle.fzn_cited.specs.declared.fault.DeriveFault.TheVariants.{Memory}
use Rattle.fzn_derive.specs.Apart.{AreToldApart, IsApartFault}
use Rattle.fzn_derive.specs.Summed.{IsSummed, IsSumFault}
use Rattle.fzn_derive.specs.Room.{HoldsNothing}
use Rattle.fzn_derive.proofs.AddingLemmas.{clear-variables}
use Rattle.fzn_derive.proofs.deriver.Deriver.derive.Goals as goal

size : (vars : List Var) → length (declared_sets vars) ≡ length vars
size vars = length-map vars (λ (var : Var). var.domain)

pub derive_sum-requires-clause-clear : goal.derive_sum-requires-clause-clear
derive_sum-requires-clause-clear c =
    let room = c.args.self.now.sums in
    let clear = c.requires.clear.sums in
    subst (λ (n : ℕ). HoldsNothing n room) (sym (clear-variables (length c.args.vars.now) room clear)) clear

pub derive_sum-requires-clause-given : goal.derive_sum-requires-clause-given
derive_sum-requires-clause-given c =
    subst (λ (n : ℕ). All (IsWellFormedConstraint n) c.args.given.now) (sym (clear-variables (length c.args.vars.now) c.args.self.now.sums c.requires.clear.sums)) c.requires.given

pub returns-in-Sum-clause-clear : goal.returns-in-Sum-clause-clear
returns-in-Sum-clause-clear c = record {
  sums = subst (λ (n : ℕ). HoldsNothing n c.derive_sum.new.self) (clear-variables (length c.args.vars.now) c.args.self.now.sums c.requires.clear.sums) c.derive_sum.ensures.clear;
  rows = c.requires.clear.rows;
}

pub returns-in-Sum-clause-derived : goal.returns-in-Sum-clause-derived
returns-in-Sum-clause-derived c =
    let same = clear-variables (length c.args.vars.now) c.args.self.now.sums c.requires.clear.sums ∙ sym (size c.args.vars.now) in
    rw (c.in-Sum.is, ← c.as_slice.ensures) (subst (λ (n : ℕ). IfOk c.derive_sum.result (IsSummed c.args.given.now n c.as_slice.result.now)) same c.derive_sum.ensures.derived)

pub returns-in-Sum-clause-fault : goal.returns-in-Sum-clause-fault
returns-in-Sum-clause-fault c =
    let same = clear-variables (length c.args.vars.now) c.args.self.now.sums c.requires.clear.sums ∙ sym (size c.args.vars.now) in
    rw (c.in-Sum.is, ← c.as_slice.ensures) (subst (λ (n : ℕ). IfErr c.derive_sum.result (λ (f : DeriveFault). (f ≡ Memory) ⊎ IsSumFault c.args.given.now n c.as_slice.result.now f)) same c.derive_sum.ensures.fault)

pub returns-in-Parity-clause-derived : goal.returns-in-Parity-clause-derived
returns-in-Parity-clause-derived c = rw (c.in-Parity.is, ← c.as_slice-in-Parity.ensures) c.derive_parity.ensures.derived

pub returns-in-Parity-clause-fault : goal.returns-in-Parity-clause-fault
returns-in-Parity-clause-fault c = rw (c.in-Parity.is, ← c.as_slice-in-Parity.ensures) c.derive_parity.ensures.fault

pub returns-in-AllDifferent-clause-derived : goal.returns-in-AllDifferent-clause-derived
returns-in-AllDifferent-clause-derived c =
    let same = sym (size c.args.vars.now) in
    rw (c.in-AllDifferent.is, ← c.as_slice-in-AllDifferent.ensures, ← c.as_slice-in-AllDifferent-2.ensures)
    (subst (λ (n : ℕ). IfOk c.derive_apart.result (AreToldApart c.args.given.now n c.as_slice-in-AllDifferent.result.now c.as_slice-in-AllDifferent-2.result.now)) same c.derive_apart.ensures.derived)

pub returns-in-AllDifferent-clause-fault : goal.returns-in-AllDifferent-clause-fault
returns-in-AllDifferent-clause-fault c =
    let same = sym (size c.args.vars.now) in
    rw (c.in-AllDifferent.is, ← c.as_slice-in-AllDifferent.ensures, ← c.as_slice-in-AllDifferent-2.ensures)
    (subst (λ (n : ℕ). IfErr c.derive_apart.result (λ (f : DeriveFault). (f ≡ Memory) ⊎ IsApartFault c.args.given.now n c.as_slice-in-AllDifferent.result.now c.as_slice-in-AllDifferent-2.result.now f)) same c.derive_apart.ensures.fault)
