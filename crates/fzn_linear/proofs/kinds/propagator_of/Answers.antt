use Rattle.std.proofs.Common.{◌≡◌, ◌-◌, ◌<◌, ℕ, List, length, get_or, sym, ap, subst, ◌∙◌, arith, All, Option, IfSome}
use Rattle.std.proofs.lemmas.List.{length-map}
use Rattle.std.proofs.lemmas.Option.{IfSome_then}
use Rattle.fzn_meaning.specs.declared.constraint.Constraint.{Constraint}
use Rattle.fzn_meaning.specs.declared.model.Var.{Var}
use Rattle.fzn_meaning.specs.Meaning.{IsWellFormedConstraint}
use Rattle.fzn_meaning.specs.Solutions.{declared_sets}
use Rattle.fzn_builtin_rules.specs.Form.{form_of}
use Rattle.fzn_builtin_rules.proofs.CallerLemmas.{form_fits}
use Rattle.fzn_linear.specs.declared.form.SumForm.{SumForm}
use Rattle.fzn_linear.specs.Kinds.{IsFormOf}
use Rattle.fzn_linear.proofs.kinds.propagator_of.Goals as goal

-- the constraint that a call is for
formed_at : (count i : ℕ) (constraints named : List Constraint) (x : Constraint) → named ≡ constraints → x ≡ get_or named i x → i < length constraints → All (IsWellFormedConstraint count) constraints → IsWellFormedConstraint count x
formed_at count i constraints named x same is below well =
    subst (λ (y : Constraint). IsWellFormedConstraint count y) (sym (is ∙ ap (λ (xs : List Constraint). get_or xs i x) same)) (well i x below)

pub form_of-requires : goal.form_of-requires
form_of-requires c =
    let range = c.requires.number in
    let count = length c.args.model.now.vars in
    let well = formed_at count (c.args.c - 1) c.args.model.now.constraints _ c.index-as_slice-c.result c.as_slice.ensures c.index-as_slice-c.is (omega arith) c.requires.model.constraints in
    IfSome_then (form_of c.index-as_slice-c.result) (form_fits count c.index-as_slice-c.result well) (λ form fits. fits.short)

pub with_form-requires-clause-formed : goal.with_form-requires-clause-formed
with_form-requires-clause-formed c =
    let range = c.requires.number in
    let count = length c.args.model.now.vars in
    (count, formed_at count (c.args.c - 1) c.args.model.now.constraints _ c.index-as_slice-c.result c.as_slice.ensures c.index-as_slice-c.is (omega arith) c.requires.model.constraints)

pub with_form-requires-clause-form : goal.with_form-requires-clause-form
with_form-requires-clause-form c = subst (λ (f : Option SumForm). IfSome f (IsFormOf c.index-as_slice-c.result)) c.in-Some.is c.in_ok-form.ensures.found

pub returns-clause-fits : goal.returns-clause-fits
returns-clause-fits c =
    let range = c.requires.number in
    let count = length c.args.model.now.vars in
    let well = formed_at count (c.args.c - 1) c.args.model.now.constraints _ c.index-as_slice-c.result c.as_slice.ensures c.index-as_slice-c.is (omega arith) c.requires.model.constraints in
    let one_each = sym (length-map c.args.model.now.vars (λ (var : Var). var.domain)) in
    c.in_ok-with_form.ensures.fits (declared_sets c.args.model.now.vars) (subst (λ (n : ℕ). IsWellFormedConstraint n c.index-as_slice-c.result) one_each well)
