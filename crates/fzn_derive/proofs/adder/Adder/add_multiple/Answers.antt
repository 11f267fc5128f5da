use Rattle.std.proofs.Common.{subst, Option, IfSome, FitsSigned, w64, to_z-of_z, rules}
use mir.Syntax.{w128}
use Rattle.fzn_meaning.specs.Meaning.{IsWellFormedConstraint}
use Rattle.fzn_builtin_rules.specs.Form.{Form, Fits}
use Rattle.fzn_cited.specs.Cited.{constraint_at}
use Rattle.fzn_derive.specs.Room.{variables_in}
use Rattle.fzn_derive.proofs.AddingLemmas.{past-fault}
use Rattle.fzn_cited.proofs.CitedLemmas.{each_at}
use Rattle.fzn_derive.proofs.SummedSound.{fits-given}
use Rattle.fzn_derive.proofs.adder.Adder.add_multiple.Goals as goal

pub add_form-requires-clause-form : goal.add_form-requires-clause-form
add_form-requires-clause-form c =
    let count = variables_in c.args.self.now in
    let given = c.args.given.now in
    let number = c.args.multiple.constraint in
    subst (λ (o : Option Form). IfSome o (Fits count)) c.in_ok-form.ensures.found.form_is
    (fits-given count (constraint_at given number) (each_at (IsWellFormedConstraint count) given number c.requires.given))

pub returns-clause-fault : goal.returns-clause-fault
returns-clause-fault c =
    let wide : FitsSigned w128 c.args.bound = search rules in
    let fits : FitsSigned w64 c.args.multiple.multiplier = search rules in
    past-fault c.args.given.now c.args.self.now c.args.bound _ _ c.args.multiple _ c.add_form.result (to_z-of_z wide) (to_z-of_z fits) c.in_ok-form.ensures.found c.add_form.ensures.fault
