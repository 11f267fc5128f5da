use Rattle.std.proofs.Common.{◌≡◌, sym, ap, ◌∙◌, subst, Option, Some, IfSome, option_copied}
use Rattle.fzn_meaning.specs.declared.constraint.Constraint.{Constraint}
use Rattle.fzn_meaning.specs.Meaning.{IsWellFormedConstraint}
use Rattle.fzn_builtin_rules.specs.Form.{Form, Fits}
use Rattle.fzn_builtin_rules.proofs.CallerLemmas.{form_fits}
use Rattle.fzn_cited.specs.Cited.{constraint_at}
use Rattle.fzn_cited.proofs.CitedLemmas.{each_at}
use Rattle.fzn_row.specs.Room.{room_size}
use Rattle.fzn_row.proofs.room.RowDeriver.add_multiple.Goals as goal

pub add_form-requires-clause-form : goal.add_form-requires-clause-form
add_form-requires-clause-form c =
    let count = room_size c.args.self.now in
    let given = c.args.given.now in
    let id = c.args.multiple.constraint in
    let at : constraint_at given id ≡ Some c.in-Some.constraint.now = sym c.constraint_at.ensures ∙ ap option_copied c.in-Some.is in
    let well = subst (λ (o : Option Constraint). IfSome o (IsWellFormedConstraint count)) at (each_at (IsWellFormedConstraint count) given id c.requires.given) in
    subst (λ (o : Option Form). IfSome o (Fits count)) c.in-Some-form_of.ensures.found (form_fits count c.in-Some.constraint.now well)
