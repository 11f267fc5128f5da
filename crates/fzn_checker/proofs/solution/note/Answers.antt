use Rattle.std.proofs.Common.{◌≡◌, List, ℤ, false, ap, sym, subst, ◌∙◌}
use Rattle.fzn_domain.specs.declared.literal.VarId.{VarId}
use Rattle.fzn_checker.specs.Given.{given_by, is_given}
use Rattle.fzn_checker.proofs.solution.note.Goals as goal

pub insert-requires : goal.insert-requires
insert-requires c =
    let same = c.in_ok-given_by.ensures ∙ ap (λ (vars : List VarId). given_by vars c.args.values.now) c.as_slice.ensures in
    subst (λ (list : List ℤ). is_given c.args.given.now list ≡ false) (sym same) (c.requires.new c.in-Satisfy.is)
