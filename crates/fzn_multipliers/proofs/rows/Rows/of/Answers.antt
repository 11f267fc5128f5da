use Rattle.std.proofs.Common.{length, slice_index_or, List, sym, subst}
use Rattle.std.specs.List.{All}
use Rattle.std.proofs.lemmas.Option.{IfSome_then}
use Rattle.fzn_meaning.specs.declared.constraint.Constraint.{Constraint}
use Rattle.fzn_meaning.specs.Meaning.{IsWellFormedConstraint}
use Rattle.fzn_builtin_rules.specs.Form.{form_of}
use Rattle.fzn_builtin_rules.proofs.CallerLemmas.{form_fits}
use Rattle.fzn_multipliers.proofs.rows.Rows.of.Goals as goal

pub read_all-requires : goal.read_all-requires
read_all-requires c = λ k d inside.
    let all = subst (λ (cs : List Constraint). All (IsWellFormedConstraint (length c.args.model.now.vars)) cs) (sym c.as_slice.ensures) c.requires.constraints in
    IfSome_then (form_of (slice_index_or c.as_slice.result.now k d)) (form_fits (length c.args.model.now.vars) (slice_index_or c.as_slice.result.now k d) (all k d inside)) (λ form fits. fits.short)
