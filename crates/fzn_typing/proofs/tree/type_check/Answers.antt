use Rattle.std.proofs.Common.{◌≡◌, List, Some, sym, ◌∙◌, ap, subst, flat_map, length, ◌++◌, ◌↔◌, Contains}
use Rattle.std.specs.List.{All}
use Rattle.fzn_domain.specs.Narrow.{IsVariable}
use Rattle.fzn_meaning.specs.declared.model.OutputItem.{OutputItem}
use Rattle.fzn_meaning.specs.declared.model.Var.{Var}
use Rattle.fzn_names.specs.Outputs.{IsShown}
use Rattle.fzn_meaning.specs.declared.constraint.Constraint.{Constraint}
use Rattle.fzn_meaning.specs.declared.model.Goal.{Goal}
use Rattle.fzn_names.specs.declared.names.Names.{Names}
use Rattle.fzn_names.specs.Known.{known}
use Rattle.fzn_names.specs.Declarations.{names_of}
use Rattle.fzn_typing.specs.Models.{stated, written, goal_of}
use Rattle.fzn_typing.specs.Typed.{model_in}
use Rattle.fzn_typing.proofs.TreeLemmas.{err_names, err_cons, err_goal, model-err, model_right, model_formed, is_model, shown_inside, none_in_names, none_in_cons}
use Rattle.fzn_typing.proofs.tree.type_check.Goals as goal

pub returns-in_err-names-clause-right : goal.returns-in_err-names-clause-right
returns-in_err-names-clause-right c =
    err_names c.args.tree.now c.as_slice.result.now c.as_slice-declared.result.now c.len.result c.as_slice.ensures c.as_slice-declared.ensures c.len.ensures
    (λ (found : Names). known found ≡ names_of c.as_slice.result.now c.as_slice-declared.result.now) c.in_err-names.field-0.0 (model_in c.from_residual.result) c.in_err-names.ensures (model-err c.from_residual.result _ c.from_residual.ensures.1)

pub returns-in_err-stated-clause-right : goal.returns-in_err-stated-clause-right
returns-in_err-stated-clause-right c =
    err_cons c.args.tree.now c.as_slice.result.now c.as_slice-declared.result.now c.len.result c.as_slice.ensures c.as_slice-declared.ensures c.len.ensures
    (known c.in_ok-names.names) c.as_slice-2.result.now c.in_ok-names.ensures.0 c.in_ok-names.ensures.1 c.as_slice-2.ensures
    (λ (found : List Constraint). found ≡ flat_map (stated (known c.in_ok-names.names)) c.as_slice-2.result.now) c.in_err-stated.field-0.0 (model_in c.from_residual-in_err-stated.result) c.in_err-stated.ensures (model-err c.from_residual-in_err-stated.result _ c.from_residual-in_err-stated.ensures.1)

pub returns-in_err-goal-clause-right : goal.returns-in_err-goal-clause-right
returns-in_err-goal-clause-right c =
    err_goal c.args.tree.now c.as_slice.result.now c.as_slice-declared.result.now c.len.result c.as_slice.ensures c.as_slice-declared.ensures c.len.ensures
    (known c.in_ok-names.names) c.as_slice-2.result.now c.in_ok-names.ensures.0 c.in_ok-names.ensures.1 c.as_slice-2.ensures c.in_ok-stated.ensures.0
    (λ (found : Goal). goal_of (known c.in_ok-names.names) c.args.tree.now.solve.goal ≡ Some found) c.in_err-goal.field-0.0 (model_in c.from_residual-in_err-goal.result) c.in_err-goal.ensures (model-err c.from_residual-in_err-goal.result _ c.from_residual-in_err-goal.ensures.1)

pub outputs_of-requires-clause-shown : goal.outputs_of-requires-clause-shown
outputs_of-requires-clause-shown c =
    shown_inside c.args.tree.now c.as_slice.result.now c.as_slice-declared.result.now c.len.result c.as_slice.ensures c.as_slice-declared.ensures c.len.ensures
    (known c.in_ok-names.names) c.as_slice-2.result.now c.in_ok-names.ensures.0 c.in_ok-names.ensures.1 c.as_slice-2.ensures c.requires c.len-2.result c.as_slice-3.result.now (c.len-2.ensures ∙ ap (λ xs. length xs) c.in_ok-vars.ensures) (c.as_slice-3.ensures ∙ c.in_ok-shown.ensures)

pub returns-clause-right : goal.returns-clause-right
returns-clause-right c =
    model_right c.args.tree.now c.as_slice.result.now c.as_slice-declared.result.now c.len.result c.as_slice.ensures c.as_slice-declared.ensures c.len.ensures
    (known c.in_ok-names.names) c.as_slice-2.result.now c.in_ok-names.ensures.0 c.in_ok-names.ensures.1 c.as_slice-2.ensures c.in_ok-stated.ensures.0
    _ c.in_ok-goal.ensures.0 c.in_ok-goal.ensures.1 (c.vars.view_is ∙ c.in_ok-vars.ensures)
    (c.in_ok-with_written.ensures ∙ ap (λ (xs : List Constraint). xs ++ flat_map (written (known c.in_ok-names.names)) c.as_slice-declared.result.now) c.in_ok-stated.ensures.1)
    c.in_ok-shown.ensures
    (λ var. subst (λ (items : List OutputItem). Contains c.in_ok-outputs.outputs var ↔ IsShown items var) c.as_slice-3.ensures (c.in_ok-outputs.ensures.shown var))
    c.in_ok-outputs.ensures.rising

pub returns-clause-well_formed : goal.returns-clause-well_formed
returns-clause-well_formed c =
    let many = c.len-2.ensures ∙ ap (λ (xs : List Var). length xs) (sym c.vars.view_is) in
    model_formed c.args.tree.now _ c.requires
    (none_in_names c.args.tree.now c.as_slice.result.now c.as_slice-declared.result.now c.len.result c.as_slice.ensures c.as_slice-declared.ensures c.len.ensures
    (known c.in_ok-names.names) c.as_slice-2.result.now c.in_ok-names.ensures.0 c.in_ok-names.ensures.1 c.as_slice-2.ensures)
    (none_in_cons c.args.tree.now c.as_slice.result.now c.as_slice-declared.result.now c.len.result c.as_slice.ensures c.as_slice-declared.ensures c.len.ensures
    (known c.in_ok-names.names) c.as_slice-2.result.now c.in_ok-names.ensures.0 c.in_ok-names.ensures.1 c.as_slice-2.ensures c.in_ok-stated.ensures.0)
    (is_model c.args.tree.now c.as_slice.result.now c.as_slice-declared.result.now c.len.result c.as_slice.ensures c.as_slice-declared.ensures c.len.ensures
    (known c.in_ok-names.names) c.as_slice-2.result.now c.in_ok-names.ensures.0 c.in_ok-names.ensures.1 c.as_slice-2.ensures c.in_ok-stated.ensures.0
    _ c.in_ok-goal.ensures.0 c.in_ok-goal.ensures.1 (c.vars.view_is ∙ c.in_ok-vars.ensures)
    (c.in_ok-with_written.ensures ∙ ap (λ (xs : List Constraint). xs ++ flat_map (written (known c.in_ok-names.names)) c.as_slice-declared.result.now) c.in_ok-stated.ensures.1)
    c.in_ok-shown.ensures
    (λ var. subst (λ (items : List OutputItem). Contains c.in_ok-outputs.outputs var ↔ IsShown items var) c.as_slice-3.ensures (c.in_ok-outputs.ensures.shown var))
    c.in_ok-outputs.ensures.rising)
    (subst (λ k. All (IsVariable k) c.in_ok-outputs.outputs) many c.in_ok-outputs.ensures.within)
