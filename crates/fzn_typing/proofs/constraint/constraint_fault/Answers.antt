use Rattle.std.proofs.Common.{◌≡◌, sym, ◌∙◌, ap, true, Some, option_map}
use Rattle.fzn_names.specs.Known.{known}
use Rattle.fzn_names.specs.Positions.{first}
use Rattle.fzn_registry.specs.Registry.{name_spelled, arguments_of, IsRow}
use Rattle.fzn_registry.specs.declared.signature.Signature.{Signature}
use Rattle.fzn_typing.specs.Arguments.{has_types}
use Rattle.fzn_typing.proofs.TypedLemmas.{typed_faults}
use Rattle.fzn_typing.proofs.constraint.constraint_fault.Goals as goal

pub returns-in-Some : goal.returns-in-Some
returns-in-Some c =
    let names = known c.args.names.now in
    let con = c.args.con.now in
    let signature = c.in-Some.signature in
    let row : IsRow signature = c.in-Some.ensures.found.0 in
    let spelled : name_spelled con.name.text ≡ Some signature.name =
    ap name_spelled (sym c.as_slice.ensures) ∙ (sym c.lookup_bytes.ensures.search ∙ ap (option_map (λ (s : Signature). s.name)) c.in-Some.is) in
    let right : has_types names (arguments_of signature.name) con.args ≡ true =
    ap (λ wanted. has_types names wanted con.args) (sym row.arguments) ∙ (ap (λ all. has_types names signature.arguments.now all) (sym c.as_slice-args.ensures) ∙ (sym c.has_types.ensures ∙ c.if-has_types.true)) in
    c.value_fault.ensures ∙ ap first (sym (typed_faults names con signature.name spelled right))
