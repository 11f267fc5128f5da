use Rattle.std.proofs.Common.{subst, sym, ◌∙◌, arith, ap, ap₂, ◌+◌}
use Rattle.std.specs.List.{All}
use Rattle.std.proofs.lemmas.List.Elements.{All-tail}
use Rattle.fzn_names.specs.Declarations.{vars_faults, names_from}
use Rattle.fzn_names.specs.Known.{known}
use Rattle.fzn_names.specs.Limits.{IsVarWithin}
use Rattle.fzn_names.specs.Positions.{first}
use Rattle.fzn_names.specs.Values.{meaning_of}
use Rattle.fzn_names.proofs.StepLemmas.{rest_of, uncons, var_fresh, var_room, vars_step, names_step, number_step}
use Rattle.fzn_names.proofs.declaration.var_names.Goals as goal

-- a declaration without faults has a new name
pub insert-requires : goal.insert-requires
insert-requires c =
    ap (meaning_of (known c.loop-vars.names)) c.name_of.ensures
    ∙ var_fresh (known c.loop-vars.names) c.loop-vars.before c.var-item.result (sym c.var_fault.ensures ∙ c.in_default-var_fault.is)

pub number_after-number-requires : goal.number_after-number-requires
number_after-number-requires c = omega (arith, c.loop-vars.invariant.few)

pub loop-vars-preserved : goal.loop-vars-preserved
loop-vars-preserved c =
    let xs = c.loop-vars.vars.now in
    let x = c.var-item.result in
    let names = known c.loop-vars.names in
    let new = known c.insert.new.self in
    let all = uncons xs x c.in-len1-up.len_at_least c.var-item.is in
    let none = sym c.var_fault.ensures ∙ c.in_default-var_fault.is in
    let within = subst (λ ps. All IsVarWithin ps) all c.loop-vars.invariant.within in
    let moved = number_step c.loop-vars.number xs (rest_of xs) x all in
    let number_is = c.number_after-number.ensures in
    let room = var_room names c.loop-vars.before x none c.loop-vars.invariant.room in
    record {
      faults =
          ap₂ (λ n b. first (vars_faults new n b (rest_of xs))) number_is (ap (λ n. c.loop-vars.before + n) c.added_by-before.ensures.count)
          ∙ (vars_step names new c.loop-vars.number xs (rest_of xs) x c.in_ok-value.value c.name_of.result.now all c.name_of.ensures c.in_ok-value.ensures c.in_ok-insert.ensures c.loop-vars.before none ∙ c.loop-vars.invariant.faults);
      built =
          ap (λ n. names_from new n (rest_of xs)) number_is
          ∙ (names_step names new c.loop-vars.number xs (rest_of xs) x c.in_ok-value.value c.name_of.result.now all c.name_of.ensures c.in_ok-value.ensures c.in_ok-insert.ensures ∙ c.loop-vars.invariant.built);
      within = All-tail IsVarWithin x (rest_of xs) within;
      few = omega (arith, moved, number_is, c.loop-vars.invariant.few);
      room = omega (arith, room, c.added_by-before.ensures.count);
    }
