use Rattle.std.proofs.Common.{subst, sym, ◌∙◌}
use Rattle.std.specs.List.{All}
use Rattle.std.proofs.lemmas.List.Elements.{All-tail}
use Rattle.fzn_names.specs.Known.{known}
use Rattle.fzn_names.specs.Limits.{IsParamWithin}
use Rattle.fzn_names.proofs.StepLemmas.{rest_of, uncons, param_fresh, params_step, param_names_step}
use Rattle.fzn_names.proofs.param.param_names.Goals as goal

-- a parameter without faults has a new name
pub insert-requires : goal.insert-requires
insert-requires c = param_fresh (known c.loop-params.names) c.param-item.result (sym c.param_fault.ensures ∙ c.in_default-param_fault.is)

pub loop-params-preserved : goal.loop-params-preserved
loop-params-preserved c =
    let xs = c.loop-params.params.now in
    let x = c.param-item.result in
    let all = uncons xs x c.in-len1-up.len_at_least c.param-item.is in
    let none = sym c.param_fault.ensures ∙ c.in_default-param_fault.is in
    let within = subst (λ ps. All IsParamWithin ps) all c.loop-params.invariant.within in
    record {
      faults = params_step (known c.loop-params.names) (known c.insert.new.self) xs (rest_of xs) x c.in_ok-value.value all none c.in_ok-value.ensures c.in_ok-insert.ensures ∙ c.loop-params.invariant.faults;
      built = param_names_step (known c.loop-params.names) (known c.insert.new.self) xs (rest_of xs) x c.in_ok-value.value all c.in_ok-value.ensures c.in_ok-insert.ensures ∙ c.loop-params.invariant.built;
      within = All-tail IsParamWithin x (rest_of xs) within;
    }
