use Rattle.std.proofs.Common.{◌≡◌, subst, []}
use Rattle.fzn_names.specs.Given.{Gives}
use Rattle.fzn_names.specs.Declarations.{vars_faults, names_from, names_of}
use Rattle.fzn_names.specs.Params.{params_faults, param_names}
use Rattle.fzn_names.specs.Known.{known}
use Rattle.fzn_names.specs.Values.{NameList}
use Rattle.fzn_names.specs.declared.names.Names.{Names}
use Rattle.fzn_names.proofs.GivesLemmas.{Gives-err_first, Gives-last}
use Rattle.fzn_names.proofs.declaration.names_of.Goals as goal

pub returns-in_err-earlier : goal.returns-in_err-earlier
returns-in_err-earlier c =
    let params = c.args.params.now in
    let vars = c.args.vars.now in
    Gives-err_first (λ (n : Names). known n ≡ param_names params) (λ (n : Names). known n ≡ names_of params vars) (params_faults [] params) (vars_faults (param_names params) 1 c.args.stated vars)
    c.in_err-earlier.field-0.0 c.from_residual.result c.in_err-earlier.ensures c.from_residual.ensures.1

pub returns : goal.returns
returns c =
    let params = c.args.params.now in
    let vars = c.args.vars.now in
    let none = c.in_ok-earlier.ensures in
    let moved = subst (λ (e : NameList). Gives (vars_faults e 1 c.args.stated vars) (λ (n : Names). known n ≡ names_from e 1 vars) c.var_names.result) none.1 c.var_names.ensures in
    Gives-last (λ (n : Names). known n ≡ names_from (param_names params) 1 vars) (λ (n : Names). known n ≡ names_of params vars) (params_faults [] params)
    (vars_faults (param_names params) 1 c.args.stated vars) c.var_names.result none.0 (λ n h. h) moved
