use Rattle.std.proofs.Common.{◌≡◌, ◌++◌, ◌∷◌, [], refl, sym, ◌∙◌}
use Rattle.fzn_names.specs.Variables.{var_of}
use Rattle.fzn_names.proofs.VarLemmas.{vars_of-array, vars_of-single}
use Rattle.fzn_names.proofs.domain.vars_of.Goals as goal

pub loop-var-preserved-in_default : goal.loop-var-preserved-in_default
loop-var-preserved-in_default c =
    c.loop-var.invariant ∙ sym (vars_of-array c.args.vars.now c.loop-var.var-index c.var-item.result c.in_default.field-0 c.loop-var-test.true c.var-item.is c.in_default.is)

pub loop-var-preserved : goal.loop-var-preserved
loop-var-preserved c =
    let pushed : c.push.new.self ≡ c.loop-var.found ++ c.in_ok-var_of.field-0 ∷ [] = c.in_ok-push.ensures.ok in
    let made : c.in_ok-var_of.field-0 ≡ var_of c.in-Single.single = c.in_ok-var_of.ensures in
    let more = vars_of-single c.args.vars.now c.loop-var.var-index c.var-item.result c.in-Single.single c.loop-var-test.true c.var-item.is c.in-Single.is in
    pushed ∙ (rw (made, c.loop-var.invariant) refl ∙ sym more)
