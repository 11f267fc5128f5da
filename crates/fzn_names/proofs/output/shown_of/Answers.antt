use Rattle.std.proofs.Common.{◌++◌, subst, arith, ap, ◌∙◌}
use Rattle.std.specs.List.{All}
use Rattle.std.proofs.lemmas.List.Elements.{All-tail}
use Rattle.fzn_names.specs.Outputs.{shown_from}
use Rattle.fzn_names.specs.Known.{known}
use Rattle.fzn_names.specs.Limits.{IsVarWithin}
use Rattle.fzn_names.proofs.StepLemmas.{rest_of, uncons, shown_step, number_step}
use Rattle.fzn_names.proofs.output.shown_of.Goals as goal

pub loop-vars-preserved : goal.loop-vars-preserved
loop-vars-preserved c =
    let xs = c.loop-vars.vars.now in
    let x = c.var-item.result in
    let names = known c.args.names.now in
    let all = uncons xs x c.in-len1-up.len_at_least c.var-item.is in
    let within = subst (λ ps. All IsVarWithin ps) all c.loop-vars.invariant.within in
    let moved = number_step c.loop-vars.number xs (rest_of xs) x all in
    let number_is = c.number_after-number.ensures in
    record {
      built =
          ap (λ n. c.show.new.shown ++ shown_from names n (rest_of xs)) number_is
          ∙ (shown_step names c.loop-vars.number xs (rest_of xs) x c.loop-vars.shown c.show.new.shown all c.in_ok-show.ensures ∙ c.loop-vars.invariant.built);
      within = All-tail IsVarWithin x (rest_of xs) within;
      few = omega (arith, moved, number_is, c.loop-vars.invariant.few);
    }
