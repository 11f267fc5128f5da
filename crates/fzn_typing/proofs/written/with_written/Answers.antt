use Rattle.std.proofs.Common.{subst, ◌∙◌}
use Rattle.std.specs.List.{All}
use Rattle.std.proofs.lemmas.List.Elements.{All-tail}
use Rattle.fzn_names.specs.Known.{known}
use Rattle.fzn_names.specs.Limits.{IsVarWithin}
use Rattle.fzn_names.proofs.StepLemmas.{rest_of, uncons}
use Rattle.fzn_typing.specs.Models.{written}
use Rattle.fzn_typing.proofs.ItemLemmas.{made_more}
use Rattle.fzn_typing.proofs.written.with_written.Goals as goal

pub loop-vars-preserved : goal.loop-vars-preserved
loop-vars-preserved c =
    let xs = c.loop-vars.vars.now in
    let x = c.var-item.result in
    let all = uncons xs x c.in-len1-up.len_at_least c.var-item.is in
    let within = subst (λ ps. All IsVarWithin ps) all c.loop-vars.invariant.within in
    record {
      built = made_more (written (known c.args.names.now)) xs (rest_of xs) x all c.loop-vars.constraints c.write.new.constraints c.in_ok-write.ensures ∙ c.loop-vars.invariant.built;
      within = All-tail IsVarWithin x (rest_of xs) within;
    }
