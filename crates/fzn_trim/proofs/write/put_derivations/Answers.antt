use Rattle.std.proofs.Common.{◌<◌, length, arith}
use Rattle.fzn_trim.proofs.WriteLemmas.{derivation-stopped}
use Rattle.fzn_trim.proofs.write.put_derivations.Goals as goal

pub returns-in_err-put_derivation-clause-text : goal.returns-in_err-put_derivation-clause-text
returns-in_err-put_derivation-clause-text g c =
    let derivations = c.args.derivations.now in
    let within : c.loop-derivation.derivation-index < length derivations = omega (arith, c.loop-derivation-test.true, c.loop-derivation.auto.derivation-index-end) in
    derivation-stopped derivations (g.W.Write.contents c.args.new.now) c.from_residual.result c.loop-derivation.derivation-index c.derivation-item.result
    c.from_residual.ensures.0 within (g.W.Write.contents c.loop-derivation.new) (g.W.Write.contents c.put_derivation.new.new) c.derivation-item.is c.loop-derivation.invariant.text c.in_err-put_derivation.ensures.text
