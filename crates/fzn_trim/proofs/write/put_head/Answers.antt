use Rattle.std.proofs.Common.{◌++◌}
use Rattle.fzn_streams.proofs.CallerLemmas.{front-left, Puts-stopped}
use Rattle.fzn_head.specs.Head.{three_line, head_counts_line, derivation_lines}
use Rattle.fzn_trim.proofs.write.put_head.Goals as goal

pub returns-in_err-put_first-clause-text : goal.returns-in_err-put_first-clause-text
returns-in_err-put_first-clause-text g c =
    let before = g.W.Write.contents c.args.new.now in
    let after = g.W.Write.contents c.put_first.new.new in
    let first = three_line ++ head_counts_line c.args.head in
    let lines = derivation_lines c.args.derivations.now in
    Puts-stopped before after c.from_residual.result (first ++ lines) c.from_residual.ensures.0 (front-left before after first lines c.in_err-put_first.ensures.text)
