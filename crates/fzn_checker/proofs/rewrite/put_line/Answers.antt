use Rattle.std.proofs.Common.{[], ◌∷◌, refl, sym, ◌∙◌}
use Rattle.fzn_streams.proofs.CallerLemmas.{front-then}
use Rattle.fzn_checker.proofs.RewriteLemmas.{put-done, put-failed}
use Rattle.fzn_checker.proofs.rewrite.put_line.Goals as goal

-- the line stands whole, and a beginning of the line feed
pub returns-then-is_err-2-clause-err : goal.returns-then-is_err-2-clause-err
returns-then-is_err-2-clause-err g c =
    let before = g.W.Write.contents c.args.out.now in
    let between = g.W.Write.contents c.put.new.out in
    let after = g.W.Write.contents c.put-2.new.out in (
      refl,
      front-then before between after c.args.line.now (10 ∷ [])
          (put-done before between c.put.result c.args.line.now (sym c.is_err.ensures.value ∙ c.if-is_err.false) c.put.ensures.text)
          (put-failed between after c.put-2.result (10 ∷ []) (sym c.is_err-2.ensures.value ∙ c.if-is_err-2.true) c.put-2.ensures.text),
    )
