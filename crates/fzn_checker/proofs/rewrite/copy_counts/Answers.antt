use Rattle.std.proofs.Common.{◌≡◌, List, ℕ, [], ◌∷◌, ◌++◌, sym, subst, ◌∙◌}
use Rattle.std.specs.Io.KnownBytes.{Consumes}
use Rattle.fzn_cert.specs.Spelling.{counts_text}
use Rattle.fzn_cert_reader.specs.Input.{left_in}
use Rattle.fzn_checker.specs.Rewritten.{IsCountsFault}
use Rattle.fzn_checker.proofs.RewriteLemmas.{put-faults}
use Rattle.fzn_checker.proofs.rewrite.copy_counts.Goals as goal

pub returns-in-Ok-clause-err : goal.returns-in-Ok-clause-err
returns-in-Ok-clause-err g c =
    let left = left_in g.R.Read.remaining c.args.lines.now.bytes in
    let next = left_in g.R.Read.remaining c.read_counts.new.self.bytes in
    let same : c.line.result.now ≡ counts_text c.in-Ok.field-0.0 c.in-Ok.field-0.1 = c.line.ensures ∙ c.in-Ok.ensures.held in
    put-faults (λ line refusal. (line ≡ 2) × IsCountsFault left refusal) left (g.W.Write.contents c.args.new.now) (g.W.Write.contents c.put_line.new.out) (c.line.result.now ++ 10 ∷ []) c.put_line.result
    (next, subst (λ (t : List ℕ). Consumes left next (t ++ 10 ∷ [])) (sym same) c.in-Ok.ensures.ok, tt) c.put_line.ensures.err
