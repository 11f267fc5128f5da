use Rattle.std.proofs.Common.{◌≡◌, List, ℕ, [], ◌∷◌, ◌++◌, IfSome, sym, ap, subst, ◌∙◌}
use Rattle.std.specs.Io.KnownBytes.{Consumes}
use Rattle.fzn_cert.specs.Spelling.{step_text, end_line}
use Rattle.fzn_cert.specs.Verdict.{line_after}
use Rattle.fzn_cert_reader.specs.Input.{left_in}
use Rattle.fzn_checker.specs.Rewritten.{IsStepLineFault, IsLineCopyFault}
use Rattle.fzn_checker.proofs.AnswerLaws.{error-is}
use Rattle.fzn_checker.proofs.RewriteLemmas.{put-fault}
use Rattle.fzn_checker.proofs.rewrite.copy_line.Goals as goal

pub returns-in_err-put_line-in-Ok-Some-clause-err : goal.returns-in_err-put_line-in-Ok-Some-clause-err
returns-in_err-put_line-in-Ok-Some-clause-err g c =
    let left = left_in g.R.Read.remaining c.args.lines.now.bytes in
    let next = left_in g.R.Read.remaining c.next_step.new.self.bytes in
    let before = g.W.Write.contents c.args.new.now in
    let after = g.W.Write.contents c.put_line.new.out in
    let text = c.line.result.now ++ 10 ∷ [] in
    let step = c.in-Ok-Some.field-0-0 in
    let taken = rw c.in-Ok-Some.field-0-is at c.in-Ok-Some.ensures.step in
    let held = rw c.in-Ok-Some.field-0-is at c.in-Ok-Some.ensures.held in
    let same : c.line.result.now ≡ step_text step = c.line.ensures ∙ held in
    error-is c.from_residual.result c.in_err-put_line-in-Ok-Some.field-0.0 (IsLineCopyFault c.args.lines.now.steps left before after) c.from_residual.ensures.1
    (put-fault (λ line refusal. (line ≡ line_after c.args.lines.now.steps refusal) × IsStepLineFault c.args.lines.now.steps left refusal) left before after text c.in_err-put_line-in-Ok-Some.field-0.0
    (next, subst (λ (t : List ℕ). Consumes left next (t ++ 10 ∷ [])) (sym same) taken.0, tt) c.in_err-put_line-in-Ok-Some.ensures.err)

pub returns-in_err-put_line-in-Ok-None-clause-err : goal.returns-in_err-put_line-in-Ok-None-clause-err
returns-in_err-put_line-in-Ok-None-clause-err g c =
    let left = left_in g.R.Read.remaining c.args.lines.now.bytes in
    let next = left_in g.R.Read.remaining c.next_step.new.self.bytes in
    let before = g.W.Write.contents c.args.new.now in
    let after = g.W.Write.contents c.put_line-in-Ok-None.new.out in
    let line = c.next_step.new.self.line.items in
    let text = c.line-in-Ok-None.result.now ++ 10 ∷ [] in
    let end = rw c.in-Ok-None.field-0-is at c.in-Ok-None.ensures.end in
    let held = rw c.in-Ok-None.field-0-is at c.in-Ok-None.ensures.held_end in
    let same : text ≡ end_line end.0 = ap (λ (t : List ℕ). t ++ 10 ∷ []) c.line-in-Ok-None.ensures ∙ subst (λ o. IfSome o (λ closed. line ++ 10 ∷ [] ≡ end_line closed)) end.1 held in
    error-is c.from_residual-in_err-put_line-in-Ok-None.result c.in_err-put_line-in-Ok-None.field-0.0 (IsLineCopyFault c.args.lines.now.steps left before after) c.from_residual-in_err-put_line-in-Ok-None.ensures.1
    (put-fault (λ line refusal. (line ≡ line_after c.args.lines.now.steps refusal) × IsStepLineFault c.args.lines.now.steps left refusal) left before after text c.in_err-put_line-in-Ok-None.field-0.0
    (next, subst (Consumes left next) (sym same) end.2, tt) c.in_err-put_line-in-Ok-None.ensures.err)
