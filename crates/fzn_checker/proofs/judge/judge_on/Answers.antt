use Rattle.std.proofs.lemmas.Result.{IfOk-weaker}
use Rattle.fzn_cert.specs.declared.step.Step.TheVariants.{Infer}
use Rattle.fzn_cert.specs.Past.{StepsPast}
use Rattle.fzn_cert.specs.Accepted.{IsJudged}
use Rattle.fzn_checker.proofs.judge.judge_on.Goals as goal

pub returns-in-Infer-clause-judged : goal.returns-in-Infer-clause-judged
returns-in-Infer-clause-judged c =
    rw c.in-Infer.is
    (IfOk-weaker c.judge_infer.result
    (λ fault. (past : StepsPast) → IsJudged c.args.model.now past (Infer c.in-Infer.inference) fault)
    (λ fault. IsJudged c.args.model.now c.args.history.now (Infer c.in-Infer.inference) fault)
    (λ fault h. h c.args.history.now) c.judge_infer.ensures.judged)

pub returns-in-Delete-clause-judged : goal.returns-in-Delete-clause-judged
returns-in-Delete-clause-judged c = rw (c.in-Delete.is, ← c.as_slice-in-Delete.ensures) (c.judge_delete.ensures c.args.model.now)
