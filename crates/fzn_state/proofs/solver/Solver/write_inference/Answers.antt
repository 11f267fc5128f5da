-- An inference is accepted whatever steps stand before it.
use Rattle.std.proofs.Common.{◌≡◌, ◌⊎◌, inr, List, [], ◌∷◌, ◌++◌, refl, ap, ◌∙◌, subst, ◌+◌}
use Rattle.fzn_domain.specs.declared.literal.Lit.{Lit}
use Rattle.fzn_cert.specs.declared.step.Inference.{Inference}
use Rattle.fzn_cert.specs.declared.step.Step.{Step}
use Rattle.fzn_cert.specs.declared.step.Step.TheVariants.{Infer}
use Rattle.fzn_propagator.specs.Inferences.{inference_at}
use Rattle.fzn_state.proofs.WrittenLemmas.{infer-logged, infer-number, infer-written}
use Rattle.fzn_state.proofs.solver.Solver.write_inference.Goals as goal

pub step-requires-clause-accepted : goal.step-requires-clause-accepted
step-requires-clause-accepted g c =
    let same = ap (λ (i : Inference). Infer i) c.in_ok-inference.ensures in
    infer-logged c.requires.ready.state c.args.place c.requires.stacked _ (inr (ap (λ (s : Step). g.S.Sink.written c.args.sink.now ++ s ∷ []) same))

pub returns-in_err-step-clause-left : goal.returns-in_err-step-clause-left
returns-in_err-step-clause-left g c =
    let same = ap (λ (i : Inference). Infer i) c.in_ok-inference.ensures in
    let now = g.S.Sink.written c.step.new.self in
    let accepted = infer-logged c.requires.ready.state c.args.place c.requires.stacked now (subst (λ (s : Step). (now ≡ g.S.Sink.written c.args.sink.now) ⊎ (now ≡ g.S.Sink.written c.args.sink.now ++ s ∷ [])) same c.step.ensures.logged) in
    record { accepted = accepted; kept = c.step.ensures.kept; same = c.step.ensures.same }

pub returns-clause-left : goal.returns-clause-left
returns-clause-left g c =
    let same = ap (λ (i : Inference). Infer i) c.in_ok-inference.ensures in
    let now = g.S.Sink.written c.step.new.self in
    let accepted = infer-logged c.requires.ready.state c.args.place c.requires.stacked now (subst (λ (s : Step). (now ≡ g.S.Sink.written c.args.sink.now) ⊎ (now ≡ g.S.Sink.written c.args.sink.now ++ s ∷ [])) same c.step.ensures.logged) in
    record { accepted = accepted; kept = c.step.ensures.kept; same = c.step.ensures.same }

pub returns-clause-number : goal.returns-clause-number
returns-clause-number g c =
    let same = ap (λ (i : Inference). Infer i) c.in_ok-inference.ensures in
    infer-number c.requires.ready.state c.args.place c.requires.stacked
    (c.in_ok-step.ensures.ok ∙ ap (λ (s : Step). g.S.Sink.written c.args.sink.now ++ s ∷ []) same) c.in_ok-step.ensures.few (c.args.self.now.steps + 1) refl

pub returns-clause-written : goal.returns-clause-written
returns-clause-written g c =
    let old = c.args.self.now in
    let it = inference_at old.inferences c.args.place in
    let same = ap (λ (i : Inference). Infer i) c.in_ok-inference.ensures in
    let copied : c.in_ok-clause.clause ≡ it.inference.clause = c.in_ok-clause.ensures ∙ c.as_slice.ensures ∙ ap (λ (i : Inference). i.clause) c.in_ok-inference.ensures in
    let written = c.in_ok-known.ensures ∙ ap (λ (clause : List Lit). old.written ++ record { clause = clause; number = old.steps + 1 } ∷ []) copied in
    infer-written c.requires.ready.state c.args.place c.requires.stacked
    (c.in_ok-step.ensures.ok ∙ ap (λ (s : Step). g.S.Sink.written c.args.sink.now ++ s ∷ []) same) c.in_ok-step.ensures.few (old.steps + 1) refl (record old.notes { cited = c.cite.new.self }) _
    (λ i. record old { inferences = c.set_number.ensures i; written = written i; alive = c.in_ok-push.ensures.ok i; notes = record old.notes { cited = c.cite.new.self }; steps = old.steps + 1 })
