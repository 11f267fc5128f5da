use Rattle.std.proofs.Common.{◌≡◌, List, ℕ, [], ◌∷◌, ◌++◌, ap, ◌∙◌}
use Rattle.fzn_cert.specs.Spelling.{step_text, step_line}
use Rattle.fzn_cert.specs.declared.step.Step.{Step}
use Rattle.fzn_cert_reader.specs.Script.{steps_spelled, IsScript}
use Rattle.fzn_cert_reader.proofs.ScriptLaws.{steps-read, script-then, script-of_itself}
use Rattle.fzn_cert_reader.proofs.script.Script.push.Goals as goal
use Rattle.fzn_cert_reader.proofs.script.Script.push.Goals.{In-Ok}

-- the line stands behind the others, and so does the place where it ends
one-more : (c : In-Ok) → IsScript c.extend_from_slice.new.self.items c.push.new.self.items (steps_spelled c.self.inside.text.items c.self.inside.ends.items ++ c.args.step.now ∷ [])
one-more c =
    let text = c.self.inside.text.items in
    let ends = c.self.inside.ends.items in
    let step = c.args.step.now in
    let line : c.as_bytes.result.now ≡ step_line step =
    c.as_bytes.ensures.value ∙ c.in_ok-push_str.ensures.bytes ∙ ap (λ (t : List ℕ). t ++ 10 ∷ []) (c.in_ok-push_step.ensures ∙ ap (λ (t : List ℕ). t ++ step_text step) c.new-line.ensures.bytes) in
    script-then text ends c.extend_from_slice.new.self.items c.push.new.self.items step c.self.invariant c.requires
    (c.in_ok-extend_from_slice.ensures.items ∙ ap (λ (t : List ℕ). text ++ t) line)
    (c.in-Ok.ensures.items ∙ ap (λ (n : ℕ). ends ++ n ∷ []) (c.len.ensures ∙ c.extend_from_slice.new.self.ok.0))

pub returns-in-Ok-clause-ok : goal.returns-in-Ok-clause-ok
returns-in-Ok-clause-ok c =
    steps-read c.extend_from_slice.new.self.items c.push.new.self.items _ (one-more (goal.at.returns-in-Ok-clause-ok c).In-Ok)
    ∙ ap (λ (steps : List Step). steps ++ c.args.step.now ∷ []) c.self.view_is

pub invariant_of-self-in-Ok : goal.invariant_of-self-in-Ok
invariant_of-self-in-Ok c = script-of_itself c.extend_from_slice.new.self.items c.push.new.self.items _ (one-more (goal.at.invariant_of-self-in-Ok c).In-Ok)
