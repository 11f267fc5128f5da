-- What the steps that are left make of a whole certificate, and what a fault leaves.
use Rattle.std.proofs.Common.{◌≡◌, ℕ, ◌-◌, List, [], ◌∷◌, ◌++◌, ℤ, length, Option, Some, Err, IfSome, refl, sym, ap, ap₂, subst, ◌∙◌, inl, inr, arith, append_assoc}
use Rattle.std.proofs.KnownBytes.{Keeps-refl}
use Rattle.fzn_streams.specs.Output.{AppendsFront}
use Rattle.fzn_meaning.specs.declared.model.Model.{Model}
use Rattle.fzn_meaning.specs.WellFormed.{IsWellFormed}
use Rattle.fzn_reading.specs.declared.fault.ModelFault.{ModelFault}
use Rattle.fzn_reading.specs.declared.fault.ModelFault.TheVariants as reading
use Rattle.fzn_reading.specs.Reads.{Answers, States}
use Rattle.fzn_derive.specs.declared.derivation.Derivation.{Derivation}
use Rattle.fzn_cert.specs.declared.step.Step.{Step}
use Rattle.fzn_cert.specs.declared.step.Version.TheVariants.{Two}
use Rattle.fzn_cert.specs.Spelling.{header_text}
use Rattle.fzn_cert.specs.Verdict.{accepted}
use Rattle.fzn_head.specs.Head.{three_line, head_counts_line, derivation_lines}
use Rattle.fzn_head.specs.Opening.{head_for}
use Rattle.fzn_head.specs.Outcome.{IsOutcomeOn}
use Rattle.fzn_head.proofs.CallerLemmas.{only_constraints, one_for_each}
use Rattle.fzn_checker.specs.declared.fault.CheckFault.{CheckFault}
use Rattle.fzn_checker.specs.declared.fault.CheckFault.TheVariants.{File, Refused, NotVersionOne, Memory, Read, WriteOutput, WriteCert}
use Rattle.fzn_checker.specs.declared.hold.Held.{Held}
use Rattle.fzn_checker.specs.Checked.{IsFaultWhere}
use Rattle.fzn_checker.specs.FileFaults.{fault_from}
use Rattle.fzn_checker.specs.Held.{lines_to_end, IsCertificate, HoldsCertificate}
use Rattle.fzn_checker.specs.Opened.{IsHeadOf, IsInFront, plain, headed}
use Rattle.fzn_checker.proofs.CallerLemmas.{certificate-accepted}
use Rattle.fzn_core.specs.Kept.{IsTrimOf}
use Rattle.fzn_core.proofs.CallerLemmas.{shows-of}
use Rattle.fzn_trim.specs.declared.trimming.Trimmed.{Trimmed}
use Rattle.fzn_trim.specs.Behind.{IsTrimBehind}
use Rattle.fzn_trim.specs.Trimmed.{Trims, IsTrimFault}
use Rattle.fzn_trim.specs.Written.{front_of, head_text, IsWriteFault}

-- what is written in front of the steps stands in front of steps of version two
front-is : (model after : Model) (read : List Derivation) → IsWellFormed model → IsWellFormed after → IsHeadOf model after read → IsInFront model after Two (front_of after read)
front-is model after [] wf formed head =
    let variables : length after.vars ≡ length model.vars = ap (λ (m : Model). length m.vars) head.extends in
    let constraints : length after.constraints - 0 ≡ length model.constraints = omega (arith, ap (λ (m : Model). length m.constraints) head.extends) in
    plain head.extends (omega (arith, wf.few_vars), omega (arith, wf.few_constraints)) (ap₂ (λ (n m : ℕ). header_text Two n m) variables constraints)
front-is model after (derivation ∷ later) wf formed head =
    let read = derivation ∷ later in
    let count = one_for_each model after read head.extends in
    let variables : length after.vars ≡ length model.vars = ap (λ (m : Model). length m.vars) (only_constraints model after read head.extends).1 in
    let constraints : length after.constraints - length read ≡ length model.constraints = omega (arith, count) in
    headed refl (record {
      read = read;
      lines = head.lines;
      extends = head.extends;
      few = head.few;
      room = formed.few_constraints;
      text_is = ap₂ (λ (n m : ℕ). head_text (record { variables = n; constraints = m; derived = length read }) read) variables constraints
          ∙ append_assoc three_line (head_counts_line (head_for model (length read))) (derivation_lines read);
    })

-- steps in place of those that are held stand behind the head of these
pub behind-old : (model after : Model) (held : Held) (steps : List Step) (read : List Derivation) → IsWellFormed model → IsWellFormed after → IsHeadOf model after held.derivations.items → read ≡ held.derivations.items → IsTrimOf after held steps
    → IsTrimBehind model (length after.constraints) held steps (front_of after read)
behind-old model after held steps read wf formed head is trim = record {
  left = after;
  opens = front-is model after read wf formed (subst (IsHeadOf model after) (sym is) head);
  few = omega arith;
  trim = trim;
}

module _ (file cert : Option (List ℕ)) (model after : Model) (states : States file model) where
  -- the certificate of the steps that are left
  pub trims-of : (held : Held) (kept : List Step) (front : List ℕ) (trimmed : Trimmed) → IsWellFormed model → IsWellFormed after → HoldsCertificate model after cert held → IsTrimBehind model (length after.constraints) held kept front
      → trimmed.steps ≡ length held.steps → trimmed.kept ≡ length kept → Trims file cert (front ++ lines_to_end kept held.closed) trimmed
  trims-of held kept front trimmed wf formed is_held behind steps count =
      let bytes = front ++ lines_to_end kept held.closed in
      let left = behind.left in
      let trim = behind.trim in
      let new : IsCertificate model left Two (Some bytes) kept held.closed = record {
        front = front;
        opens = behind.opens;
        spelled = trim.lines;
        text = refl;
      } in
      record {
        model = model;
        found = held.solutions.items;
        closed = held.closed;
        shows = shows-of file cert model after states held wf formed is_held;
        verdict = subst (λ (found : List (List ℤ)). IsOutcomeOn model (Some bytes) (accepted found held.closed)) trim.found
            (certificate-accepted model left Two (Some bytes) kept held.closed wf new trim.accepted trim.may_end);
        after = after;
        left = left;
        few = behind.few;
        version = is_held.version;
        steps = held.steps;
        old = is_held.certificate;
        kept = kept;
        new = new;
        fewer = trim.fewer;
        counts = (steps, count);
      }

  -- nothing is written for a certificate that is not accepted
  pub certificate-fault : (before : Option (List ℕ)) (fault : CheckFault) → IsFaultWhere (IsOutcomeOn model cert) fault → IsTrimFault file cert before before fault
  certificate-fault before (File of) f = absurd f
  certificate-fault before (Refused line refusal) f = (Keeps-refl before, (model, states, f))
  certificate-fault before Memory f = inl (Keeps-refl before)
  certificate-fault before Read f = Keeps-refl before
  certificate-fault before NotVersionOne f = absurd f
  certificate-fault before WriteOutput f = absurd f
  certificate-fault before WriteCert f = absurd f

-- a beginning stands
pub write-fault : (file cert before after : Option (List ℕ)) (bytes : List ℕ) (trimmed : Trimmed) (fault : CheckFault) → Trims file cert bytes trimmed → IsWriteFault fault → AppendsFront before after bytes → IsTrimFault file cert before after fault
write-fault file cert before after bytes trimmed Memory trims f front = inr (trimmed, bytes, trims, front)
write-fault file cert before after bytes trimmed WriteCert trims f front = (trimmed, bytes, trims, front)
write-fault file cert before after bytes trimmed (File of) trims f front = absurd f
write-fault file cert before after bytes trimmed (Refused line refusal) trims f front = absurd f
write-fault file cert before after bytes trimmed Read trims f front = absurd f
write-fault file cert before after bytes trimmed NotVersionOne trims f front = absurd f
write-fault file cert before after bytes trimmed WriteOutput trims f front = absurd f

-- the file has a fault, or can't be read
pub model-fault : (file cert before : Option (List ℕ)) (fault : ModelFault) → IfSome file (λ bytes. Answers bytes (Err fault)) → IsTrimFault file cert before before (fault_from fault)
model-fault file cert before (reading.File fault) h = (Keeps-refl before, h)
model-fault file cert before reading.Memory h = inl (Keeps-refl before)
model-fault file cert before reading.Read h = Keeps-refl before
