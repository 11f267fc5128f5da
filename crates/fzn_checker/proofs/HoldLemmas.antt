-- Steps that are held: what they leave, the lines that they have, and the certificate that they make.
use Rattle.std.proofs.Common.{◌≡◌, ℕ, ◌+◌, ◌≤◌, Bool, false, List, [], ◌∷◌, ◌++◌, length, Option, Some, None, IsSome, IfSome, unwrap_or, refl, sym, ap, subst, ◌∙◌, inl, inr, arith, append_assoc, append-nil}
use Rattle.std.specs.List.{fold}
use Rattle.std.specs.Io.KnownBytes.{Consumes, IsAtEnd}
use Rattle.std.proofs.KnownBytes.{Consumes-trans}
use Rattle.std.proofs.lemmas.List.{length-append}
use Rattle.fzn_meaning.specs.declared.model.Model.{Model}
use Rattle.fzn_meaning.specs.WellFormed.{IsWellFormed}
use Rattle.fzn_derive.specs.declared.derivation.Derivation.{Derivation}
use Rattle.fzn_cert.specs.declared.header.Header.{Header}
use Rattle.fzn_cert.specs.declared.step.Step.{Step}
use Rattle.fzn_cert.specs.declared.step.Step.TheVariants.{Infer, Resolve, Solution, Delete}
use Rattle.fzn_cert.specs.declared.step.Version.{Version}
use Rattle.fzn_cert.specs.declared.step.Version.TheVariants.{Two}
use Rattle.fzn_cert.specs.Spelling.{step_line, end_line, header_lines, version_text, counts_text, IsSpelled, HasLine}
use Rattle.fzn_cert.specs.Past.{StepsPast, no_past}
use Rattle.fzn_cert.specs.Accepted.{IsAccepted, AllAcceptedAfter, AllAccepted, after_step, past_after}
use Rattle.fzn_cert.specs.Verdict.{accepted, lines_of, AllHaveLines, MayEnd, VerdictFrom, header_of}
use Rattle.fzn_cert.proofs.CallerLemmas.{some_is}
use Rattle.fzn_cert.proofs.SoundLaws.{sound-after}
use Rattle.fzn_cert_reader.specs.Reader.{Progress, lines_read, GivesStep, Ends}
use Rattle.fzn_head.specs.Head.{three_line, head_counts_line, derivation_lines}
use Rattle.fzn_head.specs.Opening.{head_for}
use Rattle.fzn_head.specs.Outcome.{IsOutcomeOn, early, third}
use Rattle.fzn_head.proofs.CallerLemmas.{one_for_each}
use Rattle.fzn_checker.specs.declared.hold.Held.{Held}
use Rattle.fzn_checker.specs.declared.hold.Taken.{Taken}
use Rattle.fzn_checker.specs.Checked.{Accepts}
use Rattle.fzn_checker.specs.Given.{AreGiven}
use Rattle.fzn_checker.specs.Held.{MayTake, HasTaken, lines_to_end, AreLinesLeft, IsCertificate, HoldsSteps, HoldsCertificate}
use Rattle.fzn_checker.specs.Opened.{IsHeadOf, IsInFront, plain, headed, IsOpened}
use Rattle.fzn_checker.proofs.FaultLaws.{found-refuted}
use Rattle.fzn_checker.proofs.RewriteLemmas.{all_more}
use Rattle.fzn_checker.proofs.StandingLaws.{Consumes-split}

-- ---- one step more

past-more : (model : Model) (past : StepsPast) (steps : List Step) (step : Step) → fold (after_step model) past (steps ++ step ∷ []) ≡ after_step model (fold (after_step model) past steps) step
past-more model past [] step = refl
past-more model past (head ∷ steps) step = past-more model (after_step model past head) steps step

accepted-more : (model : Model) (past : StepsPast) (steps : List Step) (step : Step) → AllAcceptedAfter model past steps → IsAccepted model (fold (after_step model) past steps) step → AllAcceptedAfter model past (steps ++ step ∷ [])
accepted-more model past [] step h k = (k, tt)
accepted-more model past (head ∷ steps) step h k = (h.0, accepted-more model (after_step model past head) steps step h.1 k)

-- the step after an accepted one can be judged
pub take-more : (model : Model) (old new : Taken) (step : Step) → MayTake model old → IsAccepted model old.history step → new.history ≡ after_step model old.history step → AreGiven model new.history.solutions new.given
    → new.sets ≡ old.sets → new.has_empty ≡ old.has_empty → MayTake model new
take-more model old new step may is_accepted history given sets empty = record {
  ready = record {
    well_formed = may.ready.well_formed;
    sound = rw history (sound-after model old.history step may.ready.well_formed may.ready.sound is_accepted);
    fresh = sets ∙ may.ready.fresh;
    empty = empty ∙ may.ready.empty;
  };
  given = given;
}

pub taken-more : (model : Model) (old new : Taken) (step : Step) → IsAccepted model old.history step → new.history ≡ after_step model old.history step → MayTake model new
    → (steps : List Step) → HasTaken model steps old → HasTaken model (steps ++ step ∷ []) new
taken-more model old new step is_accepted history ready steps taken = record {
  ready = ready;
  past = history ∙ ap (λ (p : StepsPast). after_step model p step) taken.past ∙ sym (past-more model no_past steps step);
  accepted = accepted-more model no_past steps step taken.accepted (subst (λ (p : StepsPast). IsAccepted model p step) taken.past is_accepted);
}

-- ---- their lines

-- what any version spells, version 2 spells
pub spelled-two : (version : Version) (step : Step) → IsSpelled version step → IsSpelled Two step
spelled-two version (Infer it) h = h
spelled-two version (Resolve clause ids) h = h
spelled-two version (Solution values) h = h
spelled-two version (Delete ids) h = (refl, h.1, h.2, h.3)

pub lines-two : (version : Version) (count : ℕ) (steps : List Step) → AllHaveLines version count steps → AllHaveLines Two count steps
lines-two version count [] h = tt
lines-two version count (step ∷ steps) h = ((spelled-two version step h.0.0, h.0.1), lines-two version (count + 1) steps h.1)

lines-push : (steps : List Step) (step : Step) → lines_of steps ++ step_line step ≡ lines_of (steps ++ step ∷ [])
lines-push [] step = sym (append-nil (step_line step))
lines-push (first ∷ steps) step = append_assoc (step_line first) (lines_of steps) (step_line step) ∙ ap (λ (t : List ℕ). step_line first ++ t) (lines-push steps step)

-- behind the first two lines, or those of a head, the lines of these steps were read
pub record HasReadSteps (first now : Progress) (steps : List Step) : Type 0 where
  pub header : Header
  pub told_first : first.header ≡ Some header
  pub told : now.header ≡ Some header
  pub taken : Consumes first.left now.left (lines_of steps)
  pub counted : now.steps ≡ length steps
  pub spelled : AllHaveLines header.version 0 steps

nothing-taken : (left : Option (List ℕ)) → Consumes left left []
nothing-taken None = tt
nothing-taken (Some bytes) = refl

pub read-none : (first : Progress) → IsSome first.header → first.steps ≡ 0 → HasReadSteps first first []
read-none first begun none = by_header first.header refl begun
  where
    by_header : (told : Option Header) → first.header ≡ told → IsSome told → HasReadSteps first first []
    by_header None is some = cc
    by_header (Some header) is some = record { header = header; told_first = is; told = is; taken = nothing-taken first.left; counted = none; spelled = tt }

-- the header that is told stays the one that was told
told-still : (old new : Progress) (header : Header) → old.header ≡ Some header → (IsSome old.header → new.header ≡ old.header) → new.header ≡ Some header
told-still old new header told same = same (subst IsSome (sym told) refl) ∙ told

-- a call that read no first two lines took the text alone
taken-alone : (left rest : Option (List ℕ)) (old new : Option Header) (header : Header) (text : List ℕ) → old ≡ Some header → Consumes left rest (lines_read old new ++ text) → Consumes left rest text
taken-alone left rest old new header text told taken = subst (λ (o : Option Header). Consumes left rest (lines_read o new ++ text)) told taken

pub read-more : (first old new : Progress) (steps : List Step) (step : Step) → HasReadSteps first old steps → GivesStep old new step → (IsSome old.header → new.header ≡ old.header) → HasReadSteps first new (steps ++ step ∷ [])
read-more first old new steps step so_far gives same =
    let told = told-still old new so_far.header so_far.told same in
    let is : gives.header ≡ so_far.header = some_is gives.header so_far.header (sym gives.told ∙ told) in
    let count : old.steps ≡ 0 + length steps = omega (arith, so_far.counted) in
    record {
      header = so_far.header;
      told_first = so_far.told_first;
      told = told;
      taken = subst (Consumes first.left new.left) (lines-push steps step)
          (Consumes-trans first.left old.left new.left (lines_of steps) (step_line step) so_far.taken (taken-alone old.left new.left old.header new.header so_far.header (step_line step) so_far.told gives.taken));
      counted = omega (arith, gives.counted, so_far.counted, length-append steps (step ∷ []));
      spelled = all_more so_far.header.version 0 steps step so_far.spelled
          (subst (λ (n : ℕ). HasLine so_far.header.version n step) count (subst (λ (h : Header). HasLine h.version old.steps step) is gives.has_line));
    }

-- all that is taken up to the end
all-taken : (left rest : Option (List ℕ)) (text : List ℕ) → Consumes left rest text → IsAtEnd rest → IfSome left (λ bytes. bytes ≡ text)
all-taken None rest text taken at_end = tt
all-taken (Some bytes) None text taken at_end = absurd taken
all-taken (Some bytes) (Some rest) text taken at_end = taken ∙ ap (λ (t : List ℕ). text ++ t) at_end ∙ append-nil text

pub read-all : (first old new : Progress) (steps : List Step) (closed : Bool) → HasReadSteps first old steps → Ends old new → closed ≡ unwrap_or new.closing false → AreLinesLeft first steps closed
read-all first old new steps closed so_far ends is =
    let said : ends.closed ≡ closed = sym (is ∙ ap (λ (o : Option Bool). unwrap_or o false) ends.closing) in
    record {
      spelled = subst (λ (o : Option Header). IfSome o (λ header. AllHaveLines header.version 0 steps)) (sym so_far.told_first) so_far.spelled;
      text = subst (λ (b : Bool). IfSome first.left (λ bytes. bytes ≡ lines_to_end steps b)) said
          (all-taken first.left new.left (lines_to_end steps ends.closed)
          (Consumes-trans first.left old.left new.left (lines_of steps) (end_line ends.closed) so_far.taken (taken-alone old.left new.left old.header new.header so_far.header (end_line ends.closed) so_far.told ends.taken)) ends.at_end);
    }

pub steps-end : (model : Model) (first : Progress) (steps : List Step) (taken : Taken) (old new : Progress) (held : Held) → HasTaken model steps taken → HasReadSteps first old steps
    → Accepts model taken.history old new → Ends old new
    → held.steps ≡ steps → held.solutions.items ≡ taken.history.solutions → held.closed ≡ unwrap_or new.closing false → HoldsSteps model first held
steps-end model first steps taken old new held has_taken read accepts ends held_steps solutions closed =
    let past : taken.history ≡ past_after model held.steps = has_taken.past ∙ ap (past_after model) (sym held_steps) in
    record {
      lines = subst (λ (all : List Step). AreLinesLeft first all held.closed) (sym held_steps) (read-all first old new steps held.closed read ends closed);
      stands = record {
        accepted = subst (AllAccepted model) (sym held_steps) has_taken.accepted;
        found = solutions ∙ ap (λ (p : StepsPast). p.solutions) past;
        may_end = subst (λ (p : StepsPast). MayEnd p held.closed) past (found-refuted model taken.history old new held.closed accepts closed);
      };
    }

-- ---- the certificate

-- in front of them stands what makes of the model the second one
pub certificate-of : (model after : Model) (left : Option (List ℕ)) (now : Progress) (lines : ℕ) (steps : List Step) (closed : Bool) → (opened : IsOpened model after left now lines) → AreLinesLeft now steps closed
    → IsCertificate model after opened.header.version left steps closed
certificate-of model after left now lines steps closed opened are = record {
  front = opened.front;
  opens = opened.opens;
  spelled = subst (λ (o : Option Header). IfSome o (λ header. AllHaveLines header.version 0 steps)) opened.told are.spelled;
  text = joined left now.left opened.taken are.text;
}
  where
    joined : (known rest : Option (List ℕ)) → Consumes known rest opened.front → IfSome rest (λ bytes. bytes ≡ lines_to_end steps closed) → IfSome known (λ bytes. bytes ≡ opened.front ++ lines_to_end steps closed)
    joined None rest taken is = tt
    joined (Some bytes) None taken is = absurd taken
    joined (Some bytes) (Some rest) taken is = taken ∙ ap (λ (t : List ℕ). opened.front ++ t) is

pub held-of : (model after : Model) (left : Option (List ℕ)) (now : Progress) (lines : ℕ) (derivations : List Derivation) (held : Held) → IsOpened model after left now lines → IsHeadOf model after derivations → held.derivations.items ≡ derivations → HoldsSteps after now held
    → HoldsCertificate model after left held
held-of model after left now lines derivations held opened derives is steps = record {
  version = opened.header.version;
  certificate = certificate-of model after left now lines held.steps held.closed opened steps.lines;
  derives = subst (IsHeadOf model after) (sym is) derives;
  stands = steps.stands;
}

-- what is left is text, and then the rest of what is known
after-text : (left : Option (List ℕ)) (text rest : List ℕ) → IfSome left (λ bytes. bytes ≡ text ++ rest) → (last : Option (List ℕ)) × Consumes left last text × IfSome last (λ bytes. bytes ≡ rest)
after-text None text rest is = (None, tt, tt)
after-text (Some bytes) text rest is = (Some rest, is, refl)

-- the lines of accepted steps and an ending that is right
steps-accepted : (after : Model) (version : Version) (left : Option (List ℕ)) (steps : List Step) (closed : Bool) → AllHaveLines version 0 steps → IfSome left (λ bytes. bytes ≡ lines_to_end steps closed) → AllAccepted after steps → MayEnd (past_after after steps) closed
    → VerdictFrom after version no_past 0 left (accepted (past_after after steps).solutions closed)
steps-accepted after version None steps closed spelled is all may_end = (steps, spelled, all, (None, tt, ((None, tt, tt), may_end, refl)))
steps-accepted after version (Some bytes) steps closed spelled is all may_end =
    (steps, spelled, all, (Some (end_line closed), is, ((Some [], sym (append-nil (end_line closed)), refl), may_end, refl)))

-- it is accepted where its steps are
pub certificate-accepted : (model after : Model) (version : Version) (left : Option (List ℕ)) (steps : List Step) (closed : Bool) → IsWellFormed model → IsCertificate model after version left steps closed → AllAccepted after steps → MayEnd (past_after after steps) closed
    → IsOutcomeOn model left (accepted (past_after after steps).solutions closed)
certificate-accepted model after version left steps closed formed certificate all may_end = by_front certificate.opens
  where
    by_front : IsInFront model after version certificate.front → IsOutcomeOn model left (accepted (past_after after steps).solutions closed)
    by_front (plain same sized is) =
        let text = subst (λ (t : List ℕ). IfSome left (λ bytes. bytes ≡ t ++ lines_to_end steps closed)) is certificate.text in
        let behind = after-text left (header_lines (header_of model version)) (lines_to_end steps closed) text in
        let first = version_text version ++ 10 ∷ [] in
        let counts = counts_text (length model.vars) (length model.constraints) ++ 10 ∷ [] in
        let split = Consumes-split left behind.0 first counts (subst (Consumes left behind.0) (append_assoc first (counts_text (length model.vars) (length model.constraints)) (10 ∷ [])) behind.1) in
        early version (split.0, split.1, tt)
        (inr (version, sized, (behind.0, behind.1, subst (λ (m : Model). VerdictFrom m version no_past 0 behind.0 (accepted (past_after after steps).solutions closed)) same (steps-accepted after version behind.0 steps closed certificate.spelled behind.2 all may_end))))
    by_front (headed two opening) =
        let lines = head_counts_line (head_for model (length opening.read)) in
        let text : certificate.front ++ lines_to_end steps closed ≡ three_line ++ (lines ++ (derivation_lines opening.read ++ lines_to_end steps closed)) =
        ap (λ (t : List ℕ). t ++ lines_to_end steps closed) opening.text_is
        ∙ append_assoc three_line (lines ++ derivation_lines opening.read) (lines_to_end steps closed)
        ∙ ap (λ (t : List ℕ). three_line ++ t) (append_assoc lines (derivation_lines opening.read) (lines_to_end steps closed)) in
        let one = after-text left three_line (lines ++ (derivation_lines opening.read ++ lines_to_end steps closed)) (subst (λ (t : List ℕ). IfSome left (λ bytes. bytes ≡ t)) text certificate.text) in
        let two_lines = after-text one.0 lines (derivation_lines opening.read ++ lines_to_end steps closed) one.2 in
        let behind = after-text two_lines.0 (derivation_lines opening.read) (lines_to_end steps closed) two_lines.2 in
        let count = one_for_each model after opening.read opening.extends in
        third (
          one.0,
          one.1,
          inr (
            head_for model (length opening.read),
            (omega (arith, formed.few_vars), omega (arith, formed.few_constraints), omega (arith, count, opening.room)),
            record { variables = refl; constraints = refl; room = omega (arith, count, opening.room, formed.few_constraints) },
            (
              two_lines.0,
              two_lines.1,
              record {
                read = opening.read;
                lines = opening.lines;
                after = after;
                extends = opening.extends;
                few = opening.few;
                behind = (
                  behind.0,
                  behind.1,
                  inl (
                    refl,
                    (
                      accepted (past_after after steps).solutions closed,
                      subst (λ (v : Version). VerdictFrom after v no_past 0 behind.0 (accepted (past_after after steps).solutions closed)) two (steps-accepted after version behind.0 steps closed certificate.spelled behind.2 all may_end),
                      refl,
                    ),
                  ),
                );
              },
            ),
          ),
        )
