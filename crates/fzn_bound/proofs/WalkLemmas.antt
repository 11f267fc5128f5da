-- Steps that are taken one after another with the bound that they say, and what they make of a whole certificate.
use Rattle.std.proofs.Common.{◌≡◌, ℕ, Bool, true, false, List, [], ◌∷◌, ◌++◌, ℤ, Option, IsSome, IfSome, Err, unwrap_or, refl, sym, ap, subst, ◌∙◌}
use Rattle.std.specs.List.{fold}
use Rattle.std.proofs.KnownBytes.{Keeps-refl}
use Rattle.fzn_meaning.specs.declared.constraint.Constraint.{Constraint}
use Rattle.fzn_meaning.specs.declared.model.Model.{Model}
use Rattle.fzn_meaning.specs.WellFormed.{IsWellFormed}
use Rattle.fzn_meaning.specs.Solutions.{IsExhausted}
use Rattle.fzn_printer.specs.Answer.{answer_text}
use Rattle.fzn_reading.specs.declared.fault.ModelFault.{ModelFault}
use Rattle.fzn_reading.specs.declared.fault.ModelFault.TheVariants as reading
use Rattle.fzn_reading.specs.Reads.{Answers, States}
use Rattle.fzn_cert.specs.declared.step.Step.{Step}
use Rattle.fzn_cert.specs.Past.{StepsPast}
use Rattle.fzn_cert.specs.Verdict.{accepted, MayEnd}
use Rattle.fzn_cert.proofs.SoundLaws.{proper-sound, exhausted-sound}
use Rattle.fzn_cert_reader.specs.Reader.{Progress, GivesStep, Ends}
use Rattle.fzn_head.specs.Extended.{IsExtended}
use Rattle.fzn_head.specs.Outcome.{IsOutcomeOn}
use Rattle.fzn_head.proofs.ExtendedLaws.{with_constraints, only_constraints, same-solutions, proper-before, exhausted-before}
use Rattle.fzn_checker.specs.declared.fault.CheckFault.{CheckFault}
use Rattle.fzn_checker.specs.declared.fault.CheckFault.TheVariants.{File, Refused, NotVersionOne, Memory, Read, WriteOutput, WriteCert}
use Rattle.fzn_checker.specs.declared.hold.Taken.{Taken}
use Rattle.fzn_checker.specs.Checked.{IsFaultWhere, Accepts}
use Rattle.fzn_checker.specs.FileFaults.{fault_from}
use Rattle.fzn_checker.specs.Held.{past_in, HasTaken}
use Rattle.fzn_checker.specs.Opened.{IsOpened}
use Rattle.fzn_checker.proofs.CallerLemmas.{HasReadSteps, read-none, read-more, read-all, certificate-of, certificate-accepted, found-refuted}
use Rattle.fzn_bound.specs.declared.certificate.Walked.{Walked}
use Rattle.fzn_bound.specs.declared.known.Known.{Known}
use Rattle.fzn_bound.specs.declared.known.Known.TheVariants.{NoObjective, NoSolution, Unsolved, Open, Closed}
use Rattle.fzn_bound.specs.Line.{bound_line}
use Rattle.fzn_bound.specs.Said.{bound_after, known_after, IsBestDeclared}
use Rattle.fzn_bound.specs.Bounded.{TellsBound, IsBoundBy, IsBoundFault, IsWalked, IsCertificateWalked}
use Rattle.fzn_bound.proofs.BoundLemmas.{has-found, known-true, known-strong, true-before, strong-before}

-- ---- line by line

-- behind the first two lines, or those of a head, the lines of some steps were read, the steps were taken, and this is their bound
pub record IsOnWay (model : Model) (first now : Progress) (taken : Taken) (bound : Option ℤ) : Type 0 where
  pub steps : List Step
  pub has_taken : HasTaken model steps taken
  pub read : HasReadSteps first now steps
  pub by : IsBoundBy model steps bound

pub way-start : (model : Model) (now : Progress) (taken : Taken) (bound : Option ℤ) → IsSome now.header → now.steps ≡ 0 → HasTaken model [] taken → IsBestDeclared model.goal model.vars bound → IsOnWay model now now taken bound
way-start model now taken bound begun none has_taken end = record {
  steps = [];
  has_taken = has_taken;
  read = read-none now begun none;
  by = record { first = bound; end = end; is = refl };
}

fold-more : {A B : Type 0} (f : B → A → B) (b : B) (xs : List A) (x : A) → fold f b (xs ++ x ∷ []) ≡ f (fold f b xs) x
fold-more f b [] x = refl
fold-more f b (y ∷ ys) x = fold-more f (f b y) ys x

pub way-more : (model : Model) (first old new : Progress) (taken next : Taken) (bound : Option ℤ) (step : Step) → IsOnWay model first old taken bound → GivesStep old new step → (IsSome old.header → new.header ≡ old.header)
    → ((steps : List Step) → HasTaken model steps taken → HasTaken model (steps ++ step ∷ []) next) → IsOnWay model first new next (bound_after model.goal bound step)
way-more model first old new taken next bound step way gives same takes = record {
  steps = way.steps ++ step ∷ [];
  has_taken = takes way.steps way.has_taken;
  read = read-more first old new way.steps step way.read gives same;
  by = record {
    first = way.by.first;
    end = way.by.end;
    is = ap (λ (b : Option ℤ). bound_after model.goal b step) way.by.is ∙ sym (fold-more (bound_after model.goal) way.by.first way.steps step);
  };
}

pub way-end : (model : Model) (first old new : Progress) (walked : Walked) → IsOnWay model first old walked.taken walked.bound → Accepts model (past_in walked.taken) old new → Ends old new → walked.closed ≡ unwrap_or new.closing false → IsWalked model first walked
way-end model first old new walked way accepts ends closed = record {
  steps = way.steps;
  lines = read-all first old new way.steps walked.closed way.read ends closed;
  taken = way.has_taken;
  may_end = found-refuted model (past_in walked.taken) old new walked.closed accepts closed;
  bound = way.by;
}

-- behind what stands in front of them
pub walked-of : (model after : Model) (left : Option (List ℕ)) (now : Progress) (lines : ℕ) (walked : Walked) → IsOpened model after left now lines → IsExtended model after → IsWalked after now walked → IsCertificateWalked model after left walked
walked-of model after left now lines walked opened extended is = record {
  version = opened.header.version;
  steps = is.steps;
  certificate = certificate-of model after left now lines is.steps walked.closed opened is.lines;
  extended = extended;
  taken = is.taken;
  may_end = is.may_end;
  bound = is.bound;
}

-- ---- the answer

-- what is printed of the model with derived constraints is what is printed of the model
pub text-before : (model after : Model) (found : List (List ℤ)) (closed all : Bool) (known : Known) → IsExtended model after → answer_text after found closed all ++ bound_line after known ≡ answer_text model found closed all ++ bound_line model known
text-before model after found closed all known extended = by_others (only_constraints model after extended.0 extended.1)
  where
    by_others : (constraints : List Constraint) × (after ≡ with_constraints model constraints) → answer_text after found closed all ++ bound_line after known ≡ answer_text model found closed all ++ bound_line model known
    by_others (constraints, is) = ap (λ (m : Model). answer_text m found closed all ++ bound_line m known) is ∙ same known
      where
        same : (known : Known) → answer_text (with_constraints model constraints) found closed all ++ bound_line (with_constraints model constraints) known ≡ answer_text model found closed all ++ bound_line model known
        same NoObjective = refl
        same NoSolution = refl
        same (Unsolved bound) = refl
        same (Open best bound) = refl
        same (Closed best) = refl

module _ (file cert : Option (List ℕ)) (model : Model) (states : States file model) where
  pub bounds-of : (after : Model) (all : Bool) (walked : Walked) → IsWellFormed model → IsWellFormed after → IsCertificateWalked model after cert walked
      → TellsBound file cert all (answer_text after (past_in walked.taken).solutions walked.closed all ++ bound_line after (known_after after.goal (past_in walked.taken).solutions walked.closed walked.bound))
      (known_after after.goal (past_in walked.taken).solutions walked.closed walked.bound)
  bounds-of after all walked wf formed is =
      let past = past_in walked.taken in
      let steps = is.steps in
      let sound = is.taken.ready.ready.sound in
      let read = is.extended.0 in
      let extends = is.extended.1 in
      let known = known_after after.goal past.solutions walked.closed walked.bound in
      let exhausted : walked.closed ≡ true → IsExhausted after past.solutions = λ closed. exhausted-sound after past sound (is.may_end closed) in
      record {
        model = model;
        found = past.solutions;
        closed = walked.closed;
        shows = record {
          states = states;
          verdict = subst (λ (p : StepsPast). IsOutcomeOn model cert (accepted p.solutions walked.closed)) (sym is.taken.past)
              (certificate-accepted model after is.version cert steps walked.closed wf is.certificate is.taken.accepted (subst (λ (p : StepsPast). MayEnd p walked.closed) is.taken.past is.may_end));
          proper = proper-before model after read wf extends past.solutions (proper-sound after past sound);
          exhausted = λ closed. exhausted-before model after read wf extends past.solutions (exhausted closed);
        };
        after = after;
        version = is.version;
        steps = steps;
        certificate = is.certificate;
        holds = true-before model after is.extended past.solutions walked.closed known (λ a solution. (same-solutions model after read a wf extends).1 solution)
            (known-true after past.solutions walked.closed walked.bound (λ other. has-found after steps past walked.closed walked.bound formed other is.taken.accepted is.taken.past sound exhausted is.bound));
        strong = strong-before model after is.extended steps known (known-strong after steps past.solutions walked.closed walked.bound is.bound);
        is = text-before model after past.solutions walked.closed all known is.extended;
      }

  -- the same by what was seen of the solutions, and by what is known
  pub bounds-seen : (after : Model) (all : Bool) (walked : Walked) (seen : List (List ℤ)) (known : Known) → IsWellFormed model → IsWellFormed after → IsCertificateWalked model after cert walked → seen ≡ (past_in walked.taken).solutions → known ≡ known_after after.goal seen walked.closed walked.bound
      → TellsBound file cert all (answer_text after seen walked.closed all ++ bound_line after known) known
  bounds-seen after all walked seen known wf formed is seen_is known_is =
      subst (λ (k : Known). TellsBound file cert all (answer_text after seen walked.closed all ++ bound_line after k) k) (sym known_is)
      (subst (λ (s : List (List ℤ)). TellsBound file cert all (answer_text after s walked.closed all ++ bound_line after (known_after after.goal s walked.closed walked.bound)) (known_after after.goal s walked.closed walked.bound)) (sym seen_is)
      (bounds-of after all walked wf formed is))

  -- nothing is printed for a certificate that is not accepted
  pub certificate-fault : (all : Bool) (before : Option (List ℕ)) (fault : CheckFault) → IsFaultWhere (IsOutcomeOn model cert) fault → IsBoundFault file cert all before before fault
  certificate-fault all before (File of) f = absurd f
  certificate-fault all before (Refused line refusal) f = (Keeps-refl before, (model, states, f))
  certificate-fault all before Memory f = Keeps-refl before
  certificate-fault all before Read f = Keeps-refl before
  certificate-fault all before NotVersionOne f = absurd f
  certificate-fault all before WriteOutput f = absurd f
  certificate-fault all before WriteCert f = absurd f

-- the file has a fault, or can't be read
pub model-fault : (file cert : Option (List ℕ)) (all : Bool) (before : Option (List ℕ)) (fault : ModelFault) → IfSome file (λ bytes. Answers bytes (Err fault)) → IsBoundFault file cert all before before (fault_from fault)
model-fault file cert all before (reading.File fault) h = (Keeps-refl before, h)
model-fault file cert all before reading.Memory h = Keeps-refl before
model-fault file cert all before reading.Read h = Keeps-refl before
