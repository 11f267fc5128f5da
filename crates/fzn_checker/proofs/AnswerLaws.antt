-- What a faulty certificate makes of a whole check, and what is printed of a model with derived constraints.
use Rattle.std.proofs.Common.{◌≡◌, ℕ, Bool, ℤ, List, length, Option, Some, None, Result, Ok, Err, IfErr, All, refl, sym, ap, subst, ◌∙◌}
use Rattle.std.specs.Result.{IsErrAnd}
use Rattle.std.specs.Io.KnownBytes.{Appends, Keeps}
use Rattle.std.proofs.lemmas.List.Elements.{All-weaker}
use Rattle.fzn_streams.specs.Output.{AppendsFront}
use Rattle.fzn_meaning.specs.declared.constraint.Constraint.{Constraint}
use Rattle.fzn_meaning.specs.declared.model.Model.{Model}
use Rattle.fzn_meaning.specs.Solutions.{IsAssignment, IsSolution, IsProper}
use Rattle.fzn_reading.specs.Reads.{States}
use Rattle.fzn_printer.specs.Answer.{answer_text}
use Rattle.fzn_printer.specs.Showable.{CanBeShown}
use Rattle.fzn_head.specs.Extended.{IsExtended}
use Rattle.fzn_head.specs.Outcome.{IsOutcomeOn}
use Rattle.fzn_head.proofs.ExtendedLaws.{with_constraints, only_constraints}
use Rattle.fzn_checker.specs.declared.certificate.Verdict.{Verdict}
use Rattle.fzn_checker.specs.declared.fault.CheckFault.{CheckFault}
use Rattle.fzn_checker.specs.declared.fault.CheckFault.TheVariants.{File, Refused, NotVersionOne, Memory, Read, WriteOutput, WriteCert}
use Rattle.fzn_checker.specs.Answered.{Shows, IsAnswered, IsCheckFault}
use Rattle.fzn_checker.specs.Checked.{IsFaultWhere}

keeps-same : (known : Option (List ℕ)) → Keeps known known
keeps-same None = tt
keeps-same (Some bytes) = refl

-- nothing is printed for a certificate that is not accepted
pub certificate-fault : (file cert : Option (List ℕ)) (all : Bool) (out : Option (List ℕ)) (model : Model) (fault : CheckFault) → States file model → IsFaultWhere (IsOutcomeOn model cert) fault → IsCheckFault file cert all out out fault
certificate-fault file cert all out model (File of) states f = absurd f
certificate-fault file cert all out model (Refused line refusal) states f = (keeps-same out, (model, states, f))
certificate-fault file cert all out model Memory states f = keeps-same out
certificate-fault file cert all out model Read states f = keeps-same out
certificate-fault file cert all out model NotVersionOne states f = absurd f
certificate-fault file cert all out model WriteOutput states f = absurd f
certificate-fault file cert all out model WriteCert states f = absurd f

-- an error that is this fault
pub error-is : {A : Type 0} (result : Result A CheckFault) (fault : CheckFault) (P : CheckFault → Type 0) → IsErrAnd result (λ e. e ≡ fault) → P fault → IfErr result P
error-is (Ok value) fault P same p = tt
error-is (Err e) fault P same p = subst P (sym same) p

-- ---- derived constraints are not printed

module _ (model after : Model) (extended : IsExtended model after) where
  others : (constraints : List Constraint) × (after ≡ with_constraints model constraints)
  others = only_constraints model after extended.0 extended.1

  pub same-answer : (found : List (List ℤ)) (closed all : Bool) → answer_text after found closed all ≡ answer_text model found closed all
  same-answer found closed all = by_others others
    where
      by_others : (constraints : List Constraint) × (after ≡ with_constraints model constraints) → answer_text after found closed all ≡ answer_text model found closed all
      by_others (constraints, is) = subst (λ (m : Model). answer_text m found closed all ≡ answer_text model found closed all) (sym is) refl

  pub still-shown : CanBeShown model → CanBeShown after
  still-shown shown = by_others others
    where
      by_others : (constraints : List Constraint) × (after ≡ with_constraints model constraints) → CanBeShown after
      by_others (constraints, is) = subst CanBeShown (sym is) shown

  pub still-assigned : (found seen : List (List ℤ)) → seen ≡ found → IsProper model found → All (IsAssignment after) seen
  still-assigned found seen is_seen proper = subst (All (IsAssignment after)) (sym is_seen) (by_others others)
    where
      by_others : (constraints : List Constraint) × (after ≡ with_constraints model constraints) → All (IsAssignment after) found
      by_others (constraints, is) = subst (λ (m : Model). All (IsAssignment m) found) (sym is) (All-weaker (IsSolution model) (IsAssignment model) (λ values solution. solution.0) found proper.solutions)

  seen-answer : (found seen : List (List ℤ)) (closed all : Bool) → seen ≡ found → answer_text after seen closed all ≡ answer_text model found closed all
  seen-answer found seen closed all is_seen = ap (λ (list : List (List ℤ)). answer_text after list closed all) is_seen ∙ same-answer found closed all

  -- what is printed is the answer of the model
  module _ (file cert : Option (List ℕ)) (all : Bool) (old new : Option (List ℕ)) (found seen : List (List ℤ)) (is_seen : seen ≡ found) (closed : Bool) (shows : Shows file cert model found closed) where
    pub answer-printed : (verdict : Verdict) → verdict ≡ record { solutions = length found; closed = closed } → Appends old new (answer_text after seen closed all) → IsAnswered file cert all old new verdict
    answer-printed verdict is printed = subst (IsAnswered file cert all old new) (sym is) (record {
      model = model;
      found = found;
      shows = shows;
      count = refl;
      printed = subst (Appends old new) (seen-answer found seen closed all is_seen) printed;
    })

    pub answer-begun : AppendsFront old new (answer_text after seen closed all) → IsCheckFault file cert all old new WriteOutput
    answer-begun begun = (model, found, closed, shows, subst (AppendsFront old new) (seen-answer found seen closed all is_seen) begun)
