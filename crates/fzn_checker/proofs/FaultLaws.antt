-- A fault of the reader carries a verdict on, and what that makes of the whole certificate.
use Rattle.std.proofs.Common.{◌≡◌, ℕ, ◌+◌, ◌-◌, Bool, true, false, List, [], ◌∷◌, ◌++◌, Option, Some, None, Result, Ok, Err, IsSome, IfSome, IfOk, IfErr, unwrap_or, refl, sym, ap, subst, ◌∙◌, inl, inr, arith}
use Rattle.std.specs.Prelude.{MatchOption, IfNone}
use Rattle.std.specs.Io.KnownBytes.{Consumes}
use Rattle.std.proofs.lemmas.Bool.{false≢true}
use Rattle.fzn_meaning.specs.declared.model.Model.{Model}
use Rattle.fzn_cert.specs.declared.fault.CertFault.{CertFault}
use Rattle.fzn_cert.specs.declared.fault.FaultKind.{FaultKind}
use Rattle.fzn_cert.specs.declared.fault.FaultKind.TheVariants as faults
use Rattle.fzn_cert.specs.declared.header.Header.{Header}
use Rattle.fzn_cert.specs.declared.refusal.Refusal.TheVariants as refusals
use Rattle.fzn_cert.specs.declared.step.Step.{Step}
use Rattle.fzn_cert.specs.declared.step.Version.{Version}
use Rattle.fzn_cert.specs.Spelling.{step_line, end_line, IsHeader}
use Rattle.fzn_cert.specs.Stream.{After, IsFaultOf, IsHeaderFault, IsTrailedBy, line_of_fault}
use Rattle.fzn_cert.specs.Past.{StepsPast}
use Rattle.fzn_cert_reader.specs.Reader.{Progress, lines_read, GivesStep, Ends, IsNextFault, FindsFault}
use Rattle.fzn_cert.specs.Verdict.{Outcome, accepted, refused, BeginsWith, VerdictFrom, VerdictOn}
use Rattle.fzn_cert.proofs.VerdictLaws.{verdict-ends}
use Rattle.fzn_checker.specs.declared.fault.CheckFault.{CheckFault}
use Rattle.fzn_checker.specs.declared.fault.CheckFault.TheVariants.{File, Refused, NotVersionOne, Memory, Read, WriteOutput, WriteCert}
use Rattle.fzn_checker.specs.Checked.{IsFaultWhere, HasCounts, ComesTo, IsMidway, Accepts}
use Rattle.fzn_checker.specs.Faults.{fault_of_kind, fault_after}
use Rattle.fzn_checker.proofs.StandingLaws.{Consumes-split, standing-from, other-counts, none_is}

-- ---- a fault of the reader

pub fault-weaker : (P Q : Outcome → Type 0) (fault : CheckFault) → ((outcome : Outcome) → P outcome → Q outcome) → IsFaultWhere P fault → IsFaultWhere Q fault
fault-weaker P Q (Refused line refusal) h f = h (refused line refusal) f
fault-weaker P Q Memory h f = tt
fault-weaker P Q Read h f = tt
fault-weaker P Q NotVersionOne h f = f
fault-weaker P Q WriteOutput h f = f
fault-weaker P Q WriteCert h f = f
fault-weaker P Q (File fault) h f = f

-- one of the first two lines
header-fault : (model : Model) (left : Option (List ℕ)) (kind : FaultKind) (line : ℕ) (closing : Option Bool) (is_refuted : Bool) → IsHeaderFault left (record { kind = kind; line = line }) → IsFaultWhere (VerdictOn model left) (fault_of_kind kind line closing is_refuted)
header-fault model left faults.Header line closing is_refuted (inl f) = inl (inl f)
header-fault model left faults.Header line closing is_refuted (inr f) = inl (inr f)
header-fault model left faults.Truncated line closing is_refuted (inl f) = inl (inl f)
header-fault model left faults.Truncated line closing is_refuted (inr f) = inl (inr f)
header-fault model left faults.LineTooLong line closing is_refuted (inl f) = inl (inl f)
header-fault model left faults.LineTooLong line closing is_refuted (inr f) = inl (inr f)
header-fault model left faults.Memory line closing is_refuted f = tt
header-fault model left faults.Read line closing is_refuted f = tt
header-fault model left _ line closing is_refuted (inl f) = absurd f.1
header-fault model left _ line closing is_refuted (inr f) = absurd f.1.1.2

-- a later line
line-fault : (model : Model) (version : Version) (past : StepsPast) (count : ℕ) (left : Option (List ℕ)) (kind : FaultKind) (closing : Option Bool) → IsFaultOf version count left kind → (kind ≡ faults.Trailing → IsTrailedBy left closing) → IsFaultWhere (VerdictFrom model version past count left) (fault_of_kind kind (line_of_fault kind count) closing past.refuted)
line-fault model version past count left faults.Spelling closing f trailed = verdict-ends model version past count left (refused (count + 3) refusals.Spelling) (refl, f)
line-fault model version past count left faults.Truncated closing f trailed = verdict-ends model version past count left (refused (count + 3) refusals.Truncated) (refl, f)
line-fault model version past count left faults.LineTooLong closing f trailed = verdict-ends model version past count left (refused (count + 3) refusals.LineTooLong) (refl, f)
line-fault model version past count left faults.Trailing closing f trailed = by_ending (trailed refl)
  where
    by_bools : (is_refuted closed : Bool) (byte : ℕ) → past.refuted ≡ is_refuted → BeginsWith left (end_line closed ++ byte ∷ []) → IsFaultWhere (VerdictFrom model version past count left) (fault_of_kind faults.Trailing (count + 4) (Some closed) is_refuted)
    by_bools false true byte is (rest, taken, _) =
        let split = Consumes-split left rest (end_line true) (byte ∷ []) taken in
        verdict-ends model version past count left (refused (count + 4 - 1) refusals.NotClosed) (omega arith, ((split.0, split.1, tt), is))
    by_bools false false byte is begins = verdict-ends model version past count left (refused (count + 4) refusals.Trailing) (refl, (false, byte, begins, λ e. absurd (false≢true e)))
    by_bools true true byte is begins = verdict-ends model version past count left (refused (count + 4) refusals.Trailing) (refl, (true, byte, begins, λ _. is))
    by_bools true false byte is begins = verdict-ends model version past count left (refused (count + 4) refusals.Trailing) (refl, (false, byte, begins, λ _. is))

    by_ending : IsTrailedBy left closing → IsFaultWhere (VerdictFrom model version past count left) (fault_of_kind faults.Trailing (count + 4) closing past.refuted)
    by_ending (closed, byte, is, begins) =
        subst (λ o. IsFaultWhere (VerdictFrom model version past count left) (fault_of_kind faults.Trailing (count + 4) o past.refuted)) (sym is) (by_bools past.refuted closed byte refl begins)
line-fault model version past count left faults.Memory closing f trailed = tt
line-fault model version past count left faults.Read closing f trailed = tt
line-fault model version past count left _ closing f trailed = absurd f

-- the reader finds a fault
pub finds-fault : (model : Model) (past : StepsPast) (old new : Progress) (fault : CertFault) → IsMidway model past old → (IsSome old.header → new.header ≡ old.header) → IfSome new.header (HasCounts model) → FindsFault old new fault → IsFaultWhere (ComesTo model past old) (fault_after fault new.closing past.refuted)
finds-fault model past old new fault midway same counts finds = by_header new.header refl counts finds.is_next
  where
    none_before : (before : Option Header) → old.header ≡ before → new.header ≡ None → old.header ≡ None
    none_before None is none = is
    none_before (Some h) is none = absurd (none_is h (sym none ∙ same (subst IsSome (sym is) refl) ∙ is))

    by_header : (header : Option Header) → new.header ≡ header → IfSome header (HasCounts model) → IsNextFault old header new.closing fault → IsFaultWhere (ComesTo model past old) (fault_after fault new.closing past.refuted)
    by_header None is fits f =
        fault-weaker (VerdictOn model old.left) (ComesTo model past old) (fault_after fault new.closing past.refuted)
        (λ outcome v. subst (λ o. MatchOption o (VerdictOn model old.left outcome) (λ (k : Header). VerdictFrom model k.version past old.steps old.left outcome)) (sym (none_before old.header refl is)) v)
        (header-fault model old.left fault.kind fault.line new.closing past.refuted f)
    by_header (Some header) is fits (line, (rest, taken, (f, trailed))) =
        fault-weaker (VerdictFrom model header.version past old.steps rest) (ComesTo model past old) (fault_after fault new.closing past.refuted)
        (λ outcome v. standing-from model past old.left old.header new.header old.steps header outcome is fits same midway.fresh
        (rest, subst (λ o. Consumes old.left rest (lines_read old.header o)) (sym is) taken, v))
        (subst (λ n. IsFaultWhere (VerdictFrom model header.version past old.steps rest) (fault_of_kind fault.kind n new.closing past.refuted)) (sym line)
        (line-fault model header.version past old.steps rest fault.kind new.closing f trailed))

-- ---- other counts, whatever comes after the second line

lines_taken : (old new : Progress) (next : Result (Option Step) CertFault) (header : Header) → new.header ≡ Some header → IfOk next (λ found. IfSome found (GivesStep old new)) → IfOk next (λ found. IfNone found (Ends old new)) → IfErr next (FindsFault old new) → After old.left (lines_read old.header new.header) (λ _. Unit {0})
lines_taken old new (Ok (Some step)) header told gives ends finds =
    let split = Consumes-split old.left new.left (lines_read old.header new.header) (step_line step) gives.taken in (split.0, split.1, tt)
lines_taken old new (Ok None) header told gives ends finds =
    let split = Consumes-split old.left new.left (lines_read old.header new.header) (end_line ends.closed) ends.taken in (split.0, split.1, tt)
lines_taken old new (Err fault) header told gives ends finds =
    let next : IsNextFault old (Some header) new.closing fault = subst (λ o. IsNextFault old o new.closing fault) told finds.is_next in
    (next.1.0, subst (λ o. Consumes old.left next.1.0 (lines_read old.header o)) (sym told) next.1.1, tt)

pub counts-refused : (model : Model) (past : StepsPast) (old new : Progress) (next : Result (Option Step) CertFault) → IsMidway model past old → (IsSome old.header → new.header ≡ old.header) → IfSome new.header IsHeader → (IfSome new.header (HasCounts model) → ⊥) → IfOk next (λ found. IfSome found (GivesStep old new)) → IfOk next (λ found. IfNone found (Ends old new)) → IfErr next (FindsFault old new) → ComesTo model past old (refused 2 refusals.Counts)
counts-refused model past old new next midway same sized other gives ends finds = by_header new.header refl
  where
    by_header : (header : Option Header) → new.header ≡ header → ComesTo model past old (refused 2 refusals.Counts)
    by_header None is = absurd (other (subst (λ o. IfSome o (HasCounts model)) (sym is) tt))
    by_header (Some header) is =
        other-counts model past old.left old.header new.header old.steps header is (subst (λ o. IfSome o IsHeader) is sized)
        (λ h. other (subst (λ o. IfSome o (HasCounts model)) (sym is) h)) midway.counts same
        (lines_taken old new next header is gives ends finds)

-- ---- the whole certificate

-- what the ending says
pub found-accepted : (Holds : Outcome → Type 0) (model : Model) (past : StepsPast) (old new : Progress) (closed : Bool) → ((outcome : Outcome) → ComesTo model past old outcome → Holds outcome) → Accepts model past old new → closed ≡ unwrap_or new.closing false → Holds (accepted past.solutions closed)
found-accepted Holds model past old new closed goes_on (said, is, may_say, standing) closed_is =
    subst (λ b. Holds (accepted past.solutions b)) (sym (closed_is ∙ ap (λ o. unwrap_or o false) is)) (goes_on (accepted past.solutions said) standing)

-- a closed one comes after the empty clause
pub found-refuted : (model : Model) (past : StepsPast) (old new : Progress) (closed : Bool) → Accepts model past old new → closed ≡ unwrap_or new.closing false → closed ≡ true → past.refuted ≡ true
found-refuted model past old new closed (said, is, may_say, standing) closed_is is_closed = may_say (sym (closed_is ∙ ap (λ o. unwrap_or o false) is) ∙ is_closed)
