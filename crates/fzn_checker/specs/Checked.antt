-- How far the check of a certificate came, and what its faults say.
use Rattle.std.specs.Prelude.{◌≡◌, ◌+◌, ◌<◌, Bool, true, length, Some, None, IfSome, MatchOption}
use Rattle.fzn_meaning.specs.declared.model.Model.{Model}
use Rattle.fzn_cert.specs.declared.header.Header.{Header}
use Rattle.fzn_cert.specs.declared.limits.TheConstants.{LAST_STEP}
use Rattle.fzn_cert.specs.declared.refusal.Refusal.{Refusal}
use Rattle.fzn_cert.specs.declared.step.Step.{Step}
use Rattle.fzn_cert.specs.Spelling.{IsHeader}
use Rattle.fzn_cert.specs.Past.{StepsPast, no_past}
use Rattle.fzn_cert.specs.Accepted.{IsAccepted, HasFault, after_step}
use Rattle.fzn_cert_reader.specs.Reader.{Progress, MayGoOn, IsAtStart}
use Rattle.fzn_cert.specs.Verdict.{Outcome, accepted, refused, MayEnd, VerdictOn, VerdictFrom}
use Rattle.fzn_checker.specs.declared.fault.CheckFault.{CheckFault}
use Rattle.fzn_checker.specs.declared.fault.CheckFault.TheVariants.{Refused, Memory, Read}
use Rattle.fzn_checker.specs.Judged.{HasLitsInRange}

-- A refusal is such an outcome. Want of memory and a failed read may come at any time.
abbrev pub IsFaultWhere : (Outcome → Type 0) → CheckFault → Type 0
IsFaultWhere Holds (Refused line refusal) = Holds (refused line refusal)
IsFaultWhere Holds Memory = Unit {0}
IsFaultWhere Holds Read = Unit {0}
IsFaultWhere Holds _ = ⊥

-- a failed read is answered only where one failed
abbrev pub IsReadDue : Bool → CheckFault → Type 0
IsReadDue has_failed fault = fault ≡ Read → has_failed ≡ true

-- no line was read, and there was no fault
abbrev pub IsUnread : Progress → Type 0
IsUnread now = IsAtStart now.left now

-- the first two lines tell the model's counts, in at most 18 digits
abbrev pub HasCounts : Model → Header → Type 0
HasCounts model header = (header.variables ≡ length model.vars) × (header.constraints ≡ length model.constraints) × IsHeader header

-- what the lines that are still to be read come to
abbrev pub ComesTo : Model → StepsPast → Progress → Outcome → Type 0
ComesTo model past now outcome =
    MatchOption now.header (VerdictOn model now.left outcome) (λ header. VerdictFrom model header.version past now.steps now.left outcome)

-- between two lines: nothing was read, or the first two lines and the lines of steps
pub record IsMidway (model : Model) (past : StepsPast) (now : Progress) : Type 0 where
  pub reading : MayGoOn now
  pub counts : IfSome now.header (HasCounts model)
  pub fresh : now.header ≡ None → (past ≡ no_past) × (now.steps ≡ 0)

-- the next line is that of a step: what comes after it decides where it is accepted
pub record Offers (model : Model) (past : StepsPast) (old new : Progress) (step : Step) : Type 0 where
  pub bounds : HasLitsInRange step
  pub counted : new.steps ≡ old.steps + 1
  pub below : old.steps < LAST_STEP
  pub midway : IsMidway model (after_step model past step) new
  pub goes_on : IsAccepted model past step → (outcome : Outcome) → ComesTo model (after_step model past step) new outcome → ComesTo model past old outcome
  pub refuses : (refusal : Refusal) → HasFault model past step refusal → ComesTo model past old (refused (old.steps + 3) refusal)

-- the next line is an ending that is right, and nothing follows it
abbrev pub Accepts : Model → StepsPast → Progress → Progress → Type 0
Accepts model past old new = (closed : Bool) × (new.closing ≡ Some closed) × MayEnd past closed × ComesTo model past old (accepted past.solutions closed)
