-- Accepted steps that are held, and the certificate that they stand in.
use Rattle.std.specs.Prelude.{◌≡◌, ℕ, Bool, List, ◌++◌, Option, IfSome}
use Rattle.fzn_meaning.specs.declared.model.Model.{Model}
use Rattle.fzn_cert.specs.declared.step.Step.{Step}
use Rattle.fzn_cert.specs.declared.step.Version.{Version}
use Rattle.fzn_cert.specs.Spelling.{end_line}
use Rattle.fzn_cert.specs.Past.{StepsPast}
use Rattle.fzn_cert.specs.Accepted.{AllAccepted, past_after}
use Rattle.fzn_cert.specs.Verdict.{lines_of, AllHaveLines, MayEnd}
use Rattle.fzn_cert_reader.specs.Reader.{Progress}
use Rattle.fzn_checker.specs.declared.hold.Held.{Held}
use Rattle.fzn_checker.specs.declared.hold.Taken.{Taken}
use Rattle.fzn_checker.specs.Given.{AreGiven}
use Rattle.fzn_checker.specs.Judged.{IsJudgedOn}
use Rattle.fzn_checker.specs.Opened.{IsHeadOf, IsInFront}

-- what the steps leave for later ones
abbrev pub past_in : Taken → StepsPast
past_in taken = taken.history

-- the next step can be judged
pub record MayTake (model : Model) (taken : Taken) : Type 0 where
  pub ready : IsJudgedOn model taken.history taken.sets taken.has_empty
  pub given : AreGiven model taken.history.solutions taken.given

-- these steps are accepted one after the other, and the next one can be judged
pub record HasTaken (model : Model) (steps : List Step) (taken : Taken) : Type 0 where
  pub ready : MayTake model taken
  pub past : taken.history ≡ past_after model steps
  pub accepted : AllAccepted model steps

-- the steps are accepted one after the other, these are their solutions, and they may end so
pub record Stands (model : Model) (held : Held) : Type 0 where
  pub accepted : AllAccepted model held.steps
  pub found : held.solutions.items ≡ (past_after model held.steps).solutions
  pub may_end : MayEnd (past_after model held.steps) held.closed

-- the lines of these steps, and the last one
abbrev pub lines_to_end : List Step → Bool → List ℕ
lines_to_end steps closed = lines_of steps ++ end_line closed

-- what is left are the lines of these steps, and this ending
pub record AreLinesLeft (now : Progress) (steps : List Step) (closed : Bool) : Type 0 where
  pub spelled : IfSome now.header (λ header. AllHaveLines header.version 0 steps)
  pub text : IfSome now.left (λ bytes. bytes ≡ lines_to_end steps closed)

-- what is left is a certificate for the model, with these steps and this ending: what stands in front of them makes of the model the second
-- one, and each step has a line in this version
pub record IsCertificate (model after : Model) (version : Version) (left : Option (List ℕ)) (steps : List Step) (closed : Bool) : Type 0 where
  pub front : List ℕ
  pub opens : IsInFront model after version front
  pub spelled : AllHaveLines version 0 steps
  pub text : IfSome left (λ bytes. bytes ≡ front ++ lines_to_end steps closed)

-- these are the steps of what is left, and they are accepted
pub record HoldsSteps (model : Model) (now : Progress) (held : Held) : Type 0 where
  pub lines : AreLinesLeft now held.steps held.closed
  pub stands : Stands model held

-- what is left is a certificate with these steps and derivations, by which the model is the second one, and the steps are accepted for that
pub record HoldsCertificate (model after : Model) (left : Option (List ℕ)) (held : Held) : Type 0 where
  pub version : Version
  pub certificate : IsCertificate model after version left held.steps held.closed
  pub derives : IsHeadOf model after held.derivations.items
  pub stands : Stands after held
