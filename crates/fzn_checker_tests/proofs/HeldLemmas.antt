-- The solutions of an accepted certificate are a proper list.
use Rattle.std.proofs.Common.{ℕ, List, Option, Result, Ok, Err, IfOk, sym, subst}
use Rattle.std.specs.Prelude.{OnOk}
use Rattle.fzn_meaning.specs.declared.model.Model.{Model}
use Rattle.fzn_meaning.specs.Solutions.{IsProper}
use Rattle.fzn_meaning.specs.WellFormed.{IsWellFormed}
use Rattle.fzn_cert.proofs.SoundLaws.{accepted-proper}
use Rattle.fzn_checker.specs.declared.fault.CheckFault.{CheckFault}
use Rattle.fzn_checker.specs.declared.hold.Held.{Held}
use Rattle.fzn_checker.specs.Held.{HoldsCertificate}

pub held-proper : (model after : Model) (left : Option (List ℕ)) (result : Result Held CheckFault) → OnOk result (IsWellFormed after) → IfOk result (HoldsCertificate model after left) → IfOk result (λ held. IsProper after held.solutions.items)
held-proper model after left (Err fault) wf h = tt
held-proper model after left (Ok held) wf h = subst (IsProper after) (sym h.stands.found) (accepted-proper after held.steps wf h.stands.accepted)
