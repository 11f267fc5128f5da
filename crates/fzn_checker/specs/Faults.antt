-- What a reader's fault says of a certificate.
use Rattle.std.specs.Prelude.{ℕ, ◌-◌, Bool, false, not, ◌||◌, Option, if◌then◌else◌, unwrap_or}
use Rattle.fzn_cert.specs.declared.fault.CertFault.{CertFault}
use Rattle.fzn_cert.specs.declared.fault.FaultKind.{FaultKind}
use Rattle.fzn_cert.specs.declared.fault.FaultKind.TheVariants as faults
use Rattle.fzn_cert.specs.declared.refusal.Refusal.TheVariants as refusals
use Rattle.fzn_checker.specs.declared.fault.CheckFault.{CheckFault}
use Rattle.fzn_checker.specs.declared.fault.CheckFault.TheVariants.{Refused, Memory, Read}

-- an ending that says closed needs the empty clause
abbrev pub may_end : Option Bool → Bool → Bool
may_end closed is_refuted = not (unwrap_or closed false) || is_refuted

-- an ending that is wrong is so before the byte after it
abbrev pub after_ending : ℕ → Option Bool → Bool → CheckFault
after_ending line closed is_refuted =
    if may_end closed is_refuted then Refused line refusals.Trailing else Refused (line - 1) refusals.NotClosed

-- of the first fault of a reader, which is never `Failed`
abbrev pub fault_of_kind : FaultKind → ℕ → Option Bool → Bool → CheckFault
fault_of_kind faults.Memory line closed is_refuted = Memory
fault_of_kind faults.Read line closed is_refuted = Read
fault_of_kind faults.Header line closed is_refuted = Refused line refusals.Header
fault_of_kind faults.Spelling line closed is_refuted = Refused line refusals.Spelling
fault_of_kind faults.Truncated line closed is_refuted = Refused line refusals.Truncated
fault_of_kind faults.LineTooLong line closed is_refuted = Refused line refusals.LineTooLong
fault_of_kind faults.Trailing line closed is_refuted = after_ending line closed is_refuted
fault_of_kind faults.Failed line closed is_refuted = Memory

abbrev pub fault_after : CertFault → Option Bool → Bool → CheckFault
fault_after fault closed is_refuted = fault_of_kind fault.kind fault.line closed is_refuted
