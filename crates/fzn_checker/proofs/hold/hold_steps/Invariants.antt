use Rattle.std.proofs.Common.{◌≡◌, ◌+◌, ◌-◌}
use Rattle.fzn_cert.specs.declared.limits.TheConstants.{LAST_STEP}
use Rattle.fzn_cert.specs.Past.{no_past}
use Rattle.fzn_cert.specs.Verdict.{Outcome}
use Rattle.fzn_cert_reader.specs.Reader.{progress}
use Rattle.fzn_checker.specs.Checked.{ComesTo, IsMidway}
use Rattle.fzn_checker.specs.Held.{HasTaken}
use Rattle.fzn_checker.proofs.HoldLemmas.{HasReadSteps}
use Rattle.fzn_checker.proofs.hold.hold_steps.Given as goal

abbrev pub invariant-loop-steps : goal.invariant-loop-steps
invariant-loop-steps g l = record {
  midway : IsMidway l.model l.taken.history (progress g.C.Read.remaining l.cert);
  line : l.line ≡ (progress g.C.Read.remaining l.cert).steps + 3;
  goes_on : (outcome : Outcome) → ComesTo l.model l.taken.history (progress g.C.Read.remaining l.cert) outcome → ComesTo l.model no_past (progress g.C.Read.remaining l.fn.cert) outcome;
  taken : HasTaken l.model l.steps l.taken;
  read : HasReadSteps (progress g.C.Read.remaining l.fn.cert) (progress g.C.Read.remaining l.cert) l.steps;
}

abbrev pub decreases-loop-steps : goal.decreases-loop-steps
decreases-loop-steps g l = LAST_STEP - (progress g.C.Read.remaining l.cert).steps
