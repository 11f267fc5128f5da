use Rattle.std.proofs.Common.{◌≡◌, ◌+◌, ◌-◌}
use Rattle.fzn_meaning.specs.Solutions.{declared_sets}
use Rattle.fzn_sets.specs.Sets.{start}
use Rattle.fzn_cert.specs.declared.limits.TheConstants.{LAST_STEP}
use Rattle.fzn_cert_reader.specs.Reader.{progress}
use Rattle.fzn_cert.specs.Sound.{IsSound}
use Rattle.fzn_cert.specs.Past.{no_past}
use Rattle.fzn_cert.specs.Verdict.{Outcome}
use Rattle.fzn_checker.specs.Given.{AreGiven}
use Rattle.fzn_checker.specs.Checked.{ComesTo, IsMidway}
use Rattle.fzn_checker.proofs.certificate.check_steps.Given as goal

abbrev pub invariant-loop-given : goal.invariant-loop-given
invariant-loop-given g l = record {
  midway : IsMidway l.model l.history (progress g.C.Read.remaining l.cert);
  line : l.line ≡ (progress g.C.Read.remaining l.cert).steps + 3;
  goes_on : (outcome : Outcome) → ComesTo l.model l.history (progress g.C.Read.remaining l.cert) outcome → ComesTo l.model no_past (progress g.C.Read.remaining l.fn.cert) outcome;
  sound : IsSound l.model l.history;
  given : AreGiven l.model l.history.solutions l.given;
  sets : l.sets ≡ start (declared_sets l.model.vars);
}

abbrev pub decreases-loop-given : goal.decreases-loop-given
decreases-loop-given g l = LAST_STEP - (progress g.C.Read.remaining l.cert).steps
