use Rattle.std.proofs.Common.{◌≡◌, ◌+◌, ◌-◌}
use Rattle.fzn_cert.specs.declared.limits.TheConstants.{LAST_STEP}
use Rattle.fzn_cert.specs.Past.{no_past}
use Rattle.fzn_cert.specs.Verdict.{Outcome}
use Rattle.fzn_cert_reader.specs.Reader.{progress}
use Rattle.fzn_checker.specs.Checked.{ComesTo, IsMidway}
use Rattle.fzn_checker.specs.Held.{past_in, MayTake}
use Rattle.fzn_bound.proofs.WalkLemmas.{IsOnWay}
use Rattle.fzn_bound.proofs.certificate.walk_steps.Given as goal

abbrev pub invariant-loop-taken : goal.invariant-loop-taken
invariant-loop-taken g l = record {
  midway : IsMidway l.model (past_in l.taken) (progress g.C.Read.remaining l.cert);
  line : l.line ≡ (progress g.C.Read.remaining l.cert).steps + 3;
  goes_on : (outcome : Outcome) → ComesTo l.model (past_in l.taken) (progress g.C.Read.remaining l.cert) outcome → ComesTo l.model no_past (progress g.C.Read.remaining l.fn.cert) outcome;
  ready : MayTake l.model l.taken;
  way : IsOnWay l.model (progress g.C.Read.remaining l.fn.cert) (progress g.C.Read.remaining l.cert) l.taken l.bound;
}

abbrev pub decreases-loop-taken : goal.decreases-loop-taken
decreases-loop-taken g l = LAST_STEP - (progress g.C.Read.remaining l.cert).steps
