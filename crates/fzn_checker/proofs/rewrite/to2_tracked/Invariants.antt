use Rattle.std.proofs.Common.{◌≡◌, ◌-◌}
use Rattle.fzn_cert.specs.declared.limits.TheConstants.{LAST_STEP}
use Rattle.fzn_cert_reader.specs.Input.{left_in}
use Rattle.fzn_checker.proofs.RewriteLemmas.{IsCopied}
use Rattle.fzn_checker.proofs.rewrite.to2_tracked.Given as goal

abbrev pub invariant-loop : goal.invariant-loop
invariant-loop g l = record {
  copied : IsCopied (left_in g.C.Read.remaining l.fn.lines.bytes) (left_in g.C.Read.remaining l.lines.bytes) (g.W.Write.contents l.fn.new) (g.W.Write.contents l.new) l.lines.steps;
  same_stream : g.W.TrackedWrite.stream l.new ≡ g.W.TrackedWrite.stream l.fn.new;
}

abbrev pub decreases-loop : goal.decreases-loop
decreases-loop g l = LAST_STEP - l.lines.steps
