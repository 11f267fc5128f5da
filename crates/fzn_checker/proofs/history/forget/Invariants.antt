use Rattle.std.proofs.Common.{◌≡◌, drop}
use Rattle.fzn_cert.specs.Past.{without}
use Rattle.fzn_checker.proofs.history.forget.Given as goal

abbrev pub invariant-loop-id : goal.invariant-loop-id
invariant-loop-id l = without l.clauses (drop l.id-index l.ids) ≡ without l.fn.clauses l.ids
