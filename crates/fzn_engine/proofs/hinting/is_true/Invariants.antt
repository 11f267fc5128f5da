use Rattle.std.proofs.Common.{◌≡◌, drop}
use Rattle.fzn_domain.specs.Narrow.{is_clause_true}
use Rattle.fzn_engine.proofs.hinting.is_true.Given as goal

-- the literals so far are false
abbrev pub invariant-loop-lit : goal.invariant-loop-lit
invariant-loop-lit l = is_clause_true l.values l.clause ≡ is_clause_true l.values (drop l.lit-index l.clause)
