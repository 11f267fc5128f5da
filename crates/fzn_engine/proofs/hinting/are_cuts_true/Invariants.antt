use Rattle.std.proofs.Common.{◌≡◌, ℕ, ◌<◌, true}
use Rattle.fzn_domain.specs.Narrow.{is_clause_true}
use Rattle.fzn_trail.specs.declared.trail.ClauseId.{ClauseId}
use Rattle.fzn_clauses.specs.Held.{IsHeld, clause_of}
use Rattle.fzn_clauses.specs.Watching.{held_by}
use Rattle.fzn_reduction.specs.Forgetting.{is_cut}
use Rattle.fzn_engine.proofs.hinting.are_cuts_true.Given as goal

-- the cuts so far are true
abbrev pub invariant-loop-number : goal.invariant-loop-number
invariant-loop-number l =
    (k : ℕ) → k < l.number → (id : ClauseId) → id.0 ≡ k → is_cut l.cuts id ≡ true → IsHeld (held_by l.clauses) id → is_clause_true l.values (clause_of (held_by l.clauses) id) ≡ true
