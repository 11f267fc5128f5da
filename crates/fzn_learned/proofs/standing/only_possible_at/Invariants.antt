use Rattle.std.proofs.Common.{◌≡◌, [], ◌∷◌, take}
use Rattle.std.specs.Prelude.{MatchOption}
use Rattle.fzn_domain.specs.declared.literal.Lit.{Lit}
use Rattle.fzn_domain.specs.Narrow.{possible_in}
use Rattle.fzn_trail.specs.Replay.{replayed}
use Rattle.fzn_learned.proofs.standing.only_possible_at.Given as goal

abbrev pub invariant-loop-lit : goal.invariant-loop-lit
invariant-loop-lit l =
    MatchOption l.found
    (possible_in (replayed l.trail.declared (take l.count l.trail.entries)) (take l.lit-index l.clause) ≡ [])
    (λ (lit : Lit). possible_in (replayed l.trail.declared (take l.count l.trail.entries)) (take l.lit-index l.clause) ≡ lit ∷ [])
