use Rattle.std.proofs.Common.{ℕ, min, refl, ap, ◌∙◌}
use Rattle.std.proofs.lemmas.Bool.{OnFalse_at}
use Rattle.fzn_clauses.specs.Rooted.{AreVisited}
use Rattle.fzn_clauses.proofs.StartLemmas.{IsRewound-noted, IsRewound-visited}
use Rattle.fzn_clauses.proofs.clauses.Clauses.note_early.Goals as goal

pub returns-then-not-is_early-clause-rewound : goal.returns-then-not-is_early-clause-rewound
returns-then-not-is_early-clause-rewound c =
    IsRewound-visited c.args.self.now c.args.self.now c.args.trail.now refl refl refl refl c.requires.watching c.requires.start refl
    (OnFalse_at {P = AreVisited c.args.trail.now} c.if-not-is_early.true c.is_early.ensures)

pub returns-clause-rewound : goal.returns-clause-rewound
returns-clause-rewound c =
    IsRewound-noted c.args.self.now _ c.args.trail.now refl refl refl refl c.requires.watching c.requires.start
    c.len.ensures.value (c.min.ensures ∙ ap (λ (n : ℕ). min c.args.self.now.early.from n) c.seen.ensures.value)
