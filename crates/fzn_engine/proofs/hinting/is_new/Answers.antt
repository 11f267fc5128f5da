-- A solution has a value for each variable.
use Rattle.std.proofs.Common.{◌≡◌, ℕ, length, sym, subst, ◌∙◌, rules}
use Rattle.std.proofs.lemmas.List.{length-map}
use Rattle.fzn_domain.specs.Narrow.{IsClauseOver}
use Rattle.fzn_meaning.specs.Solutions.{IsSolution}
use Rattle.fzn_clauses.specs.Held.{AllHeld}
use Rattle.fzn_clauses.specs.Watching.{held_by}
use Rattle.fzn_engine.proofs.hinting.is_new.Goals as goal

pub are_cuts_true-requires : goal.are_cuts_true-requires
are_cuts_true-requires c =
    let solution : IsSolution c.args.model.now c.args.values.now = search rules in
    let sizes : length c.args.values.now ≡ length c.args.model.now.vars = solution.0.one_each ∙ length-map c.args.model.now.vars (λ var. var.domain) in
    let O : ℕ → Type 0 = λ n. AllHeld (IsClauseOver n) (held_by c.args.solver.now.clauses) in
    subst O (sym sizes) c.requires.over
