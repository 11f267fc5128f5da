use Rattle.std.proofs.Common.{◌≡◌, ℕ, min, refl, sym, ap, ◌∙◌, subst, arith}
use Rattle.fzn_clauses.specs.Watching.{IsWatching}
use Rattle.fzn_clauses.proofs.StartLemmas.{IsWatching-moved}
use Rattle.fzn_clauses.proofs.clauses.Clauses.rewind.Goals as goal

pub returns-then-mark-self-clause-watching : goal.returns-then-mark-self-clause-watching
returns-then-mark-self-clause-watching c =
    let trail = c.args.trail.now in
    let old = c.args.self.now in
    let to : c.min.result ≡ min trail.mark old.early.from = c.min.ensures ∙ ap (λ (n : ℕ). min n old.early.from) c.seen-mark.ensures.value in
    subst (IsWatching _) (sym (c.see.ensures ∙ ap (λ (n : ℕ). record trail { mark = n }) to))
    (IsWatching-moved old _ trail refl refl refl refl c.requires refl (omega (arith, c.if-mark-self.true, c.seen-mark.ensures.value)))
