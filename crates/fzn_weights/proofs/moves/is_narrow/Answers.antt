use Rattle.std.proofs.Common.{sym, ap, ◌∙◌, ℕ, nat_le}
use Rattle.std.proofs.lemmas.Bool.{true≢false}
use Rattle.fzn_weights.proofs.MoveLemmas.{narrow-test}
use Rattle.fzn_weights.proofs.moves.is_narrow.Goals as goal

pub returns-then-not-is_empty : goal.returns-then-not-is_empty
returns-then-not-is_empty c =
    ap (λ (n : ℕ). nat_le n 65536) c.span.ensures.value ∙ sym (narrow-test c.args.set.now c.is_empty.ensures.limited (λ none. true≢false (sym (c.is_empty.ensures.empty.1 none) ∙ c.if-not-is_empty.true)))
