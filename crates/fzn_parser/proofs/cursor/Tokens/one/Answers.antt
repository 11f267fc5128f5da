-- The token is the number 1.
use Rattle.std.proofs.Common.{Err, refl, ap, sym, ◌∙◌, arith, of_z}
use Rattle.std.proofs.Common.{w64}
use Rattle.std.proofs.lemmas.Int.{ints}
use Rattle.fzn_parser.specs.GoesOn.{never}
use Rattle.fzn_parser.proofs.Onward.{is_read, gives_refused, exit}
use Rattle.fzn_parser.proofs.TokenLaws.{one_taken, not_one, one_none}
use Rattle.fzn_parser.proofs.cursor.Tokens.one.Goals as goal

pub returns-in_err-token-clause-reads : goal.returns-in_err-token-clause-reads
returns-in_err-token-clause-reads c = exit _ _ _ c.from_residual.ensures.1 (λ e is. one_none never _ e (c.in_err-token.ensures.takes.err e (ap Err is)))

pub returns-then-value-ne1-clause-reads : goal.returns-then-value-ne1-clause-reads
returns-then-value-ne1-clause-reads c = gives_refused _ c.refuse-refused.ensures (not_one never _ _ _ (c.in_ok-token.ensures.takes.ok _ refl) (λ e. c.if-value-ne1.true (ap (of_z w64) (c.value.ensures ∙ e))))

pub returns-clause-reads : goal.returns-clause-reads
returns-clause-reads c = is_read (one_taken never _ _ _ (c.in_ok-token.ensures.takes.ok _ refl) (sym c.value.ensures ∙ omega (arith, ints)))
