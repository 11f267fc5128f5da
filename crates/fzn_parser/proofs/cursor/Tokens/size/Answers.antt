-- The token is a number.
use Rattle.std.proofs.Common.{Err, refl, ap, sym, rules, to_z, of_z, w64}
use Rattle.fzn_parser.specs.GoesOn.{never}
use Rattle.fzn_parser.proofs.Onward.{is_read, gives_refused, exit}
use Rattle.fzn_parser.proofs.TokenLaws.{size_small, size_large, size_negative, size_none}
use Rattle.fzn_parser.proofs.cursor.Tokens.size.Goals as goal

pub returns-in_err-token-clause-reads : goal.returns-in_err-token-clause-reads
returns-in_err-token-clause-reads c = exit _ _ _ c.from_residual.ensures.1 (λ e is. size_none never _ e (c.in_err-token.ensures.takes.err e (ap Err is)))

pub returns-then-value-lt0-clause-reads : goal.returns-then-value-lt0-clause-reads
returns-then-value-lt0-clause-reads c = gives_refused _ c.refuse-refused.ensures (size_negative never _ _ _ (c.in_ok-token.ensures.takes.ok _ refl) (to_z w64 (of_z w64 c.value-value.result)) (search (rules, sym c.value-value.ensures)) c.if-value-lt0.true)

pub returns-then-size-gt-LONGEST-clause-reads : goal.returns-then-size-gt-LONGEST-clause-reads
returns-then-size-gt-LONGEST-clause-reads c = gives_refused _ c.refuse-too_many.ensures (size_large never _ _ _ (c.in_ok-token.ensures.takes.ok _ refl) (to_z w64 (of_z w64 c.value-value.result)) (search (rules, sym c.value-value.ensures)) c.if-value-lt0.false c.if-size-gt-LONGEST.true)

pub returns-clause-reads : goal.returns-clause-reads
returns-clause-reads c = is_read (size_small never _ _ _ (c.in_ok-token.ensures.takes.ok _ refl) (to_z w64 (of_z w64 c.value-value.result)) (search (rules, sym c.value-value.ensures)) c.if-value-lt0.false c.if-size-gt-LONGEST.false)
