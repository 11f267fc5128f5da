-- The token is a number.
use Rattle.std.proofs.Common.{ap, sym, rules}
use Rattle.fzn_lexer.specs.declared.token.Kind.{Kind}
use Rattle.fzn_lexer.specs.declared.token.Position.{Position}
use Rattle.fzn_parser.specs.GoesOn.{never}
use Rattle.fzn_parser.proofs.Onward.{is_same}
use Rattle.fzn_parser.proofs.OneTokenLaws.{token_read, token_refused}
use Rattle.fzn_parser.proofs.TokenLaws.{int_token, same_int}
use Rattle.fzn_parser.proofs.cursor.Tokens.int.Goals as goal

pub returns-in_err-token-clause-reads : goal.returns-in_err-token-clause-reads
returns-in_err-token-clause-reads c = token_refused int_token never c.in_err-token.ensures.takes c.from_residual.ensures.1

pub returns-clause-reads : goal.returns-clause-reads
returns-clause-reads c = is_same (token_read int_token never c.in_ok-token.ensures.takes) (same_int _ _ _ _ (search (rules, sym c.value.ensures)) (ap (λ (p : Kind × Position). p.1) (sym c.token.view_is)))
