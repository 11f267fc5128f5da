-- The token is this symbol.
use Rattle.std.proofs.Common.{ap, sym}
use Rattle.fzn_lexer.specs.declared.token.Kind.{Kind}
use Rattle.fzn_lexer.specs.declared.token.Position.{Position}
use Rattle.fzn_parser.specs.GoesOn.{never}
use Rattle.fzn_parser.proofs.Onward.{is_same}
use Rattle.fzn_parser.proofs.OneTokenLaws.{token_read, token_refused}
use Rattle.fzn_parser.proofs.TokenLaws.{position_token}
use Rattle.fzn_parser.proofs.cursor.Tokens.symbol_position.Goals as goal

pub returns-in_err-token-clause-reads : goal.returns-in_err-token-clause-reads
returns-in_err-token-clause-reads c = token_refused (position_token c.args.symbol c.requires.not_end) never c.in_err-token.ensures.takes c.from_residual.ensures.1

pub returns-clause-reads : goal.returns-clause-reads
returns-clause-reads c = is_same (token_read (position_token c.args.symbol c.requires.not_end) never c.in_ok-token.ensures.takes) (ap (λ (p : Kind × Position). p.1) (sym c.token.view_is))
