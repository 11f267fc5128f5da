-- The token is a number.
use Rattle.std.proofs.Common.{sym, rules}
use Rattle.fzn_parser.specs.GoesOn.{never}
use Rattle.fzn_parser.proofs.Onward.{is_same}
use Rattle.fzn_parser.proofs.OneTokenLaws.{token_read, token_refused}
use Rattle.fzn_parser.proofs.TokenLaws.{number_token}
use Rattle.fzn_parser.proofs.cursor.Tokens.number.Goals as goal

pub returns-in_err-token-clause-reads : goal.returns-in_err-token-clause-reads
returns-in_err-token-clause-reads c = token_refused number_token never c.in_err-token.ensures.takes c.from_residual.ensures.1

pub returns-clause-reads : goal.returns-clause-reads
returns-clause-reads c = is_same (token_read number_token never c.in_ok-token.ensures.takes) (search (rules, sym c.value.ensures))
