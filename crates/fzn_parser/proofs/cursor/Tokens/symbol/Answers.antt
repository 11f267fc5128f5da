-- The token is this symbol.
use Rattle.fzn_parser.specs.GoesOn.{never}
use Rattle.fzn_parser.proofs.OneTokenLaws.{token_read, token_refused}
use Rattle.fzn_parser.proofs.TokenLaws.{symbol_token}
use Rattle.fzn_parser.proofs.cursor.Tokens.symbol.Goals as goal

pub returns-in_err-take_if-clause-reads : goal.returns-in_err-take_if-clause-reads
returns-in_err-take_if-clause-reads c = token_refused (symbol_token c.args.symbol c.requires.not_end) never c.in_err-take_if.ensures.takes c.from_residual.ensures.1

pub returns-clause-reads : goal.returns-clause-reads
returns-clause-reads c = token_read (symbol_token c.args.symbol c.requires.not_end) never c.in_ok-take_if.ensures.takes
