-- Nothing, or `var`.
use Rattle.std.proofs.Common.{sym, ◌∙◌}
use Rattle.fzn_parser.proofs.OneTokenLaws.{nothing_read}
use Rattle.fzn_parser.specs.Taken.{is}
use Rattle.fzn_parser.proofs.PredicateLaws.{var_none, var_some}
use Rattle.fzn_parser.proofs.Onward.{begin, stop_last, done, is_read}
use Rattle.fzn_lexer.specs.declared.token.Symbol.TheVariants.{Var}
use Rattle.fzn_parser.proofs.predicates.optional_var.Goals as goal

pub returns-then-not-sees-clause-reads : goal.returns-then-not-sees-clause-reads
returns-then-not-sees-clause-reads c = done (begin (var_none _ (sym c.sees.ensures ∙ c.if-not-sees.true))) (is_read (nothing_read (is Var) _))

pub returns-in_err-symbol-clause-reads : goal.returns-in_err-symbol-clause-reads
returns-in_err-symbol-clause-reads c = stop_last (begin (var_some _ (sym c.sees.ensures ∙ c.if-not-sees.false))) c.in_err-symbol.ensures.reads c.from_residual.ensures.1

pub returns-clause-reads : goal.returns-clause-reads
returns-clause-reads c = done (begin (var_some _ (sym c.sees.ensures ∙ c.if-not-sees.false))) c.in_ok-symbol.ensures.reads
