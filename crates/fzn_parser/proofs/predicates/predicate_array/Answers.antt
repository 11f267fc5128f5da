-- Nothing, or an array with its index set.
use Rattle.std.proofs.Common.{sym, ◌∙◌}
use Rattle.fzn_parser.proofs.OneTokenLaws.{nothing_read}
use Rattle.fzn_parser.specs.Taken.{is}
use Rattle.fzn_parser.proofs.PredicateLaws.{array_none, array_some}
use Rattle.fzn_parser.proofs.Onward.{begin, ◌then◌, stop, stop_last, done, is_read}
use Rattle.fzn_lexer.specs.declared.token.Symbol.TheVariants.{Array}
use Rattle.fzn_parser.proofs.predicates.predicate_array.Goals as goal

pub returns-then-not-sees-clause-reads : goal.returns-then-not-sees-clause-reads
returns-then-not-sees-clause-reads c = done (begin (array_none _ (sym c.sees.ensures ∙ c.if-not-sees.true))) (is_read (nothing_read (is Array) _))

pub returns-in_err-symbol-clause-reads : goal.returns-in_err-symbol-clause-reads
returns-in_err-symbol-clause-reads c = stop (begin (array_some _ (sym c.sees.ensures ∙ c.if-not-sees.false))) c.in_err-symbol.ensures.reads c.from_residual.ensures.1

pub returns-in_err-symbol-2-clause-reads : goal.returns-in_err-symbol-2-clause-reads
returns-in_err-symbol-2-clause-reads c = stop (begin (array_some _ (sym c.sees.ensures ∙ c.if-not-sees.false)) then c.in_ok-symbol.ensures.reads) c.in_err-symbol-2.ensures.reads c.from_residual-in_err-symbol-2.ensures.1

pub returns-in_err-indices-clause-reads : goal.returns-in_err-indices-clause-reads
returns-in_err-indices-clause-reads c = stop (begin (array_some _ (sym c.sees.ensures ∙ c.if-not-sees.false)) then c.in_ok-symbol.ensures.reads then c.in_ok-symbol-2.ensures.reads) c.in_err-indices.ensures.reads c.from_residual-in_err-indices.ensures.1

pub returns-in_err-symbol-3-clause-reads : goal.returns-in_err-symbol-3-clause-reads
returns-in_err-symbol-3-clause-reads c = stop (begin (array_some _ (sym c.sees.ensures ∙ c.if-not-sees.false)) then c.in_ok-symbol.ensures.reads then c.in_ok-symbol-2.ensures.reads then c.in_ok-indices.ensures.reads) c.in_err-symbol-3.ensures.reads c.from_residual-in_err-symbol-3.ensures.1

pub returns-in_err-symbol-4-clause-reads : goal.returns-in_err-symbol-4-clause-reads
returns-in_err-symbol-4-clause-reads c = stop_last (begin (array_some _ (sym c.sees.ensures ∙ c.if-not-sees.false)) then c.in_ok-symbol.ensures.reads then c.in_ok-symbol-2.ensures.reads then c.in_ok-indices.ensures.reads then c.in_ok-symbol-3.ensures.reads) c.in_err-symbol-4.ensures.reads c.from_residual-in_err-symbol-4.ensures.1

pub returns-clause-reads : goal.returns-clause-reads
returns-clause-reads c = done (begin (array_some _ (sym c.sees.ensures ∙ c.if-not-sees.false)) then c.in_ok-symbol.ensures.reads then c.in_ok-symbol-2.ensures.reads then c.in_ok-indices.ensures.reads then c.in_ok-symbol-3.ensures.reads) c.in_ok-symbol-4.ensures.reads
