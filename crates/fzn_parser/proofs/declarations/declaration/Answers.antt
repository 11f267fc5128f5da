-- A parameter, or an array of variables.
use Rattle.std.proofs.Common.{sym, ◌∙◌}
use Rattle.fzn_parser.proofs.DeclLaws.{declared_plain, declared_sized, behind_array, behind_param}
use Rattle.fzn_parser.proofs.Onward.{begin, ◌then◌, stop, stop_last, done, inside}
use Rattle.fzn_parser.proofs.declarations.declaration.Goals as goal

pub returns-in_err-rest-clause-reads : goal.returns-in_err-rest-clause-reads
returns-in_err-rest-clause-reads c = stop_last (begin (declared_plain _ (sym c.sees.ensures ∙ c.if-not-sees.true))) c.in_err-rest.ensures.reads c.from_residual.ensures.1

pub returns-then-not-sees-clause-reads : goal.returns-then-not-sees-clause-reads
returns-then-not-sees-clause-reads c = rw c.of_size.ensures (done (begin (declared_plain _ (sym c.sees.ensures ∙ c.if-not-sees.true))) c.in_ok-rest.ensures.reads)

pub returns-in_err-size-clause-reads : goal.returns-in_err-size-clause-reads
returns-in_err-size-clause-reads c = stop (begin (declared_sized _ (sym c.sees.ensures ∙ c.if-not-sees.false))) c.in_err-size.ensures.reads c.from_residual-in_err-size.ensures.1

pub returns-in_err-rest-2-clause-reads : goal.returns-in_err-rest-2-clause-reads
returns-in_err-rest-2-clause-reads c = stop_last (inside (begin (declared_sized _ (sym c.sees.ensures ∙ c.if-not-sees.false)) then c.in_ok-size.ensures.reads) (begin (behind_array _ (sym c.sees-2.ensures ∙ c.if-sees.true)))) c.in_err-rest-2.ensures.reads c.from_residual-in_err-rest-2.ensures.1

pub returns-then-sees-clause-reads : goal.returns-then-sees-clause-reads
returns-then-sees-clause-reads c = rw c.of_size-then-sees.ensures (done (inside (begin (declared_sized _ (sym c.sees.ensures ∙ c.if-not-sees.false)) then c.in_ok-size.ensures.reads) (begin (behind_array _ (sym c.sees-2.ensures ∙ c.if-sees.true)))) c.in_ok-rest-2.ensures.reads)

pub returns-in_err-rest-3-clause-reads : goal.returns-in_err-rest-3-clause-reads
returns-in_err-rest-3-clause-reads c = stop_last (inside (begin (declared_sized _ (sym c.sees.ensures ∙ c.if-not-sees.false)) then c.in_ok-size.ensures.reads) (begin (behind_param _ (sym c.sees-2.ensures ∙ c.if-sees.false)))) c.in_err-rest-3.ensures.reads c.from_residual-in_err-rest-3.ensures.1

pub returns-clause-reads : goal.returns-clause-reads
returns-clause-reads c = rw c.of_size-2.ensures (done (inside (begin (declared_sized _ (sym c.sees.ensures ∙ c.if-not-sees.false)) then c.in_ok-size.ensures.reads) (begin (behind_param _ (sym c.sees-2.ensures ∙ c.if-sees.false)))) c.in_ok-rest-3.ensures.reads)
