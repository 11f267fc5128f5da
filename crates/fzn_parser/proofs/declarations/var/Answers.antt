-- An array of variables, or a single one within the limit.
use Rattle.std.proofs.Common.{sym, ◌∙◌}
use Rattle.fzn_parser.specs.GoesOn.{never}
use Rattle.fzn_parser.proofs.FormLaws.{within_limit, over_limit}
use Rattle.fzn_parser.proofs.VarLaws.{single_told, var_array, var_single}
use Rattle.fzn_parser.proofs.Onward.{begin, ◌then◌, stop, stop_last, done, gives_refused}
use Rattle.std.proofs.lemmas.Bool.{lt-ltb, le-ltb}
use Rattle.fzn_parser.proofs.declarations.var.Goals as goal

pub returns-in_err-size-clause-reads : goal.returns-in_err-size-clause-reads
returns-in_err-size-clause-reads c = stop (begin (var_array c.args.singles _ (sym c.sees.ensures ∙ c.if-sees.true))) c.in_err-size.ensures.reads c.from_residual.ensures.1

pub returns-in_err-rest-clause-reads : goal.returns-in_err-rest-clause-reads
returns-in_err-rest-clause-reads c = stop_last (begin (var_array c.args.singles _ (sym c.sees.ensures ∙ c.if-sees.true)) then c.in_ok-size.ensures.reads) c.in_err-rest.ensures.reads c.from_residual-in_err-rest.ensures.1

pub returns-then-sees-clause-reads : goal.returns-then-sees-clause-reads
returns-then-sees-clause-reads c = rw c.of_size.ensures (done (begin (var_array c.args.singles _ (sym c.sees.ensures ∙ c.if-sees.true)) then c.in_ok-size.ensures.reads) c.in_ok-rest.ensures.reads)

pub returns-then-singles-ge-LONGEST-clause-reads : goal.returns-then-singles-ge-LONGEST-clause-reads
returns-then-singles-ge-LONGEST-clause-reads c = gives_refused _ c.refuse_more.ensures ((begin (var_single c.args.singles _ (sym c.sees.ensures ∙ c.if-sees.false))).refused _ (over_limit single_told never _ _ (le-ltb _ _ c.if-singles-ge-LONGEST.true)))

pub returns-in_err-single_var-clause-reads : goal.returns-in_err-single_var-clause-reads
returns-in_err-single_var-clause-reads c = stop_last (begin (var_single c.args.singles _ (sym c.sees.ensures ∙ c.if-sees.false))) (within_limit _ (lt-ltb _ _ c.if-singles-ge-LONGEST.false) c.in_err-single_var.ensures.reads) c.from_residual-in_err-single_var.ensures.1

pub returns-clause-reads : goal.returns-clause-reads
returns-clause-reads c = done (begin (var_single c.args.singles _ (sym c.sees.ensures ∙ c.if-sees.false))) (within_limit _ (lt-ltb _ _ c.if-singles-ge-LONGEST.false) c.in_ok-single_var.ensures.reads)
