use Rattle.std.proofs.Common.{arith, ◌++◌}
use Rattle.std.specs.Prelude.{codes, pos}
use Rattle.fzn_values.specs.declared.term.Term.TheVariants.{Constant}
use Rattle.fzn_printer.specs.Shown.{entry_text}
use Rattle.fzn_streams.proofs.CallerLemmas.{Appends-then, front-left, front-then, front-each, front-each-at, Puts-last, Puts-stopped}
use Rattle.fzn_printer.proofs.item.put_further.Goals as goal

pub returns-in_err-put_after_comma-clause-text : goal.returns-in_err-put_after_comma-clause-text
returns-in_err-put_after_comma-clause-text g c = Puts-stopped _ _ _ _ c.from_residual.ensures.0
    (front-each (λ entry. codes ", " ++ entry_text c.args.kind c.args.values.now entry) _ _ _ c.args.entries.now c.loop-entry.entry-index (Constant (pos 0)) (omega arith) c.loop-entry.invariant.text c.in_err-put_after_comma.ensures.text)
