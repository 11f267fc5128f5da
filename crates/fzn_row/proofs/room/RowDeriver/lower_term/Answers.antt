use Rattle.std.proofs.Common.{◌≡◌, ◌⊎◌, sym, ap, ◌∙◌, subst, IfErr, Result, Err}
use Rattle.fzn_meaning.specs.Solutions.{declared_sets}
use Rattle.fzn_cited.specs.declared.fault.DeriveFault.{DeriveFault}
use Rattle.fzn_cited.specs.declared.fault.DeriveFault.TheVariants.{Memory}
use Rattle.fzn_row.specs.Draft.{Draft}
use Rattle.fzn_row.specs.Tables.{term_lowered}
use Rattle.fzn_row.specs.Room.{draft_of}
use Rattle.fzn_row.proofs.TableLemmas.{lowered-is}
use Rattle.fzn_row.proofs.room.RowDeriver.lower_term.Goals as goal

pub returns-then-is_narrow-clause-err : goal.returns-then-is_narrow-clause-err
returns-then-is_narrow-clause-err c =
    let declared = declared_sets c.args.vars.now in
    let low = c.args.low.now in
    let prices = c.args.prices.now in
    let draft = draft_of c.args.self.now in
    let same = lowered-is declared low prices draft c.in-Variable.var c.declared_set-set.result.now c.declared_set-set.ensures (sym c.is_narrow.ensures ∙ c.if-is_narrow.true) ∙ ap (term_lowered declared low prices draft) (sym c.in-Variable.is) in
    subst (λ (r : Result Draft DeriveFault). IfErr c.list_lowered.result (λ fault. (fault ≡ Memory) ⊎ (r ≡ Err fault))) same c.list_lowered.ensures.err
