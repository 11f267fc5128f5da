use Rattle.std.proofs.Common.{rules, FitsSigned, w64}
use Rattle.std.proofs.lemmas.Int.{to_z-of_z}
use Rattle.fzn_printer.proofs.item.put_entry.Goals as goal

-- the value is read again as it was
pub returns-clause-text : goal.returns-clause-text
returns-clause-text g c =
    let fits : FitsSigned w64 c.value.result = search rules in
    rw (← c.value.ensures, ← to_z-of_z w64 c.value.result fits) c.put_value.ensures.text
