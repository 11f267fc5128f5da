use Rattle.fzn_printer.proofs.law.well_formed_can_be_shown.Goals as goal

pub returns : goal.returns
returns c = λ model well_formed. well_formed.shown
