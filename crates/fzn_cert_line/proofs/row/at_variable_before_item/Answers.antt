use Rattle.std.proofs.Common.{refl, sym}
use Rattle.fzn_cert.specs.Derivations.{only_variable_of}
use Rattle.fzn_cert_line.proofs.RowLoops.{behind_is_read}
use Rattle.fzn_cert_line.proofs.row.at_variable_before_item.Goals as goal

pub returns-in_default : goal.returns-in_default
returns-in_default c = rw (behind_is_read only_variable_of c.args.words.now, sym c.in_default.ensures.number) refl

pub returns-in_default-variable_before_item : goal.returns-in_default-variable_before_item
returns-in_default-variable_before_item c =
    rw (behind_is_read only_variable_of c.args.words.now, sym c.in-Some.ensures.number, sym c.in-Some.ensures.rest, sym c.in_default-variable_before_item.ensures) refl

pub returns : goal.returns
returns c = rw (behind_is_read only_variable_of c.args.words.now, sym c.in-Some.ensures.number, sym c.in-Some.ensures.rest, sym c.in-Some-variable_before_item.ensures) refl
