use Rattle.std.proofs.Common.{refl, sym}
use Rattle.fzn_cert_line.proofs.RowLoops.{rows_are_read}
use Rattle.fzn_cert_line.proofs.row.read_rows.Goals as goal

pub returns-in_default : goal.returns-in_default
returns-in_default c = rw (rows_are_read c.args.words.now, sym c.in_default.ensures) refl

pub returns : goal.returns
returns c = rw (rows_are_read c.args.words.now, sym c.in-Some.ensures) refl
