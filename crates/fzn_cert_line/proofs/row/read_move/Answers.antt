use Rattle.std.proofs.Common.{refl, sym}
use Rattle.fzn_cert_line.proofs.RowLoops.{move_is_read}
use Rattle.fzn_cert_line.proofs.row.read_move.Goals as goal

pub returns-in_default : goal.returns-in_default
returns-in_default c = rw (move_is_read c.args.words.now, sym c.in_default.ensures) refl

pub returns : goal.returns
returns c = rw (move_is_read c.args.words.now, sym c.in-Some.ensures) refl
