use Rattle.fzn_cert_line.specs.Rows.{from_letter}
use Rattle.fzn_cert_line.proofs.RowLoops.{multiples-read, multiples-not}
use Rattle.fzn_cert_line.proofs.row.read_multiples.Goals as goal

pub returns-in_default : goal.returns-in_default
returns-in_default c = multiples-not c.args.words.now (rw c.in_default.is at c.in_ok-multiples.ensures)

pub returns : goal.returns
returns c = multiples-read c.args.words.now c.in-Some.multiples (from_letter c.in-Some.next c.multiples_before_item.new.words) (rw c.in-Some.is at c.in_ok-multiples.ensures)
