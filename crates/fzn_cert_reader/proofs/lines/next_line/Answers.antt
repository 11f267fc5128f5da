use Rattle.std.proofs.Common.{arith}
use Rattle.fzn_cert_reader.specs.Input.{left_in}
use Rattle.fzn_cert_reader.proofs.ToldLaws.{part_more, on_err}
use Rattle.fzn_cert_reader.proofs.lines.next_line.Goals as goal

-- the byte that found no room was taken too
pub returns-in_err-push-in-Ok-Some-clause-part : goal.returns-in_err-push-in-Ok-Some-clause-part
returns-in_err-push-in-Ok-Some-clause-part g c =
    on_err c.from_residual.result
    (part_more (left_in g.R.Read.remaining c.args.bytes.now) (left_in g.R.Read.remaining c.loop.bytes) (left_in g.R.Read.remaining c.next_byte.new.self) c.loop.line.items c.in-Ok-Some.byte
    c.loop.invariant.taken c.loop.invariant.inside (rw c.in-Ok-Some.field-0-is at c.in-Ok-Some.ensures.taken) (grind (arith, c.in-Ok-Some.byte-test)))
