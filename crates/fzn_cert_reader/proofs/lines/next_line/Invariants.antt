use Rattle.std.proofs.Common.{◌≡◌, length}
use Rattle.std.specs.Io.KnownBytes.{Consumes}
use Rattle.fzn_cert.specs.Stream.{HasNoLineFeed}
use Rattle.fzn_cert_reader.specs.Input.{left_of}
use Rattle.fzn_cert_reader.proofs.lines.next_line.Given as goal

abbrev pub invariant-loop : goal.invariant-loop
invariant-loop g l = record {
  taken : Consumes (left_of l.initial.bytes.chunk l.initial.bytes.start l.initial.bytes.end (g.R.Read.remaining l.initial.bytes.input)) (left_of l.bytes.chunk l.bytes.start l.bytes.end (g.R.Read.remaining l.bytes.input)) l.line.items;
  inside : HasNoLineFeed l.line.items;
  count : length l.line.items ≡ l.counter;
}
