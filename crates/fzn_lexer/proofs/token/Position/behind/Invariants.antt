use Rattle.std.proofs.Common.{◌+◌, ◌≤◌, take}
use Rattle.fzn_lexer.specs.Steps.{Moves}
use Rattle.fzn_lexer.proofs.token.Position.behind.Given as goal

abbrev pub invariant-loop-byte : goal.invariant-loop-byte
invariant-loop-byte l = record {
  line : l.position.line ≤ l.fn.self.line + l.byte-index;
  column : l.position.column ≤ l.fn.self.column + l.byte-index;
  moved : Moves l.fn.self (take l.byte-index l.bytes) l.position;
}
