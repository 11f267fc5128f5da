-- Positions in a file: a line counted by LF, and a column counted in bytes, both from 1.
use Rattle.std.specs.Prelude.{ℕ, ◌+◌, List, count_by, length, not, reverse}
use Rattle.std.specs.List.{take_while}
use Rattle.fzn_lexer.specs.declared.token.Position.{Position}
use Rattle.fzn_lexer.specs.Bytes.{is_lf}

-- the position of the byte behind these
abbrev pub position_after : List ℕ → Position
position_after front = record { line = count_by is_lf front + 1; column = length (take_while (λ b. not (is_lf b)) (reverse front)) + 1 }
