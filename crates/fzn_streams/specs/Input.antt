-- What a contract sees of a reader that remembers a failed read.
use Rattle.std.specs.Prelude.{Bool}
use Rattle.fzn_streams.specs.declared.input.TrackedReader.{TrackedReader}

abbrev pub input_of : {R : Type 0} → TrackedReader R → R
input_of reader = reader.input

-- whether a read failed
abbrev pub read_failed : {R : Type 0} → TrackedReader R → Bool
read_failed reader = reader.failed
