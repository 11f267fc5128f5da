-- The reader below, and what it has left.
use Rattle.std.specs.Prelude.{ℕ, List, Option, slice_range}
use Rattle.std.specs.Io.KnownBytes.{prepend_known}
use Rattle.fzn_cert_reader.specs.declared.input.Bytes.{Bytes}

-- the bytes of the chunk that are held, and then those that reads will give
abbrev pub left_of : List ℕ → ℕ → ℕ → Option (List ℕ) → Option (List ℕ)
left_of chunk start end remaining = prepend_known (slice_range chunk start end) remaining

abbrev pub left_in : {R : Type 0} → (R → Option (List ℕ)) → Bytes R → Option (List ℕ)
left_in remaining bytes = left_of bytes.chunk bytes.start bytes.end (remaining bytes.input)

-- the reader below
abbrev pub reader_in : {R : Type 0} → Bytes R → R
reader_in bytes = bytes.input
