-- What is known of a writer that its target gives at the first write.
use Rattle.std.specs.Prelude.{ℕ, List, Option, Some, None}
use Rattle.fzn_paths.specs.declared.late.LateWriter.{LateWriter}

-- what gives the writer
abbrev pub target_of : {W T : Type 0} → LateWriter W T → T
target_of writer = writer.target

-- the writer, once it was given
abbrev pub given_writer : {W T : Type 0} → LateWriter W T → Option W
given_writer writer = writer.out

-- the bytes of the writer that was given, else those that the target says it will hold
abbrev pub known_below : {W T : Type 0} → (T → Option (List ℕ)) → (W → Option (List ℕ)) → T → Option W → Option (List ℕ)
known_below held contents target None = held target
known_below held contents target (Some out) = contents out

-- the bytes that stand, where they are known
abbrev pub known_bytes : {W T : Type 0} → (T → Option (List ℕ)) → (W → Option (List ℕ)) → LateWriter W T → Option (List ℕ)
known_bytes held contents writer = known_below held contents (target_of writer) (given_writer writer)
