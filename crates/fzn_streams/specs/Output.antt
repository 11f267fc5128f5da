-- What stands on a writer, and whether a call on it failed.
use Rattle.std.specs.Prelude.{◌≡◌, ℕ, ◌≤◌, Bool, true, List, length, take, Option, Result, MatchResult, OnErr}
use Rattle.std.specs.Borrow.{GName}
use Rattle.std.specs.Io.KnownBytes.{Appends}
use Rattle.fzn_streams.specs.declared.output.TrackedWriter.{TrackedWriter}

-- known bytes grow by a beginning of the text
abbrev pub AppendsFront : Option (List ℕ) → Option (List ℕ) → List ℕ → Type 0
AppendsFront old new text = (count : ℕ) × (count ≤ length text) × Appends old new (take count text)

-- the text stands behind the known bytes, or after an error a beginning of it
abbrev pub Puts : {A E : Type 0} → Option (List ℕ) → Option (List ℕ) → Result A E → List ℕ → Type 0
Puts old new result text = MatchResult result (λ _. Appends old new text) (λ _. AppendsFront old new text)

-- it is the same stream, and after an error a call on it has failed
abbrev pub IsStreamDue : {W S A E : Type 0} → (W → S) → (W → Bool) → W → W → Result A E → Type 0
IsStreamDue stream has_failed old new result = (stream new ≡ stream old) × OnErr result (has_failed new ≡ true)

-- ---- a writer that remembers a failed call

-- the writer below
abbrev pub out_of : {W : Type 0} → TrackedWriter W → W
out_of writer = writer.out.now

-- by this name a caller knows the writer below
abbrev pub name_below : {W : Type 0} → TrackedWriter W → GName
name_below writer = writer.out.ghost_name

-- whether a write or a flush failed
abbrev pub write_failed : {W : Type 0} → TrackedWriter W → Bool
write_failed writer = writer.failed
