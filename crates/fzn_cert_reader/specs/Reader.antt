-- What a contract sees of a certificate's reader, and what one call of it does.
use Rattle.std.specs.Prelude.{◌≡◌, ◌+◌, ℕ, Bool, List, [], ◌++◌, length, Option, Some, None}
use Rattle.std.specs.List.{flat_map}
use Rattle.std.specs.Io.KnownBytes.{Consumes, IsAtEnd}
use Rattle.fzn_cert.specs.declared.fault.CertFault.{CertFault}
use Rattle.fzn_cert.specs.declared.fault.FaultKind.TheVariants.{Trailing}
use Rattle.fzn_cert.specs.declared.header.Header.{Header}
use Rattle.fzn_cert.specs.declared.step.Step.{Step}
use Rattle.fzn_cert_reader.specs.declared.stream.StepReader.{StepReader}
use Rattle.fzn_cert.specs.Spelling.{step_line, end_line, header_lines, HasLine}
use Rattle.fzn_cert_reader.specs.Input.{left_in}
use Rattle.fzn_cert_reader.specs.Told.{TakesNoHeader, TakesEnd}
use Rattle.fzn_cert.specs.Stream.{IsFaultOf, IsHeaderFault, IsTrailedBy, After, line_of_fault}

-- how far a certificate was read
pub record Progress : Type 0 where
  -- the bytes that are still to be read, where they are known
  pub left : Option (List ℕ)
  -- what the first two lines say, once they were read
  pub header : Option Header
  -- how many steps were read
  pub steps : ℕ
  -- what the last line says, once it was read
  pub closing : Option Bool
  -- the line of the fault, after one
  pub fault_line : Option ℕ

abbrev pub progress : {R : Type 0} → (R → Option (List ℕ)) → StepReader R → Progress
progress remaining reader = record {
  left = left_in remaining reader.lines.bytes;
  header = reader.header;
  steps = reader.lines.steps;
  closing = reader.lines.closed;
  fault_line = reader.fault_line;
}

-- the reader below
abbrev pub reader_below : {R : Type 0} → StepReader R → R
reader_below reader = reader.lines.bytes.input

-- before anything was read
abbrev pub IsAtStart : Option (List ℕ) → Progress → Type 0
IsAtStart left now = (now.left ≡ left) × (now.header ≡ None) × (now.steps ≡ 0) × (now.closing ≡ None) × (now.fault_line ≡ None)

-- there was no fault, and the last line is still to be read
abbrev pub MayGoOn : Progress → Type 0
MayGoOn now = (now.closing ≡ None) × (now.fault_line ≡ None)

-- the last line was read, and nothing follows it
abbrev pub HasEnded : Progress → Type 0
HasEnded now = ((closed : Bool) × (now.closing ≡ Some closed)) × (now.fault_line ≡ None)

-- the first two lines, where this call read them
abbrev pub lines_read : Option Header → Option Header → List ℕ
lines_read None (Some header) = header_lines header
lines_read _ _ = []

-- the call took the line of the step that it gives
pub record GivesStep (old new : Progress) (step : Step) : Type 0 where
  pub header : Header
  pub told : new.header ≡ Some header
  pub has_line : HasLine header.version old.steps step
  pub taken : Consumes old.left new.left (lines_read old.header new.header ++ step_line step)
  pub counted : new.steps ≡ old.steps + 1
  pub goes_on : MayGoOn new

-- the call took the last line, and nothing follows it
pub record Ends (old new : Progress) : Type 0 where
  pub header : Header
  pub told : new.header ≡ Some header
  pub closed : Bool
  pub closing : new.closing ≡ Some closed
  pub taken : Consumes old.left new.left (lines_read old.header new.header ++ end_line closed)
  pub at_end : IsAtEnd new.left
  pub same_steps : new.steps ≡ old.steps
  pub no_fault : new.fault_line ≡ None

-- the fault of the first line that is still to be read and has one, where this call read the first two lines or not; a byte after the
-- last line is told with what that line says
abbrev pub IsNextFault : Progress → Option Header → Option Bool → CertFault → Type 0
IsNextFault old None closing fault = IsHeaderFault old.left fault
IsNextFault old (Some header) closing fault =
    (fault.line ≡ line_of_fault fault.kind old.steps)
    × After old.left (lines_read old.header (Some header)) (λ rest. IsFaultOf header.version old.steps rest fault.kind × (fault.kind ≡ Trailing → IsTrailedBy rest closing))

-- the call found this fault
pub record FindsFault (old new : Progress) (fault : CertFault) : Type 0 where
  pub is_next : IsNextFault old new.header new.closing fault
  pub same_steps : new.steps ≡ old.steps
  pub line : new.fault_line ≡ Some fault.line

-- The lines of which this is told are those that the call took: the first two, where they weren't read before, and the last line behind them.
abbrev pub TakesTold : Progress → Option Header → Option Bool → Option (List ℕ) → Type 0
TakesTold old None closing left = TakesNoHeader old.left left × (closing ≡ None)
TakesTold old (Some header) closing left = After old.left (lines_read old.header (Some header)) (λ rest. TakesEnd rest left closing)

-- after the call the first two lines and the last one are told exactly where they were read
abbrev pub Tells : Progress → Progress → Type 0
Tells old new = TakesTold old new.header new.closing new.left

-- ---- a whole certificate

-- the first two lines, once they were read, and the lines of these steps
abbrev pub text_of : Option Header → List Step → List ℕ
text_of None steps = []
text_of (Some header) steps = header_lines header ++ flat_map step_line steps

-- the first two lines, the lines of these steps, and the last line
abbrev pub certificate_text : Header → List Step → Bool → List ℕ
certificate_text header steps closed = (header_lines header ++ flat_map step_line steps) ++ end_line closed

-- of these bytes, the first two lines and the lines of these steps were read
pub record HasRead (bytes : Option (List ℕ)) (now : Progress) (steps : List Step) : Type 0 where
  pub taken : Consumes bytes now.left (text_of now.header steps)
  pub counted : now.steps ≡ length steps
  pub none_before : now.header ≡ None → steps ≡ []
