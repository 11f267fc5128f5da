-- What a call leaves that makes a writer and writes its first two lines.
use Rattle.std.specs.Prelude.{◌≡◌, ℕ, Bool, true, List, Option}
use Rattle.std.specs.Io.KnownBytes.{Appends}
use Rattle.std.specs.Borrow.{MutBor}
use Rattle.fzn_cert.specs.declared.step.Version.{Version}
use Rattle.fzn_cert.specs.declared.write_fault.WriteFault.TheVariants.{Write}
use Rattle.fzn_cert.specs.declared.writer.NotBegun.{NotBegun}
use Rattle.fzn_cert.specs.declared.writer.Stage.TheVariants.{Open, Shut}
use Rattle.fzn_cert.specs.declared.writer.StepWriter.{StepWriter}
use Rattle.fzn_cert.specs.Spelling.{header_text}
use Rattle.fzn_cert.specs.Writer.{contents_of, stream_of, has_failed_in, cert_name, version_of, step_count, stage_of, Leaves, IsLineFault}

-- it is over this stream
pub record IsOverStream {W S : Type 0} (stream : W → S) (out : MutBor W) (writer : StepWriter W) : Type 0 where
  pub same_stream : stream_of stream writer ≡ stream out.now
  pub same_writer : cert_name writer ≡ out.ghost_name

-- the first two lines stand, and steps may follow
pub record IsBegun {W S : Type 0} (contents : W → Option (List ℕ)) (stream : W → S) (version : Version) (variables constraints : ℕ) (out : MutBor W) (writer : StepWriter W) : Type 0 where
  pub text : Appends (contents out.now) (contents_of contents writer) (header_text version variables constraints)
  pub is_open : stage_of writer ≡ Open
  pub version_is : version_of writer ≡ version
  pub no_steps : step_count writer ≡ 0
  pub over : IsOverStream stream out writer

-- A beginning of the first two lines stands after a failed write, and the stream remembers one then; nothing of them stands where memory
-- ran out. No more is written.
pub record IsNotBegun {W S : Type 0} (contents : W → Option (List ℕ)) (stream : W → S) (has_failed : W → Bool) (version : Version) (variables constraints : ℕ) (out : MutBor W) (failed : NotBegun W) : Type 0 where
  pub is_fault : IsLineFault failed.fault
  pub leaves : Leaves (header_text version variables constraints) (contents out.now) (contents_of contents failed.writer) failed.fault
  pub due : failed.fault ≡ Write → has_failed_in has_failed failed.writer ≡ true
  pub is_shut : stage_of failed.writer ≡ Shut
  pub over : IsOverStream stream out failed.writer
