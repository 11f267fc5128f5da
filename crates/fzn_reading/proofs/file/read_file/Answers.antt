use Rattle.std.proofs.Common.{Err, subst}
use Rattle.fzn_lexer.specs.declared.halt.Halt.TheVariants as errors
use Rattle.fzn_reading.specs.Files.{file_model}
use Rattle.fzn_reading.specs.Reads.{Reads}
use Rattle.fzn_reading.proofs.FrontLemmas.{known_reads}
use Rattle.fzn_reading.proofs.file.read_file.Goals as goal

-- the fault of what was read is that of the file
pub returns-clause-right : goal.returns-clause-right
returns-clause-right g c =
    let read = subst (λ r. Reads c.as_slice.result.now (file_model (Err r))) c.in-Err-Fault.field-0-is c.in-Err-Fault.ensures.right in
    known_reads (g.R.Read.remaining c.args.input.now) c.in_ok-bytes.bytes.items c.as_slice.result.now (Err (errors.Fault c.in-Err-Fault.fault)) c.as_slice.ensures.value c.in_ok-bytes.ensures.bytes read
