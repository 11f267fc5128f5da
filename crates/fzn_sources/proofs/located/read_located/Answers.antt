use Rattle.std.proofs.Common.{Ok, Err, List, ℕ, subst}
use Rattle.fzn_lexer.specs.declared.halt.Halt.TheVariants as errors
use Rattle.fzn_reading.specs.Reads.{Reads}
use Rattle.fzn_sources.specs.Files.{model_stated}
use Rattle.fzn_sources.specs.Items.{AreSources}
use Rattle.fzn_sources.proofs.FrontLemmas.{known_reads, known_whole}
use Rattle.fzn_sources.proofs.located.read_located.Goals as goal

-- what was read is the whole file, since it has a model
pub returns-in-Ok-clause-right : goal.returns-in-Ok-clause-right
returns-in-Ok-clause-right g c =
    known_reads (g.R.Read.remaining c.args.input.now) c.in_ok-bytes.bytes.items c.as_slice.result.now (Ok c.in-Ok.file.model) c.as_slice.ensures.value c.in_ok-bytes.ensures.bytes c.in-Ok.ensures.right

pub returns-in-Ok-clause-bytes : goal.returns-in-Ok-clause-bytes
returns-in-Ok-clause-bytes g c =
    known_whole (g.R.Read.remaining c.args.input.now) c.in_ok-bytes.bytes.items c.as_slice.result.now c.in-Ok.file.model c.as_slice.ensures.value c.in_ok-bytes.ensures.bytes c.in-Ok.ensures.right

pub returns-in-Ok-clause-reads : goal.returns-in-Ok-clause-reads
returns-in-Ok-clause-reads g c = subst (λ (bytes : List ℕ). Reads bytes (Ok c.in-Ok.file.model)) c.as_slice.ensures.value c.in-Ok.ensures.right

pub returns-in-Ok-clause-sources : goal.returns-in-Ok-clause-sources
returns-in-Ok-clause-sources g c =
    subst (λ (bytes : List ℕ). AreSources bytes c.in-Ok.file.model.constraints c.in-Ok.file.sources.items) c.as_slice.ensures.value c.in-Ok.ensures.sources

-- the fault of what was read is that of the file
pub returns-clause-right : goal.returns-clause-right
returns-clause-right g c =
    let read = subst (λ r. Reads c.as_slice.result.now (model_stated (Err r))) c.in-Err-Fault.field-0-is c.in-Err-Fault.ensures.right in
    known_reads (g.R.Read.remaining c.args.input.now) c.in_ok-bytes.bytes.items c.as_slice.result.now (Err (errors.Fault c.in-Err-Fault.fault)) c.as_slice.ensures.value c.in_ok-bytes.ensures.bytes read
