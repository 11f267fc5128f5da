use Rattle.std.proofs.Common.{Err, subst}
use Rattle.fzn_lexer.specs.declared.halt.Halt.TheVariants as errors
use Rattle.fzn_items.specs.Listed.{IsListingFault}
use Rattle.fzn_sources.proofs.FrontLemmas.{known_reads}
use Rattle.fzn_items.proofs.ListedLemmas.{itemizes}
use Rattle.fzn_items.proofs.read.read_listing.Goals as goal

-- what was read is the whole file, since it has tokens
pub returns-in-Ok-clause-ok : goal.returns-in-Ok-clause-ok
returns-in-Ok-clause-ok g c =
    itemizes (g.R.Read.remaining c.args.input.now) c.in_ok-bytes.bytes.items c.as_slice.result.now c.in-Ok.listing.text.items c.in-Ok.listing.counts c.as_slice.ensures.value c.in_ok-bytes.ensures.bytes c.in-Ok.ensures.ok

-- the fault of what was read is that of the file
pub returns-clause-err : goal.returns-clause-err
returns-clause-err g c =
    let read = subst (λ r. IsListingFault c.as_slice.result.now r) c.in-Err-Fault.field-0-is c.in-Err-Fault.ensures.err in
    known_reads (g.R.Read.remaining c.args.input.now) c.in_ok-bytes.bytes.items c.as_slice.result.now (Err (errors.Fault c.in-Err-Fault.fault)) c.as_slice.ensures.value c.in_ok-bytes.ensures.bytes read
