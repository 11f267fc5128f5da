use Rattle.std.proofs.Common.{length, refl, ◌∙◌}
use Rattle.fzn_cert_reader.specs.Reader.{progress}
use Rattle.fzn_checker.specs.FileFaults.{fault_from}
use Rattle.fzn_checker.proofs.CallerLemmas.{error-is, lines-two}
use Rattle.fzn_core.specs.declared.listing.Listed.{Listed}
use Rattle.fzn_core.specs.Listing.{core_text, IsListFault}
use Rattle.fzn_core.proofs.ListingLemmas.{derived-among, lists-seen, certificate-fault, model-fault}
use Rattle.fzn_core.proofs.listing.core_tracked.Goals as goal

pub returns-in_err-located-clause-err : goal.returns-in_err-located-clause-err
returns-in_err-located-clause-err g c =
    let file = g.R.Read.remaining c.args.file.now in
    let cert = (progress g.C.Read.remaining c.args.cert.now).left in
    let before = g.W.Write.contents c.args.out.now in
    error-is c.from_residual.result (fault_from c.in_err-located.field-0.0) (IsListFault file cert before before) c.from_residual.ensures.1
    (model-fault file cert before c.in_err-located.field-0.0 c.in_err-located.ensures.right)

pub returns-in_err-held-clause-err : goal.returns-in_err-held-clause-err
returns-in_err-held-clause-err g c =
    let file = g.R.Read.remaining c.args.file.now in
    let cert = (progress g.C.Read.remaining c.args.cert.now).left in
    let before = g.W.Write.contents c.args.out.now in
    error-is c.from_residual-in_err-held.result c.in_err-held.field-0.0 (IsListFault file cert before before) c.from_residual-in_err-held.ensures.1
    (certificate-fault file cert c.in_ok-located.located.model c.hold_certificate.new.model c.in_ok-located.ensures.right before c.in_err-held.field-0.0 c.in_err-held.ensures.err)

pub core_numbers-requires-clause-derived : goal.core_numbers-requires-clause-derived
core_numbers-requires-clause-derived g c = derived-among c.in_ok-located.located.model c.hold_certificate.new.model (progress g.C.Read.remaining c.args.cert.now).left c.in_ok-held.held c.in_ok-held.ensures.ok

pub core_numbers-requires-clause-lines : goal.core_numbers-requires-clause-lines
core_numbers-requires-clause-lines g c =
    let held = c.in_ok-held.ensures.ok in
    lines-two held.version 0 c.in_ok-held.held.steps held.certificate.spelled

pub returns-in-Ok-clause-ok : goal.returns-in-Ok-clause-ok
returns-in-Ok-clause-ok g c =
    let located = c.in_ok-located.located in
    let held = c.in_ok-held.held in
    let numbers = c.in_ok-numbers.numbers in
    let answer : Listed = record { listed = c.len.result; constraints = c.len-constraints.result; closed = held.closed } in (
      core_text c.as_slice.result.now c.as_slice-2.result.now c.as_slice-3.result.now held.closed,
      lists-seen (g.R.Read.remaining c.args.file.now) (progress g.C.Read.remaining c.args.cert.now).left located.model c.hold_certificate.new.model c.in_ok-located.ensures.right
          located.bytes.items c.as_slice.result.now located.sources.items c.as_slice-2.result.now held numbers.items c.as_slice-3.result.now answer
          c.as_slice.ensures.value c.as_slice-2.ensures.value c.as_slice-3.ensures.value
          c.in_ok-located.ensures.well_formed c.in_ok-held.ensures.formed c.in_ok-located.ensures.bytes c.in_ok-located.ensures.sources c.in_ok-held.ensures.ok (c.in_ok-numbers.ensures located.model c.in_ok-located.ensures.well_formed c.in_ok-held.ensures.ok.derives.extends) refl
          (c.len.ensures ∙ numbers.ok.0) c.len-constraints.ensures,
      c.in-Ok.ensures.text,
    )

pub returns-clause-err : goal.returns-clause-err
returns-clause-err g c =
    let located = c.in_ok-located.located in
    let held = c.in_ok-held.held in
    let numbers = c.in_ok-numbers.numbers in
    let answer : Listed = record { listed = length numbers.items; constraints = length located.model.constraints; closed = held.closed } in (
      answer,
      core_text c.as_slice.result.now c.as_slice-2.result.now c.as_slice-3.result.now held.closed,
      lists-seen (g.R.Read.remaining c.args.file.now) (progress g.C.Read.remaining c.args.cert.now).left located.model c.hold_certificate.new.model c.in_ok-located.ensures.right
          located.bytes.items c.as_slice.result.now located.sources.items c.as_slice-2.result.now held numbers.items c.as_slice-3.result.now answer
          c.as_slice.ensures.value c.as_slice-2.ensures.value c.as_slice-3.ensures.value
          c.in_ok-located.ensures.well_formed c.in_ok-held.ensures.formed c.in_ok-located.ensures.bytes c.in_ok-located.ensures.sources c.in_ok-held.ensures.ok (c.in_ok-numbers.ensures located.model c.in_ok-located.ensures.well_formed c.in_ok-held.ensures.ok.derives.extends) refl refl refl,
      c.in-Err.ensures.text,
    )
