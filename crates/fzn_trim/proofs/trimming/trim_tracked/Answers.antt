use Rattle.std.proofs.Common.{ℕ, List, ◌++◌, Ok, length, refl, sym, subst, arith}
use Rattle.fzn_reading.specs.Reads.{Reads}
use Rattle.fzn_cert_reader.specs.Reader.{progress}
use Rattle.fzn_head.proofs.CallerLemmas.{one_for_each}
use Rattle.fzn_checker.specs.FileFaults.{fault_from}
use Rattle.fzn_checker.specs.Held.{lines_to_end}
use Rattle.fzn_checker.proofs.CallerLemmas.{error-is, lines-two}
use Rattle.fzn_core.specs.Kept.{kept_steps}
use Rattle.fzn_trim.specs.declared.trimming.Trimmed.{Trimmed}
use Rattle.fzn_trim.specs.Behind.{kept_front, IsTrimBehind}
use Rattle.fzn_trim.specs.Trimmed.{IsTrimFault}
use Rattle.fzn_trim.proofs.TrimLemmas.{trims-of, certificate-fault, write-fault, model-fault}
use Rattle.fzn_trim.proofs.trimming.trim_tracked.Goals as goal

pub returns-in_err-located-clause-err : goal.returns-in_err-located-clause-err
returns-in_err-located-clause-err g c =
    let file = g.R.Read.remaining c.args.file.now in
    let cert = (progress g.C.Read.remaining c.args.cert.now).left in
    let before = g.W.Write.contents c.args.new.now in
    error-is c.from_residual.result (fault_from c.in_err-located.field-0.0) (IsTrimFault file cert before before) c.from_residual.ensures.1
    (model-fault file cert before c.in_err-located.field-0.0 c.in_err-located.ensures.right)

pub returns-in_err-held-clause-err : goal.returns-in_err-held-clause-err
returns-in_err-held-clause-err g c =
    let file = g.R.Read.remaining c.args.file.now in
    let cert = (progress g.C.Read.remaining c.args.cert.now).left in
    let before = g.W.Write.contents c.args.new.now in
    error-is c.from_residual-in_err-held.result c.in_err-held.field-0.0 (IsTrimFault file cert before before) c.from_residual-in_err-held.ensures.1
    (certificate-fault file cert c.in_ok-located.located.model c.hold_certificate.new.model c.in_ok-located.ensures.right before c.in_err-held.field-0.0 c.in_err-held.ensures.err)

pub trimmed_certificate-requires-clause-derived : goal.trimmed_certificate-requires-clause-derived
trimmed_certificate-requires-clause-derived g c =
    let extends = c.in_ok-held.ensures.ok.derives.extends in
    omega (arith, one_for_each c.in_ok-located.located.model c.hold_certificate.new.model c.in_ok-held.held.derivations.items extends)

pub trimmed_certificate-requires-clause-lines : goal.trimmed_certificate-requires-clause-lines
trimmed_certificate-requires-clause-lines g c =
    let held = c.in_ok-held.ensures.ok in
    lines-two held.version 0 c.in_ok-held.held.steps held.certificate.spelled

pub returns-in_err-write_certificate-clause-err : goal.returns-in_err-write_certificate-clause-err
returns-in_err-write_certificate-clause-err g c =
    let file = g.R.Read.remaining c.args.file.now in
    let cert = (progress g.C.Read.remaining c.args.cert.now).left in
    let before = g.W.Write.contents c.args.new.now in
    let after = g.W.Write.contents c.write_certificate.new.new in
    let model = c.in_ok-located.located.model in
    let extended = c.hold_certificate.new.model in
    let held = c.in_ok-held.held in
    let kept = kept_steps c.in_ok-kept.kept in
    let front = kept_front extended c.in_ok-kept.kept in
    let trimmed : Trimmed = record { steps = length held.steps; kept = length kept } in
    let reads = subst (λ (bytes : List ℕ). Reads bytes (Ok model)) (sym c.as_slice.ensures.value) c.in_ok-located.ensures.reads in
    let behind : IsTrimBehind model (length extended.constraints) held kept front = c.in_ok-kept.ensures model c.in_ok-located.ensures.well_formed reads c.in_ok-held.ensures.ok.derives in
    error-is c.from_residual-in_err-write_certificate.result c.in_err-write_certificate.field-0.0 (IsTrimFault file cert before after) c.from_residual-in_err-write_certificate.ensures.1
    (write-fault file cert before after (front ++ lines_to_end kept held.closed) trimmed c.in_err-write_certificate.field-0.0
    (trims-of file cert model extended c.in_ok-located.ensures.right held kept front trimmed c.in_ok-located.ensures.well_formed c.in_ok-held.ensures.formed c.in_ok-held.ensures.ok behind refl refl)
    c.in_err-write_certificate.ensures.fault c.in_err-write_certificate.ensures.text)

pub returns-clause-ok : goal.returns-clause-ok
returns-clause-ok g c =
    let file = g.R.Read.remaining c.args.file.now in
    let cert = (progress g.C.Read.remaining c.args.cert.now).left in
    let model = c.in_ok-located.located.model in
    let extended = c.hold_certificate.new.model in
    let held = c.in_ok-held.held in
    let kept = kept_steps c.in_ok-kept.kept in
    let front = kept_front extended c.in_ok-kept.kept in
    let trimmed : Trimmed = record { steps = c.len-steps.result; kept = c.len.result } in
    let reads = subst (λ (bytes : List ℕ). Reads bytes (Ok model)) (sym c.as_slice.ensures.value) c.in_ok-located.ensures.reads in
    let behind : IsTrimBehind model (length extended.constraints) held kept front = c.in_ok-kept.ensures model c.in_ok-located.ensures.well_formed reads c.in_ok-held.ensures.ok.derives in (
      front ++ lines_to_end kept held.closed,
      trims-of file cert model extended c.in_ok-located.ensures.right held kept front trimmed c.in_ok-located.ensures.well_formed c.in_ok-held.ensures.formed c.in_ok-held.ensures.ok behind c.len-steps.ensures c.len.ensures,
      c.in_ok-write_certificate.ensures.text,
    )
