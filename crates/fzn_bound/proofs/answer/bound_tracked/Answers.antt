use Rattle.std.proofs.Common.{◌++◌}
use Rattle.fzn_cert_reader.specs.Reader.{progress}
use Rattle.fzn_checker.specs.FileFaults.{fault_from}
use Rattle.fzn_checker.proofs.CallerLemmas.{error-is}
use Rattle.fzn_printer.specs.Answer.{answer_text}
use Rattle.fzn_bound.specs.Bounded.{IsBoundFault}
use Rattle.fzn_bound.specs.Line.{bound_line}
use Rattle.fzn_bound.proofs.WalkLemmas.{bounds-seen, certificate-fault, model-fault}
use Rattle.fzn_bound.proofs.answer.bound_tracked.Goals as goal

pub returns-in_err-model-clause-err : goal.returns-in_err-model-clause-err
returns-in_err-model-clause-err g c =
    let file = g.R.Read.remaining c.args.file.now in
    let cert = (progress g.C.Read.remaining c.args.cert.now).left in
    let before = g.W.Write.contents c.args.out.now in
    error-is c.from_residual.result (fault_from c.in_err-model.field-0.0) (IsBoundFault file cert c.args.show_all before before) c.from_residual.ensures.1
    (model-fault file cert c.args.show_all before c.in_err-model.field-0.0 c.in_err-model.ensures.right)

pub returns-in_err-walked-clause-err : goal.returns-in_err-walked-clause-err
returns-in_err-walked-clause-err g c =
    let file = g.R.Read.remaining c.args.file.now in
    let cert = (progress g.C.Read.remaining c.args.cert.now).left in
    let before = g.W.Write.contents c.args.out.now in
    error-is c.from_residual-in_err-walked.result c.in_err-walked.field-0.0 (IsBoundFault file cert c.args.show_all before before) c.from_residual-in_err-walked.ensures.1
    (certificate-fault file cert c.in_ok-model.model c.in_ok-model.ensures.right c.args.show_all before c.in_err-walked.field-0.0 c.in_err-walked.ensures.err)

pub returns-in-Ok-clause-ok : goal.returns-in-Ok-clause-ok
returns-in-Ok-clause-ok g c =
    let model = c.in_ok-model.model in
    let after = c.walk_certificate.new.model in
    let walked = c.in_ok-walked.walked in (
      answer_text after c.solutions-found.result.now walked.closed c.args.show_all ++ bound_line after c.known_of-known.result,
      bounds-seen (g.R.Read.remaining c.args.file.now) (progress g.C.Read.remaining c.args.cert.now).left model c.in_ok-model.ensures.right after c.args.show_all walked c.solutions-found.result.now c.known_of-known.result
          c.in_ok-model.ensures.well_formed c.in_ok-walked.ensures.formed c.in_ok-walked.ensures.ok c.solutions-found.ensures c.known_of-known.ensures,
      c.in-Ok.ensures.text,
    )

pub returns-clause-err : goal.returns-clause-err
returns-clause-err g c =
    let model = c.in_ok-model.model in
    let after = c.walk_certificate.new.model in
    let walked = c.in_ok-walked.walked in (
      c.known_of-known.result,
      answer_text after c.solutions-found.result.now walked.closed c.args.show_all ++ bound_line after c.known_of-known.result,
      bounds-seen (g.R.Read.remaining c.args.file.now) (progress g.C.Read.remaining c.args.cert.now).left model c.in_ok-model.ensures.right after c.args.show_all walked c.solutions-found.result.now c.known_of-known.result
          c.in_ok-model.ensures.well_formed c.in_ok-walked.ensures.formed c.in_ok-walked.ensures.ok c.solutions-found.ensures c.known_of-known.ensures,
      c.in-Err.ensures.text,
    )
