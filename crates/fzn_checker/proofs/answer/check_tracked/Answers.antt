use Rattle.fzn_cert_reader.specs.Reader.{progress}
use Rattle.fzn_checker.specs.Answered.{Shows, IsCheckFault}
use Rattle.fzn_checker.proofs.AnswerLaws.{certificate-fault, error-is, still-shown, still-assigned, answer-printed, answer-begun}
use Rattle.fzn_checker.proofs.answer.check_tracked.Goals as goal

-- the fault of the certificate, as it was answered
pub returns-in_err-accepted-clause-fault : goal.returns-in_err-accepted-clause-fault
returns-in_err-accepted-clause-fault g c =
    error-is c.from_residual-in_err-accepted.result c.in_err-accepted.field-0.0 (IsCheckFault (g.R.Read.remaining c.args.file.now) (progress g.C.Read.remaining c.args.cert.now).left c.args.show_all (g.W.Write.contents c.args.out.now) (g.W.Write.contents c.args.out.now))
    c.from_residual-in_err-accepted.ensures.1
    (certificate-fault (g.R.Read.remaining c.args.file.now) (progress g.C.Read.remaining c.args.cert.now).left c.args.show_all (g.W.Write.contents c.args.out.now) c.in_ok-model.model c.in_err-accepted.field-0.0 c.in_ok-model.ensures.right c.in_err-accepted.ensures.err)

-- the model with derived constraints is printed as the model
pub put_answer-requires-clause-model : goal.put_answer-requires-clause-model
put_answer-requires-clause-model g c = still-shown c.in_ok-model.model c.check_certificate.new.model c.check_certificate.ensures.extended c.in_ok-model.ensures.well_formed.shown

pub put_answer-requires-clause-found : goal.put_answer-requires-clause-found
put_answer-requires-clause-found g c =
    still-assigned c.in_ok-model.model c.check_certificate.new.model c.check_certificate.ensures.extended c.in_ok-accepted.accepted.solutions.items c.deref.result.now c.deref.ensures.value c.in_ok-accepted.ensures.proper

pub returns-in-Ok-clause-answered : goal.returns-in-Ok-clause-answered
returns-in-Ok-clause-answered g c =
    let file = g.R.Read.remaining c.args.file.now in
    let cert = (progress g.C.Read.remaining c.args.cert.now).left in
    let model = c.in_ok-model.model in
    let answer = c.in_ok-accepted.accepted in
    let shows : Shows file cert model answer.solutions.items answer.closed = record { states = c.in_ok-model.ensures.right; verdict = c.in_ok-accepted.ensures.ok; proper = c.in_ok-accepted.ensures.proper; exhausted = c.in_ok-accepted.ensures.exhausted } in
    answer-printed model c.check_certificate.new.model c.check_certificate.ensures.extended file cert c.args.show_all (g.W.Write.contents c.args.out.now) (g.W.Write.contents c.put_answer.new.out) answer.solutions.items c.deref.result.now c.deref.ensures.value answer.closed shows
    c.verdict.result c.verdict.ensures c.in-Ok.ensures.text

pub returns-clause-fault : goal.returns-clause-fault
returns-clause-fault g c =
    let file = g.R.Read.remaining c.args.file.now in
    let cert = (progress g.C.Read.remaining c.args.cert.now).left in
    let model = c.in_ok-model.model in
    let answer = c.in_ok-accepted.accepted in
    let shows : Shows file cert model answer.solutions.items answer.closed = record { states = c.in_ok-model.ensures.right; verdict = c.in_ok-accepted.ensures.ok; proper = c.in_ok-accepted.ensures.proper; exhausted = c.in_ok-accepted.ensures.exhausted } in
    answer-begun model c.check_certificate.new.model c.check_certificate.ensures.extended file cert c.args.show_all (g.W.Write.contents c.args.out.now) (g.W.Write.contents c.put_answer.new.out) answer.solutions.items c.deref.result.now c.deref.ensures.value answer.closed shows
    c.in-Err.ensures.text
