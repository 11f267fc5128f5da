-- The fault of the file, or what the search left.
use Rattle.fzn_solver.specs.FaultsFrom.{fault_of_model}
use Rattle.fzn_solver.specs.Run.{IsRunFault, IsDue}
use Rattle.fzn_solver.specs.declared.fault.RunFault.TheVariants.{Memory}
use Rattle.fzn_solver.proofs.CauseLemmas.{each-due, read-due, memory-due}
use Rattle.fzn_solver.proofs.LeftLemmas.{error-is, read-fault, memory-fault, each-fault, each-ran}
use Rattle.fzn_solver.proofs.answer.run_tracked.Goals as goal

pub returns-in_err-read-clause-fault : goal.returns-in_err-read-clause-fault
returns-in_err-read-clause-fault g c =
    error-is c.from_residual.result (fault_of_model c.in_err-read.field-0.0) (IsRunFault (g.R.Read.remaining c.args.input.now) c.args.options.now (g.W.Write.contents c.args.out.now) (g.W.Write.contents c.args.out.now) (g.C.Write.contents c.args.cert.now) (g.C.Write.contents c.args.cert.now)) c.from_residual.ensures.1
    (read-fault (g.R.Read.remaining c.args.input.now) c.args.options.now (g.W.Write.contents c.args.out.now) (g.C.Write.contents c.args.cert.now) c.in_err-read.field-0.0 c.in_err-read.ensures.right)

pub returns-clause-ran : goal.returns-clause-ran
returns-clause-ran g c =
    each-ran _ _ _ _ _ _ _ c.in_ok-read.read.model c.opened.new.model _ c.in_ok-read.ensures.right c.in_ok-read.ensures.well_formed c.in_ok-opening.ensures.opening c.write_answer.ensures.answer

pub returns-clause-fault : goal.returns-clause-fault
returns-clause-fault g c =
    each-fault _ _ _ _ _ _ _ c.in_ok-read.read.model c.opened.new.model _ c.in_ok-read.ensures.right c.in_ok-read.ensures.well_formed c.in_ok-opening.ensures.opening c.write_answer.ensures.left

pub returns-clause-due : goal.returns-clause-due
returns-clause-due g c =
    each-due _ _ _ _ _ _ _ _ _ _ c.in_ok-read.read.model c.opened.new.model _ c.in_ok-read.ensures.right c.in_ok-read.ensures.well_formed c.in_ok-opening.ensures.opening c.write_answer.ensures.left c.write_answer.ensures.cause

pub returns-in_err-read-clause-due : goal.returns-in_err-read-clause-due
returns-in_err-read-clause-due g c =
    let read = g.R.TrackedRead.has_failed c.read_annotated.new.input in
    let out = g.W.TrackedWrite.has_failed c.args.out.now in
    let cert = g.C.TrackedWrite.has_failed c.args.cert.now in
    error-is c.from_residual.result (fault_of_model c.in_err-read.field-0.0) (IsDue read out cert c.args.options.now.derive (g.R.Read.remaining c.args.input.now) (g.C.Write.contents c.args.cert.now) (g.C.Write.contents c.args.cert.now)) c.from_residual.ensures.1
    (read-due read out cert c.args.options.now.derive (g.R.Read.remaining c.args.input.now) (g.C.Write.contents c.args.cert.now) (g.C.Write.contents c.args.cert.now) c.in_err-read.field-0.0 c.in_err-read.ensures.due)

pub returns-in_err-propagators-clause-fault : goal.returns-in_err-propagators-clause-fault
returns-in_err-propagators-clause-fault g c =
    error-is c.from_residual-in_err-propagators.result Memory (IsRunFault (g.R.Read.remaining c.args.input.now) c.args.options.now (g.W.Write.contents c.args.out.now) (g.W.Write.contents c.args.out.now) (g.C.Write.contents c.args.cert.now) (g.C.Write.contents c.args.cert.now)) c.from_residual-in_err-propagators.ensures.1
    (memory-fault (g.R.Read.remaining c.args.input.now) c.args.options.now (g.W.Write.contents c.args.out.now) (g.C.Write.contents c.args.cert.now))

pub returns-in_err-propagators-clause-due : goal.returns-in_err-propagators-clause-due
returns-in_err-propagators-clause-due g c =
    let read = g.R.TrackedRead.has_failed c.read_annotated.new.input in
    let out = g.W.TrackedWrite.has_failed c.args.out.now in
    let cert = g.C.TrackedWrite.has_failed c.args.cert.now in
    error-is c.from_residual-in_err-propagators.result Memory (IsDue read out cert c.args.options.now.derive (g.R.Read.remaining c.args.input.now) (g.C.Write.contents c.args.cert.now) (g.C.Write.contents c.args.cert.now)) c.from_residual-in_err-propagators.ensures.1
    (memory-due read out cert c.args.options.now.derive (g.R.Read.remaining c.args.input.now) (g.C.Write.contents c.args.cert.now) (g.C.Write.contents c.args.cert.now))

pub returns-in_err-opening-clause-fault : goal.returns-in_err-opening-clause-fault
returns-in_err-opening-clause-fault g c =
    error-is c.from_residual-in_err-opening.result Memory (IsRunFault (g.R.Read.remaining c.args.input.now) c.args.options.now (g.W.Write.contents c.args.out.now) (g.W.Write.contents c.args.out.now) (g.C.Write.contents c.args.cert.now) (g.C.Write.contents c.args.cert.now)) c.from_residual-in_err-opening.ensures.1
    (memory-fault (g.R.Read.remaining c.args.input.now) c.args.options.now (g.W.Write.contents c.args.out.now) (g.C.Write.contents c.args.cert.now))

pub returns-in_err-opening-clause-due : goal.returns-in_err-opening-clause-due
returns-in_err-opening-clause-due g c =
    let read = g.R.TrackedRead.has_failed c.read_annotated.new.input in
    let out = g.W.TrackedWrite.has_failed c.args.out.now in
    let cert = g.C.TrackedWrite.has_failed c.args.cert.now in
    error-is c.from_residual-in_err-opening.result Memory (IsDue read out cert c.args.options.now.derive (g.R.Read.remaining c.args.input.now) (g.C.Write.contents c.args.cert.now) (g.C.Write.contents c.args.cert.now)) c.from_residual-in_err-opening.ensures.1
    (memory-due read out cert c.args.options.now.derive (g.R.Read.remaining c.args.input.now) (g.C.Write.contents c.args.cert.now) (g.C.Write.contents c.args.cert.now))
