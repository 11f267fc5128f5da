-- What each fault of a run comes of.
use Rattle.std.proofs.Common.{◌≡◌, ℕ, Bool, true, List, [], ◌∷◌, ◌++◌, length, Option, Some, None, IfSome, refl, sym, ap, subst, ◌∙◌, Result, Ok, Err, IfErr, OnOk, OnErr, unwrap_or}
use Rattle.fzn_meaning.specs.declared.model.Model.{Model}
use Rattle.fzn_meaning.specs.WellFormed.{IsWellFormed}
use Rattle.fzn_reading.specs.Reads.{States}
use Rattle.fzn_cert.specs.declared.write_fault.WriteFault.{WriteFault}
use Rattle.fzn_cert.specs.declared.write_fault.WriteFault.TheVariants as faults
use Rattle.fzn_cert.specs.declared.step.Step.{Step}
use Rattle.fzn_cert.specs.declared.writer.StepWriter.{StepWriter}
use Rattle.fzn_cert.specs.Accepted.{AllAccepted}
use Rattle.fzn_cert.specs.Spelling.{HasLineRoom}
use Rattle.fzn_cert.specs.Writer.{IsLineFault, IsStepFault, step_count, has_failed_in as cert_failed}
use Rattle.fzn_state.specs.declared.fault.Fault.{Fault}
use Rattle.fzn_state.specs.declared.fault.Fault.TheVariants as engine
use Rattle.fzn_printer.specs.Printer.{is_open, out_failed}
use Rattle.fzn_solver.specs.declared.writers.Writers.{Writers}
use Rattle.fzn_solver.specs.Causes.{IsTooLong, HasCause, IsCause, IsLineCause, AreWritersOpen}
use Rattle.fzn_reading.specs.declared.fault.ModelFault.{ModelFault}
use Rattle.fzn_reading.specs.declared.fault.ModelFault.TheVariants as reading
use Rattle.fzn_solver.specs.FaultsFrom.{fault_of_certificate, fault_of_engine, fault_of_model}
use Rattle.fzn_solver.specs.Left.{HasLines, IsLater}
use Rattle.fzn_options.specs.declared.solve.Options.{Options}
use Rattle.fzn_solver.specs.Opening.{IsOpening}
use Rattle.fzn_solver.specs.Searched.{IsLeftOfEach, HasCauseOfEach}
use Rattle.fzn_solver.specs.Run.{IsDue}
use Rattle.fzn_solver.specs.declared.fault.RunFault.{RunFault}
use Rattle.fzn_solver.specs.declared.fault.RunFault.TheVariants as run
use Rattle.fzn_solver.specs.Writers.{taken, IsKept, IsLineTaken, IsLineRefused}
use Rattle.fzn_solver.specs.declared.ghost_list.GhostList.{GhostList}

-- a fault of the line of a step
pub line-cause : {C : Type 0} (certs : C → Bool) (step : Step) (count : ℕ) (cert : StepWriter C) (fault : WriteFault) → IsStepFault count step fault → (fault ≡ faults.Write → cert_failed certs cert ≡ true)
    → IsLineCause certs step count cert (fault_of_certificate fault)
line-cause certs step count cert faults.Memory is due = tt
line-cause certs step count cert faults.Write is due = due refl
line-cause certs step count cert faults.StepTooLong is due = is
line-cause certs step count cert faults.Failed is due = absurd is

module _ {W C P : Type 0} (outs : W → Bool) (certs : C → Bool) (model : Model) where
  -- a fault of the first two lines
  pub begin-cause : (now : Writers W C P) (fault : WriteFault) → IsLineFault fault → (fault ≡ faults.Write → cert_failed certs now.cert ≡ true) → IsCause outs certs model now (fault_of_certificate fault)
  begin-cause now faults.Memory is due = tt
  begin-cause now faults.Write is due = due refl
  begin-cause now faults.StepTooLong is due = absurd is
  begin-cause now faults.Failed is due = absurd is

  -- the fault of the line of a step that is accepted after those that were taken
  pub step-cause : (step : Step) (steps : List Step) (count : ℕ) (now : Writers W C P) (fault : Fault) → AllAccepted model (steps ++ step ∷ []) → count ≡ length steps → taken now ≡ steps → IsLineCause certs step count now.cert fault → IsCause outs certs model now fault
  step-cause step steps count now engine.Memory accepted counted same cause = tt
  step-cause step steps count now engine.WriteOutput accepted counted same cause = absurd cause
  step-cause step steps count now engine.WriteCert accepted counted same cause = cause
  step-cause step steps count now engine.StepTooLong accepted counted same cause =
      subst (IsTooLong model) (sym same) (record { step = step; accepted = accepted; long = subst (λ (n : ℕ). ¬ HasLineRoom n step) counted cause })

  -- as a fault of the run
  pub run-cause : (options : Options) (opening : List ℕ) (now : Writers W C P) (fault : Fault) (cert_old cert_new : Option (List ℕ)) → HasLines opening (taken now) cert_old cert_new → IsCause outs certs model now fault
      → HasCauseOfEach (out_failed outs now.out) (cert_failed certs now.cert) options model opening cert_old cert_new (fault_of_engine fault)
  unfolding HasCauseOfEach HasCause
  run-cause options opening now engine.Memory cert_old cert_new lines cause file formed opened = tt
  run-cause options opening now engine.WriteOutput cert_old cert_new lines cause file formed opened = cause
  run-cause options opening now engine.WriteCert cert_old cert_new lines cause file formed opened = cause
  run-cause options opening now engine.StepTooLong cert_old cert_new lines cause file formed opened = (model, opening, opened, taken now, lines, cause)

  -- what stopped it, or want of memory
  pub fault-cause : (now : Writers W C P) (stopped : Option Fault) → IfSome stopped (IsCause outs certs model now) → IsCause outs certs model now (unwrap_or stopped engine.Memory)
  fault-cause now None cause = tt
  fault-cause now (Some fault) cause = cause

-- the line of a step that is no solution, taken or not
pub line-taken : {W C P : Type 0} (outs : W → Option (List ℕ)) (certs : C → Option (List ℕ)) (outs_failed : W → Bool) (certs_failed : C → Bool) (model : Model) (step : Step) (old new : Writers W C P) (result : Result Unit Fault) → AllAccepted model (taken old ++ step ∷ []) → IsKept outs certs model old → AreWritersOpen old
    → OnOk result (IsLineTaken certs step old new) → OnErr result (IsLineRefused certs step old new) → IfErr result (IsLineCause certs_failed step (step_count old.cert) new.cert)
    → OnOk result (AreWritersOpen new) × IfErr result (IsCause outs_failed certs_failed model new) × (new.out ≡ old.out)
line-taken outs certs outs_failed certs_failed model step old new (Ok v) accepted kept opened line refused cause = ((line.stays_open, ap is_open line.same_rest.out ∙ opened.1), tt, line.same_rest.out)
line-taken outs certs outs_failed certs_failed model step old new (Err e) accepted kept opened line refused cause =
    (tt, step-cause outs_failed certs_failed model step (taken old) (step_count old.cert) new e accepted (kept.cert_in_step opened.0).counted (ap items_of refused.taken) cause, refused.same_rest.out)
  where
    items_of : GhostList Step → List Step
    items_of list = list.items

-- ---- the whole run

later-due : (read out cert derive : Bool) (file cert_old cert_new : Option (List ℕ)) (model : Model) (fault : RunFault) → States file model → IsLater fault → HasCause out cert derive model cert_old cert_new fault → IsDue read out cert derive file cert_old cert_new fault
unfolding IsDue
later-due read out cert derive file cert_old cert_new model (run.File fault) states later cause = tt
later-due read out cert derive file cert_old cert_new model run.Read states later cause = absurd later
later-due read out cert derive file cert_old cert_new model run.Memory states later cause = tt
later-due read out cert derive file cert_old cert_new model run.WriteOutput states later cause = (model, states, cause)
later-due read out cert derive file cert_old cert_new model run.WriteCert states later cause = (model, states, cause)
later-due read out cert derive file cert_old cert_new model run.StepTooLong states later cause = (model, states, cause)

pub each-due : {A : Type 0} (result : Result A RunFault) (options : Options) (read out cert : Bool) (file out_old out_new cert_old cert_new : Option (List ℕ)) (model after : Model) (opening : List ℕ)
    → States file model → IsWellFormed model → IsOpening options.derive model after opening → IfErr result (IsLeftOfEach options after opening out_old out_new cert_old cert_new)
    → IfErr result (HasCauseOfEach out cert options after opening cert_old cert_new) → IfErr result (IsDue read out cert options.derive file cert_old cert_new)
unfolding IsLeftOfEach HasCauseOfEach
each-due (Ok value) options read out cert file out_old out_new cert_old cert_new model after opening states formed opened left cause = tt
each-due (Err fault) options read out cert file out_old out_new cert_old cert_new model after opening states formed opened left cause =
    later-due read out cert options.derive file cert_old cert_new model fault states (left model formed opened).0 (cause model formed opened)

pub read-due : (read out cert derive : Bool) (file cert_old cert_new : Option (List ℕ)) (fault : ModelFault) → (fault ≡ reading.Read → read ≡ true) → IsDue read out cert derive file cert_old cert_new (fault_of_model fault)
unfolding IsDue
read-due read out cert derive file cert_old cert_new (reading.File fault) due = tt
read-due read out cert derive file cert_old cert_new reading.Memory due = tt
read-due read out cert derive file cert_old cert_new reading.Read due = due refl

-- want of memory needs no other cause
pub memory-due : (read out cert derive : Bool) (file cert_old cert_new : Option (List ℕ)) → IsDue read out cert derive file cert_old cert_new run.Memory
unfolding IsDue
memory-due read out cert derive file cert_old cert_new = tt
