-- What a contract sees of the writers of a run.
use Rattle.std.specs.Prelude.{◌≡◌, ◌⊎◌, ◌||◌, ◌==◌, not, ℕ, ◌+◌, Bool, true, false, ℤ, List, [], ◌∷◌, ◌++◌, Option, None, IfSome, is_some, length, option_map, string_bytes}
use Rattle.std.specs.Option.{option_to_list}
use Rattle.std.specs.Borrow.{GName}
use Rattle.std.specs.Io.KnownBytes.{Appends, Keeps}
use Rattle.fzn_streams.specs.Output.{AppendsFront}
use Rattle.fzn_meaning.specs.declared.model.Model.{Model}
use Rattle.fzn_meaning.specs.Solutions.{IsAssignment}
use Rattle.fzn_cert.specs.declared.step.Step.{Step}
use Rattle.fzn_cert.specs.declared.step.Version.TheVariants.{Two}
use Rattle.fzn_cert.specs.declared.writer.Stage.TheVariants.{Fresh, Open, Shut}
use Rattle.fzn_cert.specs.declared.writer.StepWriter.{StepWriter}
use Rattle.fzn_cert.specs.Verdict.{AllHaveLines}
use Rattle.fzn_cert.specs.Spelling.{step_line, end_line, HasLineRoom}
use Rattle.fzn_cert.specs.Writer.{contents_of as cert_contents, cert_name, stage_of, step_count, version_of}
use Rattle.fzn_state.specs.declared.fault.Fault.{Fault}
use Rattle.fzn_state.specs.declared.fault.Fault.TheVariants.{WriteOutput}
use Rattle.fzn_printer.specs.declared.printer.Printer.{Printer}
use Rattle.fzn_printer.specs.Printer.{out_contents, out_name, is_open, has_printed}
use Rattle.fzn_printer.specs.Shown.{shown, ending_text}
use Rattle.fzn_solver.specs.declared.writers.Writers.{Writers}
use Rattle.fzn_solver.specs.Opening.{opening_of}
use Rattle.fzn_solver.specs.Standing.{certificate, shown_all, early, late, found_by, AreLinesStanding, IsCertInStep, IsOutInStep}
use Rattle.fzn_solver.specs.Told.{IsTold}

-- the steps that were taken
abbrev pub taken : {W C P : Type 0} → Writers W C P → List Step
taken writers = writers.taken.items

-- the output and the certificate as they were at first, and the lines that derive constraints, if any
abbrev pub at_first : {W C P : Type 0} → Writers W C P → W × C × Option (List ℕ)
at_first writers = (writers.first_out.value, writers.first_cert.value, option_map string_bytes writers.opening.now)

-- the text in front of the steps
abbrev pub opening_in : {W C P : Type 0} → Model → Writers W C P → List ℕ
opening_in model writers = opening_of model (at_first writers).2

-- what they were at first, whether the last solution alone is printed, and the names by which a caller knows the writers and the observer
abbrev pub origin : {W C P : Type 0} → Writers W C P → (W × C × Option (List ℕ)) × Bool × GName × GName × GName
origin writers = (at_first writers, writers.alone, cert_name writers.cert, out_name writers.out, writers.observer.ghost_name)

-- the observer was told last of as many decisions as are noted
abbrev pub HasTold : {W C P : Type 0} → (P → Option ℕ) → Writers W C P → Type 0
HasTold tells writers = IsTold (tells writers.observer.now) writers.progress.nodes

-- the observer was told nothing more
abbrev pub IsUntold : {W C P : Type 0} → Writers W C P → Writers W C P → Type 0
IsUntold old new = (new.observer ≡ old.observer) × (new.progress ≡ old.progress)

-- nothing was written
pub record IsUnwritten {W C P : Type 0} (outs : W → Option (List ℕ)) (certs : C → Option (List ℕ)) (now : Writers W C P) : Type 0 where
  pub same_cert : cert_contents certs now.cert ≡ certs now.first_cert.value
  pub same_out : out_contents outs now.out ≡ outs now.first_out.value
  pub stage : stage_of now.cert ≡ Fresh
  pub begins_open : is_open now.out ≡ true
  pub none_shown : has_printed now.out ≡ false
  pub none_taken : taken now ≡ []
  pub none_waits : now.last.now ≡ None
  pub none_stopped : now.stopped ≡ None

-- What stands, after a fault too; and while the writers can go on, just what these steps ask for.
pub record IsStandingKept {W C : Type 0} (outs : W → Option (List ℕ)) (certs : C → Option (List ℕ)) (model : Model) (cert : StepWriter C) (out : Printer W) (alone : Bool) (last : Option (List ℤ)) (steps : List Step) (first : W × C × Option (List ℕ)) : Type 0 where
  pub version : version_of cert ≡ Two
  pub standing : AreLinesStanding model (opening_of model first.2) alone steps (certs first.1) (cert_contents certs cert) (outs first.0) (out_contents outs out)
  pub assignment : IfSome last (IsAssignment model)
  pub cert_in_step : stage_of cert ≡ Open → IsCertInStep (opening_of model first.2) steps (certs first.1) (cert_contents certs cert) (step_count cert)
  pub out_in_step : stage_of cert ≡ Open → is_open out ≡ true → IsOutInStep model alone (found_by model steps) (outs first.0) (out_contents outs out) (has_printed out) last

abbrev pub IsKept : {W C P : Type 0} → (W → Option (List ℕ)) → (C → Option (List ℕ)) → Model → Writers W C P → Type 0
IsKept outs certs model now = IsStandingKept outs certs model now.cert now.out now.alone now.last.now (taken now) (at_first now)

-- all but the certificate and the steps
pub record IsRestSame {W C P : Type 0} (old new : Writers W C P) : Type 0 where
  pub out : new.out ≡ old.out
  pub alone : new.alone ≡ old.alone
  pub last : new.last ≡ old.last
  pub first : at_first new ≡ at_first old

-- the line of one more step stands
pub record IsLineTaken {W C P : Type 0} (certs : C → Option (List ℕ)) (step : Step) (old new : Writers W C P) : Type 0 where
  pub taken : taken new ≡ taken old ++ step ∷ []
  pub line : Appends (cert_contents certs old.cert) (cert_contents certs new.cert) (step_line step)
  pub room : HasLineRoom (step_count old.cert) step
  pub counted : step_count new.cert ≡ step_count old.cert + 1
  pub was_open : stage_of old.cert ≡ Open
  pub stays_open : stage_of new.cert ≡ Open
  pub same_version : version_of new.cert ≡ version_of old.cert
  pub same_cert : cert_name new.cert ≡ cert_name old.cert
  pub same_rest : IsRestSame old new

-- the line was not taken: a beginning of it stands after a failed write, and nothing more is
pub record IsLineRefused {W C P : Type 0} (certs : C → Option (List ℕ)) (step : Step) (old new : Writers W C P) : Type 0 where
  pub taken : new.taken ≡ old.taken
  pub front : AppendsFront (cert_contents certs old.cert) (cert_contents certs new.cert) (step_line step)
  pub shut : stage_of new.cert ≡ Shut
  pub same_version : version_of new.cert ≡ version_of old.cert
  pub same_cert : cert_name new.cert ≡ cert_name old.cert
  pub same_rest : IsRestSame old new

-- the step was taken, or was not
abbrev pub IsLogged : {W C P : Type 0} → Step → Writers W C P → Writers W C P → Type 0
IsLogged step old new = (taken new ≡ taken old) ⊎ (taken new ≡ taken old ++ step ∷ [])

-- A solution was printed: its text stands where the output can go on and something else does, else a beginning of it.
pub record IsPrinted {W : Type 0} (outs : W → Option (List ℕ)) (model : Model) (values : List ℤ) (goes : Type 0) (old new : Printer W) : Type 0 where
  pub same : out_name new ≡ out_name old
  pub front : AppendsFront (out_contents outs old) (out_contents outs new) (shown model values)
  pub nothing : is_open old ≡ false → Keeps (out_contents outs old) (out_contents outs new)
  pub whole : goes → is_open new ≡ true → (is_open old ≡ true) × Appends (out_contents outs old) (out_contents outs new) (shown model values) × (has_printed new ≡ true)

-- all but the writers
pub record IsAllSame {W C P : Type 0} (old new : Writers W C P) : Type 0 where
  pub alone : new.alone ≡ old.alone
  pub last : new.last ≡ old.last
  pub taken : new.taken ≡ old.taken
  pub first : at_first new ≡ at_first old

-- the text in front of the steps does not stand, perhaps a beginning of it
pub record IsUnbegun {W C P : Type 0} (certs : C → Option (List ℕ)) (model : Model) (old new : Writers W C P) : Type 0 where
  pub front : AppendsFront (cert_contents certs old.cert) (cert_contents certs new.cert) (opening_in model old)
  pub out : new.out ≡ old.out

-- a text was not printed: a beginning of it stands, and nothing where the output was shut
pub record IsUnprinted {W : Type 0} (outs : W → Option (List ℕ)) (text : List ℕ) (old new : Printer W) : Type 0 where
  pub front : AppendsFront (out_contents outs old) (out_contents outs new) text
  pub nothing : is_open old ≡ false → Keeps (out_contents outs old) (out_contents outs new)

-- the solution that waited, if any, was printed
pub record IsLastShown {W : Type 0} (outs : W → Option (List ℕ)) (model : Model) (last : Option (List ℤ)) (old new : Printer W) : Type 0 where
  pub same : out_name new ≡ out_name old
  pub text : Appends (out_contents outs old) (out_contents outs new) (shown_all model (option_to_list last))
  pub was_open : is_open new ≡ true → is_open old ≡ true
  pub has_shown : has_printed new ≡ (has_printed old || is_some last)
  pub nothing : is_open old ≡ false → Keeps (out_contents outs old) (out_contents outs new)

-- the end of the certificate stands, and the whole answer
pub record IsAnswerClosed {W C P : Type 0} (outs : W → Option (List ℕ)) (certs : C → Option (List ℕ)) (model : Model) (closed : Bool) (old new : Writers W C P) : Type 0 where
  pub have_lines : AllHaveLines Two 0 (taken old)
  pub cert : Appends (certs (at_first old).1) (cert_contents certs new.cert) (certificate (opening_in model old) (taken old) closed)
  pub out :
      Appends (outs (at_first old).0) (out_contents outs new.out)
      (shown_all model (early old.alone (found_by model (taken old)) ++ late old.alone (found_by model (taken old))) ++ ending_text closed (not (length (found_by model (taken old)) == 0)))

-- the end of the certificate does not stand, perhaps a beginning of it, and the output is as it was
pub record IsUnfinished {W C P : Type 0} (certs : C → Option (List ℕ)) (closed : Bool) (old new : Writers W C P) : Type 0 where
  pub front : AppendsFront (cert_contents certs old.cert) (cert_contents certs new.cert) (end_line closed)
  pub out : new.out ≡ old.out

-- the end of the certificate stands, and a beginning of what was left of the answer
pub record IsCutOff {W C P : Type 0} (outs : W → Option (List ℕ)) (certs : C → Option (List ℕ)) (model : Model) (closed : Bool) (old new : Writers W C P) : Type 0 where
  pub was_open : stage_of old.cert ≡ Open
  pub end : Appends (cert_contents certs old.cert) (cert_contents certs new.cert) (end_line closed)
  pub out : IsUnprinted outs (shown_all model (option_to_list old.last.now) ++ ending_text closed (has_printed old.out || is_some old.last.now)) old.out new.out

-- what a fault at the end leaves
abbrev pub IsUnclosed : {W C P : Type 0} → (W → Option (List ℕ)) → (C → Option (List ℕ)) → Model → Bool → Writers W C P → Writers W C P → Fault → Type 0
IsUnclosed outs certs model closed old new fault = IsUnfinished certs closed old new ⊎ ((fault ≡ WriteOutput) × IsCutOff outs certs model closed old new)
