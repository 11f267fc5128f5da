-- The headline: what a run has printed is true, the check of its certificate prints it too, and whatever else a check prints is true.
use Rattle.std.specs.Prelude.{◌≡◌, ◌⊎◌, ℕ, ◌++◌, Bool, true, ℤ, List, [], length, take, Some, Result, Ok, Err, MatchResult, IfOk, IfErr}
use Rattle.fzn_checker.specs.Answered.{IsAnswered, IsCheckFault, IsCheckDue}
use Rattle.fzn_checker.specs.declared.certificate.Verdict.{Verdict}
use Rattle.fzn_checker.specs.declared.fault.CheckFault.{CheckFault}
use Rattle.fzn_checker.specs.declared.fault.CheckFault.TheVariants.{Memory, Read, WriteOutput}
use Rattle.fzn_engine.specs.declared.report.Report.{Report}
use Rattle.fzn_meaning.specs.declared.model.Model.{Model}
use Rattle.fzn_meaning.specs.Solutions.{IsProper, IsExhausted}
use Rattle.fzn_printer.specs.Answer.{answer_text}
use Rattle.fzn_printer.specs.Shown.{is_closed}
use Rattle.fzn_reading.specs.Reads.{Reads}
use Rattle.fzn_solver.specs.Answer.{EndsTruly}
use Rattle.fzn_solver.specs.Run.{IsRun}
use Rattle.fzn_options.specs.declared.solve.Options.{Options}

-- ---- what the two calls promise, over streams that tell their bytes

-- `run_tracked` answered Ok with this report: it added what is printed to its output, and the certificate to its other writer
abbrev pub RanWell : List ℕ → Options → List ℕ → List ℕ → Report → Type 0
RanWell file options printed certificate report =
    (out cert : List ℕ) × IsRun (Some file) options (Some out) (Some (out ++ printed)) (Some cert) (Some (cert ++ certificate)) report

-- a call of `check_tracked`, which asks that none has failed on its streams before: on which of them one failed, what it added to its
-- output, and what it answered
pub record Check : Type 0 where
  pub file_failed : Bool
  pub cert_failed : Bool
  pub out_failed : Bool
  pub printed : List ℕ
  pub result : Result Verdict CheckFault

-- what it promises of a file, a certificate and whether all solutions are printed
abbrev pub Checked : List ℕ → List ℕ → Bool → Check → Type 0
Checked file certificate all call =
    (out : List ℕ)
    × IfOk call.result (IsAnswered (Some file) (Some certificate) all (Some out) (Some (out ++ call.printed)))
    × IfErr call.result (IsCheckFault (Some file) (Some certificate) all (Some out) (Some (out ++ call.printed)))
    × IfErr call.result (IsCheckDue call.file_failed call.cert_failed call.out_failed)

-- ---- the headline

-- The file states the model; the solutions are a proper list, and an exhausted one where the answer is closed; the text is that of this
-- answer.
pub record IsTrueAnswer (file : List ℕ) (all : Bool) (model : Model) (found : List (List ℤ)) (closed : Bool) (text : List ℕ) : Type 0 where
  pub states : Reads file (Ok model)
  pub proper : IsProper model found
  pub exhausted : closed ≡ true → IsExhausted model found
  pub is_text : text ≡ answer_text model found closed all

-- What is printed is a true answer of the file with as many solutions as the report says, left open only where the node limit or the
-- limit of solutions was reached.
pub record PrintsTruth (file : List ℕ) (options : Options) (printed : List ℕ) (report : Report) : Type 0 where
  pub model : Model
  pub found : List (List ℤ)
  pub answer : IsTrueAnswer file options.all model found (is_closed report.ending) printed
  pub count : report.solutions ≡ length found
  pub ends : EndsTruly model options found report.nodes report.ending

-- the check accepts what the run reported and prints the same bytes
abbrev pub Agrees : List ℕ → Report → List ℕ → Verdict → Type 0
Agrees printed report again verdict = (verdict.solutions ≡ report.solutions) × (verdict.closed ≡ is_closed report.ending) × (again ≡ printed)

-- memory ran out, a read failed, or a write failed
abbrev pub IsFromOutside : Check → CheckFault → Type 0
IsFromOutside call Memory = Unit {0}
IsFromOutside call Read = (call.file_failed ≡ true) ⊎ (call.cert_failed ≡ true)
IsFromOutside call WriteOutput = call.out_failed ≡ true
IsFromOutside call _ = ⊥

-- a true answer is printed; after a failed write a beginning of one, and after any other fault nothing
abbrev pub PrintsTrueAnswer : List ℕ → Bool → List ℕ → Result Verdict CheckFault → Type 0
PrintsTrueAnswer file all printed (Ok verdict) = (model : Model) × (found : List (List ℤ)) × IsTrueAnswer file all model found verdict.closed printed
PrintsTrueAnswer file all printed (Err WriteOutput) =
    (model : Model) × (found : List (List ℤ)) × (closed : Bool) × (text : List ℕ) × IsTrueAnswer file all model found closed text
    × (count : ℕ) × (printed ≡ take count text)
PrintsTrueAnswer file all printed (Err _) = printed ≡ []

pub record Headline (file : List ℕ) (options : Options) : Type 0 where
  -- a run that ends without a fault has printed a true answer
  pub run : (printed certificate : List ℕ) (report : Report) → RanWell file options printed certificate report → PrintsTruth file options printed report
  -- the check of its certificate accepts and prints the same bytes, unless the machine fails it
  pub check : (printed certificate : List ℕ) (report : Report) (call : Check) → RanWell file options printed certificate report
      → Checked file certificate options.all call → MatchResult call.result (Agrees printed report call.printed) (IsFromOutside call)
  -- whatever bytes a check is given as a certificate, what it prints is a true answer
  pub whatever : (certificate : List ℕ) (all : Bool) (call : Check) → Checked file certificate all call → PrintsTrueAnswer file all call.printed call.result
