-- What stands on the two writers of a run.
use Rattle.std.specs.Prelude.{◌≡◌, ℕ, ◌-◌, ◌==◌, not, Bool, true, false, ℤ, List, [], ◌++◌, length, drop, Option}
use Rattle.std.specs.List.{flat_map}
use Rattle.std.specs.Option.{option_to_list}
use Rattle.std.specs.Io.KnownBytes.{Appends}
use Rattle.fzn_streams.specs.Output.{AppendsFront}
use Rattle.fzn_meaning.specs.declared.model.Goal.{Goal}
use Rattle.fzn_meaning.specs.declared.model.Goal.TheVariants.{Satisfy, Minimize, Maximize}
use Rattle.fzn_meaning.specs.declared.model.Model.{Model}
use Rattle.fzn_cert.specs.declared.step.Step.{Step}
use Rattle.fzn_cert.specs.declared.step.Version.TheVariants.{Two}
use Rattle.fzn_cert.specs.Accepted.{past_after}
use Rattle.fzn_cert.specs.Spelling.{end_line}
use Rattle.fzn_cert.specs.Verdict.{lines_of, AllHaveLines}
use Rattle.fzn_printer.specs.Shown.{shown}

-- the solutions among the steps, in order
abbrev pub found_by : Model → List Step → List (List ℤ)
found_by model steps = (past_after model steps).solutions

-- whether the last solution alone is printed: in an optimisation, but for a wish to see all
abbrev pub is_alone : Goal → Bool → Bool
is_alone Satisfy all = false
is_alone (Minimize var) all = not all
is_alone (Maximize var) all = not all

-- the solutions that are printed as they are found
abbrev pub early : Bool → List (List ℤ) → List (List ℤ)
early true found = []
early false found = found

-- the solutions that are printed at the end
abbrev pub late : Bool → List (List ℤ) → List (List ℤ)
late true found = drop (length found - 1) found
late false found = []

-- the text in front of the steps, and their lines
abbrev pub begun_certificate : List ℕ → List Step → List ℕ
begun_certificate opening steps = opening ++ lines_of steps

-- the whole certificate
abbrev pub certificate : List ℕ → List Step → Bool → List ℕ
certificate opening steps closed = begun_certificate opening steps ++ end_line closed

-- the text of these solutions
abbrev pub shown_all : Model → List (List ℤ) → List ℕ
shown_all model found = flat_map (shown model) found

-- The lines of the steps stand whole on the certificate, and perhaps a beginning of another text; on the output a beginning of the
-- text of their solutions.
pub record AreLinesStanding (model : Model) (opening : List ℕ) (alone : Bool) (steps : List Step) (cert_first cert_now out_first out_now : Option (List ℕ)) : Type 0 where
  pub more : List ℕ
  pub lines : Appends cert_first cert_now (begun_certificate opening steps ++ more)
  pub shown : AppendsFront out_first out_now (shown_all model (early alone (found_by model steps)))

-- The lines of the steps stand on the certificate and nothing else.
pub record IsCertInStep (opening : List ℕ) (steps : List Step) (first now : Option (List ℕ)) (written : ℕ) : Type 0 where
  pub lines : Appends first now (begun_certificate opening steps)
  pub have_lines : AllHaveLines Two 0 steps
  pub counted : written ≡ length steps

-- The text of the solutions stands on the output and nothing else, but for those that wait for the end.
pub record IsOutInStep (model : Model) (alone : Bool) (found : List (List ℤ)) (first now : Option (List ℕ)) (printed : Bool) (last : Option (List ℤ)) : Type 0 where
  pub text : Appends first now (shown_all model (early alone found))
  pub has_shown : printed ≡ not (length (early alone found) == 0)
  pub waits : option_to_list last ≡ late alone found
