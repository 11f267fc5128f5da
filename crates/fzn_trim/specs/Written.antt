-- What is written in front of the steps of a certificate, and what may go wrong there.
use Rattle.std.specs.Prelude.{◌≡◌, ℕ, ◌-◌, Bool, true, List, [], ◌∷◌, ◌++◌, length}
use Rattle.fzn_meaning.specs.declared.model.Model.{Model}
use Rattle.fzn_derive.specs.declared.derivation.Derivation.{Derivation}
use Rattle.fzn_cert.specs.declared.step.Version.TheVariants.{Two}
use Rattle.fzn_cert.specs.Spelling.{header_text}
use Rattle.fzn_head.specs.declared.head.Head.{Head}
use Rattle.fzn_head.specs.Head.{three_line, head_counts_line, derivation_lines}
use Rattle.fzn_checker.specs.declared.fault.CheckFault.{CheckFault}
use Rattle.fzn_checker.specs.declared.fault.CheckFault.TheVariants.{Memory, WriteCert}

-- the two lines of a head, and those that derive constraints
abbrev pub head_text : Head → List Derivation → List ℕ
head_text head read = (three_line ++ head_counts_line head) ++ derivation_lines read

-- by so many variables and constraints: the first two lines of version two, or where constraints are derived the lines of version three
abbrev pub front_text : ℕ → ℕ → List Derivation → List ℕ
front_text variables constraints [] = header_text Two variables constraints
front_text variables constraints (derivation ∷ later) =
    head_text (record { variables = variables; constraints = constraints; derived = length (derivation ∷ later) }) (derivation ∷ later)

-- for the model that has the constraints which these derive
abbrev pub front_of : Model → List Derivation → List ℕ
front_of after read = front_text (length after.vars) (length after.constraints - length read) read

abbrev pub IsWriteFault : CheckFault → Type 0
IsWriteFault Memory = Unit {0}
IsWriteFault WriteCert = Unit {0}
IsWriteFault _ = ⊥

-- a failed write is answered only where one failed, or the flush
abbrev pub IsWriteDue : Bool → CheckFault → Type 0
IsWriteDue has_failed fault = fault ≡ WriteCert → has_failed ≡ true
