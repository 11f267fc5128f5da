-- A model with constraints that are derived from its own, one after the other.
use Rattle.std.specs.Prelude.{◌≡◌, ◌⊎◌, ℕ, ◌+◌, ◌<◌, List, [], ◌∷◌, ◌++◌, length, Option, None, Some}
use Rattle.fzn_meaning.specs.declared.constraint.Constraint.{Constraint}
use Rattle.fzn_meaning.specs.declared.constraint.Constraint.TheVariants.{Linear, ArrayBoolXor, AllDifferent, Row}
use Rattle.fzn_meaning.specs.declared.row.Listed.{Listed}
use Rattle.fzn_meaning.specs.declared.row.Part.{Part}
use Rattle.fzn_meaning.specs.declared.row.Part.TheVariants.{Variable, Table}
use Rattle.fzn_meaning.specs.declared.model.Model.{Model}
use Rattle.fzn_meaning.specs.Solutions.{declared_sets}
use Rattle.fzn_derive.specs.declared.derivation.Derivation.{Derivation}
use Rattle.fzn_cited.specs.declared.fault.DeriveFault.{DeriveFault}
use Rattle.fzn_cited.specs.declared.fault.DeriveFault.TheVariants.{NotDerived}
use Rattle.fzn_derive.specs.Derived.{IsDerivedBy, IsDeriveFault}

-- the model with one more constraint, behind its own
abbrev pub with_constraint : Model → Constraint → Model
with_constraint model constraint = record {
  vars = model.vars;
  constraints = model.constraints ++ constraint ∷ [];
  goal = model.goal;
  outputs = model.outputs;
  shown = model.shown;
}

-- the derivation gives this constraint of the model's, or has this fault
abbrev pub IsDerivedOf : Model → Derivation → Constraint → Type 0
IsDerivedOf model derivation constraint = IsDerivedBy model.constraints (declared_sets model.vars) derivation constraint

abbrev pub IsFaultyOf : Model → Derivation → DeriveFault → Type 0
IsFaultyOf model derivation fault = IsDeriveFault model.constraints (declared_sets model.vars) derivation fault

-- with the constraints that these derivations give, each of the model's and those before it, the model is this one
abbrev pub Extends : Model → List Derivation → Model → Type 0
Extends model [] after = after ≡ model
Extends model (derivation ∷ later) after = (constraint : Constraint) × IsDerivedOf model derivation constraint × Extends (with_constraint model constraint) later after

-- so it is by some derivations
abbrev pub IsExtended : Model → Model → Type 0
IsExtended model after = (derivations : List Derivation) × Extends model derivations after

-- ---- how many terms there are

-- how many weights are listed for a variable
abbrev pub listed_for : Option Listed → ℕ
listed_for None = 0
listed_for (Some listed) = length listed.weights

-- how many numbers a look at the part goes over: of a table those of all its rows
abbrev pub listed_of : Part → ℕ
listed_of (Variable part) = listed_for part.listed
listed_of (Table table) = length table.rows

abbrev pub listed_in : List Part → ℕ
listed_in [] = 0
listed_in (part ∷ parts) = listed_of part + listed_in parts

-- those that are held of a constraint of a kind that is derived: of a row its parts, what is listed for variables, and all numbers of its
-- tables
abbrev pub terms_held : Constraint → ℕ
terms_held (Linear sum comparison bound switch) = length sum
terms_held (ArrayBoolXor inputs) = length inputs
terms_held (AllDifferent places) = length places
terms_held (Row row) = length row.parts + listed_in row.parts
terms_held _ = 0

abbrev pub terms_held_in : List Constraint → ℕ
terms_held_in [] = 0
terms_held_in (constraint ∷ later) = terms_held constraint + terms_held_in later

-- with the constraint that the derivation gives, the model has more terms than this
abbrev pub PassesTerms : ℕ → Model → Derivation → Type 0
PassesTerms most model derivation = (constraint : Constraint) × IsDerivedOf model derivation constraint × (most < terms_held_in model.constraints + terms_held constraint)

-- what is wrong with a derivation by which the model may have so many terms: it gives no constraint, or one that has too many
abbrev pub IsFaultyWithin : ℕ → Model → Derivation → DeriveFault → Type 0
IsFaultyWithin most model derivation fault = IsFaultyOf model derivation fault ⊎ ((fault ≡ NotDerived) × PassesTerms most model derivation)
