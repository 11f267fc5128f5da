-- Which constraint a derivation gives, and what is wrong with one that gives none.
use Rattle.std.specs.Prelude.{◌≡◌, ℕ, List, map, length}
use Rattle.fzn_domain.specs.IntSet.{IntSet}
use Rattle.fzn_meaning.specs.declared.constraint.Constraint.{Constraint}
use Rattle.fzn_meaning.specs.declared.constraint.Constraint.TheVariants as kind
use Rattle.fzn_meaning.specs.declared.row.Row.{Row}
use Rattle.fzn_row.specs.declared.item.RowItem.{RowItem}
use Rattle.fzn_row.specs.Derived.{all_cited, IsDerivedRow, IsRowFault}
use Rattle.fzn_derive.specs.declared.derivation.Derivation.{Derivation}
use Rattle.fzn_derive.specs.declared.derivation.Derivation.TheVariants as by
use Rattle.fzn_cited.specs.declared.fault.DeriveFault.{DeriveFault}
use Rattle.fzn_derive.specs.Summed.{IsSummed, IsSumFault}
use Rattle.fzn_derive.specs.Parity.{IsParity, IsParityFault}
use Rattle.fzn_derive.specs.Apart.{AreToldApart, IsApartFault}

-- the numbers of the constraints that are cited
abbrev pub cited : Derivation → List ℕ
cited (by.Sum multiples) = map (λ multiple. multiple.constraint) multiples
cited (by.Parity constraints) = constraints
cited (by.AllDifferent variables constraints) = constraints
cited (by.Row items) = all_cited items

-- how many weights are listed for a row at the most
abbrev pub most_row_weights : ℕ
most_row_weights = 1000000

-- the constraint is the row that the items make
abbrev pub IsRowConstraint : List Constraint → List IntSet → List RowItem → Constraint → Type 0
IsRowConstraint given declared items constraint = (row : Row) × IsDerivedRow given declared most_row_weights items row × (constraint ≡ kind.Row row)

-- the derivation gives this constraint
abbrev pub IsDerivedBy : List Constraint → List IntSet → Derivation → Constraint → Type 0
IsDerivedBy given declared (by.Sum multiples) constraint = IsSummed given (length declared) multiples constraint
IsDerivedBy given declared (by.Parity constraints) constraint = IsParity given declared constraints constraint
IsDerivedBy given declared (by.AllDifferent variables constraints) constraint = AreToldApart given (length declared) variables constraints constraint
IsDerivedBy given declared (by.Row items) constraint = IsRowConstraint given declared items constraint

-- the derivation gives a constraint
abbrev pub IsDerivable : List Constraint → List IntSet → Derivation → Type 0
IsDerivable given declared derivation = (constraint : Constraint) × IsDerivedBy given declared derivation constraint

-- the first thing that is wrong with it
abbrev pub IsDeriveFault : List Constraint → List IntSet → Derivation → DeriveFault → Type 0
IsDeriveFault given declared (by.Sum multiples) fault = IsSumFault given (length declared) multiples fault
IsDeriveFault given declared (by.Parity constraints) fault = IsParityFault given declared constraints fault
IsDeriveFault given declared (by.AllDifferent variables constraints) fault = IsApartFault given (length declared) variables constraints fault
IsDeriveFault given declared (by.Row items) fault = IsRowFault given declared most_row_weights items fault
