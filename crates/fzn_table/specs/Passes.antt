-- The places and the rows of a pass on its trail, and what it finds.
use Rattle.std.specs.Prelude.{Bool, ℕ, ◌<◌, ℤ, List, length}
use Rattle.fzn_domain.specs.declared.literal.Lit.{Lit}
use Rattle.fzn_domain.specs.declared.literal.Op.{Op}
use Rattle.fzn_domain.specs.IntSet.{IntSet}
use Rattle.fzn_meaning.specs.declared.constraint.Constraint.{Constraint}
use Rattle.fzn_meaning.specs.declared.constraint.Constraint.TheVariants.{Table}
use Rattle.fzn_values.specs.Term.{numbers_in}
use Rattle.fzn_sets.specs.Terms.{MayBe}
use Rattle.fzn_rules.specs.GlobalRows.{IsRowOut}
use Rattle.fzn_rules.specs.declared.rule.Rule.TheVariants.{Rows}
use Rattle.fzn_propagator.specs.Clause.{IsJustified}
use Rattle.fzn_propagator.specs.Left.{IsLeft}
use Rattle.fzn_propagator.specs.Inference.{Inference, AreFoundOf}
use Rattle.fzn_terms.specs.Values.{place_at}
use Rattle.fzn_table.specs.declared.pass.Pass.{Pass}
use Rattle.fzn_table.specs.Supports.{number_at, IsWhole, IsOpenUpTo, AreMarkedRowsOpen, IsSupported, HasSupportThat}

-- its constraint
abbrev pub table_of_pass : Pass → Constraint
table_of_pass pass = Table pass.places.now (numbers_in pass.rows.now)

-- the place, counted from 0, may have the value
abbrev pub MayHave : Pass → ℕ → ℤ → Type 0
MayHave pass k value = MayBe pass.trail.now.sets (place_at pass.places.now k) value

-- there is a row of this number, counted from 0
abbrev pub IsRowOfTable : Pass → ℕ → Type 0
IsRowOfTable pass r = IsWhole pass.places.now (numbers_in pass.rows.now) r

-- the number of row r at place k
abbrev pub number_in_row : Pass → ℕ → ℕ → ℤ
number_in_row pass r k = number_at pass.places.now (numbers_in pass.rows.now) r k

-- each place may have the value of the row there
abbrev pub IsOpenRow : Pass → ℕ → Type 0
IsOpenRow pass r = IsOpenUpTo pass.trail.now.sets pass.places.now (numbers_in pass.rows.now) r (length pass.places.now)

-- so it is of each row that is marked
abbrev pub AreOpenRows : Pass → List Bool → Type 0
AreOpenRows pass marks = AreMarkedRowsOpen pass.trail.now.sets pass.places.now (numbers_in pass.rows.now) marks

-- on these sets some place has not the value of the row there
abbrev pub IsOutOn : Pass → ℕ → List IntSet → Type 0
IsOutOn pass r sets = IsRowOut sets pass.places.now (numbers_in pass.rows.now) r

-- some row that is open has the value at the place
abbrev pub HasSupport : Pass → ℕ → ℤ → Type 0
HasSupport pass p value = IsSupported pass.trail.now.sets pass.places.now (numbers_in pass.rows.now) p value

-- some row that is open has a value there that stands so to the bound
abbrev pub IsClaimSupported : Pass → ℕ → Op → ℤ → Type 0
IsClaimSupported pass p op bound = HasSupportThat pass.trail.now.sets pass.places.now (numbers_in pass.rows.now) p op bound

-- on sets that the clause leaves, the place has not the row's value
abbrev pub IsSaidAt : Pass → List Lit → ℕ → ℕ → Type 0
IsSaidAt pass clause r k = (k < length pass.places.now) × (IsLeft pass.trail.now.declared clause (place_at pass.places.now k) (number_in_row pass r k) → ⊥)

-- so it is of some place
abbrev pub IsRowSaid : Pass → List Lit → ℕ → Type 0
IsRowSaid pass clause r = (k : ℕ) × IsSaidAt pass clause r k

-- the rule `rows` justifies the clause from the table
abbrev pub IsJustifiedByTable : Pass → List Lit → Type 0
IsJustifiedByTable pass clause = IsJustified pass.trail.now (table_of_pass pass) Rows clause

-- so of each of these inferences, which have its number
abbrev pub AreFoundOfTable : Pass → List Inference → Type 0
AreFoundOfTable pass found = AreFoundOf pass.number (table_of_pass pass) pass.trail.now found
