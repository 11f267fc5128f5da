-- A derived row: values within the declared sets that meet what is cited meet it, and there is but one.
use Rattle.std.proofs.Common.{◌≡◌, ℕ, ◌+◌, List, [], ◌∷◌, length, Bool, true, false, cond, nat_le, sym, ◌∙◌, subst, arith, ℤ, pos, Result, Ok, Err, IfSome, All}
use Rattle.std.proofs.lemmas.Int.{ints}
use Rattle.std.proofs.lemmas.List.Elements.{All-nil, All-cons}
use Rattle.fzn_list.specs.Limits.{longest}
use Rattle.fzn_domain.specs.IntSet.{IntSet}
use Rattle.fzn_domain.specs.Narrow.{IsWithin}
use Rattle.fzn_meaning.specs.declared.constraint.Constraint.{Constraint}
use Rattle.fzn_meaning.specs.Meaning.{Meets, IsWellFormedConstraint, HasBooleanSets}
use Rattle.fzn_cited.specs.declared.fault.DeriveFault.{DeriveFault}
use Rattle.fzn_cited.specs.declared.fault.DeriveFault.TheVariants.{NotDerived}
use Rattle.fzn_cited.specs.Cited.{constraint_at, AreMet}
use Rattle.fzn_meaning.specs.declared.row.Row.{Row}
use Rattle.fzn_row.specs.declared.item.RowItem.{RowItem}
use Rattle.fzn_row.specs.declared.item.RowItem.TheVariants as item
use Rattle.fzn_meaning.specs.Separable.{RowHolds}
use Rattle.fzn_row.specs.Draft.{Draft, empty, row_of, row_stated}
use Rattle.fzn_row.specs.Derived.{cited_by, all_cited, item_added, drafted, IsDerivedRow, IsRowFault}
use Rattle.fzn_row.proofs.DraftSound.{exceeds-holds, total-nil, all-front, all-back, then-both, turn-keeps}
use Rattle.fzn_row.proofs.MultiplesSound.{multiples-sound}
use Rattle.fzn_row.proofs.PricesSound.{prices-sound}
use Rattle.fzn_row.proofs.MovesSound.{moves-sound}
use Rattle.fzn_row.proofs.TablesSound.{columns_added-hold, rows_added-hold}
use Rattle.fzn_row.proofs.FormedLemmas.{IsFormed}
use Rattle.fzn_row.proofs.FormedSound.{item-formed, nothing-formed}

empty-holds : (most : ℕ) (values : List ℤ) → RowHolds (row_of (empty most)) values
empty-holds most values = exceeds-holds values (empty most) (pos 0) (record { unbarred = λ k d inside. absurd (omega arith); tables = λ k d inside. absurd (omega arith); is = let e = total-nil values in omega (arith, ints) }) (omega (arith, ints))

module _ (given : List Constraint) (declared : List IntSet) (values : List ℤ) (well : All (IsWellFormedConstraint (length declared)) given) (booleans : All (HasBooleanSets declared) given) (within : IsWithin declared values) where
  -- the values meet the row so far, and its tables are those of given constraints
  abbrev Fits : Draft → Type 0
  Fits draft = RowHolds (row_of draft) values × IsFormed given (length declared) draft

  abbrev Kept : RowItem → Type 0
  Kept item = (before next : Draft) → Fits before → item_added given declared before item ≡ Ok next → Fits next

  item-holds : (item : RowItem) → AreMet given (cited_by item) values → (before next : Draft) → RowHolds (row_of before) values → IsFormed given (length declared) before → item_added given declared before item ≡ Ok next → RowHolds (row_of next) values
  item-holds (item.Multiples multiples) met before next holds formed is = multiples-sound given declared values within booleans multiples before next met holds is
  item-holds (item.Prices constraint low prices) met before next holds formed is = prices-sound declared values within low prices given constraint before next well (met 0 constraint (omega arith)) holds is
  item-holds (item.Move constraint variable) met before next holds formed is = moves-sound declared values within given constraint variable before next well booleans (met 0 constraint (omega arith)) holds is
  item-holds (item.Columns constraint column low prices) met before next holds formed is = columns_added-hold given declared constraint before next well formed values column low prices within (met 0 constraint (omega arith)) holds is
  item-holds (item.Rows constraint variable) met before next holds formed is = rows_added-hold given declared constraint before next well formed values variable within (met 0 constraint (omega arith)) holds is

  item-sound : (item : RowItem) → AreMet given (cited_by item) values → Kept item
  item-sound it met before next fits is = (item-holds it met before next fits.0 fits.1 is, item-formed given declared well it before next fits.1 is)

  abbrev IsMetAt : ℕ → Type 0
  IsMetAt id = IfSome (constraint_at given id) (λ (c : Constraint). Meets c values)

  each_kept : (items : List RowItem) → AreMet given (all_cited items) values → All Kept items
  each_kept [] met = All-nil Kept
  each_kept (item ∷ items) met = All-cons Kept item items (item-sound item (all-front IsMetAt (cited_by item) (all_cited items) met)) (each_kept items (all-back IsMetAt (cited_by item) (all_cited items) met))

  pub derived-holds : (most : ℕ) (items : List RowItem) (row : Row) → IsDerivedRow given declared most items row → AreMet given (all_cited items) values → RowHolds row values
  derived-holds most items row derived met =
      let parts = then-both (drafted given declared most items) row_stated row derived in
      let draft = parts.0 in
      subst (λ (r : Row). RowHolds r values) (stated (nat_le (length draft.parts + length draft.tables) longest) (row_of draft) row parts.2)
      (turn-keeps (item_added given declared) Fits items (empty most) draft (each_kept items met) (empty-holds most values, nothing-formed given declared well most) parts.1).0
    where
      stated : (test : Bool) (made row : Row) → cond test (Ok made) (Err NotDerived) ≡ Ok row → made ≡ row
      stated true made row is = cc
      stated false made row is = absurd (cc)

-- ---- one row or none, and one fault

one_value : (a b : Row) → ◌≡◌ {A = Result Row DeriveFault} (Ok a) (Ok b) → a ≡ b
one_value a b e = cc

one_error : (a b : DeriveFault) → ◌≡◌ {A = Result Row DeriveFault} (Err a) (Err b) → a ≡ b
one_error a b e = cc

not_both : (a : Row) (b : DeriveFault) → ◌≡◌ {A = Result Row DeriveFault} (Ok a) (Err b) → ⊥
not_both a b e = cc

module _ (given : List Constraint) (declared : List IntSet) (most : ℕ) (items : List RowItem) where
  pub one-derived_row : (first second : Row) → IsDerivedRow given declared most items first → IsDerivedRow given declared most items second → first ≡ second
  one-derived_row first second a b = one_value first second (sym a ∙ b)

  pub no-row_fault : (row : Row) (fault : DeriveFault) → IsDerivedRow given declared most items row → IsRowFault given declared most items fault → ⊥
  no-row_fault row fault a b = not_both row fault (sym a ∙ b)

  pub one-row_fault : (first second : DeriveFault) → IsRowFault given declared most items first → IsRowFault given declared most items second → first ≡ second
  one-row_fault first second a b = one_error first second (sym a ∙ b)
