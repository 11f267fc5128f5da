-- A row in the making whose parts are within the limits, each of another variable, and what keeps it so.
use Rattle.std.proofs.Common.{◌≡◌, ◌≢◌, ℕ, zero, suc, ◌-◌, ◌≤◌, Bool, true, false, cond, eqb, ◌&&◌, nat_le, List, [], ◌∷◌, ◌++◌, map, get_or, length, refl, sym, ap, subst, arith, ℤ, unsigned_abs, Option, Some, Ok, Err, All}
use Rattle.std.specs.List.{AllPairs, list_all}
use Rattle.std.proofs.lemmas.Int.{ints}
use Rattle.std.proofs.lemmas.Bool.{eqb-true, eqb-false, and_parts}
use Rattle.std.proofs.lemmas.Bool.Decides.{nat_tests}
use Rattle.std.proofs.lemmas.List.Elements.{All-nil, All-cons, All-head, All-tail, All-append, All-map}
use Rattle.fzn_domain.specs.declared.literal.VarId.{VarId}
use Rattle.fzn_domain.specs.IntSet.{IntSet, size, least}
use Rattle.fzn_domain.specs.Narrow.{IsVariable}
use Rattle.fzn_domain.specs.Limits.{IsInLimits}
use Rattle.fzn_meaning.specs.declared.row.VariablePart.{VariablePart}
use Rattle.fzn_meaning.specs.declared.row.TablePart.{TablePart}
use Rattle.fzn_meaning.specs.declared.row.Part.{Part}
use Rattle.fzn_meaning.specs.declared.row.Part.TheVariants.{Variable}
use Rattle.fzn_meaning.specs.declared.row.Part.TheVariants as row_part
use Rattle.fzn_meaning.specs.declared.constraint.Constraint.{Constraint}
use Rattle.fzn_meaning.specs.declared.constraint.Constraint.TheVariants.{Table}
use Rattle.fzn_meaning.specs.Separable.{IsVariablePart, IsTablePart, IsWithinLimit, IsCoefficient, AreApart}
use Rattle.fzn_cited.specs.Cited.{constraint_at}
use Rattle.fzn_cited.specs.declared.fault.DeriveFault.TheVariants.{NotDerived}
use Rattle.fzn_weights.specs.Limits.{is_row_number, is_coefficient, is_entry_within}
use Rattle.fzn_weights.specs.Moves.{span, is_narrow}
use Rattle.fzn_weights.proofs.ListLemmas.{entries-within}
use Rattle.fzn_row.specs.declared.room.BegunTable.{BegunTable}
use Rattle.fzn_row.specs.Draft.{Draft, blank_part, part_for, with_part, with_bound, with_coefficient}
use Rattle.fzn_row.specs.Prices.{with_list}
use Rattle.fzn_row.specs.Room.{IsAbsent}
use Rattle.fzn_row.proofs.ListLemmas.{listed_with}
use Rattle.fzn_row.proofs.DraftSound.{kept, no_error, table_parts}
use Rattle.fzn_row.proofs.TableRowLemmas.{OfEach}

-- each part is of another variable than those behind it
abbrev pub AreOnce : List VariablePart → Type 0
AreOnce [] = Unit {0}
AreOnce (part ∷ parts) = IsAbsent part.var parts × AreOnce parts

-- the table of the constraint with this number, with a weight for each row
pub record IsBegun (given : List Constraint) (count : ℕ) (id : ℕ) (part : TablePart) : Type 0 where
  pub formed : IsTablePart count part
  pub named : constraint_at given id ≡ Some (Table part.places part.rows)

-- parts of this many variables, and tables of given constraints
pub record IsFormed (given : List Constraint) (count : ℕ) (draft : Draft) : Type 0 where
  pub parts : All (IsVariablePart count) draft.parts
  pub once : AreOnce draft.parts
  pub bound : IsWithinLimit draft.bound
  pub tables : OfEach (IsBegun given count) draft.tables

-- no two parts of the row are of one variable
module _ (tables : List BegunTable) where
  tables-apart : (part : VariablePart) → All (AreApart (Variable part)) (table_parts tables)
  tables-apart part = All-map (AreApart (Variable part)) (λ (begun : BegunTable). row_part.Table begun.part) tables (λ k d inside. tt)

  pub row-apart : (parts : List VariablePart) → AreOnce parts → AllPairs AreApart (map Variable parts ++ table_parts tables)
  row-apart [] once i j d before inside = all i d (omega arith) (get_or (table_parts tables) j d)
    where
      all : All (λ (first : Part). (second : Part) → AreApart first second) (table_parts tables)
      all = All-map (λ (first : Part). (second : Part) → AreApart first second) (λ (begun : BegunTable). row_part.Table begun.part) tables (λ k d inside second. tt)
  row-apart (part ∷ parts) once zero zero d before inside = absurd (omega arith)
  row-apart (part ∷ parts) once zero (suc j) d before inside = behind j d (omega arith)
    where
      behind : All (AreApart (Variable part)) (map Variable parts ++ table_parts tables)
      behind = All-append (AreApart (Variable part)) (map Variable parts) (table_parts tables) (All-map (AreApart (Variable part)) Variable parts (λ k d inside same. once.0 k d inside (sym same))) (tables-apart part)
  row-apart (part ∷ parts) once (suc i) zero d before inside = absurd (omega arith)
  row-apart (part ∷ parts) once (suc i) (suc j) d before inside = row-apart parts once.1 i j d (omega arith) (omega arith)

-- ---- another part of a variable

same_var : (a b : VarId) → a.0 ≡ b.0 → a ≡ b
same_var a b e = ap (λ (n : ℕ). record { 0 = n }) e

absent-put : (var : VarId) (new : VariablePart) (parts : List VariablePart) → new.var.0 ≢ var.0 → IsAbsent var parts → IsAbsent var (with_part new parts)
absent-put var new [] other absent = All-cons (λ (p : VariablePart). p.var.0 ≢ var.0) new [] other (All-nil (λ (p : VariablePart). p.var.0 ≢ var.0))
absent-put var new (part ∷ parts) other absent = pick (eqb part.var.0 new.var.0) (absent-put var new parts other later)
  where
    later : IsAbsent var parts
    later = All-tail (λ (p : VariablePart). p.var.0 ≢ var.0) part parts absent

    pick : (test : Bool) → IsAbsent var (with_part new parts) → IsAbsent var (cond test (new ∷ parts) (part ∷ with_part new parts))
    pick true rest = All-cons (λ (p : VariablePart). p.var.0 ≢ var.0) new parts other later
    pick false rest = All-cons (λ (p : VariablePart). p.var.0 ≢ var.0) part (with_part new parts) (All-head (λ (p : VariablePart). p.var.0 ≢ var.0) part parts absent) rest

once-put : (new : VariablePart) (parts : List VariablePart) → AreOnce parts → AreOnce (with_part new parts)
once-put new [] once = (All-nil (λ (p : VariablePart). p.var.0 ≢ new.var.0), tt)
once-put new (part ∷ parts) once = pick (eqb part.var.0 new.var.0) refl (once-put new parts once.1)
  where
    pick : (test : Bool) → eqb part.var.0 new.var.0 ≡ test → AreOnce (with_part new parts) → AreOnce (cond test (new ∷ parts) (part ∷ with_part new parts))
    pick true e rest = (subst (λ (var : VarId). IsAbsent var parts) (same_var part.var new.var (eqb-true part.var.0 new.var.0 e)) once.0, once.1)
    pick false e rest = (absent-put part.var new parts (λ same. eqb-false part.var.0 new.var.0 e (sym same)) once.0, rest)

parts-put : (count : ℕ) (new : VariablePart) (parts : List VariablePart) → IsVariablePart count new → All (IsVariablePart count) parts → All (IsVariablePart count) (with_part new parts)
parts-put count new [] is formed = All-cons (IsVariablePart count) new [] is (All-nil (IsVariablePart count))
parts-put count new (part ∷ parts) is formed = pick (eqb part.var.0 new.var.0) (parts-put count new parts is later)
  where
    later : All (IsVariablePart count) parts
    later = All-tail (IsVariablePart count) part parts formed

    pick : (test : Bool) → All (IsVariablePart count) (with_part new parts) → All (IsVariablePart count) (cond test (new ∷ parts) (part ∷ with_part new parts))
    pick true rest = All-cons (IsVariablePart count) new parts is later
    pick false rest = All-cons (IsVariablePart count) part (with_part new parts) (All-head (IsVariablePart count) part parts formed) rest

pub blank-formed : (count : ℕ) (var : VarId) → IsVariable count var → IsVariablePart count (blank_part var)
blank-formed count var is = record { variable = is; coefficient = omega arith; listed = tt }

part_for-formed : (count : ℕ) (var : VarId) (parts : List VariablePart) → IsVariable count var → All (IsVariablePart count) parts → IsVariablePart count (part_for var parts)
part_for-formed count var [] is formed = blank-formed count var is
part_for-formed count var (part ∷ parts) is formed = pick (eqb part.var.0 var.0) (part_for-formed count var parts is (All-tail (IsVariablePart count) part parts formed))
  where
    pick : (test : Bool) → IsVariablePart count (part_for var parts) → IsVariablePart count (cond test part (part_for var parts))
    pick true rest = All-head (IsVariablePart count) part parts formed
    pick false rest = rest

-- ---- what is not refused

pub passed : (test : Bool) (made draft : Draft) → cond test (Ok made) (Err NotDerived) ≡ Ok draft → test ≡ true
passed true made draft is = refl
passed false made draft is = absurd (no_error NotDerived draft is)

pub low_of : (low : ℤ) → unsigned_abs low ≤ 1000000000 → IsInLimits low
low_of low h = (grind (arith, ints), grind (arith, ints))

pub few_of : (m n : ℕ) → nat_le m n ≡ true → m ≤ n
few_of m n h = grind (arith, nat_tests)

-- a list for a narrow set begins within the limits, and is short enough
pub narrow-limits : (set : IntSet) → is_narrow set ≡ true → IsInLimits (least set) × (span set ≤ 65536)
narrow-limits set narrow =
    let tests = and_parts (nat_le 1 (size set) && nat_le (unsigned_abs (least set)) 1000000000) (nat_le (span set) 65536) narrow in
    let low = (and_parts (nat_le 1 (size set)) (nat_le (unsigned_abs (least set)) 1000000000) tests.0).1 in
    (low_of (least set) (few_of (unsigned_abs (least set)) 1000000000 low), few_of (span set) 65536 tests.1)

limit_of : (number : ℤ) → is_row_number number ≡ true → IsWithinLimit number
limit_of number test = grind (arith, nat_tests)

coefficient_of : (number : ℤ) → is_coefficient number ≡ true → IsCoefficient number
coefficient_of number test = grind (arith, nat_tests)

module _ (given : List Constraint) (count : ℕ) (draft after : Draft) (formed : IsFormed given count draft) where
  pub bound-formed : (bound : ℤ) → with_bound bound draft ≡ Ok after → IsFormed given count after
  bound-formed bound is =
      let test = passed (is_row_number bound) (record draft { bound = bound }) after is in
      subst (IsFormed given count) (kept (is_row_number bound) (record draft { bound = bound }) after is)
      (record { parts = formed.parts; once = formed.once; bound = limit_of bound test; tables = formed.tables })

  pub coefficient-formed : (var : VarId) (coefficient : ℤ) → IsVariable count var → with_coefficient var coefficient draft ≡ Ok after → IsFormed given count after
  coefficient-formed var coefficient variable is =
      let old = part_for var draft.parts in
      let new : VariablePart = record old { coefficient = coefficient } in
      let made : Draft = record draft { parts = with_part new draft.parts } in
      let had = part_for-formed count var draft.parts variable formed.parts in
      let has : IsVariablePart count new = record { variable = had.variable; coefficient = coefficient_of coefficient (passed (is_coefficient coefficient) made after is); listed = had.listed } in
      subst (IsFormed given count) (kept (is_coefficient coefficient) made after is)
      (record { parts = parts-put count new draft.parts has formed.parts; once = once-put new draft.parts formed.once; bound = formed.bound; tables = formed.tables })

  pub list-formed : (var : VarId) (low : ℤ) (entries : List (Option ℤ)) → IsVariable count var → IsInLimits low → length entries ≤ 65536 → with_list var draft low entries ≡ Ok after → IsFormed given count after
  list-formed var low entries variable limits few is =
      let new = listed_with (part_for var draft.parts) low entries in
      let made : Draft = record draft { parts = with_part new draft.parts; left = draft.left - length entries } in
      let test = nat_le (length entries) draft.left && list_all is_entry_within entries in
      let within = (and_parts (nat_le (length entries) draft.left) (list_all is_entry_within entries) (passed test made after is)).1 in
      let had = part_for-formed count var draft.parts variable formed.parts in
      let has : IsVariablePart count new = record { variable = had.variable; coefficient = had.coefficient; listed = record { low = limits; few = few; weights = entries-within entries within } } in
      subst (IsFormed given count) (kept test made after is)
      (record { parts = parts-put count new draft.parts has formed.parts; once = once-put new draft.parts formed.once; bound = formed.bound; tables = formed.tables })

  pub blank-put-formed : (var : VarId) → IsVariable count var → IsFormed given count (record draft { parts = with_part (blank_part var) draft.parts })
  blank-put-formed var variable = record { parts = parts-put count (blank_part var) draft.parts (blank-formed count var variable) formed.parts; once = once-put (blank_part var) draft.parts formed.once; bound = formed.bound; tables = formed.tables }
