-- Tables: values that meet the constraint and the row before meet the row after, and its parts are within the limits.
use Rattle.std.proofs.Common.{◌≡◌, ℕ, ◌-◌, ◌<◌, ◌≤◌, Bool, true, false, cond, ◌&&◌, nat_le, List, [], ◌∷◌, ◌++◌, length, get_or, slice_index_or, refl, sym, ap, ◌∙◌, subst, arith, ℤ, pos, ◌+ℤ◌, ◌-ℤ◌, Option, Some, None, IsSome, IfSome, Result, Ok, Err, All}
use Rattle.std.specs.List.{list_all}
use Rattle.std.specs.Option.{option_map_or}
use Rattle.std.proofs.lemmas.Int.{ints}
use Rattle.std.proofs.lemmas.List.Elements.{All-push}
use Rattle.std.proofs.lemmas.Bool.{and_parts}
use Rattle.fzn_domain.specs.declared.literal.VarId.{VarId}
use Rattle.fzn_domain.specs.IntSet.{IntSet, least, greatest}
use Rattle.fzn_domain.specs.Narrow.{IsWithin, set_of, value_of}
use Rattle.fzn_domain.proofs.SetLemmas.{least_le, le_greatest}
use Rattle.fzn_values.specs.declared.term.Term.{Term}
use Rattle.fzn_values.specs.declared.term.Term.TheVariants.{Constant, Variable}
use Rattle.fzn_meaning.specs.declared.constraint.Constraint.{Constraint}
use Rattle.fzn_meaning.specs.declared.constraint.Constraint.TheVariants.{Table}
use Rattle.fzn_values.specs.Term.{IsTerm, term_value, values_of}
use Rattle.fzn_values.specs.Table.{IsTable}
use Rattle.fzn_meaning.specs.Meaning.{Meets, IsWellFormedConstraint}
use Rattle.fzn_values.proofs.CallerLemmas.{length-values_of, get_or-values_of}
use Rattle.fzn_meaning.specs.declared.row.TablePart.{TablePart}
use Rattle.fzn_meaning.specs.declared.row.VariablePart.{VariablePart}
use Rattle.fzn_meaning.specs.declared.row.Part.TheVariants as row_part
use Rattle.fzn_meaning.specs.Separable.{row_weight, weight_of, weight_at, RowHolds}
use Rattle.fzn_cited.specs.declared.fault.DeriveFault.{DeriveFault}
use Rattle.fzn_cited.specs.declared.fault.DeriveFault.TheVariants.{NoSuchConstraint, NotDerived}
use Rattle.fzn_cited.specs.Cited.{constraint_at}
use Rattle.fzn_cited.proofs.CitedLemmas.{each_at}
use Rattle.fzn_weights.specs.Prices.{price_at, are_prices}
use Rattle.fzn_weights.specs.Limits.{is_entry_within}
use Rattle.fzn_weights.specs.Weights.{both_weights}
use Rattle.fzn_weights.specs.Moves.{moved_from, span, is_narrow}
use Rattle.fzn_weights.specs.Inverses.{place_in}
use Rattle.fzn_weights.specs.Tables.{row_count, blank_table, weights_raised, part_raised}
use Rattle.fzn_weights.proofs.TableLemmas.{blank-formed, part-raised}
use Rattle.fzn_weights.proofs.MoveLemmas.{length-moved}
use Rattle.fzn_row.specs.declared.room.BegunTable.{BegunTable}
use Rattle.fzn_row.specs.Draft.{Draft, row_of, part_for, and_then}
use Rattle.fzn_row.specs.Prices.{with_list}
use Rattle.fzn_row.specs.Weights.{without_part}
use Rattle.fzn_row.specs.Tables.{table_of, with_table, table_begun, weights_spent, table_raised, term_lowered, column_priced, columns_priced, columns_added, part_to_rows, moved_to_rows, rows_added}
use Rattle.fzn_row.proofs.PartLemmas.{var-part_for}
use Rattle.fzn_row.proofs.DraftSound.{some_of, some_is, Exceeds, exceeds-same, exceeds-holds, holds-exceeds, bound-exceeds, kept, no_error, then-both}
use Rattle.fzn_row.proofs.PricesSound.{list-exceeds, member}
use Rattle.fzn_row.proofs.MovesSound.{IsPlaced, placed, moved-weight}
use Rattle.fzn_row.proofs.WeightsSound.{taken-exceeds}
use Rattle.fzn_row.proofs.InversesSound.{place-found, place-variable}
use Rattle.fzn_row.proofs.FormedLemmas.{IsBegun, IsFormed, passed, few_of, narrow-limits, bound-formed, list-formed, blank-put-formed}
use Rattle.fzn_row.proofs.TableRowLemmas.{raised-weight, blank-weight, of-table, of-with_table, table_of-push, put-table, total-push}

ok_is : (a b : Draft) → ◌≡◌ {A = Result Draft DeriveFault} (Ok a) (Ok b) → a ≡ b
ok_is a b e = cc

-- ---- a table that is begun

module _ (declared : List IntSet) (id : ℕ) (places : List Term) (rows : List ℤ) (draft : Draft) where
  abbrev New : BegunTable
  New = record { constraint = id; part = blank_table declared places rows }

  abbrev Begun : Draft
  Begun = table_begun declared id places rows draft

  -- what holds of the draft where it has the table, and of the draft with the blank one where it has none
  begun-either : (P : Draft → Type 0) → ((table : TablePart) → table_of id draft.tables ≡ Some table → P draft) → (table_of id draft.tables ≡ None → P (record draft { tables = draft.tables ++ New ∷ [] })) → P Begun
  begun-either P had new = step (table_of id draft.tables) refl
    where
      step : (o : Option TablePart) → table_of id draft.tables ≡ o → P (option_map_or (λ (table : TablePart). draft) o (record draft { tables = draft.tables ++ New ∷ [] }))
      step (Some table) found = had table found
      step None found = new found

  begun-parts : Begun.parts ≡ draft.parts
  begun-parts = begun-either (λ (d : Draft). d.parts ≡ draft.parts) (λ table found. refl) (λ none. refl)

  begun-table : (table : TablePart) × (table_of id Begun.tables ≡ Some table)
  begun-table = begun-either (λ (d : Draft). (table : TablePart) × (table_of id d.tables ≡ Some table)) (λ table found. (table, found)) (λ none. (blank_table declared places rows, table_of-push New draft.tables none))

  module _ (given : List Constraint) (count : ℕ) (well : IsWellFormedConstraint count (Table places rows)) (named : constraint_at given id ≡ Some (Table places rows)) where
    blank-begun : IsBegun given count id (blank_table declared places rows)
    unfolding IsWellFormedConstraint
    blank-begun = record { formed = blank-formed declared places rows count well.0.0 well.1 well.2 well.3 well.4; named = named }

    begun-formed : IsFormed given count draft → IsFormed given count Begun
    begun-formed formed = begun-either (IsFormed given count) (λ table found. formed) (λ none. record {
      parts = formed.parts;
      once = formed.once;
      bound = formed.bound;
      tables = All-push (λ (begun : BegunTable). IsBegun given count begun.constraint begun.part) draft.tables New formed.tables blank-begun;
    })

  -- the table weighs 0 at first
  begun-exceeds : (values : List ℤ) (excess : ℤ) → IsWithin declared values → All (IsTerm (length declared)) places → 0 < length places → IsTable (values_of values places) rows → Exceeds values draft excess → Exceeds values Begun excess
  begun-exceeds values excess within fit some met h =
      let weighs : weight_of values (row_part.Table New.part) ≡ Some (pos 0) = blank-weight declared values within places fit rows some met in
      begun-either (λ (d : Draft). Exceeds values d excess) (λ table found. h) (λ none. record {
        unbarred = h.unbarred;
        tables = All-push (λ (begun : BegunTable). IsSome (weight_of values (row_part.Table begun.part))) draft.tables New h.tables (some_is _ _ weighs);
        is = let e = h.is in let t = total-push values New draft.tables weighs in omega (arith, ints);
      })

-- ---- a table that is raised

module _ (id : ℕ) (more : ℤ → Option ℤ) (column : ℕ) (draft after : Draft) (table : TablePart) (found : table_of id draft.tables ≡ Some table) where
  abbrev Raised : List (Option ℤ)
  Raised = (part_raised more column table).weights

  abbrev With : TablePart → BegunTable
  With part = record { constraint = id; part = part_raised more column part }

  abbrev After : TablePart → Draft
  After part = record draft { tables = with_table (With part) draft.tables }

  raised_how : table_raised id more column draft ≡ Ok after → (list_all is_entry_within Raised ≡ true) × (After table ≡ after)
  raised_how is =
      let made : cond (list_all is_entry_within Raised) (Ok (After table)) (Err NotDerived) ≡ Ok after =
      sym (ap (λ (o : Option TablePart). option_map_or (λ (part : TablePart). cond (list_all is_entry_within (part_raised more column part).weights) (Ok (After part)) (Err NotDerived)) o (Err NotDerived)) found) ∙ is in
      (passed (list_all is_entry_within Raised) (After table) after made, kept (list_all is_entry_within Raised) (After table) after made)

  raised-parts : table_raised id more column draft ≡ Ok after → after.parts ≡ draft.parts
  raised-parts is = ap (λ (d : Draft). d.parts) (sym (raised_how is).1)

  raised-formed : (given : List Constraint) (count : ℕ) → column < length table.places → IsFormed given count draft → table_raised id more column draft ≡ Ok after → IsFormed given count after
  raised-formed given count inside formed is =
      let how = raised_how is in
      let had = of-table (IsBegun given count) id draft.tables table formed.tables found in
      subst (IsFormed given count) how.1 (record {
        parts = formed.parts;
        once = formed.once;
        bound = formed.bound;
        tables = of-with_table (IsBegun given count) (With table) draft.tables (record { formed = part-raised more column count table had.formed inside how.0; named = had.named }) formed.tables;
      })

  -- the table weighs so much more at its row
  raised-exceeds : (values : List ℤ) (excess m : ℤ) → column < length table.places → more (get_or (values_of values table.places) column (pos 0)) ≡ Some m
      → Exceeds values draft excess → table_raised id more column draft ≡ Ok after → Exceeds values after (excess +ℤ m)
  raised-exceeds values excess m inside weighs h is =
      let how = raised_how is in
      let xs = values_of values table.places in
      let same = length-values_of values table.places in
      let had = some_of (weight_of values (row_part.Table table)) (of-table (λ (_ : ℕ) (t : TablePart). IsSome (weight_of values (row_part.Table t))) id draft.tables table h.tables found) in
      let inside_too : column < length xs = omega (arith, same) in
      let has : weight_of values (row_part.Table (part_raised more column table)) ≡ Some (had.0 +ℤ m) =
      ap (λ (n : ℕ). row_weight xs table.rows (weights_raised more column n table.rows table.weights)) (sym same)
      ∙ raised-weight more column xs table.rows table.weights inside_too
      ∙ ap (both_weights (row_weight xs table.rows table.weights)) weighs
      ∙ ap (λ (o : Option ℤ). both_weights o (Some m)) had.1 in
      let put = put-table values (With table) table draft.tables had.0 (had.0 +ℤ m) h.tables found had.1 has in
      subst (λ (d : Draft). Exceeds values d (excess +ℤ m)) how.1 (record {
        unbarred = h.unbarred;
        tables = put.unbarred;
        is = let e = h.is in let t = put.total in omega (arith, ints);
      })

-- ---- a term that weighs its price less

module _ (declared : List IntSet) (low : ℤ) (prices : List ℤ) where
  abbrev Less : ℤ → Option ℤ
  Less value = Some (pos 0 -ℤ price_at low prices value)

  lowered-formed : (given : List Constraint) (count : ℕ) (term : Term) (draft after : Draft) → IsTerm count term → IsFormed given count draft → term_lowered declared low prices draft term ≡ Ok after → IsFormed given count after
  lowered-formed given count (Constant k) draft after fits formed is = bound-formed given count draft after formed (draft.bound +ℤ price_at low prices k) is
  lowered-formed given count (Variable var) draft after fits formed is = tested (is_narrow (set_of declared var)) refl is
    where
      tested : (test : Bool) → is_narrow (set_of declared var) ≡ test
          → cond test (with_list var draft (least (set_of declared var)) (moved_from Less (least (set_of declared var)) (span (set_of declared var)) (part_for var draft.parts).listed)) (Err NotDerived) ≡ Ok after → IsFormed given count after
      tested true test made =
          let set = set_of declared var in
          let limits = narrow-limits set test in
          let old = (part_for var draft.parts).listed in
          let few : length (moved_from Less (least set) (span set) old) ≤ 65536 = rw (length-moved Less old (least set) (span set)) limits.1 in
          list-formed given count draft after formed var (least set) (moved_from Less (least set) (span set) old) fits limits.0 few made
      tested false test made = absurd (no_error NotDerived after made)

  module _ (values : List ℤ) (within : IsWithin declared values) where
    lowered-exceeds : (term : Term) (draft after : Draft) (excess : ℤ) → IsTerm (length declared) term → Exceeds values draft excess → term_lowered declared low prices draft term ≡ Ok after → Exceeds values after (excess -ℤ price_at low prices (term_value values term))
    lowered-exceeds (Constant k) draft after excess fits h is =
        exceeds-same values after _ _ (given_up excess draft.bound (price_at low prices k)) (bound-exceeds values (draft.bound +ℤ price_at low prices k) draft after excess h is)
      where
        given_up : (e b p : ℤ) → (e +ℤ b) -ℤ (b +ℤ p) ≡ e -ℤ p
        given_up e b p = omega (arith, ints)
    lowered-exceeds (Variable var) draft after excess fits h is = tested (is_narrow (set_of declared var)) is
      where
        less : (e p : ℤ) → e +ℤ (pos 0 -ℤ p) ≡ e -ℤ p
        less e p = omega (arith, ints)

        tested : (test : Bool) → cond test (with_list var draft (least (set_of declared var)) (moved_from Less (least (set_of declared var)) (span (set_of declared var)) (part_for var draft.parts).listed)) (Err NotDerived) ≡ Ok after
            → Exceeds values after (excess -ℤ price_at low prices (value_of values var))
        tested true made =
            let first = least (set_of declared var) in
            let count = span (set_of declared var) in
            let v = value_of values var in
            let here = member declared values within var fits in
            let there = placed first (greatest (set_of declared var)) v (least_le (set_of declared var) v here) (le_greatest (set_of declared var) v here) in
            let old = part_for var draft.parts in
            let of = var-part_for var draft.parts in
            let amount = pos 0 -ℤ price_at low prices v in
            let there_too : IsPlaced first count (value_of values old.var) = subst (λ (x : VarId). IsPlaced first count (value_of values x)) (sym of) there in
            let less_too : Less (value_of values old.var) ≡ Some amount = ap (λ (x : VarId). Less (value_of values x)) of in
            exceeds-same values after _ _ (less excess (price_at low prices v))
            (list-exceeds values first var (moved_from Less first count old.listed) amount draft after excess h (λ w weighs. moved-weight Less first count old (value_of values old.var) w amount there_too weighs less_too) made)
        tested false made = absurd (no_error NotDerived after made)

-- ---- weights that are spent

module _ (count : ℕ) (draft spent : Draft) (is : weights_spent count draft ≡ Ok spent) where
  spent_is : record draft { left = draft.left - count } ≡ spent
  spent_is = kept (nat_le count draft.left) (record draft { left = draft.left - count }) spent is

  spent-formed : (given : List Constraint) (variables : ℕ) → IsFormed given variables draft → IsFormed given variables spent
  spent-formed given variables formed = subst (IsFormed given variables) spent_is (record { parts = formed.parts; once = formed.once; bound = formed.bound; tables = formed.tables })

  spent-exceeds : (values : List ℤ) (excess : ℤ) → Exceeds values draft excess → Exceeds values spent excess
  spent-exceeds values excess h = subst (λ (d : Draft). Exceeds values d excess) spent_is (record { unbarred = h.unbarred; tables = h.tables; is = h.is })

-- ---- both items

same_places : (a b : List Term) (m n : List ℤ) → ◌≡◌ {A = Option Constraint} (Some (Table a m)) (Some (Table b n)) → a ≡ b
same_places a b m n e = cc

module _ (given : List Constraint) (declared : List IntSet) (id : ℕ) (places : List Term) (rows : List ℤ) (well : IsWellFormedConstraint (length declared) (Table places rows)) (named : constraint_at given id ≡ Some (Table places rows)) where
  fit : All (IsTerm (length declared)) places
  unfolding IsWellFormedConstraint
  fit = well.0.0

  nonempty : 0 < length places
  unfolding IsWellFormedConstraint
  nonempty = well.1

  -- the draft has a part of the table
  record HasPart (begun : Draft) : Type 0 where
    formed : IsFormed given (length declared) begun
    table : TablePart
    found : table_of id begun.tables ≡ Some table
    same : table.places ≡ places

  begun-part : (draft : Draft) → IsFormed given (length declared) draft → HasPart (table_begun declared id places rows draft)
  begun-part draft formed =
      let begun = begun-formed declared id places rows draft given (length declared) well named formed in
      let there = begun-table declared id places rows draft in
      record {
        formed = begun;
        table = there.0;
        found = there.1;
        same =
            same_places there.0.places places there.0.rows rows
            (sym (of-table (IsBegun given (length declared)) id (table_begun declared id places rows draft).tables there.0 begun.tables there.1).named ∙ named);
      }

  spent-part : (draft spent : Draft) → IsFormed given (length declared) draft → weights_spent (row_count places rows) draft ≡ Ok spent → HasPart (table_begun declared id places rows spent)
  spent-part draft spent formed is = begun-part spent (spent-formed (row_count places rows) draft spent is given (length declared) formed)

  module _ (begun : Draft) (has : HasPart begun) (column : ℕ) (inside : column < length places) where
    column_inside : column < length has.table.places
    column_inside = subst (λ (ps : List Term). column < length ps) (sym has.same) inside

    -- what the table has at the column
    entry-value : (values : List ℤ) → get_or (values_of values has.table.places) column (pos 0) ≡ term_value values (slice_index_or places column (Constant (pos 0)))
    entry-value values = ap (λ (ps : List Term). get_or (values_of values ps) column (pos 0)) has.same ∙ get_or-values_of values places column (pos 0) (Constant (pos 0)) inside

    module _ (more : ℤ → Option ℤ) (raised : Draft) (is : table_raised id more column begun ≡ Ok raised) where
      part-formed : IsFormed given (length declared) raised
      part-formed = raised-formed id more column begun raised has.table has.found given (length declared) column_inside has.formed is

      part-exceeds : (values : List ℤ) (excess m : ℤ) → more (term_value values (slice_index_or places column (Constant (pos 0)))) ≡ Some m → Exceeds values begun excess → Exceeds values raised (excess +ℤ m)
      part-exceeds values excess m weighs h = raised-exceeds id more column begun raised has.table has.found values excess m column_inside (ap more (entry-value values) ∙ weighs) h is

      part-keeps : raised.parts ≡ begun.parts
      part-keeps = raised-parts id more column begun raised has.table has.found is

  -- ---- prices of a column

  module _ (column : ℕ) (low : ℤ) (prices : List ℤ) (inside : column < length places) (draft after : Draft) (formed : IsFormed given (length declared) draft) (is : column_priced declared id places rows column low prices draft ≡ Ok after) where
    abbrev More : ℤ → Option ℤ
    More entry = Some (price_at low prices entry)

    abbrev Place : Term
    Place = slice_index_or places column (Constant (pos 0))

    priced_steps : (spent : Draft) × (weights_spent (row_count places rows) draft ≡ Ok spent) × (and_then (table_raised id More column (table_begun declared id places rows spent)) (λ raised. term_lowered declared low prices raised Place) ≡ Ok after)
    priced_steps = then-both (weights_spent (row_count places rows) draft) (λ spent. and_then (table_raised id More column (table_begun declared id places rows spent)) (λ raised. term_lowered declared low prices raised Place)) after is

    module _ (spent raised : Draft) (spent_is : weights_spent (row_count places rows) draft ≡ Ok spent) (raised_is : table_raised id More column (table_begun declared id places rows spent) ≡ Ok raised) (after_is : term_lowered declared low prices raised Place ≡ Ok after) where
      then-formed : IsFormed given (length declared) after
      then-formed = lowered-formed declared low prices given (length declared) Place raised after (fit column (Constant (pos 0)) inside) (part-formed (table_begun declared id places rows spent) (spent-part draft spent formed spent_is) column inside More raised raised_is) after_is

      then-exceeds : (values : List ℤ) (excess : ℤ) → IsWithin declared values → IsTable (values_of values places) rows → Exceeds values draft excess → Exceeds values after excess
      then-exceeds values excess within met h =
          let price = price_at low prices (term_value values Place) in
          let begun = begun-exceeds declared id places rows spent values excess within fit nonempty met (spent-exceeds (row_count places rows) draft spent spent_is values excess h) in
          let more = part-exceeds (table_begun declared id places rows spent) (spent-part draft spent formed spent_is) column inside More raised raised_is values excess price refl begun in
          exceeds-same values after _ _ (back excess price) (lowered-exceeds declared low prices values within Place raised after (excess +ℤ price) (fit column (Constant (pos 0)) inside) more after_is)
        where
          back : (e p : ℤ) → (e +ℤ p) -ℤ p ≡ e
          back e p = omega (arith, ints)

    column-formed : IsFormed given (length declared) after
    column-formed =
        let first = priced_steps in
        let second = then-both (table_raised id More column (table_begun declared id places rows first.0)) (λ raised. term_lowered declared low prices raised Place) after first.2 in
        then-formed first.0 second.0 first.1 second.1 second.2

    column-exceeds : (values : List ℤ) (excess : ℤ) → IsWithin declared values → IsTable (values_of values places) rows → Exceeds values draft excess → Exceeds values after excess
    column-exceeds values excess within met h =
        let first = priced_steps in
        let second = then-both (table_raised id More column (table_begun declared id places rows first.0)) (λ raised. term_lowered declared low prices raised Place) after first.2 in
        then-exceeds first.0 second.0 first.1 second.1 second.2 values excess within met h

  module _ (column : ℕ) (low : ℤ) (prices : List ℤ) (draft after : Draft) (formed : IsFormed given (length declared) draft) (is : columns_priced declared id column low prices draft (Table places rows) ≡ Ok after) where
    abbrev column_test : Bool
    column_test = are_prices low prices && nat_le 1 column && nat_le column (length places)

    column_within : column_test ≡ true → column - 1 < length places
    column_within test =
        let second = and_parts (are_prices low prices && nat_le 1 column) (nat_le column (length places)) test in
        let first = and_parts (are_prices low prices) (nat_le 1 column) second.0 in
        let a = few_of 1 column first.1 in
        let b = few_of column (length places) second.1 in
        omega arith

    columns-formed : IsFormed given (length declared) after
    columns-formed = tested column_test refl is
      where
        tested : (test : Bool) → column_test ≡ test → cond test (column_priced declared id places rows (column - 1) low prices draft) (Err NotDerived) ≡ Ok after → IsFormed given (length declared) after
        tested true test made = column-formed (column - 1) low prices (column_within test) draft after formed made
        tested false test made = absurd (no_error NotDerived after made)

    columns-hold : (values : List ℤ) → IsWithin declared values → IsTable (values_of values places) rows → RowHolds (row_of draft) values → RowHolds (row_of after) values
    columns-hold values within met before = tested column_test refl is
      where
        tested : (test : Bool) → column_test ≡ test → cond test (column_priced declared id places rows (column - 1) low prices draft) (Err NotDerived) ≡ Ok after → RowHolds (row_of after) values
        tested true test made =
            let had = holds-exceeds values draft before in
            exceeds-holds values after had.0 (column-exceeds (column - 1) low prices (column_within test) draft after formed made values had.0 within met had.2) had.1
        tested false test made = absurd (no_error NotDerived after made)

  -- ---- what a variable weighs

  module _ (var : VarId) (column : ℕ) (found : place_in var places ≡ Some column) (draft after : Draft) (formed : IsFormed given (length declared) draft) (is : part_to_rows declared id places rows column var draft ≡ Ok after) where
    inside : column < length places
    inside = (place-found var places column found).inside

    moved_steps : (spent : Draft) × (weights_spent (row_count places rows) draft ≡ Ok spent) × (and_then (table_raised id (weight_at (part_for var spent.parts)) column (table_begun declared id places rows spent)) (λ raised. Ok (without_part var raised)) ≡ Ok after)
    moved_steps = then-both (weights_spent (row_count places rows) draft) (λ spent. and_then (table_raised id (weight_at (part_for var spent.parts)) column (table_begun declared id places rows spent)) (λ raised. Ok (without_part var raised))) after is

    module _ (spent raised : Draft) (spent_is : weights_spent (row_count places rows) draft ≡ Ok spent) (raised_is : table_raised id (weight_at (part_for var spent.parts)) column (table_begun declared id places rows spent) ≡ Ok raised) where
      moved-formed : IsFormed given (length declared) (without_part var raised)
      moved-formed =
          blank-put-formed given (length declared) raised raised (part-formed (table_begun declared id places rows spent) (spent-part draft spent formed spent_is) column inside (weight_at (part_for var spent.parts)) raised raised_is) var
          (place-variable (length declared) var places column fit found)

      moved-exceeds : (values : List ℤ) (excess : ℤ) → IsWithin declared values → IsTable (values_of values places) rows → Exceeds values draft excess → Exceeds values (without_part var raised) excess
      moved-exceeds values excess within met h =
          let start = spent-exceeds (row_count places rows) draft spent spent_is values excess h in
          let had = taken-exceeds values var spent excess start in
          let begun = begun-exceeds declared id places rows spent values excess within fit nonempty met start in
          let at : term_value values (slice_index_or places column (Constant (pos 0))) ≡ value_of values var = ap (term_value values) ((place-found var places column found).is (Constant (pos 0))) in
          let more = part-exceeds (table_begun declared id places rows spent) (spent-part draft spent formed spent_is) column inside (weight_at (part_for var spent.parts)) raised raised_is values excess had.0 (ap (weight_at (part_for var spent.parts)) at ∙ had.1) begun in
          let taken = taken-exceeds values var raised (excess +ℤ had.0) more in
          let parts_are = part-keeps (table_begun declared id places rows spent) (spent-part draft spent formed spent_is) column inside (weight_at (part_for var spent.parts)) raised raised_is ∙ begun-parts declared id places rows spent in
          exceeds-same values (without_part var raised) _ _ (back excess had.0 taken.0 (same_weight spent.parts raised.parts parts_are values had.0 taken.0 had.1 taken.1)) taken.2
        where
          one_value : (a b : ℤ) → ◌≡◌ {A = Option ℤ} (Some a) (Some b) → a ≡ b
          one_value a b e = cc

          same_weight : (before behind : List VariablePart) → behind ≡ before → (values : List ℤ) (a b : ℤ) → weight_at (part_for var before) (value_of values var) ≡ Some a → weight_at (part_for var behind) (value_of values var) ≡ Some b → a ≡ b
          same_weight before behind same values a b p q = one_value a b (sym p ∙ ap (λ (ps : List VariablePart). weight_at (part_for var ps) (value_of values var)) (sym same) ∙ q)

          back : (e m w : ℤ) → m ≡ w → (e +ℤ m) -ℤ w ≡ e
          back e m w same = omega (arith, ints)

    to_rows-formed : IsFormed given (length declared) after
    to_rows-formed =
        let first = moved_steps in
        let second = then-both (table_raised id (weight_at (part_for var first.0.parts)) column (table_begun declared id places rows first.0)) (λ raised. Ok (without_part var raised)) after first.2 in
        subst (IsFormed given (length declared)) (ok_is (without_part var second.0) after second.2) (moved-formed first.0 second.0 first.1 second.1)

    to_rows-exceeds : (values : List ℤ) (excess : ℤ) → IsWithin declared values → IsTable (values_of values places) rows → Exceeds values draft excess → Exceeds values after excess
    to_rows-exceeds values excess within met h =
        let first = moved_steps in
        let second = then-both (table_raised id (weight_at (part_for var first.0.parts)) column (table_begun declared id places rows first.0)) (λ raised. Ok (without_part var raised)) after first.2 in
        subst (λ (d : Draft). Exceeds values d excess) (ok_is (without_part var second.0) after second.2) (moved-exceeds first.0 second.0 first.1 second.1 values excess within met h)

  module _ (var : VarId) (draft after : Draft) (formed : IsFormed given (length declared) draft) (is : moved_to_rows declared id var draft (Table places rows) ≡ Ok after) where
    rows-formed : IsFormed given (length declared) after
    rows-formed = at (place_in var places) refl is
      where
        at : (o : Option ℕ) → place_in var places ≡ o → option_map_or (λ column. part_to_rows declared id places rows column var draft) o (Err NotDerived) ≡ Ok after → IsFormed given (length declared) after
        at None found made = absurd (no_error NotDerived after made)
        at (Some column) found made = to_rows-formed var column found draft after formed made

    rows-hold : (values : List ℤ) → IsWithin declared values → IsTable (values_of values places) rows → RowHolds (row_of draft) values → RowHolds (row_of after) values
    rows-hold values within met before = at (place_in var places) refl is
      where
        at : (o : Option ℕ) → place_in var places ≡ o → option_map_or (λ column. part_to_rows declared id places rows column var draft) o (Err NotDerived) ≡ Ok after → RowHolds (row_of after) values
        at None found made = absurd (no_error NotDerived after made)
        at (Some column) found made =
            let had = holds-exceeds values draft before in
            exceeds-holds values after had.0 (to_rows-exceeds var column found draft after formed made values had.0 within met had.2) had.1

-- ---- by the number of the constraint

module _ (given : List Constraint) (declared : List IntSet) (id : ℕ) (draft after : Draft) where
  -- the number is that of a table, of which so much is made
  record IsMadeOf (made_of : Constraint → Result Draft DeriveFault) : Type 0 where
    places : List Term
    rows : List ℤ
    named : constraint_at given id ≡ Some (Table places rows)
    made : made_of (Table places rows) ≡ Ok after

  by_table : (made_of : Constraint → Result Draft DeriveFault) → ((c : Constraint) → constraint_at given id ≡ Some c → made_of c ≡ Ok after → IsMadeOf made_of) → option_map_or made_of (constraint_at given id) (Err NoSuchConstraint) ≡ Ok after → IsMadeOf made_of
  by_table made_of of_kind is = found (constraint_at given id) refl is
    where
      found : (o : Option Constraint) → constraint_at given id ≡ o → option_map_or made_of o (Err NoSuchConstraint) ≡ Ok after → IsMadeOf made_of
      found None named made = absurd (no_error NoSuchConstraint after made)
      found (Some c) named made = of_kind c named made

  columns-of_table : (column : ℕ) (low : ℤ) (prices : List ℤ) (c : Constraint) → constraint_at given id ≡ Some c → columns_priced declared id column low prices draft c ≡ Ok after → IsMadeOf (columns_priced declared id column low prices draft)
  columns-of_table column low prices (Table places rows) named made = record { places = places; rows = rows; named = named; made = made }
  columns-of_table column low prices _ named made = absurd (no_error NotDerived after made)

  rows-of_table : (var : VarId) (c : Constraint) → constraint_at given id ≡ Some c → moved_to_rows declared id var draft c ≡ Ok after → IsMadeOf (moved_to_rows declared id var draft)
  rows-of_table var (Table places rows) named made = record { places = places; rows = rows; named = named; made = made }
  rows-of_table var _ named made = absurd (no_error NotDerived after made)

  table-met : (values : List ℤ) (places : List Term) (rows : List ℤ) → constraint_at given id ≡ Some (Table places rows) → IfSome (constraint_at given id) (λ (c : Constraint). Meets c values) → IsTable (values_of values places) rows
  unfolding Meets
  table-met values places rows named met = subst (λ (o : Option Constraint). IfSome o (λ (c : Constraint). Meets c values)) named met

  module _ (well : All (IsWellFormedConstraint (length declared)) given) (formed : IsFormed given (length declared) draft) where
    table-well : (c : Constraint) → constraint_at given id ≡ Some c → IsWellFormedConstraint (length declared) c
    table-well c named = subst (λ (o : Option Constraint). IfSome o (IsWellFormedConstraint (length declared))) named (each_at (IsWellFormedConstraint (length declared)) given id well)

    pub columns_added-formed : (column : ℕ) (low : ℤ) (prices : List ℤ) → columns_added given declared draft id column low prices ≡ Ok after → IsFormed given (length declared) after
    columns_added-formed column low prices is =
        let it = by_table (columns_priced declared id column low prices draft) (columns-of_table column low prices) is in
        columns-formed given declared id it.places it.rows (table-well _ it.named) it.named column low prices draft after formed it.made

    pub columns_added-hold : (values : List ℤ) (column : ℕ) (low : ℤ) (prices : List ℤ) → IsWithin declared values → IfSome (constraint_at given id) (λ (c : Constraint). Meets c values) → RowHolds (row_of draft) values
        → columns_added given declared draft id column low prices ≡ Ok after → RowHolds (row_of after) values
    columns_added-hold values column low prices within met before is =
        let it = by_table (columns_priced declared id column low prices draft) (columns-of_table column low prices) is in
        columns-hold given declared id it.places it.rows (table-well _ it.named) it.named column low prices draft after formed it.made values within (table-met values it.places it.rows it.named met) before

    pub rows_added-formed : (var : VarId) → rows_added given declared draft id var ≡ Ok after → IsFormed given (length declared) after
    rows_added-formed var is =
        let it = by_table (moved_to_rows declared id var draft) (rows-of_table var) is in
        rows-formed given declared id it.places it.rows (table-well _ it.named) it.named var draft after formed it.made

    pub rows_added-hold : (values : List ℤ) (var : VarId) → IsWithin declared values → IfSome (constraint_at given id) (λ (c : Constraint). Meets c values) → RowHolds (row_of draft) values
        → rows_added given declared draft id var ≡ Ok after → RowHolds (row_of after) values
    rows_added-hold values var within met before is =
        let it = by_table (moved_to_rows declared id var draft) (rows-of_table var) is in
        rows-hold given declared id it.places it.rows (table-well _ it.named) it.named var draft after formed it.made values within (table-met values it.places it.rows it.named met) before
