-- The row that items make has parts within the limits, each of another variable.
use Rattle.std.proofs.Common.{◌≡◌, ℕ, ◌+◌, ◌≤◌, Bool, true, false, cond, ◌&&◌, nat_le, List, [], ◌∷◌, map, length, slice_index_or, refl, subst, arith, ℤ, pos, ◌+ℤ◌, ◌-ℤ◌, ◌*ℤ◌, unsigned_abs, Option, None, Some, IfSome, Result, Ok, Err, All}
use Rattle.std.specs.List.{list_all}
use Rattle.std.specs.Option.{option_map_or}
use Rattle.std.specs.Ordering.{int_eq}
use Rattle.std.proofs.lemmas.List.{length-append, length-map}
use Rattle.std.proofs.lemmas.List.Elements.{All-head, All-tail, All-append, All-map}
use Rattle.std.proofs.lemmas.Bool.{and_parts}
use Rattle.fzn_list.specs.Limits.{longest}
use Rattle.fzn_domain.specs.IntSet.{IntSet, least}
use Rattle.fzn_domain.specs.Narrow.{IsVariable, set_of}
use Rattle.fzn_domain.specs.declared.literal.VarId.{VarId}
use Rattle.fzn_values.specs.declared.term.Term.{Term}
use Rattle.fzn_values.specs.declared.term.Term.TheVariants.{Constant, Variable}
use Rattle.fzn_values.specs.declared.term.Place.{Place}
use Rattle.fzn_meaning.specs.declared.constraint.Constraint.{Constraint}
use Rattle.fzn_meaning.specs.declared.constraint.Constraint.TheVariants.{Inverse}
use Rattle.fzn_meaning.specs.declared.row.Row.{Row}
use Rattle.fzn_values.specs.Term.{IsTerm, IsPlace}
use Rattle.fzn_meaning.specs.Meaning.{IsWellFormedConstraint, AreTerms}
use Rattle.fzn_meaning.specs.declared.row.VariablePart.{VariablePart}
use Rattle.fzn_meaning.specs.declared.row.Part.TheVariants as row_part
use Rattle.fzn_dependence.specs.Decided.{decider_in, decided_in}
use Rattle.fzn_dependence.proofs.DecidedSound.{decided-variables}
use Rattle.fzn_weights.specs.Multiples.{is_usable}
use Rattle.fzn_weights.specs.Prices.{entries_from, price_at, most_cost, priced_places, has_each_price, is_price, are_prices}
use Rattle.fzn_weights.specs.Moves.{weight_where, moved_from, span, is_narrow}
use Rattle.fzn_weights.specs.Inverses.{raised_from, place_in}
use Rattle.fzn_weights.proofs.PriceLemmas.{length-entries}
use Rattle.fzn_weights.proofs.MoveLemmas.{length-moved}
use Rattle.fzn_weights.proofs.InverseLemmas.{length-raised}
use Rattle.fzn_row.specs.declared.room.BegunTable.{BegunTable}
use Rattle.fzn_meaning.specs.Separable.{weight_at, IsPart, IsSeparableRow}
use Rattle.fzn_builtin_rules.specs.Form.{Form, Fits, form_of}
use Rattle.fzn_builtin_rules.proofs.CallerLemmas.{form_fits}
use Rattle.fzn_cited.specs.declared.fault.DeriveFault.{DeriveFault}
use Rattle.fzn_cited.specs.declared.fault.DeriveFault.TheVariants.{NoSuchConstraint, NotDerived}
use Rattle.fzn_cited.specs.declared.multiple.Multiple.{Multiple}
use Rattle.fzn_cited.specs.Cited.{constraint_at}
use Rattle.fzn_cited.proofs.CitedLemmas.{each_at}
use Rattle.fzn_row.specs.declared.item.RowItem.{RowItem}
use Rattle.fzn_row.specs.declared.item.RowItem.TheVariants as item
use Rattle.fzn_row.specs.Draft.{Draft, empty, row_of, row_stated, part_for, with_bound, and_then, in_turn}
use Rattle.fzn_row.specs.Multiples.{term_added, place_added, form_added, multiple_added}
use Rattle.fzn_row.specs.Prices.{price_added}
use Rattle.fzn_row.specs.Weights.{without_part}
use Rattle.fzn_row.specs.Moves.{part_moved_so, decided_moved, part_moved_by}
use Rattle.fzn_row.specs.Inverses.{place_raised, places_raised, moved_back, inverse_moved}
use Rattle.fzn_row.specs.Derived.{item_added, drafted, IsDerivedRow}
use Rattle.fzn_row.proofs.InversesSound.{place-variable}
use Rattle.fzn_row.proofs.PricesSound.{places-formed}
use Rattle.fzn_row.proofs.DraftSound.{no_error, then-both, turn-keeps, table_parts}
use Rattle.fzn_row.proofs.TablesSound.{columns_added-formed, rows_added-formed}
use Rattle.fzn_row.proofs.FormedLemmas.{IsFormed, row-apart, low_of, few_of, narrow-limits, bound-formed, coefficient-formed, list-formed, blank-put-formed}

-- ---- multiples

module _ (given : List Constraint) (count : ℕ) where
  term-formed : (amount : ℤ) (term : Term) (draft after : Draft) → IsTerm count term → IsFormed given count draft → term_added amount draft term ≡ Ok after → IsFormed given count after
  term-formed amount (Constant k) draft after fits formed is = bound-formed given count draft after formed (draft.bound -ℤ amount *ℤ k) is
  term-formed amount (Variable var) draft after fits formed is = coefficient-formed given count draft after formed var ((part_for var draft.parts).coefficient +ℤ amount) fits is

  form-formed : (multiplier : ℤ) (found : Form) (draft after : Draft) → Fits count found → IsFormed given count draft → form_added multiplier draft found ≡ Ok after → IsFormed given count after
  unfolding form_added
  form-formed multiplier found draft after fits formed is =
      let parts = then-both (in_turn (place_added multiplier) draft found.places) (λ next. with_bound (next.bound +ℤ found.bound *ℤ multiplier) next) after is in
      let places = turn-keeps (place_added multiplier) (IsFormed given count) found.places draft parts.0 (λ k d inside. place-formed (slice_index_or found.places k d) (fits.places_fit k d inside)) formed parts.1 in
      bound-formed given count parts.0 after places (parts.0.bound +ℤ found.bound *ℤ multiplier) parts.2
    where
      place-formed : (place : Place) → IsPlace count place → (before next : Draft) → IsFormed given count before → place_added multiplier before place ≡ Ok next → IsFormed given count next
      place-formed place fits before next formed is = term-formed (place.coefficient *ℤ multiplier) place.term before next fits.0 formed is

  tested_form-formed : (multiplier : ℤ) (found : Form) (draft after : Draft) (test : Bool) → Fits count found → IsFormed given count draft → cond test (form_added multiplier draft found) (Err NotDerived) ≡ Ok after → IsFormed given count after
  tested_form-formed multiplier found draft after true fits formed is = form-formed multiplier found draft after fits formed is
  tested_form-formed multiplier found draft after false fits formed is = absurd (no_error NotDerived after is)

  maybe_form-formed : (multiplier : ℤ) (o : Option Form) (draft after : Draft) → IfSome o (Fits count) → IsFormed given count draft
      → option_map_or (λ (found : Form). cond (is_usable multiplier found) (form_added multiplier draft found) (Err NotDerived)) o (Err NotDerived) ≡ Ok after → IsFormed given count after
  maybe_form-formed multiplier None draft after fits formed is = absurd (no_error NotDerived after is)
  maybe_form-formed multiplier (Some found) draft after fits formed is = tested_form-formed multiplier found draft after (is_usable multiplier found) fits formed is

  maybe_multiple-formed : (multiplier : ℤ) (o : Option Constraint) (draft after : Draft) → IfSome o (IsWellFormedConstraint count) → IsFormed given count draft
      → option_map_or (λ (c : Constraint). option_map_or (λ (found : Form). cond (is_usable multiplier found) (form_added multiplier draft found) (Err NotDerived)) (form_of c) (Err NotDerived)) o (Err NoSuchConstraint) ≡ Ok after
      → IsFormed given count after
  maybe_multiple-formed multiplier None draft after well formed is = absurd (no_error NoSuchConstraint after is)
  maybe_multiple-formed multiplier (Some c) draft after well formed is = maybe_form-formed multiplier (form_of c) draft after (form_fits count c well) formed is

-- ---- prices

module _ (given : List Constraint) (count : ℕ) (low : ℤ) (prices : List ℤ) (priced : are_prices low prices ≡ true) where
  limits : (unsigned_abs low ≤ 1000000000) × (length prices ≤ 65536)
  limits =
      let first = and_parts (nat_le (unsigned_abs low) 1000000000 && nat_le (length prices) 65536) (list_all is_price prices) priced in
      let second = and_parts (nat_le (unsigned_abs low) 1000000000) (nat_le (length prices) 65536) first.0 in
      (few_of (unsigned_abs low) 1000000000 second.0, few_of (length prices) 65536 second.1)

  price-formed : (place : Term) → IsTerm count place → (before next : Draft) → IsFormed given count before → price_added low prices before place ≡ Ok next → IsFormed given count next
  price-formed (Constant k) fits before next formed is = bound-formed given count before next formed (before.bound -ℤ price_at low prices k) is
  price-formed (Variable var) fits before next formed is =
      let old = (part_for var before.parts).listed in
      let few : length (entries_from low prices old) ≤ 65536 = rw (length-entries low prices old) limits.1 in
      list-formed given count before next formed var low (entries_from low prices old) fits (low_of low limits.0) few is

  priced-formed : (places : List Term) (draft after : Draft) → All (IsTerm count) places → IsFormed given count draft
      → and_then (in_turn (price_added low prices) draft places) (λ next. with_bound (next.bound +ℤ most_cost (length places) prices) next) ≡ Ok after → IsFormed given count after
  priced-formed places draft after fit formed is =
      let parts = then-both (in_turn (price_added low prices) draft places) (λ next. with_bound (next.bound +ℤ most_cost (length places) prices) next) after is in
      let all = turn-keeps (price_added low prices) (IsFormed given count) places draft parts.0 (λ k d inside. price-formed (slice_index_or places k d) (fit k d inside)) formed parts.1 in
      bound-formed given count parts.0 after all (parts.0.bound +ℤ most_cost (length places) prices) parts.2

module _ (given : List Constraint) (declared : List IntSet) (low : ℤ) (prices : List ℤ) where
  places-formed_with : (count : ℕ) (c : Constraint) (o : Option (List Term)) (draft after : Draft) (test : Bool) → (are_prices low prices && has_each_price declared low prices c) ≡ test → IfSome o (AreTerms count) → IsFormed given count draft
      → option_map_or (λ (places : List Term). cond test (and_then (in_turn (price_added low prices) draft places) (λ next. with_bound (next.bound +ℤ most_cost (length places) prices) next)) (Err NotDerived)) o (Err NotDerived) ≡ Ok after → IsFormed given count after
  places-formed_with count c None draft after test test_is fit formed is = absurd (no_error NotDerived after is)
  places-formed_with count c (Some places) draft after true test_is fit formed is = priced-formed given count low prices (and_parts (are_prices low prices) (has_each_price declared low prices c) test_is).0 places draft after fit.0 formed is
  places-formed_with count c (Some places) draft after false test_is fit formed is = absurd (no_error NotDerived after is)

  maybe_prices-formed : (count : ℕ) (o : Option Constraint) (draft after : Draft) → IfSome o (IsWellFormedConstraint count) → IsFormed given count draft
      → option_map_or (λ (c : Constraint). option_map_or (λ (places : List Term). cond (are_prices low prices && has_each_price declared low prices c) (and_then (in_turn (price_added low prices) draft places) (λ next. with_bound (next.bound +ℤ most_cost (length places) prices) next)) (Err NotDerived)) (priced_places c) (Err NotDerived)) o (Err NoSuchConstraint) ≡ Ok after
      → IsFormed given count after
  maybe_prices-formed count None draft after well formed is = absurd (no_error NoSuchConstraint after is)
  maybe_prices-formed count (Some c) draft after well formed is = places-formed_with count c (priced_places c) draft after _ refl (places-formed count c well) formed is

-- ---- moves

ok_is : (a b : Draft) → ◌≡◌ {A = Result Draft DeriveFault} (Ok a) (Ok b) → a ≡ b
ok_is a b e = cc

module _ (given : List Constraint) (count : ℕ) where
  narrow-formed : (declared : List IntSet) (decided : ℤ → Option ℤ) (source by : VarId) (draft after : Draft) (test : Bool) → is_narrow (set_of declared by) ≡ test → IsVariable count source → IsVariable count by → IsFormed given count draft
      → cond test (part_moved_so declared decided source by draft) (Err NotDerived) ≡ Ok after → IsFormed given count after
  narrow-formed declared decided source by draft after true test source_fits by_fits formed is =
      let set = set_of declared by in
      let limits = narrow-limits set test in
      let more = weight_where (set_of declared source) (part_for source draft.parts) decided in
      let old = (part_for by (without_part source draft).parts).listed in
      let few : length (moved_from more (least set) (span set) old) ≤ 65536 = rw (length-moved more old (least set) (span set)) limits.1 in
      list-formed given count (without_part source draft) after (blank-put-formed given count draft draft formed source source_fits) by (least set) (moved_from more (least set) (span set) old) by_fits limits.0 few is
  narrow-formed declared decided source by draft after false test source_fits by_fits formed is = absurd (no_error NotDerived after is)

  raised-formed : (length_of : ℕ) (value : ℤ) (more : Option ℤ) (place : Term) (draft after : Draft) → length_of ≤ 65536 → IsTerm count place → IsFormed given count draft → place_raised length_of value more draft place ≡ Ok after → IsFormed given count after
  raised-formed length_of value more (Constant k) draft after few fits formed is = constant (int_eq k value) more is
    where
      constant : (test : Bool) (m : Option ℤ) → cond test (option_map_or (λ w. with_bound (draft.bound -ℤ w) draft) m (Err NotDerived)) (Ok draft) ≡ Ok after → IsFormed given count after
      constant true None made = absurd (no_error NotDerived after made)
      constant true (Some w) made = bound-formed given count draft after formed (draft.bound -ℤ w) made
      constant false m made = subst (IsFormed given count) (ok_is draft after made) formed
  raised-formed length_of value more (Variable var) draft after few fits formed is =
      let old = (part_for var draft.parts).listed in
      list-formed given count draft after formed var (pos 1) (raised_from (pos 1) length_of value more old) fits (low_of (pos 1) (omega arith)) (rw (length-raised value more old (pos 1) length_of) few) is

  all_raised-formed : (part : VariablePart) (length_of : ℕ) (value number : ℤ) (places : List Term) (draft after : Draft) → length_of ≤ 65536 → All (IsTerm count) places → IsFormed given count draft → places_raised part length_of value number draft places ≡ Ok after → IsFormed given count after
  all_raised-formed part length_of value number [] draft after few fit formed is = subst (IsFormed given count) (ok_is draft after is) formed
  all_raised-formed part length_of value number (place ∷ places) draft after few fit formed is =
      let parts = then-both (place_raised length_of value (weight_at part number) draft place) (λ next. places_raised part length_of value (number +ℤ pos 1) next places) after is in
      all_raised-formed part length_of value (number +ℤ pos 1) places parts.0 after few (All-tail (IsTerm count) place places fit) (raised-formed length_of value (weight_at part number) place draft parts.0 few (All-head (IsTerm count) place places fit) formed parts.1) parts.2

  back-formed : (var : VarId) (places : List Term) (place : ℕ) (draft after : Draft) → IsVariable count var → All (IsTerm count) places → IsFormed given count draft → moved_back var draft places place ≡ Ok after → IsFormed given count after
  back-formed var places place draft after variable fit formed is = tested (nat_le (length places) 65536) refl is
    where
      tested : (test : Bool) → nat_le (length places) 65536 ≡ test → cond test (places_raised (part_for var draft.parts) (length places) (pos (place + 1)) (pos 1) (without_part var draft) places) (Err NotDerived) ≡ Ok after → IsFormed given count after
      tested true test made = all_raised-formed (part_for var draft.parts) (length places) (pos (place + 1)) (pos 1) places (without_part var draft) after (few_of (length places) 65536 test) fit (blank-put-formed given count draft draft formed var variable) made
      tested false test made = absurd (no_error NotDerived after made)

  inverse-formed : (var : VarId) (forward backward : List Term) (draft after : Draft) → All (IsTerm count) forward → All (IsTerm count) backward → IsFormed given count draft → inverse_moved var draft forward backward ≡ Ok after → IsFormed given count after
  inverse-formed var forward backward draft after forward_fits backward_fits formed is = in_backward (place_in var backward) refl is
    where
      in_forward : (found : Option ℕ) → place_in var forward ≡ found → option_map_or (moved_back var draft backward) found (Err NotDerived) ≡ Ok after → IsFormed given count after
      in_forward None found made = absurd (no_error NotDerived after made)
      in_forward (Some place) found made = back-formed var backward place draft after (place-variable count var forward place forward_fits found) backward_fits formed made

      in_backward : (found : Option ℕ) → place_in var backward ≡ found → option_map_or (moved_back var draft forward) found (option_map_or (moved_back var draft backward) (place_in var forward) (Err NotDerived)) ≡ Ok after → IsFormed given count after
      in_backward None found made = in_forward (place_in var forward) refl made
      in_backward (Some place) found made = back-formed var forward place draft after (place-variable count var backward place backward_fits found) forward_fits formed made

  decided-formed : (declared : List IntSet) (source : VarId) (c : Constraint) (draft after : Draft) → IsWellFormedConstraint count c → IsFormed given count draft → decided_moved declared source draft c ≡ Ok after → IsFormed given count after
  decided-formed declared source c draft after well formed is = found (decider_in source c) refl is
    where
      found : (o : Option VarId) → decider_in source c ≡ o → option_map_or (λ by. cond (is_narrow (set_of declared by)) (part_moved_so declared (λ (value : ℤ). decided_in by value c) source by draft) (Err NotDerived)) o (Err NotDerived) ≡ Ok after → IsFormed given count after
      found None decider made = absurd (no_error NotDerived after made)
      found (Some by) decider made =
          let fit = decided-variables count source by c well decider in
          narrow-formed declared (λ (value : ℤ). decided_in by value c) source by draft after (is_narrow (set_of declared by)) refl fit.1 fit.0 formed made

  moved_by-formed : (declared : List IntSet) (var : VarId) (c : Constraint) (draft after : Draft) → IsWellFormedConstraint count c → IsFormed given count draft → part_moved_by declared var draft c ≡ Ok after → IsFormed given count after
  unfolding IsWellFormedConstraint
  moved_by-formed declared var (Inverse forward backward) draft after well formed is = inverse-formed var forward backward draft after well.0.0 well.1.0 formed is
  moved_by-formed declared var c draft after well formed is = decided-formed declared var c draft after well formed is

  maybe_move-formed : (declared : List IntSet) (var : VarId) (o : Option Constraint) (draft after : Draft) → IfSome o (IsWellFormedConstraint count) → IsFormed given count draft → option_map_or (part_moved_by declared var draft) o (Err NoSuchConstraint) ≡ Ok after → IsFormed given count after
  maybe_move-formed declared var None draft after well formed is = absurd (no_error NoSuchConstraint after is)
  maybe_move-formed declared var (Some c) draft after well formed is = moved_by-formed declared var c draft after well formed is

-- ---- all items

stated : (test : Bool) (made row : Row) → cond test (Ok made) (Err NotDerived) ≡ Ok row → (test ≡ true) × (made ≡ row)
stated true made row is = (refl, cc)
stated false made row is = absurd (cc)

module _ (given : List Constraint) (declared : List IntSet) (well : All (IsWellFormedConstraint (length declared)) given) where
  well_at : (id : ℕ) → IfSome (constraint_at given id) (IsWellFormedConstraint (length declared))
  well_at id = each_at (IsWellFormedConstraint (length declared)) given id well

  multiple-formed : (multiple : Multiple) (before next : Draft) → IsFormed given (length declared) before → multiple_added given before multiple ≡ Ok next → IsFormed given (length declared) next
  multiple-formed multiple before next formed is = maybe_multiple-formed given (length declared) multiple.multiplier (constraint_at given multiple.constraint) before next (well_at multiple.constraint) formed is

  pub item-formed : (item : RowItem) (before next : Draft) → IsFormed given (length declared) before → item_added given declared before item ≡ Ok next → IsFormed given (length declared) next
  item-formed (item.Multiples multiples) before next formed is =
      turn-keeps (multiple_added given) (IsFormed given (length declared)) multiples before next (λ k d inside. multiple-formed (slice_index_or multiples k d)) formed is
  item-formed (item.Prices constraint low prices) before next formed is = maybe_prices-formed given declared low prices (length declared) (constraint_at given constraint) before next (well_at constraint) formed is
  item-formed (item.Move constraint variable) before next formed is = maybe_move-formed given (length declared) declared variable (constraint_at given constraint) before next (well_at constraint) formed is
  item-formed (item.Columns constraint column low prices) before next formed is = columns_added-formed given declared constraint before next well formed column low prices is
  item-formed (item.Rows constraint variable) before next formed is = rows_added-formed given declared constraint before next well formed variable is

  pub nothing-formed : (most : ℕ) → IsFormed given (length declared) (empty most)
  nothing-formed most = record { parts = λ k d inside. absurd (omega arith); once = tt; bound = omega arith; tables = λ k d inside. absurd (omega arith) }

  row-formed : (draft : Draft) → IsFormed given (length declared) draft → length draft.parts + length draft.tables ≤ longest → IsSeparableRow (length declared) (row_of draft)
  row-formed draft formed few = record {
    parts = All-append (IsPart (length declared)) (map row_part.Variable draft.parts) (table_parts draft.tables) (All-map (IsPart (length declared)) row_part.Variable draft.parts formed.parts)
        (All-map (IsPart (length declared)) (λ (begun : BegunTable). row_part.Table begun.part) draft.tables (λ k d inside. (formed.tables k d inside).formed));
    once = row-apart draft.tables draft.parts formed.once;
    few = rw (length-append (map row_part.Variable draft.parts) (table_parts draft.tables), length-map draft.parts row_part.Variable, length-map draft.tables (λ (begun : BegunTable). row_part.Table begun.part)) few;
    bound = formed.bound;
  }

  pub derived_row-formed : (most : ℕ) (items : List RowItem) (row : Row) → IsDerivedRow given declared most items row → IsSeparableRow (length declared) row
  derived_row-formed most items row derived =
      let parts = then-both (drafted given declared most items) row_stated row derived in
      let draft = parts.0 in
      let formed = turn-keeps (item_added given declared) (IsFormed given (length declared)) items (empty most) draft (λ k d inside. item-formed (slice_index_or items k d)) (nothing-formed most) parts.1 in
      let is = stated (nat_le (length draft.parts + length draft.tables) longest) (row_of draft) row parts.2 in
      subst (IsSeparableRow (length declared)) is.1 (row-formed draft formed (few_of (length draft.parts + length draft.tables) longest is.0))
