-- What the rows of a table weigh, at first and when each weighs more, and the table among those that were begun.
use Rattle.std.proofs.Common.{◌≡◌, ℕ, zero, suc, ◌+◌, ◌*◌, ◌<◌, ◌≤◌, Bool, true, false, cond, eqb, List, [], ◌∷◌, ◌++◌, length, get_or, take, drop, refl, sym, ap, ◌∙◌, subst, inl, inr, arith, ℤ, pos, ◌+ℤ◌, Option, None, Some, IsSome, All}
use Rattle.std.specs.Ordering.{int_eq}
use Rattle.std.proofs.lemmas.Int.{ints}
use Rattle.std.proofs.lemmas.Nat.{le-div}
use Rattle.std.proofs.lemmas.Bool.{eq-eqb, eqb-true, ne_eqb, cases_eq, and_parts, and_from}
use Rattle.std.proofs.lemmas.Bool.Decides.{Decides-int_eq}
use Rattle.std.proofs.lemmas.List.{drop-drop}
use Rattle.std.proofs.lemmas.List.Elements.{All-nil, All-cons, All-head, All-tail}
use Rattle.fzn_domain.specs.IntSet.{IntSet, contains}
use Rattle.fzn_domain.specs.Narrow.{IsWithin, set_of, value_of}
use Rattle.fzn_values.specs.declared.term.Term.{Term}
use Rattle.fzn_values.specs.declared.term.Term.TheVariants.{Constant, Variable}
use Rattle.fzn_values.specs.Term.{IsTerm, term_value, values_of}
use Rattle.fzn_values.specs.Table.{row_at, IsTable}
use Rattle.fzn_values.proofs.CallerLemmas.{length-values_of}
use Rattle.fzn_meaning.proofs.TableWeightLemmas.{take-begins}
use Rattle.fzn_meaning.specs.declared.row.TablePart.{TablePart}
use Rattle.fzn_meaning.specs.declared.row.Part.TheVariants.{Table}
use Rattle.fzn_meaning.specs.Separable.{begins_with, row_weight, weight_of, total_weight}
use Rattle.fzn_weights.specs.Weights.{both_weights}
use Rattle.fzn_weights.specs.Tables.{may_be, is_declared_row, blank_weights, row_count, weights_raised}
use Rattle.fzn_row.specs.declared.room.BegunTable.{BegunTable}
use Rattle.fzn_row.specs.Tables.{table_of, with_table}
use Rattle.fzn_row.proofs.DraftSound.{total-nil, total-table, some_is, amount_is, table_parts, NoneBarred}
use Rattle.fzn_row.proofs.PricesSound.{member}

-- ---- a row that equals values

begins-at : (xs rows : List ℤ) (k : ℕ) (d : ℤ) → begins_with xs rows ≡ true → k < length xs → get_or rows k d ≡ get_or xs k d
begins-at [] rows k d is inside = absurd (omega arith)
begins-at (x ∷ xs) [] k d is inside = absurd (cc)
begins-at (x ∷ xs) (y ∷ rows) zero d is inside = (Decides-int_eq y x).0 (and_parts (int_eq y x) (begins_with xs rows) is).0
begins-at (x ∷ xs) (y ∷ rows) (suc k) d is inside = begins-at xs rows k d (and_parts (int_eq y x) (begins_with xs rows) is).1 (omega arith)

-- each row weighs so much more, and so does the one that equals the values
pub raised-weight : (more : ℤ → Option ℤ) (column : ℕ) (xs rows : List ℤ) (weights : List (Option ℤ)) → column < length xs
    → row_weight xs rows (weights_raised more column (length xs) rows weights) ≡ both_weights (row_weight xs rows weights) (more (get_or xs column (pos 0)))
raised-weight more column xs rows [] inside = refl
raised-weight more column xs rows (weight ∷ weights) inside = step (begins_with xs rows) refl (raised-weight more column xs (drop (length xs) rows) weights inside)
  where
    step : (test : Bool) → begins_with xs rows ≡ test
        → row_weight xs (drop (length xs) rows) (weights_raised more column (length xs) (drop (length xs) rows) weights) ≡ both_weights (row_weight xs (drop (length xs) rows) weights) (more (get_or xs column (pos 0)))
        → cond test (both_weights weight (more (get_or rows column (pos 0)))) (row_weight xs (drop (length xs) rows) (weights_raised more column (length xs) (drop (length xs) rows) weights))
        ≡ both_weights (cond test weight (row_weight xs (drop (length xs) rows) weights)) (more (get_or xs column (pos 0)))
    step true is later = ap (λ (entry : ℤ). both_weights weight (more entry)) (begins-at xs rows column (pos 0) is inside)
    step false is later = later

-- ---- a row of zeros

module _ (declared : List IntSet) (values : List ℤ) (within : IsWithin declared values) where
  value-may_be : (place : Term) (entry : ℤ) → IsTerm (length declared) place → int_eq entry (term_value values place) ≡ true → may_be declared place entry ≡ true
  value-may_be (Constant k) entry fits is = (Decides-int_eq k entry).1 (sym ((Decides-int_eq entry k).0 is))
  value-may_be (Variable var) entry fits is =
      ap (contains (set_of declared var)) ((Decides-int_eq entry (value_of values var)).0 is) ∙ member declared values within var fits

  values-declared : (places : List Term) (rows : List ℤ) → All (IsTerm (length declared)) places → begins_with (values_of values places) rows ≡ true → is_declared_row declared places rows ≡ true
  values-declared [] rows fit is = refl
  values-declared (place ∷ places) [] fit is = absurd (cc)
  values-declared (place ∷ places) (entry ∷ rows) fit is =
      let parts = and_parts (int_eq entry (term_value values place)) (begins_with (values_of values places) rows) is in
      and_from (may_be declared place entry) (is_declared_row declared places rows)
      (value-may_be place entry (All-head (IsTerm (length declared)) place places fit) parts.0)
      (values-declared places rows (All-tail (IsTerm (length declared)) place places fit) parts.1)

  module _ (places : List Term) (fit : All (IsTerm (length declared)) places) where
    abbrev xs : List ℤ
    xs = values_of values places

    -- what the rows behind the one at the front make of it
    abbrev Later : List ℤ → ℕ → Type 0
    Later rows count = (m : ℕ) → m < count → row_at (length places) rows m ≡ xs → row_weight xs rows (blank_weights declared places rows count) ≡ Some (pos 0)

    blank-next : (rows : List ℤ) (count : ℕ) → Later (drop (length places) rows) count → (m : ℕ) → m < count → row_at (length places) rows (suc m) ≡ xs
        → row_weight xs (drop (length xs) rows) (blank_weights declared places (drop (length places) rows) count) ≡ Some (pos 0)
    blank-next rows count later m below is =
        let next : row_at (length places) (drop (length places) rows) m ≡ xs =
        ap (take (length places)) (drop-drop (m * length places) (length places) rows ∙ ap (λ (n : ℕ). drop n rows) (one_more m (length places))) ∙ is in
        ap (λ (n : ℕ). row_weight xs (drop n rows) (blank_weights declared places (drop (length places) rows) count)) (length-values_of values places) ∙ later m below next
      where
        one_more : (m w : ℕ) → w + m * w ≡ suc m * w
        one_more m w = omega arith

    first-begins : (rows : List ℤ) → row_at (length places) rows zero ≡ xs → begins_with xs rows ≡ true
    first-begins rows here = take-begins xs rows (ap (λ (n : ℕ). take n rows) (length-values_of values places) ∙ ap (λ (n : ℕ). take (length places) (drop n rows)) (none (length places)) ∙ here)
      where
        none : (w : ℕ) → zero ≡ zero * w
        none w = omega arith

    not_both : (b : Bool) → b ≡ true → b ≡ false → ⊥
    not_both b p q = cc

    blank-step : (rows : List ℤ) (count : ℕ) (test : Bool) → begins_with xs rows ≡ test → Later (drop (length places) rows) count → (r : ℕ) → r < suc count → row_at (length places) rows r ≡ xs
        → cond test (cond (is_declared_row declared places rows) (Some (pos 0)) None) (row_weight xs (drop (length xs) rows) (blank_weights declared places (drop (length places) rows) count)) ≡ Some (pos 0)
    blank-step rows count true test later r below is = ap (λ (b : Bool). cond b (Some (pos 0)) None) (values-declared places rows fit test)
    blank-step rows count false test later zero below is = absurd (not_both (begins_with xs rows) (first-begins rows is) test)
    blank-step rows count false test later (suc m) below is = blank-next rows count later m (omega arith) is

    blank-at : (rows : List ℤ) (r count : ℕ) → r < count → row_at (length places) rows r ≡ xs → row_weight xs rows (blank_weights declared places rows count) ≡ Some (pos 0)
    blank-at rows r zero inside is = absurd (omega arith)
    blank-at rows r (suc count) inside is = blank-step rows count (begins_with xs rows) refl (λ m below there. blank-at (drop (length places) rows) m count below there) r inside is

    -- the row that equals the values weighs 0
    pub blank-weight : (rows : List ℤ) → 0 < length places → IsTable (values_of values places) rows → row_weight (values_of values places) rows (blank_weights declared places rows (row_count places rows)) ≡ Some (pos 0)
    blank-weight rows some (r, whole, is) =
        let same = length-values_of values places in
        let there : row_at (length places) rows r ≡ values_of values places = ap (λ (n : ℕ). row_at n rows r) (sym same) ∙ is in
        let fits : suc r * length places ≤ length rows = subst (λ (n : ℕ). suc r * n ≤ length rows) same (one_more r (length (values_of values places)) (length rows) whole) in
        blank-at rows r (row_count places rows) (let most = le-div (suc r) (length rows) (length places) some fits in omega arith) there
      where
        one_more : (m w n : ℕ) → m * w + w ≤ n → suc m * w ≤ n
        one_more m w n h = omega arith

-- ---- the table among those that were begun

no_part : (part : TablePart) → ◌≡◌ {A = Option TablePart} None (Some part) → ⊥
no_part part e = cc

one_part : (a b : TablePart) → ◌≡◌ {A = Option TablePart} (Some a) (Some b) → a ≡ b
one_part a b e = cc

module _ (Q : ℕ → TablePart → Type 0) where
  -- of each table that was begun
  abbrev pub OfEach : List BegunTable → Type 0
  OfEach tables = All (λ begun. Q begun.constraint begun.part) tables

  abbrev Of : BegunTable → Type 0
  Of begun = Q begun.constraint begun.part

  pub of-table : (id : ℕ) (tables : List BegunTable) (part : TablePart) → OfEach tables → table_of id tables ≡ Some part → Q id part
  of-table id [] part all is = absurd (no_part part is)
  of-table id (begun ∷ later) part all is = step (eqb begun.constraint id) refl (of-table id later part (All-tail Of begun later all)) is
    where
      step : (test : Bool) → eqb begun.constraint id ≡ test → (table_of id later ≡ Some part → Q id part) → cond test (Some begun.part) (table_of id later) ≡ Some part → Q id part
      step true test rest same = subst (Q id) (one_part begun.part part same) (subst (λ (n : ℕ). Q n begun.part) (eqb-true begun.constraint id test) (All-head Of begun later all))
      step false test rest same = rest same

  pub of-with_table : (new : BegunTable) (tables : List BegunTable) → Q new.constraint new.part → OfEach tables → OfEach (with_table new tables)
  of-with_table new [] is all = All-cons Of new [] is (All-nil Of)
  of-with_table new (begun ∷ later) is all = pick (eqb begun.constraint new.constraint) (of-with_table new later is (All-tail Of begun later all))
    where
      pick : (test : Bool) → OfEach (with_table new later) → OfEach (cond test (new ∷ later) (begun ∷ with_table new later))
      pick true rest = All-cons Of new later is (All-tail Of begun later all)
      pick false rest = All-cons Of begun (with_table new later) (All-head Of begun later all) rest

pub table_of-push : (new : BegunTable) (tables : List BegunTable) → table_of new.constraint tables ≡ None → table_of new.constraint (tables ++ new ∷ []) ≡ Some new.part
table_of-push new [] none = ap (λ (b : Bool). cond b (Some new.part) None) (eq-eqb new.constraint new.constraint refl)
table_of-push new (begun ∷ later) none = step (eqb begun.constraint new.constraint) (table_of-push new later) none
  where
    step : (test : Bool) → (table_of new.constraint later ≡ None → table_of new.constraint (later ++ new ∷ []) ≡ Some new.part) → cond test (Some begun.part) (table_of new.constraint later) ≡ None → cond test (Some begun.part) (table_of new.constraint (later ++ new ∷ [])) ≡ Some new.part
    step true rest is = absurd (no_part begun.part (sym is))
    step false rest is = rest is

module _ (values : List ℤ) where
  abbrev Weighs : BegunTable → Type 0
  Weighs begun = IsSome (weight_of values (Table begun.part))

  -- another part of a table changes what all tables weigh by what the two differ
  pub record IsTablePut (new : BegunTable) (tables : List BegunTable) (before after : ℤ) : Type 0 where
    pub unbarred : NoneBarred values (with_table new tables)
    pub total : total_weight values (table_parts (with_table new tables)) +ℤ before ≡ total_weight values (table_parts tables) +ℤ after

  pub put-table : (new : BegunTable) (part : TablePart) (tables : List BegunTable) (before after : ℤ) → NoneBarred values tables → table_of new.constraint tables ≡ Some part
      → weight_of values (Table part) ≡ Some before → weight_of values (Table new.part) ≡ Some after → IsTablePut new tables before after
  put-table new part [] before after unbarred found was is = absurd (no_part part found)
  put-table new part (begun ∷ later) before after unbarred found was is = elim (cases_eq begun.constraint new.constraint) [
    | inl same ↦
        let test = eq-eqb begun.constraint new.constraint same in
        let here : begun.part ≡ part = one_part begun.part part (ap (λ (b : Bool). cond b (Some begun.part) (table_of new.constraint later)) (sym test) ∙ found) in
        let form : with_table new (begun ∷ later) ≡ new ∷ later = ap (λ (b : Bool). cond b (new ∷ later) (begun ∷ with_table new later)) test in
        record {
          unbarred = subst (NoneBarred values) (sym form) (All-cons Weighs new later (some_is _ _ is) (All-tail Weighs begun later unbarred));
          total =
              let a = ap (λ (ts : List BegunTable). total_weight values (table_parts ts)) form ∙ total-table values new later in
              let b = total-table values begun later in
              let d = amount_is (weight_of values (Table new.part)) after is in
              let e = amount_is (weight_of values (Table begun.part)) before (ap (λ (p : TablePart). weight_of values (Table p)) here ∙ was) in
              omega (arith, ints);
        }
    | inr other ↦
        let test = ne_eqb begun.constraint new.constraint other in
        let found_there : table_of new.constraint later ≡ Some part = ap (λ (b : Bool). cond b (Some begun.part) (table_of new.constraint later)) (sym test) ∙ found in
        let form : with_table new (begun ∷ later) ≡ begun ∷ with_table new later = ap (λ (b : Bool). cond b (new ∷ later) (begun ∷ with_table new later)) test in
        let there = put-table new part later before after (All-tail Weighs begun later unbarred) found_there was is in
        record {
          unbarred = subst (NoneBarred values) (sym form) (All-cons Weighs begun (with_table new later) (All-head Weighs begun later unbarred) there.unbarred);
          total =
              let a = ap (λ (ts : List BegunTable). total_weight values (table_parts ts)) form ∙ total-table values begun (with_table new later) in
              let b = total-table values begun later in
              omega (arith, ints, there.total);
        }
  ]

  -- a new table that weighs 0 changes nothing
  pub total-push : (new : BegunTable) (tables : List BegunTable) → weight_of values (Table new.part) ≡ Some (pos 0) → total_weight values (table_parts (tables ++ new ∷ [])) ≡ total_weight values (table_parts tables)
  total-push new [] is =
      let a = total-table values new [] in
      let b = amount_is (weight_of values (Table new.part)) (pos 0) is in
      let n = total-nil values in
      omega (arith, ints)
  total-push new (begun ∷ later) is =
      let a = total-table values begun (later ++ new ∷ []) in
      let b = total-table values begun later in
      let rest = total-push new later is in
      omega (arith, ints)
