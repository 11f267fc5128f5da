-- What the rows of tables weigh, one more at a time.
use Rattle.std.proofs.Common.{◌≡◌, ℕ, zero, suc, ◌+◌, ◌*◌, ◌/◌, ◌%◌, ◌<◌, ◌≤◌, Bool, true, false, cond, ◌&&◌, List, [], ◌∷◌, ◌++◌, length, get_or, take, drop, refl, sym, ap, ◌∙◌, arith, ℤ, pos, Option, None, Some, IfSome, All}
use Rattle.std.specs.List.{list_all}
use Rattle.std.proofs.Math.Numerals.{add-one}
use Rattle.std.proofs.lemmas.Nat.{div-add-mod'}
use Rattle.std.proofs.lemmas.List.{get_or-drop, get_or-take, drop-drop, drop_more, take_more, length-take}
use Rattle.std.proofs.lemmas.List.Elements.{All-nil, All-cons}
use Rattle.fzn_domain.specs.IntSet.{IntSet}
use Rattle.fzn_list.specs.Limits.{longest}
use Rattle.fzn_domain.specs.Limits.{IsInLimits}
use Rattle.fzn_values.specs.declared.term.Term.{Term}
use Rattle.fzn_meaning.specs.declared.row.Listed.{Listed}
use Rattle.fzn_meaning.specs.declared.row.TablePart.{TablePart}
use Rattle.fzn_values.specs.Term.{IsTerm}
use Rattle.fzn_values.specs.Table.{row_at}
use Rattle.fzn_meaning.specs.Separable.{IsWithinLimit, WeighAlike, IsTablePart}
use Rattle.fzn_weights.specs.Limits.{is_entry_within}
use Rattle.fzn_weights.specs.Weights.{both_weights}
use Rattle.fzn_weights.specs.Moves.{moved_from}
use Rattle.fzn_weights.specs.Tables.{may_be, is_declared_row, blank_weights, blank_table, row_count, weights_raised, part_raised}
use Rattle.fzn_weights.proofs.ListLemmas.{entries-within}

-- ---- blank parts

none_of : (n : ℕ) → 0 ≡ 0 * n
none_of n = omega arith

drop-none : (rows : List ℤ) → drop 0 rows ≡ rows
drop-none [] = refl
drop-none (row ∷ rows) = refl

start_of : (k n : ℕ) → n + k * n ≡ suc k * n
start_of k n = omega arith

-- of a row only its own entries count
declared-front : (declared : List IntSet) (places : List Term) (row : List ℤ) → is_declared_row declared places (take (length places) row) ≡ is_declared_row declared places row
declared-front declared [] row = refl
declared-front declared (place ∷ places) [] = refl
declared-front declared (place ∷ places) (entry ∷ row) = ap (λ (b : Bool). may_be declared place entry && b) (declared-front declared places row)

module _ (declared : List IntSet) (places : List Term) where
  abbrev pub Blank : List ℤ → Option ℤ
  Blank rows = cond (is_declared_row declared places rows) (Some (pos 0)) None

  pub length-blank : (rows : List ℤ) (count : ℕ) → length (blank_weights declared places rows count) ≡ count
  length-blank rows zero = refl
  length-blank rows (suc count) = ap (λ (n : ℕ). suc n) (length-blank (drop (length places) rows) count)

  pub blank-within : (rows : List ℤ) (count : ℕ) → All (λ (entry : Option ℤ). IfSome entry IsWithinLimit) (blank_weights declared places rows count)
  blank-within rows zero = All-nil (λ (entry : Option ℤ). IfSome entry IsWithinLimit)
  blank-within rows (suc count) = All-cons (λ (entry : Option ℤ). IfSome entry IsWithinLimit) (Blank rows) _ (one (is_declared_row declared places rows)) (blank-within (drop (length places) rows) count)
    where
      one : (test : Bool) → IfSome (cond test (Some (pos 0)) None) IsWithinLimit
      one true = omega arith
      one false = tt

  blank-at : (rows : List ℤ) (count r : ℕ) → r < count → get_or (blank_weights declared places rows count) r None ≡ Blank (row_at (length places) rows r)
  blank-at rows zero r inside = absurd (omega arith)
  blank-at rows (suc count) zero inside =
      ap (λ (b : Bool). cond b (Some (pos 0)) None) (sym (declared-front declared places rows))
      ∙ ap (λ (row : List ℤ). Blank (take (length places) row)) (sym (drop-none rows)) ∙ ap (λ (n : ℕ). Blank (row_from n)) (none_of (length places))
    where
      row_from : ℕ → List ℤ
      row_from n = take (length places) (drop n rows)
  blank-at rows (suc count) (suc r) inside =
      blank-at (drop (length places) rows) count r (omega arith)
      ∙ ap (λ (row : List ℤ). Blank (take (length places) row)) (drop-drop (r * length places) (length places) rows ∙ ap (λ (n : ℕ). drop n rows) (start_of r (length places)))

  -- rows that are equal are both declared, or neither
  blank-alike : (rows : List ℤ) (count : ℕ) → WeighAlike (length places) rows (blank_weights declared places rows count)
  blank-alike rows count r s below_r below_s same =
      let many = length-blank rows count in
      blank-at rows count r (omega (arith, many, below_r)) ∙ ap Blank same ∙ sym (blank-at rows count s (omega (arith, many, below_s)))

  blank-push : (rows : List ℤ) (count : ℕ) → blank_weights declared places rows (suc count) ≡ blank_weights declared places rows count ++ Blank (drop (count * length places) rows) ∷ []
  blank-push rows zero = ap (λ (ys : List ℤ). Blank ys ∷ []) (sym (drop-none rows)) ∙ ap (λ (n : ℕ). Blank (drop n rows) ∷ []) (none_of (length places))
  blank-push rows (suc count) =
      ap (λ (es : List (Option ℤ)). Blank rows ∷ es) (blank-push (drop (length places) rows) count
      ∙ ap (λ (ys : List ℤ). blank_weights declared places (drop (length places) rows) count ++ Blank ys ∷ []) (drop-drop (count * length places) (length places) rows ∙ ap (λ (n : ℕ). drop n rows) (start_of count (length places))))

  pub blank-more : (rows : List ℤ) (count : ℕ) (entry : Option ℤ) → entry ≡ Blank (drop (count * length places) rows) → blank_weights declared places rows (count + 1) ≡ blank_weights declared places rows count ++ entry ∷ []
  blank-more rows count entry is =
      ap (blank_weights declared places rows) (add-one count) ∙ blank-push rows count
      ∙ ap (λ (e : Option ℤ). blank_weights declared places rows count ++ e ∷ []) (sym is)

  -- from one entry of a row to the next
  declared-at : (i start : ℕ) (numbers : List ℤ) (d : Term) → i < length places → start + i < length numbers
      → is_declared_row declared (drop i places) (drop (start + i) numbers) ≡ (may_be declared (get_or places i d) (get_or numbers (start + i) (pos 0)) && is_declared_row declared (drop (i + 1) places) (drop (start + i + 1) numbers))
  declared-at i start numbers d inside there =
      ap (λ (ps : List Term). is_declared_row declared ps (drop (start + i) numbers)) (drop_more places i d inside)
      ∙ ap (is_declared_row declared (get_or places i d ∷ drop (i + 1) places)) (drop_more numbers (start + i) (pos 0) there)

  pub declared-on : (i start : ℕ) (numbers : List ℤ) (d : Term) → i < length places → start + i < length numbers → may_be declared (get_or places i d) (get_or numbers (start + i) (pos 0)) ≡ true
      → is_declared_row declared (drop i places) (drop (start + i) numbers) ≡ is_declared_row declared (drop (i + 1) places) (drop (start + (i + 1)) numbers)
  declared-on i start numbers d inside there may =
      declared-at i start numbers d inside there ∙ ap (λ (b : Bool). b && is_declared_row declared (drop (i + 1) places) (drop (start + i + 1) numbers)) may
      ∙ ap (λ (n : ℕ). is_declared_row declared (drop (i + 1) places) (drop n numbers)) (on start i)
    where
      on : (a b : ℕ) → a + b + 1 ≡ a + (b + 1)
      on a b = omega arith

  pub declared-off : (i start : ℕ) (numbers : List ℤ) (d : Term) → i < length places → start + i < length numbers → may_be declared (get_or places i d) (get_or numbers (start + i) (pos 0)) ≡ false
      → is_declared_row declared (drop i places) (drop (start + i) numbers) ≡ false
  declared-off i start numbers d inside there may =
      declared-at i start numbers d inside there ∙ ap (λ (b : Bool). b && is_declared_row declared (drop (i + 1) places) (drop (start + i + 1) numbers)) may

-- whole rows
whole_rows : (n d : ℕ) → n % d ≡ 0 → n / d * d ≡ n
whole_rows n d whole = let e = div-add-mod' n d in omega arith

pub blank-formed : (declared : List IntSet) (places : List Term) (rows : List ℤ) (n : ℕ) → All (IsTerm n) places → 0 < length places → All IsInLimits rows → length rows ≤ longest → length rows % length places ≡ 0 → IsTablePart n (blank_table declared places rows)
blank-formed declared places rows n terms some numbers few whole = record {
  places = terms;
  some = some;
  numbers = numbers;
  few = few;
  one_each = ap (λ (m : ℕ). m * length places) (length-blank declared places rows (row_count places rows)) ∙ whole_rows (length rows) (length places) whole;
  weights = blank-within declared places rows (row_count places rows);
  alike = blank-alike declared places rows (row_count places rows);
}

-- ---- weights that are raised

module _ (more : ℤ → Option ℤ) (column width : ℕ) where
  abbrev pub RaisedBy : Option ℤ → List ℤ → ℕ → Option ℤ
  RaisedBy weight rows place = both_weights weight (more (get_or rows place (pos 0)))

  pub length-weights : (rows : List ℤ) (weights : List (Option ℤ)) → length (weights_raised more column width rows weights) ≡ length weights
  length-weights rows [] = refl
  length-weights rows (weight ∷ weights) = ap (λ (n : ℕ). suc n) (length-weights (drop width rows) weights)

  pub weights-at : (rows : List ℤ) (weights : List (Option ℤ)) (k : ℕ) → k < length weights → get_or (weights_raised more column width rows weights) k None ≡ RaisedBy (get_or weights k None) rows (k * width + column)
  weights-at rows [] k inside = absurd (omega arith)
  weights-at rows (weight ∷ weights) zero inside = ap (RaisedBy weight rows) (first column width)
    where
      first : (c w : ℕ) → c ≡ 0 * w + c
      first c w = omega arith
  weights-at rows (weight ∷ weights) (suc k) inside =
      weights-at (drop width rows) weights k (omega arith)
      ∙ ap (λ (entry : ℤ). both_weights (get_or weights k None) (more entry)) (get_or-drop width rows (k * width + column) (pos 0) ∙ ap (λ (n : ℕ). get_or rows n (pos 0)) (next k width column))
    where
      next : (k w c : ℕ) → w + (k * w + c) ≡ suc k * w + c
      next k w c = omega arith

  entry-in : column < width → (rows : List ℤ) (r : ℕ) → get_or rows (r * width + column) (pos 0) ≡ get_or (row_at width rows r) column (pos 0)
  entry-in inside rows r = sym (get_or-take width (drop (r * width) rows) column (pos 0) inside ∙ get_or-drop (r * width) rows column (pos 0))

  -- rows that are equal have the same entry at the column
  pub weights-alike : (rows : List ℤ) (weights : List (Option ℤ)) → column < width → WeighAlike width rows weights → WeighAlike width rows (weights_raised more column width rows weights)
  weights-alike rows weights inside alike r s below_r below_s same =
      let many = length-weights rows weights in
      let in_r : r < length weights = omega (arith, many, below_r) in
      let in_s : s < length weights = omega (arith, many, below_s) in
      let entry : get_or rows (r * width + column) (pos 0) ≡ get_or rows (s * width + column) (pos 0) =
      entry-in inside rows r ∙ ap (λ (row : List ℤ). get_or row column (pos 0)) same ∙ sym (entry-in inside rows s) in
      weights-at rows weights r in_r
      ∙ ap (λ (weight : Option ℤ). RaisedBy weight rows (r * width + column)) (alike r s in_r in_s same)
      ∙ ap (λ (number : ℤ). both_weights (get_or weights s None) (more number)) entry
      ∙ sym (weights-at rows weights s in_s)

  weights-push : (rows : List ℤ) (weights : List (Option ℤ)) (weight : Option ℤ) → weights_raised more column width rows (weights ++ weight ∷ []) ≡ weights_raised more column width rows weights ++ RaisedBy weight rows (length weights * width + column) ∷ []
  weights-push rows [] weight = ap (λ (n : ℕ). RaisedBy weight rows n ∷ []) (first column width)
    where
      first : (c w : ℕ) → c ≡ 0 * w + c
      first c w = omega arith
  weights-push rows (w ∷ weights) weight =
      ap (λ (es : List (Option ℤ)). RaisedBy w rows column ∷ es) (weights-push (drop width rows) weights weight
      ∙ ap (λ (entry : ℤ). weights_raised more column width (drop width rows) weights ++ both_weights weight (more entry) ∷ []) (get_or-drop width rows (length weights * width + column) (pos 0) ∙ ap (λ (n : ℕ). get_or rows n (pos 0)) (next (length weights) width column)))
    where
      next : (k w c : ℕ) → w + (k * w + c) ≡ suc k * w + c
      next k w c = omega arith

  pub weights-more : (rows : List ℤ) (weights : List (Option ℤ)) (k : ℕ) (entry : Option ℤ) → k < length weights → entry ≡ RaisedBy (get_or weights k None) rows (k * width + column)
      → weights_raised more column width rows (take (k + 1) weights) ≡ weights_raised more column width rows (take k weights) ++ entry ∷ []
  weights-more rows weights k entry inside is =
      let count : length (take k weights) ≡ k = omega (arith, length-take k weights) in
      ap (weights_raised more column width rows) (take_more weights k None inside) ∙ weights-push rows (take k weights) (get_or weights k None)
      ∙ ap (λ (n : ℕ). weights_raised more column width rows (take k weights) ++ RaisedBy (get_or weights k None) rows (n * width + column) ∷ []) count
      ∙ ap (λ (e : Option ℤ). weights_raised more column width rows (take k weights) ++ e ∷ []) (sym is)

-- the part whose rows weigh more
pub part-raised : (more : ℤ → Option ℤ) (column n : ℕ) (part : TablePart) → IsTablePart n part → column < length part.places → list_all is_entry_within (part_raised more column part).weights ≡ true → IsTablePart n (part_raised more column part)
part-raised more column n part formed inside within = record {
  places = formed.places;
  some = formed.some;
  numbers = formed.numbers;
  few = formed.few;
  one_each = ap (λ (m : ℕ). m * length part.places) (length-weights more column (length part.places) part.rows part.weights) ∙ formed.one_each;
  weights = entries-within (part_raised more column part).weights within;
  alike = weights-alike more column (length part.places) part.rows part.weights inside formed.alike;
}

-- ---- weights that are moved

-- the same, by other names
pub moved_alike : (more : ℤ → Option ℤ) (low low' : ℤ) (count count' : ℕ) (old old' : Option Listed) → low ≡ low' → count ≡ count' → old ≡ old' → moved_from more low count old ≡ moved_from more low' count' old'
moved_alike more low low' count count' old old' p q r = rw (p, q, r) refl
