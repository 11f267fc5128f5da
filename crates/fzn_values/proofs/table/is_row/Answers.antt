use Rattle.std.proofs.Common.{◌≡◌, ℕ, ◌+◌, ◌*◌, ◌<◌, ◌≤◌, List, length, get_or, drop, refl, ap, sym, ◌∙◌, ℤ, pos, arith}
use Rattle.std.proofs.lemmas.List.{ext_get_or, get_or-drop, get_or-map, get_or-take, length-drop, length-map, length-take-le}
use Rattle.fzn_values.specs.declared.term.Term.{Term}
use Rattle.fzn_values.specs.declared.term.Term.TheVariants.{Constant}
use Rattle.fzn_values.specs.Term.{number_in, numbers_in}
use Rattle.fzn_values.specs.Table.{row_at}
use Rattle.fzn_values.proofs.table.is_row.Goals as goal

row_same : (xs rows : List ℤ) (r start : ℕ) → start ≡ r * length xs → r * length xs + length xs ≤ length rows → ((k : ℕ) → k < length xs → get_or rows (start + k) (pos 0) ≡ get_or xs k (pos 0)) → row_at (length xs) rows r ≡ xs
row_same xs rows r start at within same =
    let rest = length-drop (r * length xs) rows in
    let len = length-take-le (length xs) (drop (r * length xs) rows) (omega arith) in
    ext_get_or (pos 0) (row_at (length xs) rows r) xs len
    (λ k lt. get_or-take (length xs) (drop (r * length xs) rows) k (pos 0) (omega arith)
    ∙ get_or-drop (r * length xs) rows k (pos 0)
    ∙ ap (λ n. get_or rows (n + k) (pos 0)) (sym at) ∙ same k (omega arith))

-- the numbers of the constants
row_numbers : (xs : List ℤ) (rows : List Term) (r start : ℕ) → start ≡ r * length xs → r * length xs + length xs ≤ length rows → ((k : ℕ) → k < length xs → number_in (get_or rows (start + k) (Constant (pos 0))) ≡ get_or xs k (pos 0)) → row_at (length xs) (numbers_in rows) r ≡ xs
row_numbers xs rows r start at within same =
    row_same xs (numbers_in rows) r start at (omega (arith, length-map rows number_in))
    (λ k lt. get_or-map number_in rows (start + k) (Constant (pos 0)) (pos 0) (omega arith) ∙ same k lt)

-- equal at each place
pub returns : goal.returns
returns c = (
  (λ y. row_numbers c.args.places.now c.args.rows.now c.args.row (c.args.row * c.len.result) (ap (λ n. c.args.row * n) c.len.ensures) c.requires.within
      (λ k lt. c.loop-place.invariant k (omega arith))),
  (λ h. refl),
)
