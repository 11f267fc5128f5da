-- What a table weighs where its places are fixed.
use Rattle.std.proofs.Common.{rules, ◌≡◌, ℕ, zero, suc, ◌+◌, ◌*◌, ◌<◌, ◌≤◌, List, [], ◌∷◌, Bool, true, ◌&&◌, length, drop, get_or, refl, sym, ap, subst, ◌∙◌, inl, inr, arith, ℤ, pos, Option, None, Some}
use Rattle.std.proofs.lemmas.Bool.{cases_Bool}
use Rattle.std.proofs.lemmas.Bool.Decides.{Decides-int_eq}
use Rattle.std.proofs.lemmas.List.{get_or-drop, length-drop}
use Rattle.fzn_domain.specs.IntSet.{IntSet}
use Rattle.fzn_domain.specs.Narrow.{IsWithin, AllFixed}
use Rattle.fzn_values.specs.declared.term.Term.{Term}
use Rattle.fzn_values.specs.declared.term.Term.TheVariants.{Constant}
use Rattle.fzn_meaning.specs.declared.row.TablePart.{TablePart}
use Rattle.fzn_meaning.specs.declared.row.Part.TheVariants as parts
use Rattle.fzn_values.specs.Term.{values_of}
use Rattle.fzn_meaning.specs.Separable.{begins_with, row_weight, weight_of, WeighAlike, IsTablePart}
use Rattle.fzn_values.proofs.CallerLemmas.{length-values_of, get_or-values_of}
use Rattle.fzn_meaning.proofs.TableWeightLemmas.{begins-take, row_weight-at, row_weight-on}
use Rattle.fzn_rules.specs.GlobalRows.{MayBeRow}
use Rattle.fzn_rules.specs.Separable.{IsLeastWeight}
use Rattle.fzn_trail.specs.Levels.{Levels}
use Rattle.fzn_terms.proofs.FixedLemmas.{fixed_only}

-- row r stands there
abbrev pub StandsAt : List ℤ → List ℤ → ℕ → Bool
StandsAt xs rows r = begins_with xs (drop (r * length xs) rows)

-- the table weighs what is listed for any row that equals the values
module _ (xs rows : List ℤ) (weights : List (Option ℤ)) (alike : WeighAlike (length xs) rows weights) (r : ℕ) (inside : r < length weights) (here : StandsAt xs rows r ≡ true) where
  from_row : (d s : ℕ) → s + d ≡ r → row_weight xs (drop (s * length xs) rows) (drop s weights) ≡ get_or weights r None
  from_row zero s reach =
      let same : r ≡ s = omega arith in
      subst (λ (n : ℕ). row_weight xs (drop (n * length xs) rows) (drop n weights) ≡ get_or weights r None) same (row_weight-at xs rows weights r inside here)
  from_row (suc d) s reach = elim (cases_Bool (StandsAt xs rows s)) [
    | inl stands ↦
        row_weight-at xs rows weights s (omega arith) stands
        ∙ alike s r (omega arith) inside (begins-take xs (drop (s * length xs) rows) stands ∙ sym (begins-take xs (drop (r * length xs) rows) here))
    | inr off ↦ row_weight-on xs rows weights s (omega arith) off ∙ from_row d (s + 1) (omega arith)
  ]

  weighs_listed : row_weight xs rows weights ≡ get_or weights r None
  weighs_listed =
      let start : 0 * length xs ≡ 0 = omega arith in
      ap (λ (n : ℕ). row_weight xs (drop n rows) weights) (sym start) ∙ from_row r 0 (omega arith)

-- a list begins with another where each entry is the same
begins-same : (xs ys : List ℤ) → length xs ≤ length ys → ((k : ℕ) → k < length xs → get_or ys k (pos 0) ≡ get_or xs k (pos 0)) → begins_with xs ys ≡ true
begins-same [] ys few same = refl
begins-same (x ∷ xs) [] few same = absurd (omega arith)
begins-same (x ∷ xs) (y ∷ ys) few same =
    ap (λ (b : Bool). b && begins_with xs ys) ((Decides-int_eq y x).1 (same 0 (omega arith))) ∙ begins-same xs ys (omega arith) (λ k below. same (suc k) (omega arith))

pub row_whole : (r count width size : ℕ) → r < count → count * width ≡ size → r * width + width ≤ size
row_whole r count width size below is =
    let next : (r + 1) * width ≤ count * width = search rules in
    omega (arith, next, is)

pub place_inside : (r k count width size : ℕ) → r < count → k < width → count * width ≡ size → r * width + k < size
place_inside r k count width size below inside is = omega (arith, row_whole r count width size below is)

module _ (sets : List IntSet) (values : List ℤ) (within : IsWithin sets values) (fixed : AllFixed sets) (table : TablePart) (formed : IsTablePart (length sets) table) where
  stands : (r : ℕ) → r < length table.weights → MayBeRow sets table.places table.rows r → StandsAt (values_of values table.places) table.rows r ≡ true
  stands r inside may =
      let xs = values_of values table.places in
      let count : length xs ≡ length table.places = length-values_of values table.places in
      let whole = row_whole r (length table.weights) (length table.places) (length table.rows) inside formed.one_each in
      let rest = length-drop (r * length table.places) table.rows in
      subst (λ (n : ℕ). begins_with (values_of values table.places) (drop (r * n) table.rows) ≡ true) (sym count)
      (begins-same xs (drop (r * length table.places) table.rows) (omega arith) (λ k below.
      let k_below : k < length table.places = omega (arith, count, below) in
      let e : Term = Constant (pos 0) in
      get_or-drop (r * length table.places) table.rows k (pos 0)
      ∙ (fixed_only sets values within fixed (get_or table.places k e) (formed.places k e k_below)).only (get_or table.rows (r * length table.places + k) (pos 0)) (may k k_below)
      ∙ sym (get_or-values_of values table.places k (pos 0) e k_below)))

-- a table weighs its one weight
pub table_fixed : (trail : Levels) (table : TablePart) (least : ℤ) → IsTablePart (length trail.declared) table → IsLeastWeight trail.sets (parts.Table table) (Some least) → AllFixed trail.sets → (values : List ℤ) → IsWithin trail.declared values → IsWithin trail.sets values → weight_of values (parts.Table table) ≡ Some least
table_fixed trail table least formed is fixed values declared present =
    let xs = values_of values table.places in
    let now = subst (λ (n : ℕ). IsTablePart n table) (sym declared.one_each ∙ present.one_each) formed in
    let at = is.0 in
    weighs_listed xs table.rows table.weights (subst (λ (n : ℕ). WeighAlike n table.rows table.weights) (sym (length-values_of values table.places)) formed.alike) at.0 at.2 (stands trail.sets values present fixed table now at.0 at.2 at.1)
    ∙ at.3
