-- Moves by an inverse: values that meet it and the row before meet the row after.
use Rattle.std.proofs.Common.{◌≡◌, ◌≢◌, ◌↔◌, ℕ, zero, suc, ◌+◌, ◌<◌, Bool, true, false, cond, nat_le, List, [], ◌∷◌, length, get_or, refl, sym, ap, ◌∙◌, subst, arith, ℤ, pos, negsuc, ◌+ℤ◌, ◌-ℤ◌, Option, Some, None, Result, Ok, Err, All}
use Rattle.std.specs.Option.{option_map_or}
use Rattle.std.specs.Ordering.{int_eq}
use Rattle.std.proofs.lemmas.Int.{ints}
use Rattle.std.proofs.lemmas.Bool.{eqb-true}
use Rattle.std.proofs.lemmas.Bool.Decides.{Decides-int_eq}
use Rattle.std.proofs.lemmas.List.{get_or-map, length-map}
use Rattle.std.proofs.lemmas.List.Quantifiers.{position-Some}
use Rattle.std.proofs.lemmas.List.Elements.{All-head, All-tail}
use Rattle.fzn_domain.specs.declared.literal.VarId.{VarId}
use Rattle.fzn_domain.specs.Narrow.{IsVariable, value_of}
use Rattle.fzn_values.specs.declared.term.Term.{Term}
use Rattle.fzn_values.specs.declared.term.Term.TheVariants.{Constant, Variable}
use Rattle.fzn_values.specs.Term.{IsTerm, term_value, values_of}
use Rattle.fzn_values.specs.Entries.{IsIndex, entry_at}
use Rattle.fzn_values.specs.Inverse.{IsInverse}
use Rattle.fzn_cited.specs.declared.fault.DeriveFault.{DeriveFault}
use Rattle.fzn_cited.specs.declared.fault.DeriveFault.TheVariants.{NotDerived}
use Rattle.fzn_meaning.specs.declared.row.VariablePart.{VariablePart}
use Rattle.fzn_meaning.specs.Separable.{entry_in, listed_at, weighed, weight_at, RowHolds}
use Rattle.fzn_dependence.specs.Decided.{is_place_of}
use Rattle.fzn_weights.specs.Weights.{both_weights}
use Rattle.fzn_weights.specs.Inverses.{raised_entry, raised_from, place_in}
use Rattle.fzn_weights.proofs.InverseLemmas.{raised-at}
use Rattle.fzn_row.specs.Draft.{Draft, row_of, part_for, with_bound}
use Rattle.fzn_row.specs.Weights.{without_part}
use Rattle.fzn_row.specs.Inverses.{place_raised, places_raised, moved_back, inverse_moved}
use Rattle.fzn_row.proofs.PartLemmas.{var-part_for}
use Rattle.fzn_row.proofs.DraftSound.{Exceeds, exceeds-same, exceeds-holds, holds-exceeds, bound-exceeds, then-both, no_error}
use Rattle.fzn_row.proofs.PricesSound.{dearer, list-exceeds, entry_at-get}
use Rattle.fzn_row.proofs.WeightsSound.{both-some, taken-exceeds, whole}

-- a place with this value weighs so much more: what is added to the one value, and nothing at any other
record IsGain (value : ℤ) (more : Option ℤ) (at gain : ℤ) : Type 0 where
  here : at ≡ value → more ≡ Some gain
  elsewhere : at ≢ value → gain ≡ pos 0

not_both : (b : Bool) → b ≡ true → b ≡ false → ⊥
not_both b p q = cc

entry-raised : (c u w gain value : ℤ) (more entry : Option ℤ) (test : Bool) → int_eq u value ≡ test → IsGain value more u gain → weighed c u entry ≡ Some w → weighed c u (raised_entry test entry more) ≡ Some (w +ℤ gain)
entry-raised c u w gain value more entry true is gains weighs =
    ap (λ (m : Option ℤ). weighed c u (both_weights entry m)) (gains.here ((Decides-int_eq u value).0 is)) ∙ ap (weighed c u) (both-some entry gain) ∙ dearer c u gain entry w weighs
entry-raised c u w gain value more entry false is gains weighs =
    let none = gains.elsewhere (λ same. not_both (int_eq u value) ((Decides-int_eq u value).1 same) is) in
    weighs ∙ ap (λ (x : ℤ). Some x) (plus_none w gain none)
  where
    plus_none : (w gain : ℤ) → gain ≡ pos 0 → w ≡ w +ℤ gain
    plus_none w gain e = omega (arith, ints)

raised-weight : (old : VariablePart) (count : ℕ) (value : ℤ) (more : Option ℤ) (u w gain : ℤ) → IsIndex count u → IsGain value more u gain → weighed old.coefficient u (listed_at old.listed u) ≡ Some w
    → weighed old.coefficient u (entry_in (raised_from (pos 1) count value more old.listed) (u -ℤ pos 1)) ≡ Some (w +ℤ gain)
raised-weight old count value more (pos zero) w gain index gains weighs = absurd (let a = index.0 in omega (arith, ints))
raised-weight old count value more (pos (suc k)) w gain index gains weighs =
    let inside : k < count = let b = index.1 in omega (arith, ints) in
    ap (weighed old.coefficient (pos (suc k))) (ap (entry_in (raised_from (pos 1) count value more old.listed)) (less_one k) ∙ raised-at value more old.listed (pos 1) count k inside
    ∙ ap (λ (v : ℤ). raised_entry (int_eq v value) (listed_at old.listed v) more) (back k))
    ∙ entry-raised old.coefficient (pos (suc k)) w gain value more (listed_at old.listed (pos (suc k))) (int_eq (pos (suc k)) value) refl gains weighs
  where
    less_one : (k : ℕ) → pos (suc k) -ℤ pos 1 ≡ pos k
    less_one k = omega (arith, ints)

    back : (k : ℕ) → pos 1 +ℤ pos k ≡ pos (suc k)
    back k = omega (arith, ints)
raised-weight old count value more (negsuc k) w gain index gains weighs = absurd (let a = index.0 in omega (arith, ints))

ok_is : (a b : Draft) → ◌≡◌ {A = Result Draft DeriveFault} (Ok a) (Ok b) → a ≡ b
ok_is a b e = cc

module _ (values : List ℤ) (count : ℕ) (value : ℤ) where
  place-exceeds : (more : Option ℤ) (term : Term) (draft after : Draft) (excess gain : ℤ) → Exceeds values draft excess → IsIndex count (term_value values term) → IsGain value more (term_value values term) gain
      → place_raised count value more draft term ≡ Ok after → Exceeds values after (excess +ℤ gain)
  place-exceeds more (Constant k) draft after excess gain h index gains is = constant (int_eq k value) refl is
    where
      taken : (e b g : ℤ) → (e +ℤ b) -ℤ (b -ℤ g) ≡ e +ℤ g
      taken e b g = omega (arith, ints)

      same : (e g : ℤ) → g ≡ pos 0 → e ≡ e +ℤ g
      same e g none = omega (arith, ints)

      constant : (test : Bool) → int_eq k value ≡ test → cond test (option_map_or (λ w. with_bound (draft.bound -ℤ w) draft) more (Err NotDerived)) (Ok draft) ≡ Ok after → Exceeds values after (excess +ℤ gain)
      constant true test made =
          let some = gains.here ((Decides-int_eq k value).0 test) in
          exceeds-same values after _ _ (taken excess draft.bound gain)
          (bound-exceeds values (draft.bound -ℤ gain) draft after excess h (sym (ap (λ (m : Option ℤ). option_map_or (λ w. with_bound (draft.bound -ℤ w) draft) m (Err NotDerived)) some) ∙ made))
      constant false test made =
          let none = gains.elsewhere (λ e. not_both (int_eq k value) ((Decides-int_eq k value).1 e) test) in
          exceeds-same values after _ _ (same excess gain none) (subst (λ (d : Draft). Exceeds values d excess) (ok_is draft after made) h)
  place-exceeds more (Variable var) draft after excess gain h index gains is =
      let old = part_for var draft.parts in
      let of = var-part_for var draft.parts in
      let index_here : IsIndex count (value_of values old.var) = subst (λ (x : VarId). IsIndex count (value_of values x)) (sym of) index in
      let gains_here : IsGain value more (value_of values old.var) gain = subst (λ (x : VarId). IsGain value more (value_of values x) gain) (sym of) gains in
      list-exceeds values (pos 1) var (raised_from (pos 1) count value more old.listed) gain draft after excess h (λ w weighs. raised-weight old count value more (value_of values old.var) w gain index_here gains_here weighs) is

  plus_zero : (e : ℤ) → e +ℤ pos 0 ≡ e
  plus_zero e = omega (arith, ints)

  gains_nothing : (more : Option ℤ) (at : ℤ) → at ≢ value → IsGain value more at (pos 0)
  gains_nothing more at other = record { here = λ same. absurd (other same); elsewhere = λ _. refl }

  module _ (part : VariablePart) where
    -- where no place has the value, nothing changes
    places-none : (number : ℤ) (places : List Term) (draft after : Draft) (excess : ℤ) → Exceeds values draft excess → All (IsIndex count) (values_of values places) → All (λ (u : ℤ). u ≢ value) (values_of values places)
        → places_raised part count value number draft places ≡ Ok after → Exceeds values after excess
    places-none number [] draft after excess h indices none is = subst (λ (d : Draft). Exceeds values d excess) (ok_is draft after is) h
    places-none number (place ∷ places) draft after excess h indices none is =
        let u = term_value values place in
        let us = values_of values places in
        let parts = then-both (place_raised count value (weight_at part number) draft place) (λ next. places_raised part count value (number +ℤ pos 1) next places) after is in
        let other = All-head (λ (x : ℤ). x ≢ value) u us none in
        let first = exceeds-same values parts.0 _ _ (plus_zero excess) (place-exceeds (weight_at part number) place draft parts.0 excess (pos 0) h (All-head (IsIndex count) u us indices) (gains_nothing (weight_at part number) u other) parts.1) in
        places-none (number +ℤ pos 1) places parts.0 after excess first (All-tail (IsIndex count) u us indices) (All-tail (λ (x : ℤ). x ≢ value) u us none) parts.2

    -- the place with this number less one is the only one that has the value
    abbrev IsAlone : List ℤ → ℕ → Type 0
    IsAlone us k = (m : ℕ) (d : ℤ) → m < length us → (get_or us m d ≡ value) ↔ (m ≡ k)

    places-one : (k : ℕ) (number w : ℤ) (places : List Term) (draft after : Draft) (excess : ℤ) → Exceeds values draft excess → All (IsIndex count) (values_of values places) → k < length (values_of values places) → IsAlone (values_of values places) k
        → weight_at part (number +ℤ pos k) ≡ Some w → places_raised part count value number draft places ≡ Ok after → Exceeds values after (excess +ℤ w)
    places-one k number w [] draft after excess h indices inside alone weighs is = absurd (omega arith)
    places-one zero number w (place ∷ places) draft after excess h indices inside alone weighs is =
        let u = term_value values place in
        let us = values_of values places in
        let parts = then-both (place_raised count value (weight_at part number) draft place) (λ next. places_raised part count value (number +ℤ pos 1) next places) after is in
        let here : u ≡ value = (alone zero u (omega arith)).1 refl in
        let more : weight_at part number ≡ Some w = ap (weight_at part) (sym (plus_zero number)) ∙ weighs in
        let first = place-exceeds (weight_at part number) place draft parts.0 excess w h (All-head (IsIndex count) u us indices) (record { here = λ _. more; elsewhere = λ other. absurd (other here) }) parts.1 in
        places-none (number +ℤ pos 1) places parts.0 after (excess +ℤ w) first (All-tail (IsIndex count) u us indices) (λ m d below same. not_zero m ((alone (suc m) d (omega arith)).0 same)) parts.2
      where
        not_zero : (m : ℕ) → suc m ≡ zero → ⊥
        not_zero m e = omega arith
    places-one (suc k) number w (place ∷ places) draft after excess h indices inside alone weighs is =
        let u = term_value values place in
        let us = values_of values places in
        let parts = then-both (place_raised count value (weight_at part number) draft place) (λ next. places_raised part count value (number +ℤ pos 1) next places) after is in
        let other : u ≢ value = λ same. not_suc ((alone zero u (omega arith)).0 same) in
        let first = exceeds-same values parts.0 _ _ (plus_zero excess) (place-exceeds (weight_at part number) place draft parts.0 excess (pos 0) h (All-head (IsIndex count) u us indices) (gains_nothing (weight_at part number) u other) parts.1) in
        places-one k (number +ℤ pos 1) w places parts.0 after excess first (All-tail (IsIndex count) u us indices) (omega arith) (λ m d below. (λ same. fewer m ((alone (suc m) d (omega arith)).0 same), λ same. (alone (suc m) d (omega arith)).1 (ap (λ (n : ℕ). suc n) same)))
        (ap (weight_at part) (one_on number) ∙ weighs) parts.2
      where
        not_suc : zero ≡ suc k → ⊥
        not_suc e = omega arith

        fewer : (m : ℕ) → suc m ≡ suc k → m ≡ k
        fewer m e = omega arith

        one_on : (number : ℤ) → (number +ℤ pos 1) +ℤ pos k ≡ number +ℤ pos (suc k)
        one_on number = omega (arith, ints)

-- ---- one list, and where the other leads back to the place

-- the list has the value at the place alone that the other names
record LeadsTo (us : List ℤ) (value v : ℤ) : Type 0 where
  places : All (IsIndex (length us)) us
  index : IsIndex (length us) v
  only : (i : ℤ) → IsIndex (length us) i → (entry_at us i ≡ value) ↔ (v ≡ i)

is_index : (n k : ℕ) → k < n → IsIndex n (pos (suc k))
is_index n k inside = (omega (arith, ints), omega (arith, ints))

one_of : (v w : ℤ) (a b : ℕ) → v ≡ pos (suc a) → v ≡ pos (suc b) → a ≡ b
one_of v w a b p q = omega (arith, ints)

to-alone : (us : List ℤ) (value v : ℤ) (k : ℕ) → v ≡ pos (suc k) → LeadsTo us value v → (m : ℕ) (d : ℤ) → m < length us → (get_or us m d ≡ value) ↔ (m ≡ k)
to-alone us value v k is leads m d inside =
    let there = leads.only (pos (suc m)) (is_index (length us) m inside) in (
      λ same. one_of v v m k (there.0 (entry_at-get us m d inside ∙ same)) is,
      λ same. sym (entry_at-get us m d inside) ∙ there.1 (is ∙ ap (λ (n : ℕ). pos (suc n)) (sym same)),
    )

module _ (values : List ℤ) where
  all-exceed : (part : VariablePart) (value v w : ℤ) (places : List Term) (draft after : Draft) (excess : ℤ) → Exceeds values draft excess → LeadsTo (values_of values places) value v → weight_at part v ≡ Some w
      → places_raised part (length places) value (pos 1) draft places ≡ Ok after → Exceeds values after (excess +ℤ w)
  all-exceed part value (pos zero) w places draft after excess h leads weighs is = absurd (let a = leads.index.0 in omega (arith, ints))
  all-exceed part value (pos (suc k)) w places draft after excess h leads weighs is =
      let count : length (values_of values places) ≡ length places = length-map places (term_value values) in
      let indices : All (IsIndex (length places)) (values_of values places) = subst (λ (n : ℕ). All (IsIndex n) (values_of values places)) count leads.places in
      let b = leads.index.1 in
      places-one values (length places) value part k (pos 1) w places draft after excess h indices (omega (arith, ints)) (to-alone (values_of values places) value (pos (suc k)) k refl leads)
      (ap (weight_at part) (back k) ∙ weighs) is
    where
      back : (k : ℕ) → pos 1 +ℤ pos k ≡ pos (suc k)
      back k = omega (arith, ints)
  all-exceed part value (negsuc k) w places draft after excess h leads weighs is = absurd (let a = leads.index.0 in omega (arith, ints))

  back-sound : (var : VarId) (places : List Term) (place : ℕ) (draft after : Draft) → LeadsTo (values_of values places) (pos (place + 1)) (value_of values var) → RowHolds (row_of draft) values → moved_back var draft places place ≡ Ok after → RowHolds (row_of after) values
  back-sound var places place draft after leads before is = tested (nat_le (length places) 65536) is
    where
      tested : (test : Bool) → cond test (places_raised (part_for var draft.parts) (length places) (pos (place + 1)) (pos 1) (without_part var draft) places) (Err NotDerived) ≡ Ok after → RowHolds (row_of after) values
      tested true made =
          let had = holds-exceeds values draft before in
          let taken = taken-exceeds values var draft had.0 had.2 in
          let all = all-exceed (part_for var draft.parts) (pos (place + 1)) (value_of values var) taken.0 places (without_part var draft) after (had.0 -ℤ taken.0) taken.2 leads taken.1 made in
          exceeds-holds values after had.0 (exceeds-same values after _ _ (whole had.0 taken.0) all) had.1
      tested false made = absurd (no_error NotDerived after made)

-- ---- the place of a variable

pub record IsPlace (var : VarId) (places : List Term) (place : ℕ) : Type 0 where
  pub inside : place < length places
  pub is : (d : Term) → get_or places place d ≡ Variable var

same_var : (a b : VarId) → a.0 ≡ b.0 → a ≡ b
same_var a b e = ap (λ (n : ℕ). record { 0 = n }) e

is_that : (var : VarId) (term : Term) → is_place_of var term ≡ true → term ≡ Variable var
is_that var (Constant k) test = absurd (cc)
is_that var (Variable other) test = ap (λ (v : VarId). Variable v) (same_var other var (eqb-true other.0 var.0 test))

pub place-found : (var : VarId) (places : List Term) (place : ℕ) → place_in var places ≡ Some place → IsPlace var places place
place-found var places place found = record {
  inside = (position-Some (is_place_of var) places place (Constant (pos 0)) found).0;
  is = λ d. is_that var (get_or places place d) (position-Some (is_place_of var) places place d found).1;
}

pub place-variable : (count : ℕ) (var : VarId) (places : List Term) (place : ℕ) → All (IsTerm count) places → place_in var places ≡ Some place → IsVariable count var
place-variable count var places place fit found =
    let at = place-found var places place found in
    subst (IsTerm count) (at.is (Constant (pos 0))) (fit place (Constant (pos 0)) at.inside)

value-at : (values : List ℤ) (var : VarId) (places : List Term) (place : ℕ) (d : ℤ) → IsPlace var places place → get_or (values_of values places) place d ≡ value_of values var
value-at values var places place d at =
    get_or-map (term_value values) places place (Constant (pos 0)) d at.inside ∙ ap (term_value values) (at.is (Constant (pos 0)))

-- ---- both lists

module _ (f g : List ℤ) (same : length g ≡ length f) (h : IsInverse f g) where
  one_more : (place : ℕ) → pos (suc place) ≡ pos (place + 1)
  one_more place = omega (arith, ints)

  place_index : (n place : ℕ) → place < n → IsIndex n (pos (place + 1))
  place_index n place inside = (omega (arith, ints), omega (arith, ints))

  entry-of : (xs : List ℤ) (place : ℕ) (v : ℤ) → place < length xs → ((d : ℤ) → get_or xs place d ≡ v) → entry_at xs (pos (place + 1)) ≡ v
  entry-of xs place v inside is = ap (entry_at xs) (sym (one_more place)) ∙ entry_at-get xs place v inside ∙ is v

  leads-forward : (place : ℕ) (v : ℤ) → place < length g → ((d : ℤ) → get_or g place d ≡ v) → LeadsTo f (pos (place + 1)) v
  leads-forward place v inside is =
      let here = entry-of g place v inside is in record {
        places = h.forward_places;
        index = subst (λ (n : ℕ). IsIndex n v) same (subst (IsIndex (length g)) (is (pos 0)) (h.backward_places place (pos 0) inside));
        only = λ i index.
            let both = h.inverse i (pos (place + 1)) index (place_index (length g) place inside) in
            (λ e. sym here ∙ both.0 e, λ e. both.1 (here ∙ e));
      }

  leads-backward : (place : ℕ) (v : ℤ) → place < length f → ((d : ℤ) → get_or f place d ≡ v) → LeadsTo g (pos (place + 1)) v
  leads-backward place v inside is =
      let here = entry-of f place v inside is in record {
        places = h.backward_places;
        index = subst (λ (n : ℕ). IsIndex n v) (sym same) (subst (IsIndex (length f)) (is (pos 0)) (h.forward_places place (pos 0) inside));
        only = λ i index.
            let both = h.inverse (pos (place + 1)) i (place_index (length f) place inside) index in
            (λ e. sym here ∙ both.1 e, λ e. both.0 (here ∙ e));
      }

module _ (values : List ℤ) (var : VarId) (forward backward : List Term) (draft after : Draft) (same : length backward ≡ length forward) (met : IsInverse (values_of values forward) (values_of values backward)) (before : RowHolds (row_of draft) values) where
  lengths : length (values_of values backward) ≡ length (values_of values forward)
  lengths = length-map backward (term_value values) ∙ same ∙ sym (length-map forward (term_value values))

  in_forward : (found : Option ℕ) → place_in var forward ≡ found → option_map_or (moved_back var draft backward) found (Err NotDerived) ≡ Ok after → RowHolds (row_of after) values
  in_forward None found is = absurd (no_error NotDerived after is)
  in_forward (Some place) found is =
      let at = place-found var forward place found in
      back-sound values var backward place draft after
      (leads-backward (values_of values forward) (values_of values backward) lengths met place (value_of values var) (rw (length-map forward (term_value values)) at.inside) (λ d. value-at values var forward place d at)) before is

  in_backward : (found : Option ℕ) → place_in var backward ≡ found
      → option_map_or (moved_back var draft forward) found (option_map_or (moved_back var draft backward) (place_in var forward) (Err NotDerived)) ≡ Ok after → RowHolds (row_of after) values
  in_backward None found is = in_forward (place_in var forward) refl is
  in_backward (Some place) found is =
      let at = place-found var backward place found in
      back-sound values var forward place draft after
      (leads-forward (values_of values forward) (values_of values backward) lengths met place (value_of values var) (rw (length-map backward (term_value values)) at.inside) (λ d. value-at values var backward place d at)) before is

  pub inverse-sound : inverse_moved var draft forward backward ≡ Ok after → RowHolds (row_of after) values
  inverse-sound is = in_backward (place_in var backward) refl is
