-- Prices: values that meet the constraint and the row before meet the row after.
use Rattle.std.proofs.Common.{◌≡◌, ℕ, zero, suc, ◌-◌, ◌<◌, Bool, true, false, cond, ◌&&◌, ◌||◌, nat_eq, nat_le, List, [], ◌∷◌, length, get_or, refl, sym, ap, ◌∙◌, subst, arith, ℤ, pos, negsuc, ◌+ℤ◌, ◌-ℤ◌, ◌*ℤ◌, ◌≤ℤ◌, int_le, Option, Some, None, IfSome, Result, Ok, Err, All}
use Rattle.std.specs.List.{list_all}
use Rattle.std.specs.Option.{option_map, option_map_or}
use Rattle.std.specs.Ordering.{int_eq}
use Rattle.std.proofs.lemmas.Int.{ints}
use Rattle.std.proofs.lemmas.Bool.{eqb-true, and_parts}
use Rattle.std.proofs.lemmas.Bool.Decides.{Decides-int_eq}
use Rattle.std.proofs.lemmas.List.{get_or_default}
use Rattle.std.proofs.lemmas.List.Elements.{All-head, All-tail, All-nil, All-cons}
use Rattle.fzn_domain.specs.declared.literal.VarId.{VarId}
use Rattle.fzn_domain.specs.IntSet.{IntSet, contains, size, least, greatest}
use Rattle.fzn_domain.specs.Narrow.{IsWithin, IsVariable, set_of, value_of}
use Rattle.fzn_values.specs.declared.term.Term.{Term}
use Rattle.fzn_values.specs.declared.term.Term.TheVariants.{Constant, Variable}
use Rattle.fzn_meaning.specs.declared.constraint.Constraint.{Constraint}
use Rattle.fzn_meaning.specs.declared.constraint.Constraint.TheVariants.{AllDifferent, Circuit, Inverse}
use Rattle.fzn_values.specs.Term.{IsTerm, term_value, values_of}
use Rattle.fzn_values.specs.AllDifferent.{IsAllDifferent}
use Rattle.fzn_values.specs.Entries.{IsIndex, entry_at}
use Rattle.fzn_values.specs.Inverse.{IsInverse}
use Rattle.fzn_meaning.specs.Meaning.{Meets, IsWellFormedConstraint, AreTerms}
use Rattle.fzn_values.proofs.CallerLemmas.{circuit-different, length-values_of}
use Rattle.fzn_domain.proofs.SetLemmas.{size_above_zero, least_le, le_greatest}
use Rattle.fzn_cited.specs.declared.fault.DeriveFault.{DeriveFault}
use Rattle.fzn_cited.specs.declared.fault.DeriveFault.TheVariants.{NoSuchConstraint, NotDerived}
use Rattle.fzn_cited.specs.Cited.{constraint_at}
use Rattle.fzn_cited.proofs.CitedLemmas.{each_at}
use Rattle.fzn_meaning.specs.declared.row.Listed.{Listed}
use Rattle.fzn_meaning.specs.declared.row.Part.TheVariants as kind
use Rattle.fzn_meaning.specs.declared.row.VariablePart.{VariablePart}
use Rattle.fzn_meaning.specs.Separable.{entry_in, listed_at, weighed, weight_of, RowHolds}
use Rattle.fzn_weights.specs.Prices.{price_in, price_at, entries_from, most_cost, priced_places, is_term_within, has_each_price, are_prices}
use Rattle.fzn_weights.specs.Limits.{is_entry_within}
use Rattle.fzn_weights.proofs.CostLemmas.{HasPrice, cost_of, cost-most}
use Rattle.fzn_row.specs.Draft.{Draft, row_of, part_for, with_part, with_bound, and_then, in_turn}
use Rattle.fzn_row.specs.Prices.{with_list, price_added, prices_added}
use Rattle.fzn_row.proofs.PartLemmas.{var-part_for}
use Rattle.fzn_row.proofs.ListLemmas.{listed_with}
use Rattle.fzn_row.proofs.DraftSound.{some_of, part-weight, put-weight, Exceeds, exceeds-same, exceeds-holds, holds-exceeds, bound-exceeds, kept, no_error, then-both}

pub places-formed : (count : ℕ) (c : Constraint) → IsWellFormedConstraint count c → IfSome (priced_places c) (AreTerms count)
unfolding IsWellFormedConstraint
places-formed count (AllDifferent places) well = well
places-formed count (Circuit successors) well = well
places-formed count (Inverse forward backward) well = well.0
places-formed count _ well = tt

-- ---- what a listed value weighs

one_on : (low : ℤ) (k : ℕ) → (low +ℤ pos 1) +ℤ pos k ≡ low +ℤ pos (suc k)
one_on low k = omega (arith, ints)

entries-at : (low : ℤ) (prices : List ℤ) (old : Option Listed) (k : ℕ) → k < length prices → get_or (entries_from low prices old) k None ≡ option_map (λ w. w +ℤ get_or prices k (pos 0)) (listed_at old (low +ℤ pos k))
entries-at low [] old k inside = absurd (omega arith)
entries-at low (p ∷ prices) old zero inside = ap (λ (v : ℤ). option_map (λ w. w +ℤ p) (listed_at old v)) (omega (arith, ints))
entries-at low (p ∷ prices) old (suc k) inside =
    entries-at (low +ℤ pos 1) prices old k (omega arith) ∙ ap (λ (v : ℤ). option_map (λ w. w +ℤ get_or prices k (pos 0)) (listed_at old v)) (one_on low k)

pub dearer : (c v price : ℤ) (entry : Option ℤ) (w : ℤ) → weighed c v entry ≡ Some w → weighed c v (option_map (λ x. x +ℤ price) entry) ≡ Some (w +ℤ price)
dearer c v price None w is = absurd (no_weight w is)
  where
    no_weight : (w : ℤ) → ◌≡◌ {A = Option ℤ} None (Some w) → ⊥
    no_weight w e = cc
dearer c v price (Some x) w is =
    let same : (c *ℤ v) +ℤ x ≡ w = one_value _ _ is in
    ap (λ (y : ℤ). Some y) (omega (arith, ints))
  where
    one_value : (a b : ℤ) → ◌≡◌ {A = Option ℤ} (Some a) (Some b) → a ≡ b
    one_value a b e = cc

back : (v low : ℤ) (k : ℕ) → v -ℤ low ≡ pos k → low +ℤ pos k ≡ v
back v low k e = omega (arith, ints)

priced-weight : (part : VariablePart) (low : ℤ) (prices : List ℤ) (v w : ℤ) → HasPrice low (length prices) v → weighed part.coefficient v (listed_at part.listed v) ≡ Some w
    → weighed part.coefficient v (entry_in (entries_from low prices part.listed) (v -ℤ low)) ≡ Some (w +ℤ price_at low prices v)
priced-weight part low prices v w (k, is, inside) weighs =
    ap (weighed part.coefficient v) (ap (entry_in (entries_from low prices part.listed)) is ∙ entries-at low prices part.listed k inside ∙ ap (λ (x : ℤ). option_map (λ y. y +ℤ get_or prices k (pos 0)) (listed_at part.listed x)) (back v low k is))
    ∙ dearer part.coefficient v (get_or prices k (pos 0)) (listed_at part.listed v) w weighs
    ∙ ap (λ (p : ℤ). Some (w +ℤ p)) (sym (ap (price_in prices) is))

-- ---- places

-- a list by which the value of the variable weighs so much more
pub list-exceeds : (values : List ℤ) (low : ℤ) (var : VarId) (entries : List (Option ℤ)) (more : ℤ) (draft after : Draft) (excess : ℤ) → Exceeds values draft excess
    → ((w : ℤ) → weight_of values (kind.Variable (part_for var draft.parts)) ≡ Some w → weight_of values (kind.Variable (listed_with (part_for var draft.parts) low entries)) ≡ Some (w +ℤ more))
    → with_list var draft low entries ≡ Ok after → Exceeds values after (excess +ℤ more)
list-exceeds values low var entries more draft after excess h weighs is =
    let old = part_for var draft.parts in
    let new = listed_with old low entries in
    let of = var-part_for var draft.parts in
    let had = some_of (weight_of values (kind.Variable old)) (part-weight values var draft.parts h.unbarred) in
    let had_new : weight_of values (kind.Variable (part_for new.var draft.parts)) ≡ Some had.0 = ap (λ (x : VarId). weight_of values (kind.Variable (part_for x draft.parts))) of ∙ had.1 in
    let put = put-weight values new draft.parts had.0 (had.0 +ℤ more) h.unbarred had_new (weighs had.0 had.1) in
    subst (λ (d : Draft). Exceeds values d (excess +ℤ more)) (kept (nat_le (length entries) draft.left && list_all is_entry_within entries) (record draft { parts = with_part new draft.parts; left = draft.left - length entries }) after is)
    (record { unbarred = put.unbarred; tables = h.tables; is = let e = h.is in let t = put.total in omega (arith, ints) })

module _ (values : List ℤ) (low : ℤ) (prices : List ℤ) where
  place-exceeds : (term : Term) (draft after : Draft) (excess : ℤ) → Exceeds values draft excess → HasPrice low (length prices) (term_value values term) → price_added low prices draft term ≡ Ok after → Exceeds values after (excess +ℤ price_at low prices (term_value values term))
  place-exceeds (Constant k) draft after excess h priced is =
      exceeds-same values after _ _ (taken excess draft.bound (price_at low prices k)) (bound-exceeds values (draft.bound -ℤ price_at low prices k) draft after excess h is)
    where
      taken : (e b p : ℤ) → (e +ℤ b) -ℤ (b -ℤ p) ≡ e +ℤ p
      taken e b p = omega (arith, ints)
  place-exceeds (Variable var) draft after excess h priced is =
      let old = part_for var draft.parts in
      let v = value_of values old.var in
      let of = var-part_for var draft.parts in
      let priced_here : HasPrice low (length prices) v = subst (λ (x : VarId). HasPrice low (length prices) (value_of values x)) (sym of) priced in
      let at = ap (λ (x : VarId). excess +ℤ price_at low prices (value_of values x)) of in
      exceeds-same values after _ _ at (list-exceeds values low var (entries_from low prices old.listed) (price_at low prices v) draft after excess h (λ w weighs. priced-weight old low prices v w priced_here weighs) is)

  places-exceed : (places : List Term) (draft after : Draft) (excess : ℤ) → Exceeds values draft excess → All (HasPrice low (length prices)) (values_of values places) → in_turn (price_added low prices) draft places ≡ Ok after → Exceeds values after (excess +ℤ cost_of low prices (values_of values places))
  places-exceed [] draft after excess h priced is =
      exceeds-same values after _ _ (none excess) (subst (λ (d : Draft). Exceeds values d excess) (same draft after is) h)
    where
      same : (a b : Draft) → ◌≡◌ {A = Result Draft DeriveFault} (Ok a) (Ok b) → a ≡ b
      same a b e = cc

      none : (e : ℤ) → e ≡ e +ℤ pos 0
      none e = omega (arith, ints)
  places-exceed (place ∷ places) draft after excess h priced is =
      let parts = then-both (price_added low prices draft place) (λ next. in_turn (price_added low prices) next places) after is in
      let first = place-exceeds place draft parts.0 excess h (All-head (HasPrice low (length prices)) (term_value values place) (values_of values places) priced) parts.1 in
      let rest = places-exceed places parts.0 after _ first (All-tail (HasPrice low (length prices)) (term_value values place) (values_of values places) priced) parts.2 in
      exceeds-same values after _ _ (both excess (price_at low prices (term_value values place)) (cost_of low prices (values_of values places))) rest
    where
      both : (e p rest : ℤ) → (e +ℤ p) +ℤ rest ≡ e +ℤ (p +ℤ rest)
      both e p rest = omega (arith, ints)

  -- ---- all places, and what they cost at the most

  priced-sound : (places : List Term) (draft after : Draft) → IsAllDifferent (values_of values places) → All (HasPrice low (length prices)) (values_of values places) → RowHolds (row_of draft) values
      → and_then (in_turn (price_added low prices) draft places) (λ next. with_bound (next.bound +ℤ most_cost (length places) prices) next) ≡ Ok after → RowHolds (row_of after) values
  priced-sound places draft after different priced before is =
      let parts = then-both (in_turn (price_added low prices) draft places) (λ next. with_bound (next.bound +ℤ most_cost (length places) prices) next) after is in
      let had = holds-exceeds values draft before in
      let all = places-exceed places draft parts.0 had.0 had.2 priced parts.1 in
      let has = bound-exceeds values (parts.0.bound +ℤ most_cost (length places) prices) parts.0 after _ all parts.2 in
      let most = subst (λ (n : ℕ). cost_of low prices (values_of values places) ≤ℤ most_cost n prices) (length-values_of values places) (cost-most low prices (values_of values places) different priced) in
      exceeds-holds values after _ has (no_more had.0 _ _ parts.0.bound had.1 most)
    where
      no_more : (e cost most bound : ℤ) → e ≤ℤ pos 0 → cost ≤ℤ most → (((e +ℤ cost) +ℤ bound) -ℤ (bound +ℤ most)) ≤ℤ pos 0
      no_more e cost most bound p q = omega (arith, ints)

-- ---- which values have prices

price-between : (low v : ℤ) (count : ℕ) → low ≤ℤ v → v ≤ℤ (low +ℤ pos count -ℤ pos 1) → HasPrice low count v
price-between low v count above below = by_distance (v -ℤ low) refl
  where
    by_distance : (distance : ℤ) → v -ℤ low ≡ distance → HasPrice low count v
    by_distance (pos k) is = (k, is, omega (arith, ints))
    by_distance (negsuc k) is = absurd (omega (arith, ints))

index-priced : (low : ℤ) (count n : ℕ) → low ≡ pos 1 → count ≡ n → (v : ℤ) → IsIndex n v → HasPrice low count v
index-priced low count n one same v index = price-between low v count (let a = index.0 in omega (arith, ints)) (let b = index.1 in omega (arith, ints))

le_both : (a b c : ℤ) → a ≤ℤ b → b ≤ℤ c → a ≤ℤ c
le_both a b c p q = omega (arith, ints)

le_is : (a b : ℤ) → int_le a b ≡ true → a ≤ℤ b
le_is a b h = grind (arith, ints)

pub member : (declared : List IntSet) (values : List ℤ) → IsWithin declared values → (var : VarId) → IsVariable (length declared) var → contains (set_of declared var) (value_of values var) ≡ true
member declared values within var variable = within.inside (var.0 - 1) (omega arith)

nothing-within : (declared : List IntSet) (values : List ℤ) → IsWithin declared values → (var : VarId) → IsVariable (length declared) var → size (set_of declared var) ≡ 0 → ⊥
nothing-within declared values within var variable none =
    let some = size_above_zero (set_of declared var) (value_of values var) (member declared values within var variable) in
    omega arith

module _ (declared : List IntSet) (values : List ℤ) (within : IsWithin declared values) where
  set-priced : (low : ℤ) (count : ℕ) (var : VarId) (empty between : Bool) → IsVariable (length declared) var → nat_eq (size (set_of declared var)) 0 ≡ empty
      → (int_le low (least (set_of declared var)) && int_le (greatest (set_of declared var)) (low +ℤ pos count -ℤ pos 1)) ≡ between → (empty || between) ≡ true → HasPrice low count (value_of values var)
  set-priced low count var true between variable is test all = absurd (nothing-within declared values within var variable (eqb-true _ _ is))
  set-priced low count var false true variable is test all =
      let set = set_of declared var in
      let v = value_of values var in
      let high : ℤ = low +ℤ pos count -ℤ pos 1 in
      let here = member declared values within var variable in
      let ends = and_parts (int_le low (least set)) (int_le (greatest set) high) test in
      price-between low v count (le_both low (least set) v (le_is low (least set) ends.0) (least_le set v here)) (le_both v (greatest set) high (le_greatest set v here) (le_is (greatest set) high ends.1))
  set-priced low count var false false variable is test all = absurd (cc)

  term-priced : (low : ℤ) (count : ℕ) (term : Term) → IsTerm (length declared) term → is_term_within declared low (low +ℤ pos count -ℤ pos 1) term ≡ true → HasPrice low count (term_value values term)
  term-priced low count (Constant k) formed test =
      let ends = and_parts (int_le low k) (int_le k (low +ℤ pos count -ℤ pos 1)) test in
      price-between low k count (le_is low k ends.0) (le_is k (low +ℤ pos count -ℤ pos 1) ends.1)
  term-priced low count (Variable var) formed test = set-priced low count var _ _ formed refl refl test

  terms-priced : (low : ℤ) (count : ℕ) (places : List Term) → All (IsTerm (length declared)) places → list_all (is_term_within declared low (low +ℤ pos count -ℤ pos 1)) places ≡ true → All (HasPrice low count) (values_of values places)
  terms-priced low count [] formed test = All-nil (HasPrice low count)
  terms-priced low count (place ∷ places) formed test =
      let parts = and_parts (is_term_within declared low (low +ℤ pos count -ℤ pos 1) place) (list_all (is_term_within declared low (low +ℤ pos count -ℤ pos 1)) places) test in
      All-cons (HasPrice low count) (term_value values place) (values_of values places)
      (term-priced low count place (All-head (IsTerm (length declared)) place places formed) parts.0)
      (terms-priced low count places (All-tail (IsTerm (length declared)) place places formed) parts.1)

-- ---- places of an inverse

pub entry_at-get : (xs : List ℤ) (k : ℕ) (d : ℤ) → k < length xs → entry_at xs (pos (suc k)) ≡ get_or xs k d
entry_at-get xs k d inside = let e : suc k - 1 ≡ k = omega arith in rw e (get_or_default xs k (pos 0) d inside)

is_index : (n m k : ℕ) → k < n → n ≡ m → IsIndex m (pos (suc k))
is_index n m k inside e = (omega (arith, ints), omega (arith, ints))

inverse-different : (forward backward : List ℤ) → length backward ≡ length forward → IsInverse forward backward → IsAllDifferent forward
inverse-different f g same h i j d before inside e =
    let v : ℤ = get_or f j d in
    let place = h.forward_places j d inside in
    let back : IsIndex (length g) (get_or f j d) = (place.0, omega (arith, ints, place.1)) in
    let at_i = (h.inverse (pos (suc i)) v (is_index (length f) (length f) i (omega arith) refl) back).0 (entry_at-get f i d (omega arith) ∙ e) in
    let at_j = (h.inverse (pos (suc j)) v (is_index (length f) (length f) j (omega arith) refl) back).0 (entry_at-get f j d inside) in
    let both : pos (suc i) ≡ pos (suc j) = sym at_i ∙ at_j in
    absurd (omega (arith, ints))

-- ---- the constraint

abbrev AreSpread : ℤ → ℕ → List ℤ → Type 0
AreSpread low count xs = IsAllDifferent xs × All (HasPrice low count) xs

indices-priced : (low : ℤ) (count n : ℕ) (xs : List ℤ) → (int_eq low (pos 1) && nat_eq count n) ≡ true → All (IsIndex n) xs → All (HasPrice low count) xs
indices-priced low count n xs test indices =
    let parts = and_parts (int_eq low (pos 1)) (nat_eq count n) test in
    λ k d inside. index-priced low count n ((Decides-int_eq low (pos 1)).0 parts.0) (eqb-true count n parts.1) (get_or xs k d) (indices k d inside)

places-spread : (declared : List IntSet) (values : List ℤ) (low : ℤ) (prices : List ℤ) (c : Constraint) → IsWithin declared values → IsWellFormedConstraint (length declared) c → Meets c values → has_each_price declared low prices c ≡ true
    → IfSome (priced_places c) (λ (places : List Term). AreSpread low (length prices) (values_of values places))
unfolding Meets IsWellFormedConstraint
places-spread declared values low prices (AllDifferent places) within well met test = (met, terms-priced declared values within low (length prices) places well.0 test)
places-spread declared values low prices (Circuit successors) within well met test =
    let places = subst (λ (n : ℕ). All (IsIndex n) (values_of values successors)) (length-values_of values successors) met.places in
    (circuit-different (values_of values successors) met, indices-priced low (length prices) (length successors) (values_of values successors) test places)
places-spread declared values low prices (Inverse forward backward) within well met test =
    let same : length (values_of values backward) ≡ length (values_of values forward) = length-values_of values backward ∙ well.2 ∙ sym (length-values_of values forward) in
    let places = subst (λ (n : ℕ). All (IsIndex n) (values_of values forward)) (length-values_of values forward) met.forward_places in
    (inverse-different (values_of values forward) (values_of values backward) same met, indices-priced low (length prices) (length forward) (values_of values forward) test places)
places-spread declared values low prices _ within well met test = tt

module _ (declared : List IntSet) (values : List ℤ) (within : IsWithin declared values) (low : ℤ) (prices : List ℤ) where
  places-sound : (c : Constraint) (o : Option (List Term)) (draft after : Draft) (test : Bool) → (are_prices low prices && has_each_price declared low prices c) ≡ test → (has_each_price declared low prices c ≡ true → IfSome o (λ (places : List Term). AreSpread low (length prices) (values_of values places)))
      → RowHolds (row_of draft) values
      → option_map_or (λ (places : List Term). cond test (and_then (in_turn (price_added low prices) draft places) (λ next. with_bound (next.bound +ℤ most_cost (length places) prices) next)) (Err NotDerived)) o (Err NotDerived) ≡ Ok after → RowHolds (row_of after) values
  places-sound c None draft after test test_is spread before is = absurd (no_error NotDerived after is)
  places-sound c (Some places) draft after true test_is spread before is =
      let there = spread (and_parts (are_prices low prices) (has_each_price declared low prices c) test_is).1 in
      priced-sound values low prices places draft after there.0 there.1 before is
  places-sound c (Some places) draft after false test_is spread before is = absurd (no_error NotDerived after is)

  constraint-sound : (o : Option Constraint) (draft after : Draft) → IfSome o (IsWellFormedConstraint (length declared)) → IfSome o (λ (c : Constraint). Meets c values) → RowHolds (row_of draft) values
      → option_map_or (λ (c : Constraint). option_map_or (λ (places : List Term). cond (are_prices low prices && has_each_price declared low prices c) (and_then (in_turn (price_added low prices) draft places) (λ next. with_bound (next.bound +ℤ most_cost (length places) prices) next)) (Err NotDerived)) (priced_places c) (Err NotDerived)) o (Err NoSuchConstraint) ≡ Ok after
      → RowHolds (row_of after) values
  constraint-sound None draft after well met before is = absurd (no_error NoSuchConstraint after is)
  constraint-sound (Some c) draft after well met before is =
      places-sound c (priced_places c) draft after _ refl (λ test. places-spread declared values low prices c within well met test) before is

  pub prices-sound : (given : List Constraint) (id : ℕ) (draft after : Draft) → All (IsWellFormedConstraint (length declared)) given → IfSome (constraint_at given id) (λ (c : Constraint). Meets c values) → RowHolds (row_of draft) values → prices_added given declared draft id low prices ≡ Ok after → RowHolds (row_of after) values
  prices-sound given id draft after well met before is = constraint-sound (constraint_at given id) draft after (each_at (IsWellFormedConstraint (length declared)) given id well) met before is
