-- The values of a choice one by one.
use Rattle.std.proofs.Common.{◌≡◌, ◌↔◌, ℕ, zero, suc, ◌+◌, ◌<◌, ◌≤◌, Bool, cond, List, [], ◌∷◌, ◌++◌, length, get_or, drop, map, refl, sym, ap, subst, ◌∙◌, inl, inr, ◌⊎◌, arith, ℤ, pos, ◌+ℤ◌, ◌*ℤ◌, int_lt}
use Rattle.std.specs.List.{All, Any, Contains, count_by}
use Rattle.std.specs.Ordering.{int_eq}
use Rattle.std.proofs.lemmas.Int.{ints}
use Rattle.std.proofs.lemmas.Bool.{cases_Bool, false≢true}
use Rattle.std.proofs.lemmas.List.Recursion.{is_count_by}
use Rattle.std.proofs.lemmas.List.Sums.{count_by-le-length}
use Rattle.std.proofs.lemmas.Bool.Decides.{Decides-int_eq}
use Rattle.std.proofs.lemmas.List.Elements.{All-cons, All-nil, All-head, All-tail}
use Rattle.fzn_domain.specs.IntSet.{IntSet}
use Rattle.fzn_values.specs.declared.term.Term.{Term}
use Rattle.fzn_values.specs.declared.term.Place.{Place}
use Rattle.fzn_meaning.specs.declared.extremum.Extreme.{Extreme}
use Rattle.fzn_meaning.specs.declared.extremum.Extreme.TheVariants.{Least, Greatest}
use Rattle.fzn_meaning.specs.Extrema.{Bounds, IsExtremum}
use Rattle.fzn_builtin_rules.specs.Choices.{weighted_sum}
use Rattle.fzn_builtin_rules.specs.Numbered.{value_in, rest_in, choice_at, rest_after, further}
use Rattle.fzn_builtin_rules.proofs.CountLemmas.{drop_next}

pub drop_end : {A : Type 0} (xs : List A) (i : ℕ) → length xs ≤ i → drop i xs ≡ []
drop_end [] zero past = refl
drop_end [] (suc i) past = refl
drop_end (x ∷ xs) zero past = absurd (omega arith)
drop_end (x ∷ xs) (suc i) past = drop_end xs i (omega arith)

module _ (sets : List IntSet) where
  pub length-choice_at : (terms : List Term) (n : ℕ) → length (choice_at sets terms n) ≡ length terms
  length-choice_at [] n = refl
  length-choice_at (t ∷ terms) n = ap suc (length-choice_at terms (rest_in sets t n))

  -- the values from one place on
  pub choice_step : (terms : List Term) (i : ℕ) (d : Term) (n : ℕ) → i < length terms → choice_at sets (drop i terms) n ≡ value_in sets (get_or terms i d) n ∷ choice_at sets (drop (i + 1) terms) (rest_in sets (get_or terms i d) n)
  choice_step terms i d n below = ap (λ (rest : List Term). choice_at sets rest n) (drop_next terms i d below)

  pub choice_end : (terms : List Term) (i n : ℕ) → length terms ≤ i → choice_at sets (drop i terms) n ≡ []
  choice_end terms i n past = ap (λ (rest : List Term). choice_at sets rest n) (drop_end terms i past)

  pub choice_at-append : (front back : List Term) (n : ℕ) → choice_at sets (front ++ back) n ≡ choice_at sets front n ++ choice_at sets back (rest_after sets front n)
  choice_at-append [] back n = refl
  choice_at-append (t ∷ front) back n = ap (λ (rest : List ℤ). value_in sets t n ∷ rest) (choice_at-append front back (rest_in sets t n))

  pub rest_step : (terms : List Term) (i : ℕ) (d : Term) (n : ℕ) → i < length terms → rest_after sets (drop i terms) n ≡ rest_after sets (drop (i + 1) terms) (rest_in sets (get_or terms i d) n)
  rest_step terms i d n below = ap (λ (rest : List Term). rest_after sets rest n) (drop_next terms i d below)

  pub rest_end : (terms : List Term) (i n : ℕ) → length terms ≤ i → rest_after sets (drop i terms) n ≡ n
  rest_end terms i n past = ap (λ (rest : List Term). rest_after sets rest n) (drop_end terms i past)

  pub sum_step : (places : List Place) (i : ℕ) (d : Place) (n : ℕ) → i < length places → weighted_sum (drop i places) (choice_at sets (map (λ (place : Place). place.term) (drop i places)) n) ≡ ((get_or places i d).coefficient *ℤ value_in sets (get_or places i d).term n) +ℤ weighted_sum (drop (i + 1) places) (choice_at sets (map (λ (place : Place). place.term) (drop (i + 1) places)) (rest_in sets (get_or places i d).term n))
  sum_step places i d n below = ap (λ (rest : List Place). weighted_sum rest (choice_at sets (map (λ (place : Place). place.term) rest) n)) (drop_next places i d below)

  pub sum_end : (places : List Place) (i n : ℕ) → length places ≤ i → weighted_sum (drop i places) (choice_at sets (map (λ (place : Place). place.term) (drop i places)) n) ≡ pos 0
  sum_end places i n past = ap (λ (rest : List Place). weighted_sum rest (choice_at sets (map (λ (place : Place). place.term) rest) n)) (drop_end places i past)

-- ---- counting a value

abbrev counts : (ℤ → Bool) → List ℤ → ℕ
counts p [] = 0
counts p (x ∷ xs) = cond (p x) (1 + counts p xs) (counts p xs)

counts_is : (p : ℤ → Bool) (xs : List ℤ) → counts p xs ≡ count_by p xs
counts_is p xs = is_count_by (counts p) p refl (λ x rest. refl) xs

counts_few : (p : ℤ → Bool) (xs : List ℤ) → counts p xs ≤ length xs
counts_few p xs = subst (λ (n : ℕ). n ≤ length xs) (sym (counts_is p xs)) (count_by-le-length p xs)

abbrev is_value : ℤ → ℤ → Bool
is_value w x = int_eq x w

-- all have the value
counts_all : (w : ℤ) (xs : List ℤ) → counts (is_value w) xs ≡ length xs ↔ All (λ (x : ℤ). x ≡ w) xs
counts_all w [] = (λ h. All-nil (λ (x : ℤ). x ≡ w), λ h. refl)
counts_all w (x ∷ xs) =
    let rest = counts_all w xs in
    let few = counts_few (is_value w) xs in
    elim (cases_Bool (int_eq x w)) [
      | inl e ↦
          let here : counts (is_value w) (x ∷ xs) ≡ 1 + counts (is_value w) xs = ap (λ (b : Bool). cond b (1 + counts (is_value w) xs) (counts (is_value w) xs)) e in
          (λ h. All-cons (λ (x : ℤ). x ≡ w) x xs ((Decides-int_eq x w).0 e) (rest.0 (omega arith)), λ h. let more = rest.1 (All-tail (λ (x : ℤ). x ≡ w) x xs h) in omega arith)
      | inr e ↦
          let here : counts (is_value w) (x ∷ xs) ≡ counts (is_value w) xs = ap (λ (b : Bool). cond b (1 + counts (is_value w) xs) (counts (is_value w) xs)) e in
          (λ h. absurd (omega arith), λ h. absurd (false≢true (sym e ∙ (Decides-int_eq x w).1 (All-head (λ (x : ℤ). x ≡ w) x xs h))))
    ]

-- some has the value
counts_some : (w : ℤ) (xs : List ℤ) → (0 < counts (is_value w) xs) ↔ Any (λ (x : ℤ). x ≡ w) xs
counts_some w [] = (λ h. absurd (omega arith), λ any. absurd (omega (arith, any.2)))
counts_some w (x ∷ xs) =
    let rest = counts_some w xs in
    elim (cases_Bool (int_eq x w)) [
      | inl e ↦
          let here : counts (is_value w) (x ∷ xs) ≡ 1 + counts (is_value w) xs = ap (λ (b : Bool). cond b (1 + counts (is_value w) xs) (counts (is_value w) xs)) e in
          (λ h. (0, x, omega arith, refl, (Decides-int_eq x w).0 e), λ h. omega arith)
      | inr e ↦
          let here : counts (is_value w) (x ∷ xs) ≡ counts (is_value w) xs = ap (λ (b : Bool). cond b (1 + counts (is_value w) xs) (counts (is_value w) xs)) e in
          (λ h. any_later w x xs (rest.0 (omega arith)), λ any. let more = rest.1 (any_behind w x xs (λ same. false≢true (sym e ∙ (Decides-int_eq x w).1 same)) any) in omega arith)
    ]
  where
    any_later : (w x : ℤ) (xs : List ℤ) → Any (λ (x : ℤ). x ≡ w) xs → Any (λ (x : ℤ). x ≡ w) (x ∷ xs)
    any_later w x xs (k, y, below, at, is) = (suc k, y, omega arith, at, is)

    any_behind : (w x : ℤ) (xs : List ℤ) → (x ≡ w → ⊥) → Any (λ (x : ℤ). x ≡ w) (x ∷ xs) → Any (λ (x : ℤ). x ≡ w) xs
    any_behind w x xs other (zero, y, below, at, is) = absurd (other (at ∙ is))
    any_behind w x xs other (suc k, y, below, at, is) = (k, y, omega arith, at, is)

pub count_all : (w : ℤ) (xs : List ℤ) → count_by (λ (x : ℤ). int_eq x w) xs ≡ length xs ↔ All (λ (x : ℤ). x ≡ w) xs
count_all w xs = subst (λ (n : ℕ). n ≡ length xs ↔ All (λ (x : ℤ). x ≡ w) xs) (counts_is (is_value w) xs) (counts_all w xs)

pub count_some : (w : ℤ) (xs : List ℤ) → (0 < count_by (λ (x : ℤ). int_eq x w) xs) ↔ Any (λ (x : ℤ). x ≡ w) xs
count_some w xs = subst (λ (n : ℕ). (0 < n) ↔ Any (λ (x : ℤ). x ≡ w) xs) (counts_is (is_value w) xs) (counts_some w xs)

-- ---- the least and the greatest

tail_all : (extreme : Extreme) (r x : ℤ) (xs : List ℤ) → All (Bounds extreme r) (x ∷ xs) → Bounds extreme r x × All (Bounds extreme r) xs
tail_all extreme r x xs all = (All-head (Bounds extreme r) x xs all, All-tail (Bounds extreme r) x xs all)

abbrev Is : Extreme → List ℤ → ℤ → Type 0
Is extreme xs r = IsExtremum extreme xs r

contains_cons : (x : ℤ) (xs : List ℤ) (r : ℤ) → (x ≡ r) ⊎ Contains xs r → Contains (x ∷ xs) r
contains_cons x xs r (inl same) = (0, omega arith, same)
contains_cons x xs r (inr rest) = (suc rest.0, omega (arith, rest.1), rest.2)

contains_cases : (x : ℤ) (xs : List ℤ) (r : ℤ) → Contains (x ∷ xs) r → (x ≡ r) ⊎ Contains xs r
contains_cases x xs r (zero, below, at) = inl at
contains_cases x xs r (suc k, below, at) = inr (k, omega arith, at)

-- what the further of two numbers is, and what bounds it
further_is : (extreme : Extreme) (x y : ℤ) → (further extreme x y ≡ x) ⊎ (further extreme x y ≡ y)
further_is Least x y = elim (cases_Bool (int_lt y x)) [ inl e ↦ inr (ap (λ (b : Bool). cond b y x) e) | inr e ↦ inl (ap (λ (b : Bool). cond b y x) e) ]
further_is Greatest x y = elim (cases_Bool (int_lt x y)) [ inl e ↦ inr (ap (λ (b : Bool). cond b y x) e) | inr e ↦ inl (ap (λ (b : Bool). cond b y x) e) ]

further_bounds : (extreme : Extreme) (r x y : ℤ) → Bounds extreme r (further extreme x y) → Bounds extreme r x × Bounds extreme r y
further_bounds Least r x y bounds = (grind (arith, ints, bounds), grind (arith, ints, bounds))
further_bounds Greatest r x y bounds = (grind (arith, ints, bounds), grind (arith, ints, bounds))

same_number : (extreme : Extreme) (r x : ℤ) → Bounds extreme r x → Bounds extreme x r → x ≡ r
same_number Least r x one other = omega (arith, ints)
same_number Greatest r x one other = omega (arith, ints)

bounds_itself : (extreme : Extreme) (x : ℤ) → Bounds extreme x x
bounds_itself Least x = omega (arith, ints)
bounds_itself Greatest x = omega (arith, ints)

pub extremum_one : (extreme : Extreme) (x r : ℤ) → Is extreme (x ∷ []) r ↔ (x ≡ r)
extremum_one extreme x r = (
  λ is. elim (contains_cases x [] r is.0) [ inl same ↦ same | inr none ↦ absurd (omega (arith, none.1)) ],
  λ same. (contains_cons x [] r (inl same), All-cons (Bounds extreme r) x [] (subst (Bounds extreme r) (sym same) (bounds_itself extreme r)) (All-nil (Bounds extreme r))),
)

-- two numbers, and their further one in their place
two_to_one : (extreme : Extreme) (x y : ℤ) (xs : List ℤ) (r : ℤ) → Is extreme (x ∷ y ∷ xs) r → Is extreme (further extreme x y ∷ xs) r
two_to_one extreme x y xs r is =
    let first = tail_all extreme r x (y ∷ xs) is.1 in
    let second = tail_all extreme r y xs first.1 in
    let bounded : Bounds extreme r (further extreme x y) = elim (further_is extreme x y) [ inl e ↦ subst (Bounds extreme r) (sym e) first.0 | inr e ↦ subst (Bounds extreme r) (sym e) second.0 ] in
    let own = further_bounds extreme (further extreme x y) x y (bounds_itself extreme (further extreme x y)) in
    let found : (further extreme x y ≡ r) ⊎ Contains xs r = elim (contains_cases x (y ∷ xs) r is.0) [
      | inl e ↦ inl (same_number extreme r (further extreme x y) bounded (subst (Bounds extreme (further extreme x y)) e own.0))
      | inr rest ↦ elim (contains_cases y xs r rest) [
        | inl e ↦ inl (same_number extreme r (further extreme x y) bounded (subst (Bounds extreme (further extreme x y)) e own.1))
        | inr there ↦ inr there
      ]
    ] in
    (contains_cons (further extreme x y) xs r found, All-cons (Bounds extreme r) (further extreme x y) xs bounded second.1)

one_to_two : (extreme : Extreme) (x y : ℤ) (xs : List ℤ) (r : ℤ) → Is extreme (further extreme x y ∷ xs) r → Is extreme (x ∷ y ∷ xs) r
one_to_two extreme x y xs r is =
    let parts = tail_all extreme r (further extreme x y) xs is.1 in
    let both = further_bounds extreme r x y parts.0 in
    let found : (x ≡ r) ⊎ Contains (y ∷ xs) r = elim (contains_cases (further extreme x y) xs r is.0) [
      | inl e ↦ elim (further_is extreme x y) [ inl g ↦ inl (sym g ∙ e) | inr g ↦ inr (contains_cons y xs r (inl (sym g ∙ e))) ]
      | inr rest ↦ inr (contains_cons y xs r (inr rest))
    ] in
    (contains_cons x (y ∷ xs) r found, All-cons (Bounds extreme r) x (y ∷ xs) both.0 (All-cons (Bounds extreme r) y xs both.1 parts.1))

extremum_two : (extreme : Extreme) (x y : ℤ) (xs : List ℤ) (r : ℤ) → Is extreme (x ∷ y ∷ xs) r ↔ Is extreme (further extreme x y ∷ xs) r
extremum_two extreme x y xs r = (two_to_one extreme x y xs r, one_to_two extreme x y xs r)

-- ---- the walk to the least or the greatest

module _ (sets : List IntSet) (extreme : Extreme) (terms : List Term) where
  pub extreme_start : (d : Term) (n left : ℕ) (best : ℤ) → 0 < length terms → best ≡ value_in sets (get_or terms 0 d) n → left ≡ rest_in sets (get_or terms 0 d) n → (x : ℤ) → Is extreme (choice_at sets terms n) x ↔ Is extreme (best ∷ choice_at sets (drop 1 terms) left) x
  extreme_start d n left best some is rest x =
      let first : best ∷ choice_at sets (drop 1 terms) left ≡ choice_at sets terms n = ap (λ (v : ℤ). v ∷ choice_at sets (drop 1 terms) left) is ∙ ap (λ (m : ℕ). value_in sets (get_or terms 0 d) n ∷ choice_at sets (drop 1 terms) m) rest ∙ sym (choice_step sets terms 0 d n some) in
      (subst (λ (xs : List ℤ). Is extreme xs x) (sym first), subst (λ (xs : List ℤ). Is extreme xs x) first)

  pub extreme_step : (all : List ℤ) (k : ℕ) (d : Term) (left next : ℕ) (best value better : ℤ) → k < length terms → ((x : ℤ) → Is extreme all x ↔ Is extreme (best ∷ choice_at sets (drop k terms) left) x) → value ≡ value_in sets (get_or terms k d) left → next ≡ rest_in sets (get_or terms k d) left → better ≡ further extreme best value → (x : ℤ) → Is extreme all x ↔ Is extreme (better ∷ choice_at sets (drop (k + 1) terms) next) x
  extreme_step all k d left next best value better below so_far is rest more x =
      let behind = choice_at sets (drop (k + 1) terms) next in
      let here : choice_at sets (drop k terms) left ≡ value ∷ behind = choice_step sets terms k d left below ∙ ap (λ (v : ℤ). v ∷ choice_at sets (drop (k + 1) terms) (rest_in sets (get_or terms k d) left)) (sym is) ∙ ap (λ (m : ℕ). value ∷ choice_at sets (drop (k + 1) terms) m) (sym rest) in
      let two = extremum_two extreme best value behind x in (
        λ h. subst (λ (v : ℤ). Is extreme (v ∷ behind) x) (sym more) (two.0 (subst (λ (xs : List ℤ). Is extreme (best ∷ xs) x) here ((so_far x).0 h))),
        λ h. (so_far x).1 (subst (λ (xs : List ℤ). Is extreme (best ∷ xs) x) (sym here) (two.1 (subst (λ (v : ℤ). Is extreme (v ∷ behind) x) more h))),
      )

  pub extreme_stop : (all : List ℤ) (k left : ℕ) (best : ℤ) → length terms ≤ k → ((x : ℤ) → Is extreme all x ↔ Is extreme (best ∷ choice_at sets (drop k terms) left) x) → (x : ℤ) → Is extreme all x ↔ (best ≡ x)
  extreme_stop all k left best past so_far x =
      let one = extremum_one extreme best x in
      let none = choice_end sets terms k left past in (
        λ h. one.0 (subst (λ (xs : List ℤ). Is extreme (best ∷ xs) x) none ((so_far x).0 h)),
        λ h. (so_far x).1 (subst (λ (xs : List ℤ). Is extreme (best ∷ xs) x) (sym none) (one.1 h)),
      )
