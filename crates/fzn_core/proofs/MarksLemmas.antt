-- Marks that are set one after another.
use Rattle.std.proofs.Common.{◌≡◌, ◌⊎◌, ◌↔◌, ℕ, ◌+◌, ◌-◌, ◌<◌, ◌≤◌, Bool, true, false, cond, List, [], ◌∷◌, ◌++◌, length, take, drop, get_or, map, set, refl, sym, ap, subst, ◌∙◌, inl, inr, arith}
use Rattle.std.specs.Prelude.{Contains}
use Rattle.std.specs.List.{All, filter, range_with_len}
use Rattle.std.specs.List.Sorted.{IsStrictlyIncreasing}
use Rattle.std.proofs.lemmas.Bool.{false≢true}
use Rattle.std.proofs.lemmas.List.{append-nil, length-set, get_or-set_same, get_or-set_other, take_more, map_more, drop_more, drop_all, get_or_read}
use Rattle.std.proofs.lemmas.List.Concat.{flat_map-append}
use Rattle.std.proofs.lemmas.List.Elements.{All-contains, All-filter, Contains-append_left, Contains-append_right, Contains-append_cases, Contains-get_or, Contains-push, Contains-push_cases, filter_passes}
use Rattle.std.proofs.lemmas.List.FromFn.{length-range_with_len, get_or-range_with_len, filter_of_map_range_with_len_more}
use Rattle.std.proofs.lemmas.List.Kept.{IsStrictlyIncreasing-filter}
use Rattle.std.proofs.lemmas.Option.{slice_get_cases}
use Rattle.fzn_derive.specs.declared.derivation.Derivation.{Derivation}
use Rattle.fzn_cited.specs.declared.multiple.Multiple.{Multiple}
use Rattle.fzn_row.specs.declared.item.RowItem.{RowItem}
use Rattle.fzn_row.specs.Derived.{cited_by, all_cited}
use Rattle.fzn_derive.specs.Derived.{cited}
use Rattle.fzn_core.specs.Core.{IsNeeded}
use Rattle.fzn_core.specs.Marks.{mark_at, IsMarked, AreMarksOf, HasMore}

nothing : (n : ℕ) → Contains [] n → ⊥
nothing n (i, lt, is) = omega (arith, lt)

only-one : (x n : ℕ) → Contains (x ∷ []) n → x ≡ n
only-one x n h = elim (Contains-push_cases [] x n h) [
  | inl none ↦ absurd (nothing n none)
  | inr is ↦ is
]

-- ---- one after another

pub more-none : (marks : List Bool) → HasMore marks marks []
more-none marks = record {
  same_len = refl;
  marks = λ n lt. (
    λ h. inl h,
    λ h. elim h [
      | inl before ↦ before
      | inr none ↦ absurd (nothing n none)
    ],
  );
}

pub more-then : (a b c : List Bool) (xs ys : List ℕ) → HasMore a b xs → HasMore b c ys → HasMore a c (xs ++ ys)
more-then a b c xs ys first second = record {
  same_len = second.same_len ∙ first.same_len;
  marks = λ n lt.
      let below : n < length b = subst (λ (m : ℕ). n < m) (sym first.same_len) lt in
      let one = first.marks n lt in
      let two = second.marks n below in (
        λ h. elim (two.0 h) [
          | inl before ↦ elim (one.0 before) [
            | inl at ↦ inl at
            | inr in_xs ↦ inr (Contains-append_left xs ys n in_xs)
          ]
          | inr in_ys ↦ inr (Contains-append_right xs ys n in_ys)
        ],
        λ h. elim h [
          | inl at ↦ two.1 (inl (one.1 (inl at)))
          | inr among ↦ elim (Contains-append_cases xs ys n among) [
            | inl in_xs ↦ two.1 (inl (one.1 (inr in_xs)))
            | inr in_ys ↦ two.1 (inr in_ys)
          ]
        ],
      );
}

-- the loop's next number
pub more-next : (a b c : List Bool) (xs : List ℕ) (i d : ℕ) → i < length xs → HasMore a b (take i xs) → HasMore b c (get_or xs i d ∷ []) → HasMore a c (take (i + 1) xs)
more-next a b c xs i d within first second = subst (HasMore a c) (sym (take_more xs i d within)) (more-then a b c (take i xs) (get_or xs i d ∷ []) first second)

pub more-multiple : (a b c : List Bool) (xs : List Multiple) (i : ℕ) (d : Multiple) → i < length xs → HasMore a b (map (λ multiple. multiple.constraint) (take i xs)) → HasMore b c ((get_or xs i d).constraint ∷ [])
    → HasMore a c (map (λ multiple. multiple.constraint) (take (i + 1) xs))
more-multiple a b c xs i d within first second =
    subst (HasMore a c) (sym (map_more (λ (multiple : Multiple). multiple.constraint) xs i d within)) (more-then a b c (map (λ (multiple : Multiple). multiple.constraint) (take i xs)) ((get_or xs i d).constraint ∷ []) first second)

pub more-item : (a b c : List Bool) (xs : List RowItem) (i : ℕ) (item : RowItem) → i < length xs → item ≡ get_or xs i item → HasMore a b (all_cited (take i xs)) → HasMore b c (cited_by item) → HasMore a c (all_cited (take (i + 1) xs))
more-item a b c xs i item within is first second =
    let last : all_cited (get_or xs i item ∷ []) ≡ cited_by item = append-nil (cited_by (get_or xs i item)) ∙ ap cited_by (sym is) in
    let step : all_cited (take (i + 1) xs) ≡ all_cited (take i xs) ++ cited_by item =
    ap all_cited (take_more xs i item within) ∙ flat_map-append cited_by (take i xs) (get_or xs i item ∷ []) ∙ ap (λ (ns : List ℕ). all_cited (take i xs) ++ ns) last in
    subst (HasMore a c) (sym step) (more-then a b c (all_cited (take i xs)) (cited_by item) first second)

-- what is read at a number
pub marked-here : (marks : List Bool) (k : ℕ) (b v : Bool) → k < length marks → b ≡ get_or marks k b → b ≡ v → mark_at marks k ≡ v
marked-here marks k b v within at is = sym (get_or_read marks k b within at false) ∙ is

pub marked-one : (marks : List Bool) (x : ℕ) → x < length marks → HasMore marks (set marks x true) (x ∷ [])
marked-one marks x within = record {
  same_len = length-set marks x true;
  marks = λ n lt. (
    λ h. by_place n (is_place n) h,
    λ h. elim h [
      | inl before ↦ still n before (is_place n)
      | inr same ↦ subst (IsMarked (set marks x true)) (only-one x n same) (get_or-set_same marks x true false within)
    ],
  );
}
  where
    is_place : (n : ℕ) → (n ≡ x) ⊎ (n ≡ x → ⊥)
    is_place n = grind arith

    by_place : (n : ℕ) → (n ≡ x) ⊎ (n ≡ x → ⊥) → IsMarked (set marks x true) n → IsMarked marks n ⊎ Contains (x ∷ []) n
    by_place n (inl is) h = inr (subst (Contains (x ∷ [])) (sym is) (Contains-push [] x))
    by_place n (inr other) h = inl (sym (get_or-set_other marks x n true false other) ∙ h)

    still : (n : ℕ) → IsMarked marks n → (n ≡ x) ⊎ (n ≡ x → ⊥) → IsMarked (set marks x true) n
    still n before (inl is) = subst (IsMarked (set marks x true)) (sym is) (get_or-set_same marks x true false within)
    still n before (inr other) = get_or-set_other marks x n true false other ∙ before

pub marked-none : (marks : List Bool) (x : ℕ) → length marks ≤ x → HasMore marks marks (x ∷ [])
marked-none marks x past = record {
  same_len = refl;
  marks = λ n lt. (
    λ h. inl h,
    λ h. elim h [
      | inl before ↦ before
      | inr same ↦ absurd (let is = only-one x n same in omega (arith, lt, past, is))
    ],
  );
}

-- ---- what is needed, from the last derivation to the first

pub needed-first : (own : ℕ) (read : List Derivation) (numbers : List ℕ) (old new : List Bool) → ((n : ℕ) → n < length old → mark_at old n ≡ false) → HasMore old new numbers → AreMarksOf (IsNeeded (own + length read) (drop (length read) read) numbers) new
needed-first own read numbers old new blank more = λ n lt.
    let below : n < length old = subst (λ (m : ℕ). n < m) more.same_len lt in
    let none : drop (length read) read ≡ [] = drop_all (length read) read (omega arith) in
    subst (λ (later : List Derivation). IsMarked new n ↔ IsNeeded (own + length read) later numbers n) (sym none) (
      λ h. elim ((more.marks n below).0 h) [
        | inl before ↦ absurd (false≢true (sym (blank n below) ∙ before))
        | inr among ↦ among
      ],
      λ among. (more.marks n below).1 (inr among),
    )

module _ (own : ℕ) (read : List Derivation) (numbers : List ℕ) (place : ℕ) (derivation : Derivation) (within : place < length read) (is : derivation ≡ get_or read place derivation) where
  later : List Derivation
  later = drop (place + 1) read

  unfolded : drop place read ≡ derivation ∷ drop (place + 1) read
  unfolded = drop_more read place derivation within ∙ ap (λ (d : Derivation). d ∷ drop (place + 1) read) (sym is)

  further : own + (place + 1) ≡ own + place + 1
  further = omega arith

  -- one more is needed for what the derivation gives, where that is
  module _ (old : List Bool) (marks : AreMarksOf (IsNeeded (own + (place + 1)) (drop (place + 1) read) numbers) old) where
    behind : AreMarksOf (IsNeeded (own + place + 1) (drop (place + 1) read) numbers) old
    behind = subst (λ (n : ℕ). AreMarksOf (IsNeeded n (drop (place + 1) read) numbers) old) further marks

    pub needed-cited : (new : List Bool) → own + place + 1 < length old → IsMarked old (own + place + 1) → HasMore old new (cited derivation) → AreMarksOf (IsNeeded (own + place) (drop place read) numbers) new
    needed-cited new inside marked more = subst (λ (ds : List Derivation). AreMarksOf (IsNeeded (own + place) ds numbers) new) (sym unfolded) (
        λ n lt.
        let below : n < length old = subst (λ (m : ℕ). n < m) more.same_len lt in
        let given = (behind (own + place + 1) inside).0 marked in (
          λ h. elim ((more.marks n below).0 h) [
            | inl before ↦ inl ((behind n below).0 before)
            | inr among ↦ inr (given, among)
          ],
          λ h. elim h [
            | inl needed ↦ (more.marks n below).1 (inl ((behind n below).1 needed))
            | inr both ↦ (more.marks n below).1 (inr both.1)
          ],
        )
        )

    pub needed-not : own + place + 1 < length old → mark_at old (own + place + 1) ≡ false → AreMarksOf (IsNeeded (own + place) (drop place read) numbers) old
    needed-not inside unmarked = subst (λ (ds : List Derivation). AreMarksOf (IsNeeded (own + place) ds numbers) old) (sym unfolded) (
        λ n lt. (
          λ h. inl ((behind n lt).0 h),
          λ h. elim h [
            | inl needed ↦ (behind n lt).1 needed
            | inr both ↦ absurd (false≢true (sym unmarked ∙ (behind (own + place + 1) inside).1 both.0))
          ],
        )
        )

-- the same where no derivation is at hand
pub needed-skip : (own : ℕ) (read : List Derivation) (numbers : List ℕ) (place : ℕ) (old : List Bool) → place < length read → AreMarksOf (IsNeeded (own + (place + 1)) (drop (place + 1) read) numbers) old
    → own + place + 1 < length old → mark_at old (own + place + 1) ≡ false → AreMarksOf (IsNeeded (own + place) (drop place read) numbers) old
needed-skip own read numbers place old within marks inside unmarked = elim (slice_get_cases read place).1 [
  | inl (derivation, _, _, at) ↦ needed-not own read numbers place derivation within (sym at) old marks inside unmarked
  | inr past_end ↦ absurd (omega (arith, within, past_end.0))
]

-- ---- the numbers that are marked

range-inside : (a n : ℕ) → All (λ m. (a ≤ m) × (m < a + n)) (range_with_len a n)
range-inside a n k d lt =
    let inside : k < n = subst (λ (m : ℕ). k < m) (length-range_with_len a n) lt in
    subst (λ (m : ℕ). (a ≤ m) × (m < a + n)) (sym (get_or-range_with_len a n k d inside)) (omega arith, omega (arith, inside))

range-contains : (a n m : ℕ) → a ≤ m → m < a + n → Contains (range_with_len a n) m
range-contains a n m above below =
    let inside : m - a < n = omega (arith, above, below) in
    let is : get_or (range_with_len a n) (m - a) m ≡ m = get_or-range_with_len a n (m - a) m inside ∙ omega (arith, above) in
    subst (Contains (range_with_len a n)) is (Contains-get_or (range_with_len a n) (m - a) m (subst (λ (len : ℕ). m - a < len) (sym (length-range_with_len a n)) inside))

range-rises : (a n : ℕ) → IsStrictlyIncreasing (range_with_len a n)
range-rises a n k lt =
    let inside : k + 1 < n = subst (λ (m : ℕ). k + 1 < m) (length-range_with_len a n) lt in
    omega (arith, get_or-range_with_len a n k 0 (omega (arith, inside)), get_or-range_with_len a n (k + 1) 0 inside)

filter-contains : (p : ℕ → Bool) (xs : List ℕ) (m : ℕ) → Contains xs m → p m ≡ true → Contains (filter p xs) m
filter-contains p [] m h passes = absurd (nothing m h)
filter-contains p (x ∷ xs) m h passes = elim (Contains-append_cases (x ∷ []) xs m h) [
  | inl first ↦
      let is = only-one x m first in
      subst (λ (b : Bool). Contains (cond b (x ∷ filter p xs) (filter p xs)) m) (sym (ap p is ∙ passes)) (Contains-append_left (x ∷ []) (filter p xs) m first)
  | inr among ↦ either (p x) (filter-contains p xs m among passes)
]
  where
    either : (b : Bool) → Contains (filter p xs) m → Contains (cond b (x ∷ filter p xs) (filter p xs)) m
    either true rest = Contains-append_right (x ∷ []) (filter p xs) m rest
    either false rest = rest

pub listed-rises : (own : ℕ) (marks : List Bool) → IsStrictlyIncreasing (filter (mark_at marks) (range_with_len 1 own))
listed-rises own marks = IsStrictlyIncreasing-filter (mark_at marks) (range_with_len 1 own) (range-rises 1 own)

pub listed-are : (own : ℕ) (marks : List Bool) (Holds : ℕ → Type 0) → own < length marks → AreMarksOf Holds marks → (n : ℕ) → Contains (filter (mark_at marks) (range_with_len 1 own)) n ↔ ((1 ≤ n) × (n ≤ own) × Holds n)
listed-are own marks Holds inside are n =
    let numbers = filter (mark_at marks) (range_with_len 1 own) in (
      λ listed.
          let bounds = All-contains (λ m. (1 ≤ m) × (m < 1 + own)) numbers n (All-filter (mark_at marks) (λ m. (1 ≤ m) × (m < 1 + own)) (range_with_len 1 own) (range-inside 1 own)) listed in
          let marked = All-contains (λ m. mark_at marks m ≡ true) numbers n (filter_passes (mark_at marks) (range_with_len 1 own)) listed in
          (bounds.0, omega (arith, bounds.1), (are n (omega (arith, bounds.1, inside))).0 marked),
      λ h. filter-contains (mark_at marks) (range_with_len 1 own) n (range-contains 1 own n h.0 (omega (arith, h.1))) ((are n (omega (arith, h.1, inside))).1 h.2),
    )

-- at the end, for numbers that are found so
pub found-needed : (own : ℕ) (marks : List Bool) (Holds : ℕ → Type 0) (found : List ℕ) → own < length marks → AreMarksOf Holds marks → found ≡ filter (mark_at marks) (range_with_len 1 own) → (n : ℕ) → Contains found n ↔ ((1 ≤ n) × (n ≤ own) × Holds n)
found-needed own marks Holds found inside are is n = subst (λ (ns : List ℕ). Contains ns n ↔ ((1 ≤ n) × (n ≤ own) × Holds n)) (sym is) (listed-are own marks Holds inside are n)

pub found-rises : (own : ℕ) (marks : List Bool) (found : List ℕ) → found ≡ filter (mark_at marks) (range_with_len 1 own) → IsStrictlyIncreasing found
found-rises own marks found is = subst IsStrictlyIncreasing (sym is) (listed-rises own marks)

-- one number more
pub listed-more : (marks : List Bool) (before : ℕ) (numbers : List ℕ) → numbers ≡ filter (mark_at marks) (range_with_len 1 before) → (b : Bool) → mark_at marks (before + 1) ≡ b → numbers ++ cond b ((before + 1) ∷ []) [] ≡ filter (mark_at marks) (range_with_len 1 (before + 1))
listed-more marks before numbers is b marked =
    let same : (n : ℕ) → map (λ (m : ℕ). m) (range_with_len 1 n) ≡ range_with_len 1 n = λ n. map-id (range_with_len 1 n) in
    ap (λ (ns : List ℕ). ns ++ cond b ((before + 1) ∷ []) []) (is ∙ ap (filter (mark_at marks)) (sym (same before)))
    ∙ ap (λ (c : Bool). filter (mark_at marks) (map (λ (m : ℕ). m) (range_with_len 1 before)) ++ cond c ((before + 1) ∷ []) []) (sym marked)
    ∙ sym (filter_of_map_range_with_len_more (mark_at marks) (λ (m : ℕ). m) 1 before (before + 1) (omega arith))
    ∙ ap (filter (mark_at marks)) (same (before + 1))
  where
    map-id : (xs : List ℕ) → map (λ (m : ℕ). m) xs ≡ xs
    map-id [] = refl
    map-id (x ∷ xs) = ap (λ (ns : List ℕ). x ∷ ns) (map-id xs)
