-- Facts on ascending lists of numbers, and on the set of one.
use Rattle.std.proofs.Common.{◌≡◌, ℕ, zero, suc, ◌+◌, ◌-◌, ◌<◌, ◌≤◌, Bool, true, false, cond, ◌&&◌, ℤ, pos, ◌+ℤ◌, ◌≤ℤ◌, ◌<ℤ◌, List, [], ◌∷◌, length, get_or, take, refl, sym, ap, subst, subst₂, ◌∙◌, inl, inr, arith, int_cmp, int_eq, int_le, int_lt, insert, remove, IsPermutation, nat_eq, ◌^◌, to_z-of_z, to_z, of_z, FitsSigned, w64, eq-eqb}
use Rattle.std.specs.List.{list_any}
use Rattle.std.specs.List.Sorted.{IsPartitionedBy}
use Rattle.std.specs.Cmp.{int_cmp_total}
use Rattle.std.specs.Ordering.{eq_by_cmp}
use Rattle.std.specs.FinSet as set
use Rattle.std.proofs.lemmas.Int.{ints}
use Rattle.std.proofs.lemmas.Bool.{cases_Bool, cases_order, cases_lt, ne_eqb, true≢false, false≢true}
use Rattle.std.proofs.lemmas.Bool.Decides.{Decides-int_eq}
use Rattle.std.proofs.lemmas.List.{get_or_read, take_more}
use Rattle.std.proofs.lemmas.List.Edits.{length-insert, length-remove, get_or-remove_below, get_or-remove_above, get_or-insert_below, get_or-insert_at, get_or-insert_above}
use Rattle.std.proofs.lemmas.List.Folds.{list_any_at, Any-from_list_any}
use Rattle.std.proofs.lemmas.List.Sorted.{list_any-IsPermutation, IsPermutation-insert, IsPermutation-remove}
use Rattle.fzn_numbers.specs.Ascending.{IsAscending, IsPlaceOf, IsNextFrom, IsLastUpTo, NoneFrom, NoneUpTo}
use Rattle.fzn_numbers.specs.IntSet.{IntSet, contains, size, within}
use Rattle.fzn_numbers.proofs.SetLemmas.{same_values, empty_part, size-no_values, size-retain_insert, insert_member, remove_inserted}

pub tested_below : (v bound : ℤ) → int_lt v bound ≡ true → v <ℤ bound
tested_below v bound e = omega (arith, ints)

pub tested_above : (v bound : ℤ) → int_lt v bound ≡ false → bound ≤ℤ v
tested_above v bound e = omega (arith, ints)

below_test : (u v bound : ℤ) → u ≤ℤ v → int_lt v bound ≡ true → int_lt u bound ≡ true
below_test u v bound h e = grind (arith, ints)

same_test : (u v bound : ℤ) → u ≡ v → int_lt v bound ≡ true → int_lt u bound ≡ true
same_test u v bound h e = ap (λ w. int_lt w bound) h ∙ e

weaker : (u v : ℤ) → u <ℤ v → u ≤ℤ v
weaker u v h = omega (arith, ints)

-- what is below the bound stands before the rest
pub below_first : (xs : List ℤ) (bound : ℤ) → IsAscending xs → IsPartitionedBy (λ v. int_lt v bound) xs
below_first xs bound up i j d le within e = elim (cases_order i j) [
  | inl same ↦ same_test _ _ bound (ap (λ k. get_or xs k d) same) e
  | inr (inl lt) ↦ below_test _ (get_or xs j d) bound (weaker _ _ (up i j d lt within)) e
  | inr (inr gt) ↦ absurd (omega arith)
]

-- the set that a list stands for
pub contains-from_list : (xs : List ℤ) (v : ℤ) → contains (set.from_list xs) v ≡ list_any (eq_by_cmp int_cmp v) xs
contains-from_list xs v = set.contains-from_list int_cmp_total xs v

pub member_at : (xs : List ℤ) (k : ℕ) (d : ℤ) → k < length xs → contains (set.from_list xs) (get_or xs k d) ≡ true
member_at xs k d within = contains-from_list xs (get_or xs k d) ∙ list_any_at (eq_by_cmp int_cmp (get_or xs k d)) xs k d within ((Decides-int_eq (get_or xs k d) (get_or xs k d)).1 refl)

pub member_read : (xs : List ℤ) (k : ℕ) (v : ℤ) → k < length xs → v ≡ get_or xs k v → contains (set.from_list xs) v ≡ true
member_read xs k v within read = ap (contains (set.from_list xs)) read ∙ member_at xs k v within

-- a member has a place
pub place_of_member : (xs : List ℤ) (v : ℤ) → contains (set.from_list xs) v ≡ true → (k : ℕ) × (k < length xs) × ((d : ℤ) → v ≡ get_or xs k d)
place_of_member xs v h =
    let any = Any-from_list_any (eq_by_cmp int_cmp v) xs (sym (contains-from_list xs v) ∙ h) in
    let same : v ≡ any.1 = (Decides-int_eq v any.1).0 any.4 in
    (any.0, any.2, λ d. same ∙ get_or_read xs any.0 any.1 any.2 (sym any.3) d)

-- ---- around the place where a bound belongs

below_and_above : {P : Type 0} (u v bound : ℤ) → u ≡ v → v <ℤ bound → bound ≤ℤ u → P
below_and_above u v bound e h k = absurd (omega (arith, ints))

same_as_below : (u v w x : ℤ) → u ≡ v → w ≡ x → v <ℤ x → u ≤ℤ w
same_as_below u v w x e f h = omega (arith, ints)

same_le : (u w : ℤ) → u ≡ w → u ≤ℤ w
same_le u w e = omega (arith, ints)

read_below : (u v bound : ℤ) → u ≡ v → v <ℤ bound → u <ℤ bound
read_below u v bound e h = omega (arith, ints)

read_above : (u v bound : ℤ) → u ≡ v → bound ≤ℤ v → bound ≤ℤ u
read_above u v bound e h = omega (arith, ints)

below_next : (u bound : ℤ) → u <ℤ (bound +ℤ pos 1) → u ≤ℤ bound
below_next u bound h = omega (arith, ints)

above_next : (u bound : ℤ) → (bound +ℤ pos 1) ≤ℤ u → bound <ℤ u
above_next u bound h = omega (arith, ints)

past_next : {P : Type 0} (u bound : ℤ) → (bound +ℤ pos 1) ≤ℤ u → u ≤ℤ bound → P
past_next u bound h k = absurd (omega (arith, ints))

module _ (xs : List ℤ) (up : IsAscending xs) where
  -- the members before and after the one at place i
  member_order : (i : ℕ) (value : ℤ) → i < length xs → value ≡ get_or xs i value → (k : ℕ) (other : ℤ) → k < length xs → ((d : ℤ) → other ≡ get_or xs k d) → (i ≤ k → value ≤ℤ other) × (k ≤ i → other ≤ℤ value)
  member_order i value within read k other inside at =
      let here : (d : ℤ) → value ≡ get_or xs i d = get_or_read xs i value within read in
      elim (cases_order i k) [
        | inl same ↦
            let equal : value ≡ other = here value ∙ ap (λ n. get_or xs n value) same ∙ sym (at value) in
            (λ _. same_le _ _ equal, λ _. same_le _ _ (sym equal))
        | inr (inl lt) ↦ (λ _. same_as_below _ _ _ _ (here value) (at value) (up i k value lt inside), λ le. absurd (omega arith))
        | inr (inr gt) ↦ (λ le. absurd (omega arith), λ _. same_as_below _ _ _ _ (at value) (here value) (up k i value gt within))
      ]

  pub next_there : (bound : ℤ) (i : ℕ) → IsPlaceOf xs bound i → (s : IntSet) → set.from_list xs ≡ s → (value : ℤ) → i < length xs → value ≡ get_or xs i value → IsNextFrom s bound value
  next_there bound i place s is value within read = subst (λ t. IsNextFrom t bound value) is (record {
    member = member_read xs i value within read;
    from_bound = read_above _ _ bound read (place.after i value (omega arith) within);
    first = λ other h le.
        let k = place_of_member xs other h in
        elim (cases_lt k.0 i) [
          | inl lt ↦ below_and_above _ _ bound (k.2 value) (place.before k.0 value (omega arith) lt) le
          | inr ge ↦ (member_order i value within read k.0 other k.1 k.2).0 ge
        ];
  })

  pub no_next : (bound : ℤ) (i : ℕ) → IsPlaceOf xs bound i → (s : IntSet) → set.from_list xs ≡ s → length xs ≤ i → NoneFrom s bound
  no_next bound i place s is past = subst (λ t. NoneFrom t bound) is (λ other h.
      let k = place_of_member xs other h in
      let inside : k.0 < length xs = k.1 in
      read_below _ _ bound (k.2 other) (place.before k.0 other (omega arith) (omega arith)))

  pub last_there : (bound : ℤ) (i : ℕ) → IsPlaceOf xs (bound +ℤ pos 1) i → (s : IntSet) → set.from_list xs ≡ s → (value : ℤ) → 0 < i → value ≡ get_or xs (i - 1) value → IsLastUpTo s bound value
  last_there bound i place s is value above read =
      let in_list : i ≤ length xs = place.in_list in
      let within : i - 1 < length xs = omega arith in
      subst (λ t. IsLastUpTo t bound value) is (record {
        member = member_read xs (i - 1) value within read;
        up_to_bound = below_next value bound (read_below _ _ (bound +ℤ pos 1) read (place.before (i - 1) value (omega arith) (omega arith)));
        last = λ other h le.
            let k = place_of_member xs other h in
            elim (cases_lt k.0 i) [
              | inl lt ↦ (member_order (i - 1) value within read k.0 other k.1 k.2).1 (omega arith)
              | inr ge ↦ past_next other bound (read_above _ _ (bound +ℤ pos 1) (k.2 value) (place.after k.0 value ge k.1)) le
            ];
      })

  pub no_last : (bound : ℤ) (i : ℕ) → IsPlaceOf xs (bound +ℤ pos 1) i → (s : IntSet) → set.from_list xs ≡ s → i ≤ 0 → NoneUpTo s bound
  no_last bound i place s is none = subst (λ t. NoneUpTo t bound) is (λ other h.
      let k = place_of_member xs other h in
      above_next other bound (read_above _ _ (bound +ℤ pos 1) (k.2 other) (place.after k.0 other (omega arith) k.1)))

  pub has_there : (bound : ℤ) (i : ℕ) → IsPlaceOf xs bound i → (s : IntSet) → set.from_list xs ≡ s → (value : ℤ) → i < length xs → value ≡ get_or xs i value → contains s bound ≡ true → value ≡ bound
  has_there bound i place s is value within read h =
      let next = next_there bound i place s is value within read in
      let one : bound ≤ℤ value = next.from_bound in
      let other : value ≤ℤ bound = next.first bound h (same_le bound bound refl) in
      omega (arith, ints)

  pub member_of : (bound : ℤ) (i : ℕ) (s : IntSet) → set.from_list xs ≡ s → (value : ℤ) → i < length xs → value ≡ get_or xs i value → value ≡ bound → contains s bound ≡ true
  member_of bound i s is value within read same = ap (λ t. contains t bound) (sym is) ∙ ap (contains (set.from_list xs)) (sym same) ∙ member_read xs i value within read

  pub has_nowhere : (bound : ℤ) (i : ℕ) → IsPlaceOf xs bound i → (s : IntSet) → set.from_list xs ≡ s → length xs ≤ i → contains s bound ≡ false
  has_nowhere bound i place s is past = elim (cases_Bool (contains s bound)) [
    | inl h ↦ let below = no_next bound i place s is past bound h in absurd (omega (arith, ints))
    | inr h ↦ h
  ]

-- a bound that went through the machine's bits
pub place_at : (xs : List ℤ) (bound : ℤ) (i : ℕ) → FitsSigned w64 bound → IsPlaceOf xs (to_z w64 (of_z w64 bound)) i → IsPlaceOf xs bound i
place_at xs bound i fits place = subst (λ b. IsPlaceOf xs b i) (to_z-of_z fits) place

-- a member stands at its own place
pub place_in_list : (xs : List ℤ) (up : IsAscending xs) (v : ℤ) (i : ℕ) → IsPlaceOf xs v i → (s : IntSet) → set.from_list xs ≡ s → contains s v ≡ true → i < length xs
place_in_list xs up v i place s is h = elim (cases_lt i (length xs)) [
  | inl lt ↦ lt
  | inr ge ↦ absurd (true≢false (sym h ∙ has_nowhere xs up v i place s is ge))
]

-- the bound and one, as the code computes it
pub to_next : (bound : ℤ) → FitsSigned w64 bound → bound <ℤ pos (2 ^ 63 - 1) → to_z w64 (of_z w64 (to_z w64 (of_z w64 bound) +ℤ pos 1)) ≡ bound +ℤ pos 1
to_next bound fits below = omega (arith, ints)

-- `==` compares bits
pub same_bits : (value bound : ℤ) (b : Bool) → FitsSigned w64 value → FitsSigned w64 bound → (value ≡ bound → b ≡ true) → (b ≡ true → value ≡ bound) → nat_eq (of_z w64 value) (of_z w64 bound) ≡ b
same_bits value bound b fit fits from to = elim (cases_Bool b) [
  | inl holds ↦ eq-eqb _ _ (ap (of_z w64) (to holds)) ∙ sym holds
  | inr fails ↦ ne_eqb _ _ (λ e. let same : value ≡ bound = omega (arith, ints) in true≢false (sym (from same) ∙ fails)) ∙ sym fails
]

-- ---- edits

pub same_members : (xs ys : List ℤ) → IsPermutation xs ys → set.from_list {R = int_cmp} xs ≡ set.from_list ys
same_members xs ys moved = same_values _ _ (λ v. contains-from_list xs v ∙ list_any-IsPermutation (eq_by_cmp int_cmp v) xs ys moved ∙ sym (contains-from_list ys v))

pub from_list-insert : (xs : List ℤ) (i : ℕ) (v : ℤ) → set.from_list {R = int_cmp} (insert xs i v) ≡ set.insert (set.from_list xs) v
from_list-insert xs i v = sym (same_members (v ∷ xs) (insert xs i v) (IsPermutation-insert xs i v))

-- where a number of the list after an insert comes from
module _ (xs : List ℤ) (up : IsAscending xs) (i : ℕ) (v : ℤ) (place : IsPlaceOf xs v i) (absent : contains (set.from_list xs) v ≡ false) where
  above_new : (k : ℕ) (d : ℤ) → i ≤ k → k < length xs → v <ℤ get_or xs k d
  above_new k d ge within = elim (cases_Bool (int_eq (get_or xs k d) v)) [
    | inl e ↦ absurd (true≢false (sym (member_at xs k d within) ∙ ap (contains (set.from_list xs)) ((Decides-int_eq (get_or xs k d) v).0 e) ∙ absent))
    | inr e ↦ let h : v ≤ℤ get_or xs k d = place.after k d ge within in strictly v (get_or xs k d) h e
  ] where
    strictly : (a b : ℤ) → a ≤ℤ b → int_eq b a ≡ false → a <ℤ b
    strictly a b h e = grind (arith, ints)

  pub IsAscending-insert : IsAscending (insert xs i v)
  IsAscending-insert j k d lt within =
      let in_list : i ≤ length xs = place.in_list in
      let n : length (insert xs i v) ≡ length xs + 1 = length-insert xs i v in_list in
      elim (cases_order j i) [
        | inl at ↦ at_new j k d at lt (omega arith)
        | inr (inl below) ↦ elim (cases_order k i) [
          | inl at ↦ subst₂ ◌<ℤ◌ (sym (get_or-insert_below xs i v d j below in_list)) (sym (ap (λ m. get_or (insert xs i v) m d) at ∙ get_or-insert_at xs i v d in_list)) (place.before j d (omega arith) below)
          | inr (inl less) ↦ subst₂ ◌<ℤ◌ (sym (get_or-insert_below xs i v d j below in_list)) (sym (get_or-insert_below xs i v d k less in_list)) (up j k d lt (omega arith))
          | inr (inr more) ↦ subst₂ ◌<ℤ◌ (sym (get_or-insert_below xs i v d j below in_list)) (sym (moved k d more)) (up j (k - 1) d (omega arith) (omega arith))
        ]
        | inr (inr above) ↦ subst₂ ◌<ℤ◌ (sym (moved j d above)) (sym (moved k d (omega arith))) (up (j - 1) (k - 1) d (omega arith) (omega arith))
      ] where
        moved : (k : ℕ) (d : ℤ) → i < k → get_or (insert xs i v) k d ≡ get_or xs (k - 1) d
        moved k d lt = let e : k ≡ (k - 1) + 1 = omega arith in ap (λ m. get_or (insert xs i v) m d) e ∙ get_or-insert_above xs i v d (k - 1) (omega arith) place.in_list

        at_new : (j k : ℕ) (d : ℤ) → j ≡ i → j < k → k < length xs + 1 → get_or (insert xs i v) j d <ℤ get_or (insert xs i v) k d
        at_new j k d at lt within = subst₂ ◌<ℤ◌ (sym (ap (λ m. get_or (insert xs i v) m d) at ∙ get_or-insert_at xs i v d place.in_list)) (sym (moved k d (omega arith))) (above_new (k - 1) d (omega arith) (omega arith))

-- the number at its own place stands nowhere else
gone_after_remove : (xs : List ℤ) (up : IsAscending xs) (i : ℕ) (v : ℤ) → i < length xs → ((d : ℤ) → v ≡ get_or xs i d) → contains (set.from_list (remove xs i)) v ≡ false
gone_after_remove xs up i v within read = elim (cases_Bool (contains (set.from_list (remove xs i)) v)) [
  | inr h ↦ h
  | inl h ↦
      let k = place_of_member (remove xs i) v h in
      let n : length (remove xs i) + 1 ≡ length xs = length-remove xs i within in
      let inside : k.0 < length (remove xs i) = k.1 in
      elim (cases_lt k.0 i) [
        | inl lt ↦ itself_below v _ _ (k.2 v ∙ get_or-remove_below xs i v k.0 lt within) (read v) (up k.0 i v lt within)
        | inr ge ↦ itself_below v _ _ (read v) (k.2 v ∙ get_or-remove_above xs i v k.0 ge within) (up i (k.0 + 1) v (omega arith) (omega arith))
      ]
] where
  itself_below : {P : Type 0} (v a b : ℤ) → v ≡ a → v ≡ b → a <ℤ b → P
  itself_below v a b e f h = absurd (omega (arith, ints))

pub from_list-remove : (xs : List ℤ) (up : IsAscending xs) (i : ℕ) (v : ℤ) → i < length xs → v ≡ get_or xs i v → set.from_list {R = int_cmp} (remove xs i) ≡ set.remove (set.from_list xs) v
from_list-remove xs up i v within read =
    let moved = same_members xs (v ∷ remove xs i) (IsPermutation-remove xs i v within read) in
    sym (ap (λ s. set.remove s v) moved ∙ remove_inserted (set.from_list (remove xs i)) v (gone_after_remove xs up i v within (get_or_read xs i v within read)))

-- ---- counts

absent_in_tail : (x : ℤ) (xs : List ℤ) → IsAscending (x ∷ xs) → contains (set.from_list xs) x ≡ false
absent_in_tail x xs up = elim (cases_Bool (contains (set.from_list xs) x)) [
  | inr h ↦ h
  | inl h ↦
      let k = place_of_member xs x h in
      let inside : k.0 < length xs = k.1 in
      let below : x <ℤ get_or xs k.0 x = up 0 (suc k.0) x (omega arith) (omega arith) in
      absurd (not_itself x (get_or xs k.0 x) below (k.2 x))
] where
  not_itself : (a b : ℤ) → a <ℤ b → a ≡ b → ⊥
  not_itself a b h e = omega (arith, ints)

-- how many numbers of a list pass a test
abbrev count_where : (ℤ → Bool) → List ℤ → ℕ
count_where p [] = 0
count_where p (x ∷ xs) = cond (p x) 1 0 + count_where p xs

one_counted : (b : Bool) (n m : ℕ) → n ≡ m → cond b (n + 1) n ≡ cond b 1 0 + m
one_counted true n m e = omega arith
one_counted false n m e = omega arith

size_by_count : (p : ℤ → Bool) (xs : List ℤ) → IsAscending xs → size (set.retain (set.from_list xs) p) ≡ count_where p xs
size_by_count p [] up = ap size (empty_part p) ∙ size-no_values
size_by_count p (x ∷ xs) up =
    let tail : IsAscending xs = λ i j d lt within. up (suc i) (suc j) d (omega arith) (omega arith) in
    size-retain_insert (set.from_list xs) p x (absent_in_tail x xs up) ∙ one_counted (p x) _ _ (size_by_count p xs tail)

counted : (b : Bool) (n m : ℕ) → b ≡ true → n ≡ m → cond b 1 0 + n ≡ suc m
counted true n m h e = omega arith
counted false n m h e = absurd (false≢true h)

uncounted : (b : Bool) (n m : ℕ) → b ≡ false → n ≡ m → cond b 1 0 + n ≡ m
uncounted true n m h e = absurd (true≢false h)
uncounted false n m h e = omega arith

count_between : (p : ℤ → Bool) (xs : List ℤ) (a b : ℕ) → a ≤ b → b ≤ length xs → ((k : ℕ) (d : ℤ) → k < a → p (get_or xs k d) ≡ false) → ((k : ℕ) (d : ℤ) → a ≤ k → k < b → p (get_or xs k d) ≡ true) → ((k : ℕ) (d : ℤ) → b ≤ k → k < length xs → p (get_or xs k d) ≡ false) → count_where p xs ≡ b - a
count_between p [] a b le short low mid high = omega arith
count_between p (x ∷ xs) zero zero le short low mid high =
    uncounted (p x) _ _ (high 0 x (omega arith) (omega arith)) (count_between p xs zero zero (omega arith) (omega arith) (λ k d h. absurd (omega arith)) (λ k d h l. absurd (omega arith)) (λ k d h l. high (suc k) d (omega arith) (omega arith)))
count_between p (x ∷ xs) zero (suc b) le short low mid high =
    counted (p x) _ b (mid 0 x (omega arith) (omega arith)) (count_between p xs zero b (omega arith) (omega arith) (λ k d h. absurd (omega arith)) (λ k d h l. mid (suc k) d (omega arith) (omega arith)) (λ k d h l. high (suc k) d (omega arith) (omega arith)) ∙ omega arith) ∙ omega arith
count_between p (x ∷ xs) (suc a) zero le short low mid high = absurd (omega arith)
count_between p (x ∷ xs) (suc a) (suc b) le short low mid high =
    uncounted (p x) _ _ (low 0 x (omega arith)) (count_between p xs a b (omega arith) (omega arith) (λ k d h. low (suc k) d (omega arith)) (λ k d h l. mid (suc k) d (omega arith) (omega arith)) (λ k d h l. high (suc k) d (omega arith) (omega arith))) ∙ omega arith

below_low : (low high v : ℤ) → v <ℤ low → (int_le low v && int_le v high) ≡ false
below_low low high v h = grind (arith, ints)

in_middle : (low high v : ℤ) → low ≤ℤ v → v <ℤ (high +ℤ pos 1) → (int_le low v && int_le v high) ≡ true
in_middle low high v h k = grind (arith, ints)

above_high : (low high v : ℤ) → (high +ℤ pos 1) ≤ℤ v → (int_le low v && int_le v high) ≡ false
above_high low high v h = grind (arith, ints)

places_in_order : (xs : List ℤ) (low high : ℤ) (a b : ℕ) → IsPlaceOf xs low a → IsPlaceOf xs (high +ℤ pos 1) b → low ≤ℤ high → a ≤ b
places_in_order xs low high a b first last ordered = elim (cases_lt b a) [
  | inr ge ↦ ge
  | inl lt ↦ let in_list : a ≤ length xs = first.in_list in crossed low high _ (first.before b low (omega arith) lt) (last.after b low (omega arith) (omega arith)) ordered
] where
  crossed : {P : Type 0} (low high v : ℤ) → v <ℤ low → (high +ℤ pos 1) ≤ℤ v → low ≤ℤ high → P
  crossed low high v h k l = absurd (omega (arith, ints))

-- the places of the two ends count what lies from one to the other
pub size-within_list : (xs : List ℤ) (up : IsAscending xs) (low high : ℤ) (a b : ℕ) → IsPlaceOf xs low a → IsPlaceOf xs (high +ℤ pos 1) b → low ≤ℤ high → size (within (set.from_list xs) low high) ≡ b - a
unfolding within
size-within_list xs up low high a b first last ordered =
    let le = places_in_order xs low high a b first last ordered in
    size_by_count (λ v. int_le low v && int_le v high) xs up
    ∙ count_between (λ v. int_le low v && int_le v high) xs a b le last.in_list
    (λ k d h. below_low low high _ (first.before k d (omega arith) h))
    (λ k d h l. let in_list : b ≤ length xs = last.in_list in in_middle low high _ (first.after k d h (omega arith)) (last.before k d (omega arith) l))
    (λ k d h l. above_high low high _ (last.after k d h l))

-- ---- a set made one number at a time
taken_more : (xs : List ℤ) (i : ℕ) → i < length xs → set.from_list {R = int_cmp} (take (i + 1) xs) ≡ set.insert (set.from_list (take i xs)) (get_or xs i (pos 0))
taken_more xs i within = ap set.from_list (take_more xs i (pos 0) within) ∙ set.from_list_push int_cmp_total set.int_cmp-IsAntisymmetric (take i xs) (get_or xs i (pos 0))

pub added_next : (xs : List ℤ) (i : ℕ) (s t : IntSet) → i < length xs → s ≡ set.from_list (take i xs) → t ≡ set.insert s (get_or xs i (pos 0)) → t ≡ set.from_list (take (i + 1) xs)
added_next xs i s t within so_far e = e ∙ ap (λ r. set.insert r (get_or xs i (pos 0))) so_far ∙ sym (taken_more xs i within)

pub had_next : (xs : List ℤ) (i : ℕ) (s : IntSet) → i < length xs → s ≡ set.from_list (take i xs) → contains s (get_or xs i (pos 0)) ≡ true → s ≡ set.from_list (take (i + 1) xs)
had_next xs i s within so_far there = added_next xs i s s within so_far (sym (insert_member s (get_or xs i (pos 0)) there))
