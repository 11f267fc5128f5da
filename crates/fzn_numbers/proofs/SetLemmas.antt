-- Facts on finite sets of whole numbers.
use Rattle.std.proofs.Common.{◌≡◌, ℕ, zero, suc, ◌+◌, ◌<◌, ◌≤◌, ◌⊎◌, Bool, true, false, cond, not, ◌&&◌, ◌||◌, ℤ, pos, ◌+ℤ◌, ◌≤ℤ◌, ◌<ℤ◌, List, [], ◌∷◌, refl, sym, ap, ap₂, subst, ◌∙◌, inl, inr, arith, int_cmp, int_eq, int_le, int_lt}
use Rattle.std.specs.List.{list_any}
use Rattle.std.specs.Cmp.{int_cmp_total}
use Rattle.std.specs.Ordering.{eq_by_cmp}
use Rattle.std.specs.FinSet as set
use Rattle.std.specs.FinSet.{int_cmp-IsAntisymmetric}
use Rattle.std.proofs.lemmas.Int.{ints}
use Rattle.std.proofs.lemmas.Bool.{cases_Bool, and_parts, false≢true}
use Rattle.std.proofs.lemmas.Bool.Decides.{Decides-int_eq}
use Rattle.fzn_numbers.specs.IntSet.{IntSet, contains, size, no_values, numbers_from}

-- two sets with the same members are equal
pub same_values : (s t : IntSet) → ((v : ℤ) → contains s v ≡ contains t v) → s ≡ t
same_values s t is = set.same_set int_cmp_total int_cmp-IsAntisymmetric s t is

same_answers : (a b : Bool) → (a ≡ true → b ≡ true) → (b ≡ true → a ≡ true) → a ≡ b
same_answers true b to from = sym (to refl)
same_answers false true to from = from refl
same_answers false false to from = refl

-- two sets, each within the other, are equal
pub same_by_members : (s t : IntSet) → ((v : ℤ) → contains s v ≡ true → contains t v ≡ true) → ((v : ℤ) → contains t v ≡ true → contains s v ≡ true) → s ≡ t
same_by_members s t to from = same_values s t (λ v. same_answers (contains s v) (contains t v) (to v) (from v))

pub contains-no_values : (v : ℤ) → contains no_values v ≡ false
contains-no_values v = set.contains-empty int_cmp v

pub size-no_values : size no_values ≡ 0
size-no_values = set.len-empty int_cmp

-- the members that pass a test
pub contains-retain : (s : IntSet) (p : ℤ → Bool) (v : ℤ) → contains (set.retain s p) v ≡ (contains s v && p v)
contains-retain s p v = set.contains-retain s p v (λ x e. ap p (sym (int_cmp-IsAntisymmetric v x e)))

pub retained : (s : IntSet) (p : ℤ → Bool) (v : ℤ) → contains (set.retain s p) v ≡ true → (contains s v ≡ true) × (p v ≡ true)
retained s p v h = and_parts (contains s v) (p v) (sym (contains-retain s p v) ∙ h)

pub contains_retained : (s : IntSet) (p : ℤ → Bool) (v : ℤ) → contains s v ≡ true → p v ≡ true → contains (set.retain s p) v ≡ true
contains_retained s p v h k = contains-retain s p v ∙ ap₂ (λ a b. a && b) h k

pub contains-insert : (s : IntSet) (x v : ℤ) → contains (set.insert s x) v ≡ (int_eq v x || contains s v)
contains-insert s x v = set.contains-insert int_cmp_total s x v

pub contains-remove : (s : IntSet) (x v : ℤ) → contains (set.remove s x) v ≡ (not (int_eq v x) && contains s v)
contains-remove s x v = set.contains-remove int_cmp_total s x v

-- ---- members, one at a time

no_member : (xs : List ℤ) (s : IntSet) → set.items s ≡ xs → (s ≡ no_values) ⊎ ((v : ℤ) × (contains s v ≡ true))
no_member [] s e = inl (same_values s no_values (λ v. set.contains-items s v ∙ ap (list_any (eq_by_cmp int_cmp v)) e ∙ sym (contains-no_values v)))
no_member (x ∷ xs) s e = inr (x, set.contains-items s x ∙ ap (list_any (eq_by_cmp int_cmp x)) e ∙ ap (λ b. b || list_any (eq_by_cmp int_cmp x) xs) ((Decides-int_eq x x).1 refl))

pub some_member : (s : IntSet) → (s ≡ no_values) ⊎ ((v : ℤ) × (contains s v ≡ true))
some_member s = no_member (set.items s) s refl

same_number : (v w : ℤ) → int_eq v w ≡ true → v ≡ w
same_number v w e = (Decides-int_eq v w).0 e

itself : (v : ℤ) → int_eq v v ≡ true
itself v = (Decides-int_eq v v).1 refl

back_again : (b x : Bool) → (b ≡ true → x ≡ true) → (b || (not b && x)) ≡ x
back_again true x h = sym (h refl)
back_again false x h = refl

put_back : (s : IntSet) (v : ℤ) → contains s v ≡ true → set.insert (set.remove s v) v ≡ s
put_back s v h =
    same_values _ s (λ w. contains-insert (set.remove s v) v w ∙ ap (λ b. int_eq w v || b) (contains-remove s v w) ∙ back_again (int_eq w v) (contains s w) (λ e. ap (contains s) (same_number w v e) ∙ h))

contains-remove_itself : (s : IntSet) (v : ℤ) → contains (set.remove s v) v ≡ false
contains-remove_itself s v = contains-remove s v v ∙ ap (λ b. not b && contains s v) (itself v)

pub size-insert : (s : IntSet) (v : ℤ) → contains s v ≡ false → size (set.insert s v) ≡ size s + 1
size-insert s v h = set.len-insert int_cmp_total s v ∙ ap (λ b. cond b (size s) (size s + 1)) h

pub insert_member : (s : IntSet) (v : ℤ) → contains s v ≡ true → set.insert s v ≡ s
insert_member s v h = same_values _ s (λ w. contains-insert s v w ∙ there (int_eq w v) (contains s w) (λ e. ap (contains s) (same_number w v e) ∙ h)) where
  there : (b x : Bool) → (b ≡ true → x ≡ true) → (b || x) ≡ x
  there true x h = sym (h refl)
  there false x h = refl

pub remove_inserted : (s : IntSet) (v : ℤ) → contains s v ≡ false → set.remove (set.insert s v) v ≡ s
remove_inserted s v h = same_values _ s (λ w. contains-remove (set.insert s v) v w ∙ ap (λ b. not (int_eq w v) && b) (contains-insert s v w) ∙ gone (int_eq w v) (contains s w) (λ e. ap (contains s) (same_number w v e) ∙ h)) where
  gone : (b x : Bool) → (b ≡ true → x ≡ false) → (not b && (b || x)) ≡ x
  gone true x h = sym (h refl)
  gone false x h = refl

pub size-remove : (s : IntSet) (v : ℤ) → contains s v ≡ true → size s ≡ size (set.remove s v) + 1
size-remove s v h = ap size (sym (put_back s v h)) ∙ size-insert (set.remove s v) v (contains-remove_itself s v)

-- a set with a member is not empty, and the other way round
pub size_above_zero : (s : IntSet) (v : ℤ) → contains s v ≡ true → 0 < size s
size_above_zero s v h = omega (arith, size-remove s v h)

pub none_of_size : (s : IntSet) (v : ℤ) → size s ≡ 0 → contains s v ≡ false
none_of_size s v none = elim (cases_Bool (contains s v)) [
  | inr e ↦ e
  | inl e ↦ absurd (omega (arith, size_above_zero s v e))
]

pub member_of_size : (s : IntSet) → 0 < size s → (v : ℤ) × (contains s v ≡ true)
member_of_size s h = elim (some_member s) [
  | inl is ↦ absurd (omega (arith, ap size is, size-no_values))
  | inr w ↦ w
]

-- what holds of the empty set, and of a set with one more member wherever it holds without, holds of each set
grows_to : (P : IntSet → Type 0) → P no_values → ((s : IntSet) (v : ℤ) → contains s v ≡ false → P s → P (set.insert s v)) → (n : ℕ) (s : IntSet) → size s ≡ n → P s
grows_to P none more zero s e = subst P (sym (set.empty_of_len s e)) none
grows_to P none more (suc n) s e = elim (some_member s) [
  | inl is ↦ subst P (sym is) none
  | inr w ↦ subst P (put_back s w.0 w.1) (more (set.remove s w.0) w.0 (contains-remove_itself s w.0) (grows_to P none more n (set.remove s w.0) (omega (arith, size-remove s w.0 w.1))))
]

pub set_induction : (P : IntSet → Type 0) → P no_values → ((s : IntSet) (v : ℤ) → contains s v ≡ false → P s → P (set.insert s v)) → (s : IntSet) → P s
set_induction P none more s = grows_to P none more (size s) s refl

-- ---- sizes of parts

kept_one : (b c q : Bool) → (b ≡ true → q ≡ true) → ((b || c) && q) ≡ (b || (c && q))
kept_one true c q h = h refl
kept_one false c q h = refl

lost_one : (b c q : Bool) → (b ≡ true → q ≡ false) → (b ≡ true → c ≡ false) → ((b || c) && q) ≡ (c && q)
lost_one true c q h k = h refl ∙ sym (ap (λ x. x && q) (k refl))
lost_one false c q h k = refl

module _ (s : IntSet) (p : ℤ → Bool) (v : ℤ) (absent : contains s v ≡ false) where
  retain_insert_kept : p v ≡ true → set.retain (set.insert s v) p ≡ set.insert (set.retain s p) v
  retain_insert_kept h = same_values _ _ (λ w.
      contains-retain (set.insert s v) p w ∙ ap (λ b. b && p w) (contains-insert s v w)
      ∙ kept_one (int_eq w v) (contains s w) (p w) (λ e. ap p (same_number w v e) ∙ h)
      ∙ sym (contains-insert (set.retain s p) v w ∙ ap (λ b. int_eq w v || b) (contains-retain s p w)))

  retain_insert_lost : p v ≡ false → set.retain (set.insert s v) p ≡ set.retain s p
  retain_insert_lost h = same_values _ _ (λ w.
      contains-retain (set.insert s v) p w ∙ ap (λ b. b && p w) (contains-insert s v w)
      ∙ lost_one (int_eq w v) (contains s w) (p w) (λ e. ap p (same_number w v e) ∙ h) (λ e. ap (contains s) (same_number w v e) ∙ absent)
      ∙ sym (contains-retain s p w))

  pub size-retain_insert : size (set.retain (set.insert s v) p) ≡ cond (p v) (size (set.retain s p) + 1) (size (set.retain s p))
  size-retain_insert = elim (p v) as (λ b. p v ≡ b → size (set.retain (set.insert s v) p) ≡ cond b (size (set.retain s p) + 1) (size (set.retain s p))) [
    | true ↦ λ e. ap size (retain_insert_kept e) ∙ size-insert (set.retain s p) v (contains-retain s p v ∙ ap (λ b. b && p v) absent)
    | false ↦ λ e. ap size (retain_insert_lost e)
  ] refl

both_parts : (b : Bool) (m n k : ℕ) → m + n ≡ k → cond b (m + 1) m + cond (not b) (n + 1) n ≡ k + 1
both_parts true m n k e = omega arith
both_parts false m n k e = omega arith

pub empty_part : (p : ℤ → Bool) → set.retain no_values p ≡ no_values
empty_part p = same_values _ _ (λ w. contains-retain no_values p w ∙ ap (λ b. b && p w) (contains-no_values w) ∙ sym (contains-no_values w))

-- a test splits a set in two parts
pub size-retain_parts : (p : ℤ → Bool) (s : IntSet) → size (set.retain s p) + size (set.retain s (λ v. not (p v))) ≡ size s
size-retain_parts p = set_induction (λ s. size (set.retain s p) + size (set.retain s (λ v. not (p v))) ≡ size s)
    (rw (empty_part p, empty_part (λ v. not (p v))) (omega (arith, size-no_values)))
    (λ s v absent e. rw (size-retain_insert s p v absent, size-retain_insert s (λ w. not (p w)) v absent, size-insert s v absent) (both_parts (p v) _ _ _ e))

retained_again : (s t : IntSet) → ((v : ℤ) → contains s v ≡ true → contains t v ≡ true) → set.retain t (contains s) ≡ s
retained_again s t within = same_values _ _ (λ w. contains-retain t (contains s) w ∙ within_and (contains s w) (contains t w) (within w)) where
  within_and : (b c : Bool) → (b ≡ true → c ≡ true) → (c && b) ≡ b
  within_and true c h = ap (λ x. x && true) (h refl)
  within_and false true h = refl
  within_and false false h = refl

-- a set within another has no more members, and fewer where one is missing
pub size_within : (s t : IntSet) → ((v : ℤ) → contains s v ≡ true → contains t v ≡ true) → size s ≤ size t
size_within s t within = omega (arith, ap size (retained_again s t within), size-retain_parts (contains s) t)

pub size_below : (s t : IntSet) (v : ℤ) → ((w : ℤ) → contains s w ≡ true → contains t w ≡ true) → contains t v ≡ true → contains s v ≡ false → size s < size t
size_below s t v within there gone =
    let other : contains (set.retain t (λ w. not (contains s w))) v ≡ true = contains-retain t (λ w. not (contains s w)) v ∙ ap₂ (λ a b. a && not b) there gone in
    omega (arith, ap size (retained_again s t within), size-retain_parts (contains s) t, size_above_zero _ v other)

-- the one member of a set of size 1
pub only_member : (s : IntSet) (v w : ℤ) → size s ≡ 1 → contains s v ≡ true → contains s w ≡ true → v ≡ w
only_member s v w one hv hw = elim (cases_Bool (int_eq w v)) [
  | inl e ↦ sym (same_number w v e)
  | inr e ↦ absurd (omega (arith, size-remove s v hv, size_above_zero (set.remove s v) w (contains-remove s v w ∙ ap₂ (λ a b. not a && b) e hw)))
]

pub size_of_one : (s : IntSet) (v : ℤ) → contains s v ≡ true → ((w : ℤ) → contains s w ≡ true → w ≡ v) → size s ≡ 1
size_of_one s v hv each = elim (some_member (set.remove s v)) [
  | inl is ↦ omega (arith, size-remove s v hv, ap size is, size-no_values)
  | inr w ↦ absurd (both_true (int_eq w.0 v) (contains s w.0) (sym (contains-remove s v w.0) ∙ w.1) ((Decides-int_eq w.0 v).1 (each w.0 (second (not (int_eq w.0 v)) (contains s w.0) (sym (contains-remove s v w.0) ∙ w.1)))))
] where
  second : (b c : Bool) → (b && c) ≡ true → c ≡ true
  second true c h = h
  second false c h = absurd (false≢true h)

  both_true : (b c : Bool) → (not b && c) ≡ true → b ≡ true → ⊥
  both_true true c h e = false≢true h
  both_true false c h e = false≢true e

-- ---- numbers in a row

one_more : (first v : ℤ) (n : ℕ) → (int_eq v (first +ℤ pos n) || (int_le first v && int_lt v (first +ℤ pos n))) ≡ (int_le first v && int_lt v (first +ℤ pos (suc n)))
one_more first v n = grind (arith, ints)

nothing_there : (first v : ℤ) → false ≡ (int_le first v && int_lt v (first +ℤ pos 0))
nothing_there first v = grind (arith, ints)

pub contains-numbers_from : (first : ℤ) (n : ℕ) (v : ℤ) → contains (numbers_from first n) v ≡ (int_le first v && int_lt v (first +ℤ pos n))
unfolding numbers_from
contains-numbers_from first zero v = contains-no_values v ∙ nothing_there first v
contains-numbers_from first (suc n) v = contains-insert (numbers_from first n) (first +ℤ pos n) v ∙ ap (λ b. int_eq v (first +ℤ pos n) || b) (contains-numbers_from first n v) ∙ one_more first v n

not_yet : (first : ℤ) (n : ℕ) → (int_le first (first +ℤ pos n) && int_lt (first +ℤ pos n) (first +ℤ pos n)) ≡ false
not_yet first n = grind (arith, ints)

pub in_numbers_from : (first v : ℤ) (n : ℕ) → first ≤ℤ v → v <ℤ (first +ℤ pos n) → contains (numbers_from first n) v ≡ true
in_numbers_from first v n h l = contains-numbers_from first n v ∙ between first v n h l where
  between : (first v : ℤ) (n : ℕ) → first ≤ℤ v → v <ℤ (first +ℤ pos n) → (int_le first v && int_lt v (first +ℤ pos n)) ≡ true
  between first v n h l = grind (arith, ints)

pub size-numbers_from : (first : ℤ) (n : ℕ) → size (numbers_from first n) ≡ n
unfolding numbers_from
size-numbers_from first zero = size-no_values
size-numbers_from first (suc n) =
    let absent : contains (numbers_from first n) (first +ℤ pos n) ≡ false = contains-numbers_from first n (first +ℤ pos n) ∙ not_yet first n in
    omega (arith, size-insert (numbers_from first n) (first +ℤ pos n) absent, size-numbers_from first n)
