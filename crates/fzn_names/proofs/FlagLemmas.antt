-- The variables whose flags are set.
use Rattle.std.proofs.Common.{◌≡◌, ◌≢◌, ◌↔◌, ◌⊎◌, ℕ, zero, suc, ◌+◌, ◌-◌, ◌<◌, ◌≤◌, Bool, true, false, List, [], ◌∷◌, ◌++◌, length, get_or, take, drop, replicate, length-set, Result, Ok, Err, IfOk, inl, inr, refl, sym, ◌∙◌, ap, subst, arith, ℤ}
use Rattle.std.specs.List.{All, AllPairs, Any, Contains}
use Rattle.std.proofs.lemmas.List.{get_or-set_same, get_or-set_other, take_at}
use Rattle.std.proofs.lemmas.List.Elements.{All-nil, All-cons, All-head, All-tail}
use Rattle.std.proofs.lemmas.List.Kept.{AllPairs-cons}
use Rattle.fzn_domain.specs.declared.literal.VarId.{VarId}
use Rattle.fzn_domain.specs.Narrow.{IsVariable}
use Rattle.fzn_meaning.specs.declared.model.OutputItem.{OutputItem}
use Rattle.fzn_meaning.specs.declared.model.OutputItem.TheVariants as items
use Rattle.fzn_values.specs.declared.term.Term.{Term}
use Rattle.fzn_values.specs.declared.term.Term.TheVariants as terms
use Rattle.fzn_values.specs.Term.{IsTerm}
use Rattle.fzn_meaning.specs.WellFormed.{IsOutputItem}
use Rattle.fzn_names.specs.Flags.{with_var, with_terms, with_item, with_items, flagged}
use Rattle.fzn_names.specs.Outputs.{IsShownIn, IsShown}

-- ---- elements, one by one

module _ {A : Type 0} where
  contains_head : (x y : A) (xs : List A) → x ≡ y → Contains (x ∷ xs) y
  contains_head x y xs e = (0, omega arith, e)

  contains_tail : (x y : A) (xs : List A) → Contains xs y → Contains (x ∷ xs) y
  contains_tail x y xs (k, below, e) = (suc k, omega arith, e)

  contains_cases : (x y : A) (xs : List A) → Contains (x ∷ xs) y → (x ≡ y) ⊎ Contains xs y
  contains_cases x y xs (zero, below, e) = inl e
  contains_cases x y xs (suc k, below, e) = inr (k, omega arith, e)

  any_head : (P : A → Type 0) (x : A) (xs : List A) → P x → Any P (x ∷ xs)
  any_head P x xs h = (0, x, omega arith, refl, h)

  any_tail : (P : A → Type 0) (x : A) (xs : List A) → Any P xs → Any P (x ∷ xs)
  any_tail P x xs (k, y, below, e, h) = (suc k, y, omega arith, e, h)

  any_cases : (P : A → Type 0) (x : A) (xs : List A) → Any P (x ∷ xs) → P x ⊎ Any P xs
  any_cases P x xs (zero, y, below, e, h) = inl (subst P (sym e) h)
  any_cases P x xs (suc k, y, below, e, h) = inr (k, y, omega arith, e, h)

-- ---- flags

-- the flag of this variable is set
abbrev pub IsFlagged : List Bool → VarId → Type 0
IsFlagged flags var = get_or flags (var.0 - 1) false ≡ true

-- the flags after some are set: those before, and those of which this holds
abbrev pub AreFlagged : List Bool → List Bool → (VarId → Type 0) → Type 0
AreFlagged before after P = (var : VarId) → 1 ≤ var.0 → IsFlagged after var ↔ (IsFlagged before var ⊎ P var)

pub length-with_terms : (flags : List Bool) (xs : List Term) → length (with_terms flags xs) ≡ length flags
length-with_terms flags [] = refl
length-with_terms flags (terms.Constant k ∷ xs) = length-with_terms flags xs
length-with_terms flags (terms.Variable var ∷ xs) = length-with_terms (with_var flags var) xs ∙ length-set flags (var.0 - 1) true

pub length-with_item : (flags : List Bool) (item : OutputItem) → length (with_item flags item) ≡ length flags
length-with_item flags (items.Single name kind var) = length-set flags (var.0 - 1) true
length-with_item flags (items.Array name kind ranges entries) = length-with_terms flags entries

pub length-with_items : (flags : List Bool) (shown : List OutputItem) → length (with_items flags shown) ≡ length flags
length-with_items flags [] = refl
length-with_items flags (item ∷ shown) = length-with_items (with_item flags item) shown ∙ length-with_item flags item

same_number : (a b : VarId) → a.0 ≡ b.0 → a ≡ b
same_number a b e = ap (λ n. record { 0 = n }) e

one_flag : (flags : List Bool) (shown var : VarId) → IsVariable (length flags) shown → 1 ≤ var.0 → (shown.0 ≡ var.0) ⊎ (shown.0 ≢ var.0)
    → IsFlagged (with_var flags shown) var ↔ (IsFlagged flags var ⊎ (shown ≡ var))
one_flag flags shown var within low (inl same) =
    let below : var.0 - 1 < length flags = omega (arith, within.0, within.1) in
    let there : IsFlagged (with_var flags shown) var = rw same (get_or-set_same flags (var.0 - 1) true false below) in
    (λ h. inr (same_number shown var same), λ h. there)
one_flag flags shown var within low (inr other) =
    let apart : var.0 - 1 ≢ shown.0 - 1 = λ e. other (omega (arith, e, low, within.0)) in
    let kept : get_or (with_var flags shown) (var.0 - 1) false ≡ get_or flags (var.0 - 1) false = get_or-set_other flags (shown.0 - 1) (var.0 - 1) true false apart in
    (λ h. inl (sym kept ∙ h), λ s. elim s [ inl h ↦ kept ∙ h | inr e ↦ absurd (other (ap (λ (v : VarId). v.0) e)) ])

decide : (a b : ℕ) → (a ≡ b) ⊎ (a ≢ b)
decide a b = grind arith

pub var-flags : (flags : List Bool) (shown : VarId) → IsVariable (length flags) shown → AreFlagged flags (with_var flags shown) (λ var. shown ≡ var)
var-flags flags shown within = λ var low. one_flag flags shown var within low (decide shown.0 var.0)

-- one step after another
chain : (a b c : List Bool) (P Q R : VarId → Type 0) → AreFlagged a b P → AreFlagged b c Q → ((var : VarId) → R var ↔ (P var ⊎ Q var)) → AreFlagged a c R
chain a b c P Q R first second same = λ var low. (
  λ h. elim ((second var low).0 h) [
    | inl k ↦ elim ((first var low).0 k) [ inl x ↦ inl x | inr p ↦ inr ((same var).1 (inl p)) ]
    | inr q ↦ inr ((same var).1 (inr q))
  ],
  λ s. elim s [
    | inl x ↦ (second var low).1 (inl ((first var low).1 (inl x)))
    | inr r ↦ elim ((same var).0 r) [ inl p ↦ (second var low).1 (inl ((first var low).1 (inr p))) | inr q ↦ (second var low).1 (inr q) ]
  ],
)

among_constant : (k : ℤ) (xs : List Term) (var : VarId) → Contains (terms.Constant k ∷ xs) (terms.Variable var) → Contains xs (terms.Variable var)
among_constant k xs var h = elim (contains_cases (terms.Constant k) (terms.Variable var) xs h) [ inl e ↦ absurd cc | inr inside ↦ inside ]

among_variable : (v : VarId) (xs : List Term) (var : VarId) → Contains (terms.Variable v ∷ xs) (terms.Variable var) ↔ ((v ≡ var) ⊎ Contains xs (terms.Variable var))
among_variable v xs var = (
  λ h. elim (contains_cases (terms.Variable v) (terms.Variable var) xs h) [ inl e ↦ inl cc | inr inside ↦ inr inside ],
  λ s. elim s [
    | inl e ↦ contains_head (terms.Variable v) (terms.Variable var) xs (ap terms.Variable e)
    | inr inside ↦ contains_tail (terms.Variable v) (terms.Variable var) xs inside
  ],
)

pub terms-flags : (flags : List Bool) (xs : List Term) → All (IsTerm (length flags)) xs → AreFlagged flags (with_terms flags xs) (λ var. Contains xs (terms.Variable var))
terms-flags flags [] within = λ var low. (λ h. inl h, λ s. elim s [ inl h ↦ h | inr (k, below, e) ↦ absurd (omega arith) ])
terms-flags flags (terms.Constant k ∷ xs) within = λ var low.
    let rest = terms-flags flags xs (All-tail (IsTerm (length flags)) (terms.Constant k) xs within) var low in (
      λ h. elim (rest.0 h) [ inl x ↦ inl x | inr inside ↦ inr (contains_tail (terms.Constant k) (terms.Variable var) xs inside) ],
      λ s. elim s [ inl x ↦ rest.1 (inl x) | inr inside ↦ rest.1 (inr (among_constant k xs var inside)) ],
    )
terms-flags flags (terms.Variable v ∷ xs) within =
    let here = All-head (IsTerm (length flags)) (terms.Variable v) xs within in
    let more = subst (λ n. All (IsTerm n) xs) (sym (length-set flags (v.0 - 1) true)) (All-tail (IsTerm (length flags)) (terms.Variable v) xs within) in
    chain flags (with_var flags v) (with_terms (with_var flags v) xs) (λ var. v ≡ var) (λ var. Contains xs (terms.Variable var)) (λ var. Contains (terms.Variable v ∷ xs) (terms.Variable var))
    (var-flags flags v here) (terms-flags (with_var flags v) xs more) (among_variable v xs)

pub item-flags : (flags : List Bool) (item : OutputItem) → IsOutputItem (length flags) item → AreFlagged flags (with_item flags item) (λ var. IsShownIn var item)
item-flags flags (items.Single name kind var) within = var-flags flags var within
item-flags flags (items.Array name kind ranges entries) within = terms-flags flags entries within

among_items : (item : OutputItem) (shown : List OutputItem) (var : VarId) → IsShown (item ∷ shown) var ↔ (IsShownIn var item ⊎ IsShown shown var)
among_items item shown var = (
  λ h. any_cases (IsShownIn var) item shown h,
  λ s. elim s [ inl here ↦ any_head (IsShownIn var) item shown here | inr inside ↦ any_tail (IsShownIn var) item shown inside ],
)

pub items-flags : (flags : List Bool) (shown : List OutputItem) → All (IsOutputItem (length flags)) shown → AreFlagged flags (with_items flags shown) (IsShown shown)
items-flags flags [] within = λ var low. (λ h. inl h, λ s. elim s [ inl h ↦ h | inr (k, y, below, e, h) ↦ absurd (omega arith) ])
items-flags flags (item ∷ shown) within =
    let here = All-head (IsOutputItem (length flags)) item shown within in
    let more = subst (λ n. All (IsOutputItem n) shown) (sym (length-with_item flags item)) (All-tail (IsOutputItem (length flags)) item shown within) in
    chain flags (with_item flags item) (with_items (with_item flags item) shown) (λ var. IsShownIn var item) (IsShown shown) (IsShown (item ∷ shown))
    (item-flags flags item here) (items-flags (with_item flags item) shown more) (among_items item shown)

-- ---- the variables

from_here : (number : ℕ) (flag : Bool) (flags : List Bool) (var : VarId) → number + 1 ≤ var.0 → get_or (flag ∷ flags) (var.0 - number) false ≡ get_or flags (var.0 - (number + 1)) false
from_here number flag flags var later =
    let n : var.0 - number ≡ suc (var.0 - (number + 1)) = omega arith in
    ap (λ k. get_or (flag ∷ flags) k false) n

here_flag : (number : ℕ) (flag : Bool) (flags : List Bool) (var : VarId) → number ≡ var.0 → get_or (flag ∷ flags) (var.0 - number) false ≡ flag
here_flag number flag flags var e = let n : var.0 - number ≡ 0 = omega arith in ap (λ k. get_or (flag ∷ flags) k false) n

abbrev IsListed : ℕ → List Bool → VarId → Type 0
IsListed number flags var = (number ≤ var.0) × (get_or flags (var.0 - number) false ≡ true)

later_cases : (a b : ℕ) → a ≤ b → (a ≡ b) ⊎ (a + 1 ≤ b)
later_cases a b h = grind arith

true_of_none : (k : ℕ) → get_or [] k false ≡ true → ⊥
true_of_none zero h = cc
true_of_none (suc k) h = cc

pub flagged-is : (number : ℕ) (flags : List Bool) (var : VarId) → Contains (flagged number flags) var ↔ IsListed number flags var
flagged-is number [] var = (λ (k, below, e). absurd (omega arith), λ h. absurd (true_of_none (var.0 - number) h.1))
flagged-is number (true ∷ flags) var =
    let rest = flagged-is (number + 1) flags var in
    let one : VarId = record { 0 = number } in (
      λ h. elim (contains_cases one var (flagged (number + 1) flags) h) [
        | inl e ↦ let same : number ≡ var.0 = ap (λ (v : VarId). v.0) e in (omega (arith, same), here_flag number true flags var same)
        | inr inside ↦ let listed = rest.0 inside in (omega (arith, listed.0), from_here number true flags var listed.0 ∙ listed.1)
      ],
      λ h. elim (later_cases number var.0 h.0) [
        | inl same ↦ contains_head one var (flagged (number + 1) flags) (same_number one var same)
        | inr later ↦ contains_tail one var (flagged (number + 1) flags) (rest.1 (later, sym (from_here number true flags var later) ∙ h.1))
      ],
    )
flagged-is number (false ∷ flags) var =
    let rest = flagged-is (number + 1) flags var in (
      λ h. let listed = rest.0 h in (omega (arith, listed.0), from_here number false flags var listed.0 ∙ listed.1),
      λ h. elim (later_cases number var.0 h.0) [
        | inl same ↦ let none : false ≡ true = sym (here_flag number false flags var same) ∙ h.1 in absurd cc
        | inr later ↦ rest.1 (later, sym (from_here number false flags var later) ∙ h.1)
      ],
    )

pub flagged-above : (number low : ℕ) (flags : List Bool) → low < number → All (λ (v : VarId). low < v.0) (flagged number flags)
flagged-above number low [] h = All-nil (λ (v : VarId). low < v.0)
flagged-above number low (true ∷ flags) h = All-cons (λ (v : VarId). low < v.0) (record { 0 = number }) (flagged (number + 1) flags) h (flagged-above (number + 1) low flags (omega arith))
flagged-above number low (false ∷ flags) h = flagged-above (number + 1) low flags (omega arith)

pub flagged-rising : (number : ℕ) (flags : List Bool) → AllPairs (λ (v w : VarId). v.0 < w.0) (flagged number flags)
flagged-rising number [] = λ i j d before within. absurd (omega arith)
flagged-rising number (true ∷ flags) =
    AllPairs-cons (λ (v w : VarId). v.0 < w.0) (record { 0 = number }) (flagged (number + 1) flags) (flagged-above (number + 1) number flags (omega arith)) (flagged-rising (number + 1) flags)
flagged-rising number (false ∷ flags) = flagged-rising (number + 1) flags

pub flagged-within : (number count : ℕ) (flags : List Bool) → 1 ≤ number → number + length flags ≤ count + 1 → All (IsVariable count) (flagged number flags)
flagged-within number count [] low few = All-nil (IsVariable count)
flagged-within number count (true ∷ flags) low few =
    All-cons (IsVariable count) (record { 0 = number }) (flagged (number + 1) flags) (low, omega arith) (flagged-within (number + 1) count flags (omega arith) (omega arith))
flagged-within number count (false ∷ flags) low few = flagged-within (number + 1) count flags (omega arith) (omega arith)

-- ---- all that is printed

all_contains : {A : Type 0} (P : A → Type 0) (xs : List A) (y : A) → All P xs → Contains xs y → P y
all_contains P [] y all (k, below, e) = absurd (omega arith)
all_contains P (x ∷ xs) y all h = elim (contains_cases x y xs h) [ inl e ↦ subst P e (All-head P x xs all) | inr inside ↦ all_contains P xs y (All-tail P x xs all) inside ]

shown_in_variable : (count : ℕ) (item : OutputItem) (var : VarId) → IsOutputItem count item → IsShownIn var item → IsVariable count var
shown_in_variable count (items.Single name kind shown) var within e = subst (IsVariable count) e within
shown_in_variable count (items.Array name kind ranges entries) var within inside = all_contains (IsTerm count) entries (terms.Variable var) within inside

shown_variable : (count : ℕ) (shown : List OutputItem) (var : VarId) → All (IsOutputItem count) shown → IsShown shown var → IsVariable count var
shown_variable count [] var within (k, y, below, e, h) = absurd (omega arith)
shown_variable count (item ∷ shown) var within h = elim (any_cases (IsShownIn var) item shown h) [
  | inl here ↦ shown_in_variable count item var (All-head (IsOutputItem count) item shown within) here
  | inr inside ↦ shown_variable count shown var (All-tail (IsOutputItem count) item shown within) inside
]

none_set : (count k : ℕ) → get_or (replicate count false) k false ≡ false
none_set zero k = refl
none_set (suc n) zero = refl
none_set (suc n) (suc k) = none_set n k

pub outputs-shown : (count : ℕ) (flags : List Bool) (shown : List OutputItem) → flags ≡ replicate count false → length flags ≡ count → All (IsOutputItem count) shown
    → (var : VarId) → Contains (flagged 1 (with_items flags shown)) var ↔ IsShown shown var
outputs-shown count flags shown clear many within var =
    let all = with_items flags shown in
    let listed = flagged-is 1 all var in
    let set = items-flags flags shown (subst (λ n. All (IsOutputItem n) shown) (sym many) within) var in (
      λ h. elim ((set (listed.0 h).0).0 (listed.0 h).1) [
        | inl before ↦ let none : false ≡ true = sym (ap (λ fs. get_or fs (var.0 - 1) false) clear ∙ none_set count (var.0 - 1)) ∙ before in absurd cc
        | inr inside ↦ inside
      ],
      λ h. let low = (shown_variable count shown var within h).0 in listed.1 (low, (set low).1 (inr h)),
    )

-- the flags behind a call that sets some
pub flags_after : (n : ℕ) (flags items new after : List Bool) (shown : List OutputItem) → flags ≡ items → length flags ≡ n → new ≡ with_items flags shown
    → after ≡ take n (new ++ drop (length new) items) → after ≡ with_items flags shown
flags_after n flags items new after shown same many new_is after_is =
    after_is ∙ (take_at new (drop (length new) items) n (ap length new_is ∙ length-with_items flags shown ∙ many) ∙ new_is)

pub ok_is : {A E : Type 0} (result : Result A E) (x : A) (P : A → Type 0) → IfOk result (λ y. y ≡ x) → P x → IfOk result P
ok_is (Ok y) x P is h = subst P (sym is) h
ok_is (Err e) x P is h = tt
