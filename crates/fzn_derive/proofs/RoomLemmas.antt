-- What the room holds, place by place.
use Rattle.std.proofs.Common.{◌≡◌, ◌⊎◌, ℕ, ◌+◌, ◌-◌, ◌<◌, ◌≤◌, Bool, true, cond, eqb, List, [], ◌∷◌, ◌++◌, take, drop, length, get_or, set, replicate, refl, sym, ap, subst, ◌∙◌, inl, inr, arith, ℤ, pos, ◌+ℤ◌, ◌-ℤ◌, ◌*ℤ◌, unsigned_abs, ◌^◌, All}
use Rattle.std.specs.List.{AllByRecursion, Contains}
use Rattle.std.proofs.lemmas.Int.{ints}
use Rattle.std.proofs.lemmas.Bool.{cases_eq, cases_lt, eq-eqb, ne_eqb}
use Rattle.std.proofs.lemmas.List.{get_or-set_same, get_or-set_other, get_or_past, get_or_default, get_or-replicate, length-set, length-replicate, same_lists, drop_more, drop_all, map_more}
use Rattle.std.proofs.lemmas.List.{length-take}
use Rattle.std.proofs.lemmas.List.Elements.{Contains-push_cases, Contains-append_cases, All-take, recursion_from_All}
use Rattle.fzn_domain.specs.declared.literal.VarId.{VarId}
use Rattle.fzn_values.specs.declared.term.Term.{Term}
use Rattle.fzn_values.specs.declared.term.Term.TheVariants.{Constant, Variable}
use Rattle.fzn_values.specs.declared.term.Place.{Place}
use Rattle.fzn_values.specs.Term.{IsTerm, IsPlace}
use Rattle.fzn_derive.specs.declared.adder.Cell.{Cell}
use Rattle.fzn_derive.specs.declared.adder.Adder.{Adder}
use Rattle.fzn_derive.specs.Merged.{own_coefficient, coefficient_of, own_constant, constant_of}
use Rattle.fzn_derive.specs.Summed.{times}
use Rattle.fzn_derive.specs.Room.{blank, cell_of, IsAdded, IsWithinLimit, AreWithinLimit, IsTermWithin}
use Rattle.fzn_derive.proofs.BoundLemmas.{abs-plus, abs-minus, coefficient-bound, constant-bound}
use Rattle.fzn_derive.proofs.MergedLemmas.{coefficient_of-nil, coefficient_of-cons, coefficient_of-append, constant_of-nil, constant_of-cons, constant_of-append}

abbrev pub scaled_place : ℤ → Place → Place
scaled_place k p = record { coefficient = k *ℤ p.coefficient; term = p.term }

pub coefficient_of-one : (n : ℕ) (p : Place) → coefficient_of n (p ∷ []) ≡ own_coefficient n p.coefficient p.term
coefficient_of-one n p = let a = coefficient_of-cons n p [] in let b = coefficient_of-nil n in omega (arith, ints)

pub constant_of-one : (p : Place) → constant_of (p ∷ []) ≡ own_constant p.coefficient p.term
constant_of-one p = let a = constant_of-cons p [] in let b = constant_of-nil in omega (arith, ints)

-- one more place
pub times-more : (k : ℤ) (places : List Place) (i : ℕ) (d : Place) → i < length places → times k (take (i + 1) places) ≡ times k (take i places) ++ scaled_place k (get_or places i d) ∷ []
times-more k places i d inside = map_more (scaled_place k) places i d inside

pub added-more : (first second third : Adder) (front : List Place) (p : Place) (all : List Place) → all ≡ front ++ p ∷ [] → IsAdded first second front → IsAdded second third (p ∷ []) → IsAdded first third all
added-more first second third front p all is before now = λ place.
    let a = before place in
    let b = now place in
    let c = coefficient_of-append (place + 1) front (p ∷ []) in
    let d = ap (coefficient_of (place + 1)) is in
    omega (arith, ints)

pub constant-more : (front : List Place) (p : Place) (all : List Place) (bound left after : ℤ) → all ≡ front ++ p ∷ [] → left ≡ bound -ℤ constant_of front → after ≡ left -ℤ constant_of (p ∷ []) → after ≡ bound -ℤ constant_of all
constant-more front p all bound left after is before now =
    let c = constant_of-append front (p ∷ []) in
    let d = ap constant_of is in
    omega (arith, ints)

-- what a write makes of the sums
pub written-sum : (cells : List Cell) (place k : ℕ) (old amount sum : ℤ) → place < length cells → old ≡ (get_or cells place blank).sum → sum ≡ old +ℤ amount
    → (get_or (set cells place (record { sum = sum; touched = true })) k blank).sum ≡ (get_or cells k blank).sum +ℤ cond (eqb k place) amount (pos 0)
written-sum cells place k old amount sum inside was is = elim (cases_eq k place) [
  | inl same ↦
      let here = ap (λ (c : Cell). c.sum) (get_or-set_same cells place (record { sum = sum; touched = true }) blank inside) in
      let there = ap (λ (n : ℕ). (get_or (set cells place (record { sum = sum; touched = true })) n blank).sum) same in
      let before = ap (λ (n : ℕ). (get_or cells n blank).sum) same in
      let all = ap (λ (b : Bool). cond b amount (pos 0)) (eq-eqb k place same) in
      omega (arith, ints)
  | inr other ↦
      let here = ap (λ (c : Cell). c.sum) (get_or-set_other cells place k (record { sum = sum; touched = true }) blank other) in
      let none = ap (λ (b : Bool). cond b amount (pos 0)) (ne_eqb k place other) in
      omega (arith, ints)
]

-- a variable's place in the room
pub own-at : (k number : ℕ) (x : ℤ) → 1 ≤ number → cond (eqb k (number - 1)) x (pos 0) ≡ cond (eqb (k + 1) number) x (pos 0)
own-at k number x some = elim (cases_eq k (number - 1)) [
  | inl same ↦ ap (λ (b : Bool). cond b x (pos 0)) (eq-eqb k (number - 1) same ∙ sym (eq-eqb (k + 1) number (omega arith)))
  | inr other ↦ ap (λ (b : Bool). cond b x (pos 0)) (ne_eqb k (number - 1) other ∙ sym (ne_eqb (k + 1) number (omega arith)))
]

-- where each variable of the places is within the limit, each variable counts nothing in them or is within the limit
pub counts_or_within : (room : Adder) (k : ℤ) (count place : ℕ) (places : List Place) → AllByRecursion (IsPlace count) places → AllByRecursion (λ (p : Place). IsTermWithin room p.term) places
    → (coefficient_of (place + 1) (times k places) ≡ pos 0) ⊎ IsWithinLimit (cell_of room place).sum
counts_or_within room k count place [] fit within = inl (coefficient_of-nil (place + 1))
counts_or_within room k count place (p ∷ places) fit within = elim (counts_or_within room k count place places fit.1 within.1) [
  | inr is ↦ inr is
  | inl none ↦ elim (own p.term (k *ℤ p.coefficient) fit.0.0 within.0) [
    | inr is ↦ inr is
    | inl nothing ↦ inl (let e = coefficient_of-cons (place + 1) (scaled_place k p) (times k places) in omega (arith, ints))
  ]
]
  where
    own : (term : Term) (x : ℤ) → IsTerm count term → IsTermWithin room term → (own_coefficient (place + 1) x term ≡ pos 0) ⊎ IsWithinLimit (cell_of room place).sum
    own (Constant v) x fits is = inl refl
    own (Variable var) x fits is = elim (cases_eq (place + 1) var.0) [
      | inl same ↦ let at : var.0 - 1 ≡ place = omega arith in inr (subst (λ (j : ℕ). IsWithinLimit (cell_of room j).sum) at is)
      | inr other ↦ inl (ap (λ (b : Bool). cond b x (pos 0)) (ne_eqb (place + 1) var.0 other))
    ]

pub terms_within : (room : Adder) (places : List Place) → ((place : ℕ) → IsWithinLimit (cell_of room place).sum) → All (λ (p : Place). IsTermWithin room p.term) places
terms_within room places within = λ k d inside. term_within (get_or places k d).term
  where
    term_within : (term : Term) → IsTermWithin room term
    term_within (Constant v) = tt
    term_within (Variable var) = within (var.0 - 1)

-- ---- one place

module _ (first second : Adder) (k coefficient : ℤ) (p : Place) (product_is : coefficient ≡ pos 0 +ℤ p.coefficient *ℤ k) where
  product : coefficient ≡ k *ℤ p.coefficient
  product = omega (arith, ints)

  pub constant-adds : (v : ℤ) → p.term ≡ Constant v → IsAdded first first (times k (p ∷ []))
  constant-adds v is = λ place.
      let e = coefficient_of-one (place + 1) (scaled_place k p) in
      let none : own_coefficient (place + 1) (k *ℤ p.coefficient) p.term ≡ pos 0 = ap (own_coefficient (place + 1) (k *ℤ p.coefficient)) is in
      omega (arith, ints)

  pub constant-left : (v bound left : ℤ) → p.term ≡ Constant v → left ≡ bound -ℤ coefficient *ℤ v → left ≡ bound -ℤ constant_of (times k (p ∷ []))
  constant-left v bound left is left_is =
      let e = constant_of-one (scaled_place k p) in
      let own : own_constant (k *ℤ p.coefficient) p.term ≡ (k *ℤ p.coefficient) *ℤ v = ap (own_constant (k *ℤ p.coefficient)) is in
      let same = ap (λ (x : ℤ). x *ℤ v) product in
      omega (arith, ints)

  pub variable-adds : (var : VarId) → p.term ≡ Variable var → 1 ≤ var.0 → ((j : ℕ) → (cell_of second j).sum ≡ (cell_of first j).sum +ℤ cond (eqb j (var.0 - 1)) coefficient (pos 0)) → IsAdded first second (times k (p ∷ []))
  variable-adds var is some added = λ place.
      let e = coefficient_of-one (place + 1) (scaled_place k p) in
      let own : own_coefficient (place + 1) (k *ℤ p.coefficient) p.term ≡ cond (eqb (place + 1) var.0) (k *ℤ p.coefficient) (pos 0) = ap (own_coefficient (place + 1) (k *ℤ p.coefficient)) is in
      let at = own-at place var.0 (k *ℤ p.coefficient) some in
      let same = ap (λ (x : ℤ). cond (eqb place (var.0 - 1)) x (pos 0)) product in
      let more = added place in
      omega (arith, ints)

  pub variable-left : (var : VarId) (bound : ℤ) → p.term ≡ Variable var → bound ≡ bound -ℤ constant_of (times k (p ∷ []))
  variable-left var bound is =
      let e = constant_of-one (scaled_place k p) in
      let none : own_constant (k *ℤ p.coefficient) p.term ≡ pos 0 = ap (own_constant (k *ℤ p.coefficient)) is in
      omega (arith, ints)

-- ---- clearing

one_of : (y x : ℕ) → Contains (y ∷ []) x → y ≡ x
one_of y x h = elim (Contains-push_cases [] y x h) [ inl none ↦ absurd (omega (arith, none.1)) | inr is ↦ is ]

-- the cell of the next listed variable becomes blank
pub left_less : (cells : List Cell) (touched : List ℕ) (i place : ℕ) → i < length touched → place ≡ get_or touched i 0
    → ((k : ℕ) → (get_or cells k blank ≡ blank) ⊎ Contains (drop i touched) k)
    → (k : ℕ) → (get_or (set cells place blank) k blank ≡ blank) ⊎ Contains (drop (i + 1) touched) k
left_less cells touched i place inside is left k = elim (cases_eq k place) [
  | inl same ↦ inl (set-blank cells place k same)
  | inr other ↦ elim (left k) [
    | inl empty ↦ inl (get_or-set_other cells place k blank blank other ∙ empty)
    | inr one ↦ elim (Contains-append_cases (get_or touched i 0 ∷ []) (drop (i + 1) touched) k (subst (λ (xs : List ℕ). Contains xs k) (drop_more touched i 0 inside) one)) [
      | inl it ↦ absurd (other (sym (is ∙ one_of (get_or touched i 0) k it)))
      | inr later ↦ inr later
    ]
  ]
]
  where
    set-blank : (cells : List Cell) (place k : ℕ) → k ≡ place → get_or (set cells place blank) k blank ≡ blank
    set-blank cells place k same = elim (cases_lt place (length cells)) [
      | inl in' ↦ ap (λ (n : ℕ). get_or (set cells place blank) n blank) same ∙ get_or-set_same cells place blank blank in'
      | inr past ↦ ap (λ (n : ℕ). get_or (set cells place blank) n blank) same ∙ get_or_past (set cells place blank) place blank (omega (arith, length-set cells place blank))
    ]

pub cleared : (cells : List Cell) (touched : List ℕ) (i count : ℕ) → length cells ≡ count → length touched ≤ i → ((k : ℕ) → (get_or cells k blank ≡ blank) ⊎ Contains (drop i touched) k) → cells ≡ replicate count blank
cleared cells touched i count len past left = same_lists cells (replicate count blank) (len ∙ sym (length-replicate count blank)) (λ k d inside.
    get_or_default cells k d blank inside ∙ empty k ∙ sym (get_or-replicate count k blank d (omega arith)))
  where
    empty : (k : ℕ) → get_or cells k blank ≡ blank
    empty k = elim (left k) [
      | inl is ↦ is
      | inr one ↦ let none = subst (λ (xs : List ℕ). Contains xs k) (drop_all i touched past) one in absurd (omega (arith, none.1))
    ]

-- ---- listing

pub listed-write : (cells : List Cell) (touched : List ℕ) (place : ℕ) (cell : Cell) → ((k : ℕ) → (get_or cells k blank ≡ blank) ⊎ Contains touched k) → Contains touched place
    → (k : ℕ) → (get_or (set cells place cell) k blank ≡ blank) ⊎ Contains touched k
listed-write cells touched place cell listed one k = elim (cases_eq k place) [
  | inl same ↦ inr (subst (Contains touched) (sym same) one)
  | inr other ↦ elim (listed k) [
    | inl empty ↦ inl (get_or-set_other cells place k cell blank other ∙ empty)
    | inr there ↦ inr there
  ]
]

-- ---- how large it becomes

module _ (count i : ℕ) (k : ℤ) (places : List Place) (hk : unsigned_abs k ≤ 1000000000000) (fit : All (IsPlace count) places) (few : length places ≤ 200000) where
  front : AllByRecursion (IsPlace count) (take i places)
  front = recursion_from_All (IsPlace count) (take i places) (All-take (IsPlace count) i places fit)

  few_front : length (take i places) ≤ 200000
  few_front = omega (arith, length-take i places)

  pub sum-bound : (first second : Adder) (place : ℕ) → IsWithinLimit (cell_of first place).sum → IsAdded first second (times k (take i places)) → unsigned_abs (cell_of second place).sum ≤ 2 ^ 124
  sum-bound first second place within added =
      let more = coefficient-bound (place + 1) count k (take i places) hk front in
      let both = abs-plus (cell_of first place).sum (coefficient_of (place + 1) (times k (take i places))) in
      let few_so_far = few_front in
      subst (λ (x : ℤ). unsigned_abs x ≤ 2 ^ 124) (sym (added place)) (omega arith)

  pub left-bound : (bound left : ℤ) → unsigned_abs bound ≤ 2 ^ 72 → left ≡ bound -ℤ constant_of (times k (take i places)) → unsigned_abs left ≤ 2 ^ 125
  left-bound bound left within is =
      let more = constant-bound count k (take i places) hk front in
      let both = abs-minus bound (constant_of (times k (take i places))) in
      let few_so_far = few_front in
      subst (λ (x : ℤ). unsigned_abs x ≤ 2 ^ 125) (sym is) (omega arith)

-- where the variables of the places are within the limit afterwards, all are
pub all_within : (first second : Adder) (k : ℤ) (count : ℕ) (places : List Place) → All (IsPlace count) places → All (λ (p : Place). IsTermWithin second p.term) places → IsAdded first second (times k places) → AreWithinLimit first → AreWithinLimit second
all_within first second k count places fit within added before = λ place.
    elim (counts_or_within second k count place places (recursion_from_All (IsPlace count) places fit) (recursion_from_All (λ (p : Place). IsTermWithin second p.term) places within)) [
      | inr is ↦ is
      | inl none ↦
          let e = added place in
          let same : (cell_of first place).sum ≡ (cell_of second place).sum = omega (arith, ints) in
          subst IsWithinLimit same (before place)
    ]
