-- Each choice has a number, and each number a choice.
use Rattle.std.proofs.Common.{◌≡◌, ℕ, zero, suc, ◌+◌, ◌*◌, ◌/◌, ◌%◌, ◌<◌, ◌≤◌, ◌⊎◌, List, [], ◌∷◌, ◌++◌, true, false, refl, sym, ap, ◌∙◌, inl, inr, arith, ℤ, ◌<ℤ◌, ◌≤ℤ◌, length}
use Rattle.std.specs.List.{All}
use Rattle.std.specs.FinSet as set
use Rattle.std.specs.Ordering.{int_eq}
use Rattle.std.proofs.lemmas.Int.{ints}
use Rattle.std.proofs.lemmas.Bool.{cases_Bool}
use Rattle.std.proofs.lemmas.Bool.Decides.{Decides-int_eq}
use Rattle.std.proofs.lemmas.List.Elements.{All-head, All-tail}
use Rattle.std.proofs.Math.Nat.{add-mul-mod_self_left, add-mul-div_left, mod-eq_of_lt, div-eq_of_lt, mod-lt, mul-le-mul_left}
use Rattle.fzn_domain.specs.IntSet.{IntSet, contains, size, least, below}
use Rattle.fzn_domain.specs.Narrow.{is_some_empty, set_of}
use Rattle.fzn_domain.proofs.SetLemmas.{contains-least, least_le, least_is, contains-remove, size-remove, member_of_size, size_above_zero, same_by_members}
use Rattle.fzn_domain.proofs.CountLemmas.{in_below, of_below}
use Rattle.fzn_values.specs.declared.term.Term.{Term}
use Rattle.fzn_values.specs.declared.term.Term.TheVariants.{Constant, Variable}
use Rattle.fzn_values.specs.Term.{IsTerm}
use Rattle.fzn_sets.specs.Terms.{MayBe}
use Rattle.fzn_builtin_rules.specs.Choices.{count_of, choices, IsChoice}
use Rattle.fzn_builtin_rules.specs.Numbered.{nth_member, nth_value, value_in, rest_in, choice_at}
use Rattle.fzn_sets.proofs.CallerLemmas.{some_value}

-- ---- the members without the least one

abbrev others : IntSet → IntSet
others s = set.remove s (least s)

least_member : (s : IntSet) → 0 < size s → contains s (least s) ≡ true
least_member s some = let m = member_of_size s some in contains-least s m.0 m.1

size-others : (s : IntSet) → 0 < size s → size s ≡ size (others s) + 1
size-others s some = size-remove s (least s) (least_member s some)

-- a member of the others is a member above the least one
in_others : (s : IntSet) (v : ℤ) → contains (others s) v ≡ true → (contains s v ≡ true) × (least s <ℤ v)
in_others s v there =
    let parts = contains-remove s (least s) v in
    elim (cases_Bool (int_eq v (least s))) [
      | inl same ↦ absurd (grind (arith, same, parts, there))
      | inr apart ↦
          let inside : contains s v ≡ true = grind (arith, apart, parts, there) in
          let above = least_le s v inside in
          let differ : v ≡ least s → ⊥ = λ e. grind (arith, (Decides-int_eq v (least s)).1 e, apart) in
          (inside, grind (arith, ints, above, differ))
    ]

others_have : (s : IntSet) (v : ℤ) → contains s v ≡ true → (v ≡ least s → ⊥) → contains (others s) v ≡ true
others_have s v there differ =
    let parts = contains-remove s (least s) v in
    elim (cases_Bool (int_eq v (least s))) [
      | inl same ↦ absurd (differ ((Decides-int_eq v (least s)).0 same))
      | inr apart ↦ grind (arith, apart, parts, there)
    ]

-- ---- members by number

pub nth_is_member : (n : ℕ) (s : IntSet) → n < size s → contains s (nth_member s n) ≡ true
unfolding nth_member
nth_is_member zero s below = least_member s (omega arith)
nth_is_member (suc n) s below = (in_others s (nth_member (others s) n) (nth_is_member n (others s) (omega (arith, size-others s (omega arith))))).0

in_remove : (s : IntSet) (m x : ℤ) → contains s x ≡ true → (x ≡ m → ⊥) → contains (set.remove s m) x ≡ true
in_remove s m x there differ =
    let parts = contains-remove s m x in
    elim (cases_Bool (int_eq x m)) [
      | inl same ↦ absurd (differ ((Decides-int_eq x m).0 same))
      | inr apart ↦ grind (arith, apart, parts, there)
    ]

of_remove : (s : IntSet) (m x : ℤ) → contains (set.remove s m) x ≡ true → (contains s x ≡ true) × (x ≡ m → ⊥)
of_remove s m x there =
    let parts = contains-remove s m x in
    elim (cases_Bool (int_eq x m)) [
      | inl same ↦ absurd (grind (arith, same, parts, there))
      | inr apart ↦ (grind (arith, apart, parts, there), λ e. grind (arith, (Decides-int_eq x m).1 e, apart))
    ]

-- what is below a member of the others, without the least one
others_below : (s : IntSet) (v : ℤ) → 0 < size s → set.remove (below s v) (least s) ≡ below (others s) v
others_below s v some = same_by_members _ _
    (λ x h. let r = of_remove (below s v) (least s) x h in let b = of_below s v x r.0 in in_below (others s) v x (others_have s x b.0 r.1) b.1)
    (λ x h. let b = of_below (others s) v x h in let o = in_others s x b.0 in in_remove (below s v) (least s) x (in_below s v x o.0 b.1) (differ x o.1))
  where
    differ : (x : ℤ) → least s <ℤ x → x ≡ least s → ⊥
    differ x less e = grind (arith, ints, less, e)

-- the member that so many members are below
pub nth_at : (n : ℕ) (s : IntSet) (v : ℤ) → contains s v ≡ true → size (below s v) ≡ n → v ≡ nth_member s n
unfolding nth_member
nth_at zero s v there none = least_is s v there (λ w inside. elim (order v w) [
  | inl le ↦ le
  | inr less ↦ absurd (let some = size_above_zero (below s v) w (in_below s v w inside less) in omega arith)
]) where
  order : (v w : ℤ) → (v ≤ℤ w) ⊎ (w <ℤ v)
  order v w = grind (arith, ints)
nth_at (suc n) s v there count =
    let m = member_of_size (below s v) (omega arith) in
    let low = of_below s v m.0 m.1 in
    let above : least s <ℤ v = between (least s) m.0 v (least_le s m.0 low.0) low.1 in
    let some = size_above_zero s v there in
    let fewer = size-remove (below s v) (least s) (in_below s v (least s) (least_member s some) above) in
    nth_at n (others s) v (others_have s v there (differ v above)) (omega (arith, ap size (others_below s v some)))
  where
    between : (a b c : ℤ) → a ≤ℤ b → b <ℤ c → a <ℤ c
    between a b c h k = omega (arith, ints)

    differ : (v : ℤ) → least s <ℤ v → v ≡ least s → ⊥
    differ v less e = grind (arith, ints, less, e)

-- each member has a number
pub nth_found : (n : ℕ) (s : IntSet) (v : ℤ) → size s ≤ n → contains s v ≡ true → (k : ℕ) × (k < size s) × (nth_member s k ≡ v)
unfolding nth_member
nth_found zero s v few there = absurd (omega (arith, size_above_zero s v there))
nth_found (suc n) s v few there = elim (cases_Bool (int_eq v (least s))) [
  | inl same ↦ (0, size_above_zero s v there, sym ((Decides-int_eq v (least s)).0 same))
  | inr apart ↦
      let some = size_above_zero s v there in
      let count = size-others s some in
      let rest = nth_found n (others s) v (omega arith) (others_have s v there (λ e. grind (arith, (Decides-int_eq v (least s)).1 e, apart))) in
      (suc rest.0, omega (arith, rest.1), rest.2)
]

-- ---- choices by number

value_found : (sets : List IntSet) (term : Term) (x : ℤ) → MayBe sets term x → (k : ℕ) × (k < count_of sets term) × (nth_value sets term k ≡ x)
value_found sets (Constant k) x may = (0, omega arith, may)
value_found sets (Variable var) x may = nth_found (size (set_of sets var)) (set_of sets var) x (omega arith) may

digit : (count k rest : ℕ) → k < count → (k + count * rest) % count ≡ k
digit count k rest below = add-mul-mod_self_left k count rest ∙ mod-eq_of_lt below

digits_behind : (count k rest : ℕ) → k < count → (k + count * rest) / count ≡ rest
digits_behind count k rest below = let zero_times : k / count ≡ 0 = div-eq_of_lt below in add-mul-div_left k rest {y = count} (omega arith) ∙ omega arith

fewer : (count k rest all : ℕ) → k < count → rest < all → k + count * rest < count * all
fewer count k rest all below less = let more : count * (rest + 1) ≤ count * all = mul-le-mul_left count (omega arith) in omega arith

-- each choice has a number
pub choice_found : (sets : List IntSet) (terms : List Term) (choice : List ℤ) → IsChoice sets terms choice → (n : ℕ) × (n < choices sets terms) × (choice_at sets terms n ≡ choice)
unfolding value_in rest_in
choice_found sets [] [] is = (0, omega arith, refl)
choice_found sets [] (x ∷ choice) is = absurd is
choice_found sets (term ∷ terms) [] is = absurd is
choice_found sets (term ∷ terms) (x ∷ choice) is =
    let here = value_found sets term x is.0 in
    let behind = choice_found sets terms choice is.1 in
    let count = count_of sets term in
    let number = here.0 + count * behind.0 in
    let first : nth_value sets term (number % count) ≡ x = ap (nth_value sets term) (digit count here.0 behind.0 here.1) ∙ here.2 in
    let rest : choice_at sets terms (number / count) ≡ choice = ap (choice_at sets terms) (digits_behind count here.0 behind.0 here.1) ∙ behind.2 in
    (number, fewer count here.0 behind.0 (choices sets terms) here.1 behind.1, ap (λ v. v ∷ choice_at sets terms (number / count)) first ∙ ap (λ rest. x ∷ rest) rest)

pub some_count : (sets : List IntSet) (term : Term) → is_some_empty sets ≡ false → IsTerm (length sets) term → 0 < count_of sets term
some_count sets (Constant k) none formed = omega arith
some_count sets (Variable var) none formed = some_value sets var none formed

pub MayBe-value_in : (sets : List IntSet) (term : Term) (n : ℕ) → is_some_empty sets ≡ false → IsTerm (length sets) term → MayBe sets term (value_in sets term n)
unfolding value_in
MayBe-value_in sets (Constant k) n none formed = refl
MayBe-value_in sets (Variable var) n none formed = nth_is_member (n % size (set_of sets var)) (set_of sets var) (mod-lt n (some_value sets var none formed))

-- each number has a choice
pub IsChoice-choice_at : (sets : List IntSet) (terms : List Term) (n : ℕ) → is_some_empty sets ≡ false → All (IsTerm (length sets)) terms → IsChoice sets terms (choice_at sets terms n)
IsChoice-choice_at sets [] n none formed = tt
IsChoice-choice_at sets (term ∷ terms) n none formed = (MayBe-value_in sets term n none (All-head (IsTerm (length sets)) term terms formed), IsChoice-choice_at sets terms (rest_in sets term n) none (All-tail (IsTerm (length sets)) term terms formed))

pub some_choice : (sets : List IntSet) (terms : List Term) → is_some_empty sets ≡ false → All (IsTerm (length sets)) terms → 0 < choices sets terms
some_choice sets [] none formed = omega arith
some_choice sets (term ∷ terms) none formed =
    let first = some_count sets term none (All-head (IsTerm (length sets)) term terms formed) in
    let rest = some_choice sets terms none (All-tail (IsTerm (length sets)) term terms formed) in
    product_some (count_of sets term) (choices sets terms) first rest
  where
    product_some : (a b : ℕ) → 0 < a → 0 < b → 0 < a * b
    product_some a b some_a some_b = let more : a * 1 ≤ a * b = mul-le-mul_left a (omega arith) in omega arith

pub choices-append : (sets : List IntSet) (front back : List Term) → choices sets (front ++ back) ≡ choices sets front * choices sets back
choices-append sets [] back = omega arith
choices-append sets (term ∷ front) back = ap (λ n. count_of sets term * n) (choices-append sets front back) ∙ omega arith
