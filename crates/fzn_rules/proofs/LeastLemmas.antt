-- The least weight of a variable at the values of a set.
use Rattle.std.proofs.Common.{◌^◌, ◌≡◌, ◌⊎◌, ℕ, ◌+◌, ◌*◌, ◌<◌, ◌≤◌, Bool, true, false, cond, length, get_or, refl, sym, ap, ◌∙◌, subst, inl, inr, arith, ℤ, pos, negsuc, ◌+ℤ◌, ◌-ℤ◌, ◌*ℤ◌, ◌≤ℤ◌, ◌<ℤ◌, int_lt, Option, None, Some, IfSome, unsigned_abs}
use Rattle.std.proofs.lemmas.Int.{ints}
use Rattle.std.proofs.lemmas.Bool.{false≢true, cases_lt}
use Rattle.std.proofs.lemmas.List.{get_or_past}
use Rattle.fzn_domain.specs.IntSet.{IntSet, contains}
use Rattle.fzn_meaning.specs.declared.row.Listed.{Listed}
use Rattle.fzn_meaning.specs.declared.row.VariablePart.{VariablePart}
use Rattle.fzn_meaning.specs.Separable.{entry_in, weighed, weight_at}
use Rattle.fzn_rules.specs.Separable.{IsLeastOf, IsVariableWeightIn}
use Rattle.fzn_rules.specs.Least.{IsProductIn, IsListedWeightIn, lesser}
use Rattle.fzn_rules.proofs.ProductLemmas.{mono_up, mono_down}

-- ---- the least of some numbers

pub least-same : (P Q : ℤ → Type 0) (least : Option ℤ) → ((w : ℤ) → P w → Q w) → ((w : ℤ) → Q w → P w) → IsLeastOf P least → IsLeastOf Q least
least-same P Q None there back none = λ w q. none w (back w q)
least-same P Q (Some least) there back h = (there least h.0, λ w q. h.1 w (back w q))

least_of_two : (a b w : ℤ) → (a ≤ℤ w) ⊎ (b ≤ℤ w) → cond (int_lt b a) b a ≤ℤ w
least_of_two a b w h = grind (arith, ints, h)

which : (P Q : ℤ → Type 0) (a b : ℤ) → P a → Q b → P (cond (int_lt b a) b a) ⊎ Q (cond (int_lt b a) b a)
which P Q a b p q = pick (int_lt b a)
  where
    pick : (test : Bool) → P (cond test b a) ⊎ Q (cond test b a)
    pick true = inr q
    pick false = inl p

pub least-or : (P Q : ℤ → Type 0) (a b : Option ℤ) → IsLeastOf P a → IsLeastOf Q b → IsLeastOf (λ w. P w ⊎ Q w) (lesser a b)
least-or P Q None None p q = λ w h. elim h [ inl x ↦ p w x | inr y ↦ q w y ]
least-or P Q None (Some b) p q = (inr q.0, λ w h. elim h [ inl x ↦ absurd (p w x) | inr y ↦ q.1 w y ])
least-or P Q (Some a) None p q = (inl p.0, λ w h. elim h [ inl x ↦ p.1 w x | inr y ↦ absurd (q w y) ])
least-or P Q (Some a) (Some b) p q = (
  which P Q a b p.0 q.0,
  λ w h. least_of_two a b w (elim h [ inl x ↦ inl (p.1 w x) | inr y ↦ inr (q.1 w y) ]),
)

-- the lesser is no larger than both may be
pub lesser-bounded : (a b : Option ℤ) → IfSome a (λ x. unsigned_abs x ≤ 1000000000000 * 2 ^ 63 + 1000000000000000000) → IfSome b (λ x. unsigned_abs x ≤ 1000000000000 * 2 ^ 63 + 1000000000000000000) → IfSome (lesser a b) (λ x. unsigned_abs x ≤ 1000000000000 * 2 ^ 63 + 1000000000000000000)
lesser-bounded None b p q = q
lesser-bounded (Some a) None p q = p
lesser-bounded (Some a) (Some b) p q = pick (int_lt b a)
  where
    pick : (test : Bool) → unsigned_abs (cond test b a) ≤ 1000000000000 * 2 ^ 63 + 1000000000000000000
    pick true = q
    pick false = p

at_most : (a b : ℤ) → a ≡ b → a ≤ℤ b
at_most a b e = omega (arith, ints)

least-one : (weight : Option ℤ) → IsLeastOf (λ w. weight ≡ Some w) weight
least-one None = λ w e. cc
least-one (Some a) = (refl, λ w e. at_most a w (cc))

-- ---- products

product_down : (c top v : ℤ) → c <ℤ pos 0 → v ≤ℤ top → (c *ℤ top) ≤ℤ (c *ℤ v)
product_down (pos n) top v sign h = absurd (omega (arith, ints))
product_down (negsuc n) top v sign h = mono_down n v top h

product_up : (c bottom v : ℤ) → pos 0 ≤ℤ c → bottom ≤ℤ v → (c *ℤ bottom) ≤ℤ (c *ℤ v)
product_up (pos n) bottom v sign h = mono_up n bottom v h
product_up (negsuc n) bottom v sign h = absurd (omega (arith, ints))

least_here : (x y least w : ℤ) → least ≡ x → x ≤ℤ y → w ≡ y → least ≤ℤ w
least_here x y least w a b c = omega (arith, ints)

pub least-down : (set : IntSet) (c top least : ℤ) → c <ℤ pos 0 → contains set top ≡ true → ((v : ℤ) → contains set v ≡ true → v ≤ℤ top) → least ≡ c *ℤ top → IsLeastOf (IsProductIn set c) (Some least)
least-down set c top least sign member last is = ((top, member, is), λ w at. least_here _ _ least w is (product_down c top at.0 sign (last at.0 at.1)) at.2)

pub least-up : (set : IntSet) (c bottom least : ℤ) → pos 0 ≤ℤ c → contains set bottom ≡ true → ((v : ℤ) → contains set v ≡ true → bottom ≤ℤ v) → least ≡ c *ℤ bottom → IsLeastOf (IsProductIn set c) (Some least)
least-up set c bottom least sign member first is = ((bottom, member, is), λ w at. least_here _ _ least w is (product_up c bottom at.0 sign (first at.0 at.1)) at.2)

-- ---- the numbers of a list

-- what one of the first so many numbers weighs, where it is in the set
abbrev pub IsWeightBefore : IntSet → ℤ → Listed → ℕ → ℤ → Type 0
IsWeightBefore set c listed count w = (k : ℕ) × (k < count) × (contains set (listed.low +ℤ pos k) ≡ true) × (weighed c (listed.low +ℤ pos k) (get_or listed.weights k None) ≡ Some w)

module _ (set : IntSet) (c : ℤ) (listed : Listed) where
  pub before-none : IsLeastOf (IsWeightBefore set c listed 0) None
  before-none w (k, below, member, is) = omega arith

  module _ (i : ℕ) (least : Option ℤ) (so_far : IsLeastOf (IsWeightBefore set c listed i) least) where
    earlier : (w : ℤ) → IsWeightBefore set c listed i w → IsWeightBefore set c listed (i + 1) w
    earlier w (k, below, member, is) = (k, omega arith, member, is)

    pub before-skip : contains set (listed.low +ℤ pos i) ≡ false → IsLeastOf (IsWeightBefore set c listed (i + 1)) least
    before-skip out = least-same (IsWeightBefore set c listed i) (IsWeightBefore set c listed (i + 1)) least earlier (λ w at. elim (cases_lt at.0 i) [
      | inl below ↦ (at.0, below, at.2, at.3)
      | inr past ↦
          let same : at.0 ≡ i = omega (arith, at.1) in
          absurd (false≢true (sym out ∙ ap (λ (k : ℕ). contains set (listed.low +ℤ pos k)) (sym same) ∙ at.2))
    ]) so_far

    pub before-more : (weight : Option ℤ) → contains set (listed.low +ℤ pos i) ≡ true → weight ≡ weighed c (listed.low +ℤ pos i) (get_or listed.weights i None) → IsLeastOf (IsWeightBefore set c listed (i + 1)) (lesser least weight)
    before-more weight member is =
        least-same (λ w. IsWeightBefore set c listed i w ⊎ (weight ≡ Some w)) (IsWeightBefore set c listed (i + 1)) (lesser least weight)
        (λ w h. elim h [ inl at ↦ earlier w at | inr here ↦ (i, omega arith, member, sym is ∙ here) ])
        (λ w at. elim (cases_lt at.0 i) [
          | inl below ↦ inl (at.0, below, at.2, at.3)
          | inr past ↦
              let same : at.0 ≡ i = omega (arith, at.1) in
              inr (is ∙ ap (λ (k : ℕ). weighed c (listed.low +ℤ pos k) (get_or listed.weights k None)) (sym same) ∙ at.3)
        ])
        (least-or (IsWeightBefore set c listed i) (λ w. weight ≡ Some w) least weight so_far (least-one weight))

  apart : (k : ℕ) → (listed.low +ℤ pos k) -ℤ listed.low ≡ pos k
  apart k = omega (arith, ints)

  back : (v : ℤ) (k : ℕ) → v -ℤ listed.low ≡ pos k → v ≡ listed.low +ℤ pos k
  back v k e = omega (arith, ints)

  listed_there : (w : ℤ) → IsWeightBefore set c listed (length listed.weights) w → IsListedWeightIn set c listed w
  listed_there w (k, below, member, is) = (listed.low +ℤ pos k, member, ap (λ (at : ℤ). weighed c (listed.low +ℤ pos k) (entry_in listed.weights at)) (apart k) ∙ is)

  by_distance : (v w distance : ℤ) → v -ℤ listed.low ≡ distance → contains set v ≡ true → weighed c v (entry_in listed.weights distance) ≡ Some w → IsWeightBefore set c listed (length listed.weights) w
  by_distance v w (pos k) is member weighs = elim (cases_lt k (length listed.weights)) [
    | inl below ↦ (k, below, subst (λ (x : ℤ). contains set x ≡ true) (back v k is) member, subst (λ (x : ℤ). weighed c x (get_or listed.weights k None) ≡ Some w) (back v k is) weighs)
    | inr past ↦ absurd (nothing (ap (weighed c v) (sym (get_or_past listed.weights k None past)) ∙ weighs))
  ]
    where
      nothing : ◌≡◌ {A = Option ℤ} None (Some w) → ⊥
      nothing e = cc
  by_distance v w (negsuc k) is member weighs = absurd (cc)

  pub before-all : (least : Option ℤ) → IsLeastOf (IsWeightBefore set c listed (length listed.weights)) least → IsLeastOf (IsListedWeightIn set c listed) least
  before-all least h = least-same (IsWeightBefore set c listed (length listed.weights)) (IsListedWeightIn set c listed) least listed_there (λ w at. by_distance at.0 w (at.0 -ℤ listed.low) refl at.1 at.2) h

-- ---- a variable's part

plain : (c v : ℤ) → (c *ℤ v) +ℤ pos 0 ≡ c *ℤ v
plain c v = omega (arith, ints)

pub least-plain : (set : IntSet) (part : VariablePart) (least : Option ℤ) → part.listed ≡ None → IsLeastOf (IsProductIn set part.coefficient) least → IsLeastOf (IsVariableWeightIn set part) least
least-plain set part least none h = least-same (IsProductIn set part.coefficient) (IsVariableWeightIn set part) least
    (λ w at. (at.0, at.1, is_at at.0 ∙ ap (λ (x : ℤ). Some x) (sym at.2)))
    (λ w at. (at.0, at.1, some_is _ _ (sym at.2 ∙ is_at at.0))) h
  where
    is_at : (v : ℤ) → weight_at part v ≡ Some (part.coefficient *ℤ v)
    is_at v = rw none (ap (λ (x : ℤ). Some x) (plain part.coefficient v))

    some_is : (a b : ℤ) → ◌≡◌ {A = Option ℤ} (Some a) (Some b) → a ≡ b
    some_is a b e = cc

pub least-listed : (set : IntSet) (part : VariablePart) (listed : Listed) (least : Option ℤ) → part.listed ≡ Some listed → IsLeastOf (IsListedWeightIn set part.coefficient listed) least → IsLeastOf (IsVariableWeightIn set part) least
least-listed set part listed least some h = least-same (IsListedWeightIn set part.coefficient listed) (IsVariableWeightIn set part) least
    (λ w at. (at.0, at.1, is_at at.0 ∙ at.2))
    (λ w at. (at.0, at.1, sym (is_at at.0) ∙ at.2)) h
  where
    is_at : (v : ℤ) → weight_at part v ≡ weighed part.coefficient v (entry_in listed.weights (v -ℤ listed.low))
    is_at v = rw some refl
