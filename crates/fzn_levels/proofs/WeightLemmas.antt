-- What a part weighs, least weights and levels, and weights together.
use Rattle.std.proofs.Common.{◌≡◌, ℕ, ◌+◌, ◌*◌, ◌<◌, ◌≤◌, List, [], ◌∷◌, ◌++◌, take, unsigned_abs, length, get_or, refl, sym, ap, ◌∙◌, inl, inr, arith, ℤ, pos, negsuc, ◌+ℤ◌, ◌-ℤ◌, ◌*ℤ◌, ◌≤ℤ◌, ◌<ℤ◌, Option, None, Some}
use Rattle.std.proofs.lemmas.Int.{ints}
use Rattle.std.proofs.lemmas.Bool.{cases_lt}
use Rattle.std.proofs.lemmas.List.{get_or_past, take_more}
use Rattle.fzn_domain.specs.IntSet.{IntSet}
use Rattle.fzn_meaning.specs.declared.row.Listed.{Listed}
use Rattle.fzn_meaning.specs.declared.row.VariablePart.{VariablePart}
use Rattle.fzn_meaning.specs.declared.row.Part.{Part}
use Rattle.fzn_meaning.specs.Separable.{entry_in, weighed, weight_at}
use Rattle.fzn_rules.specs.Separable.{IsLeastOf, IsWeightIn}
use Rattle.fzn_terms.proofs.ProductLemmas.{mono_up, mono_down}
use Rattle.fzn_levels.specs.Levels.{IsWeight, sum_of, IsNoLighter}

pub some_is : (a b : ℤ) → ◌≡◌ {A = Option ℤ} (Some a) (Some b) → a ≡ b
some_is a b e = cc

pub none_some : (w : ℤ) → ◌≡◌ {A = Option ℤ} None (Some w) → ⊥
none_some w e = cc

-- ---- a part without a list

module _ (part : VariablePart) (plain : part.listed ≡ None) where
  pub plain_weight : (v : ℤ) → weight_at part v ≡ Some (part.coefficient *ℤ v +ℤ pos 0)
  plain_weight v = rw plain refl

  plain_is : (v w : ℤ) → weight_at part v ≡ Some w → w ≡ part.coefficient *ℤ v
  plain_is v w is = let e = some_is _ _ (sym (plain_weight v) ∙ is) in omega (arith, ints)

  -- it weighs more at a greater value, or at a lesser one
  pub plain_up : (a b x y : ℤ) → pos 0 ≤ℤ part.coefficient → a ≤ℤ b → weight_at part a ≡ Some x → weight_at part b ≡ Some y → x ≤ℤ y
  plain_up a b x y sign le is_x is_y =
      let e = plain_is a x is_x in
      let f = plain_is b y is_y in
      let m = mono_up part.coefficient a b sign le in
      omega (arith, ints, e, f, m)

  pub plain_down : (a b x y : ℤ) → part.coefficient <ℤ pos 0 → a ≤ℤ b → weight_at part a ≡ Some x → weight_at part b ≡ Some y → y ≤ℤ x
  plain_down a b x y sign le is_x is_y =
      let e = plain_is a x is_x in
      let f = plain_is b y is_y in
      let m = mono_down part.coefficient a b sign le in
      omega (arith, ints, e, f, m)

  -- from a number on, or up to it, none weighs less than a level, if none does there
  pub from_on : (low level : ℤ) → pos 0 ≤ℤ part.coefficient → ((w : ℤ) → weight_at part low ≡ Some w → level ≤ℤ w) → (v weight : ℤ) → low ≤ℤ v → weight_at part v ≡ Some weight → level ≤ℤ weight
  from_on low level sign here v weight le is =
      let start = here _ (plain_weight low) in
      let more = plain_up low v _ weight sign le (plain_weight low) is in
      omega (arith, ints, start, more)

  pub up_to : (high level : ℤ) → part.coefficient <ℤ pos 0 → ((w : ℤ) → weight_at part high ≡ Some w → level ≤ℤ w) → (v weight : ℤ) → v ≤ℤ high → weight_at part v ≡ Some weight → level ≤ℤ weight
  up_to high level sign here v weight le is =
      let start = here _ (plain_weight high) in
      let more = plain_down v high weight _ sign le is (plain_weight high) in
      omega (arith, ints, start, more)

pub at_weight : (found : Option ℤ) (own w level : ℤ) → found ≡ Some own → found ≡ Some w → level ≤ℤ own → level ≤ℤ w
at_weight found own w level is also le = let same = some_is own w (sym is ∙ also) in omega (arith, ints)

-- ---- a part with a list

module _ (part : VariablePart) (listed : Listed) (of : part.listed ≡ Some listed) where
  listed_weight : (v : ℤ) → weight_at part v ≡ weighed part.coefficient v (entry_in listed.weights (v -ℤ listed.low))
  listed_weight v = rw of refl

  apart : (k : ℕ) → (listed.low +ℤ pos k) -ℤ listed.low ≡ pos k
  apart k = omega (arith, ints)

  pub entry_weighs : (k : ℕ) → weight_at part (listed.low +ℤ pos k) ≡ weighed part.coefficient (listed.low +ℤ pos k) (get_or listed.weights k None)
  entry_weighs k = listed_weight (listed.low +ℤ pos k) ∙ ap (λ (at : ℤ). weighed part.coefficient (listed.low +ℤ pos k) (entry_in listed.weights at)) (apart k)

  back : (v : ℤ) (k : ℕ) → v -ℤ listed.low ≡ pos k → v ≡ listed.low +ℤ pos k
  back v k e = omega (arith, ints)

  at_distance : (v w distance : ℤ) → v -ℤ listed.low ≡ distance → weighed part.coefficient v (entry_in listed.weights distance) ≡ Some w → (k : ℕ) × (k < length listed.weights) × (v ≡ listed.low +ℤ pos k)
  at_distance v w (pos k) is weighs = elim (cases_lt k (length listed.weights)) [
    | inl below ↦ (k, below, back v k is)
    | inr past ↦ absurd (none_some w (ap (weighed part.coefficient v) (sym (get_or_past listed.weights k None past)) ∙ weighs))
  ]
  at_distance v w (negsuc k) is weighs = absurd (none_some w weighs)

  -- a value that is not barred is listed
  pub listed_only : (v w : ℤ) → weight_at part v ≡ Some w → (k : ℕ) × (k < length listed.weights) × (v ≡ listed.low +ℤ pos k)
  listed_only v w is = at_distance v w (v -ℤ listed.low) refl (sym (listed_weight v) ∙ is)

-- ---- least weights and levels

module _ (sets : List IntSet) (part : Part) where
  trans : (a b c : ℤ) → a ≤ℤ b → b ≤ℤ c → a ≤ℤ c
  trans a b c h k = omega (arith, ints)

  pub of_least : (least level : ℤ) → IsLeastOf (IsWeightIn sets part) (Some least) → level ≤ℤ least → IsNoLighter sets part (Some level)
  of_least least level is below w at = trans level least w below (is.1 w at)

  pub least_above : (least level : ℤ) → IsLeastOf (IsWeightIn sets part) (Some least) → IsNoLighter sets part (Some level) → level ≤ℤ least
  least_above least level is none = none least is.0

-- ---- how far from 0

pub bounded_more : (i : ℕ) (before more after : ℤ) → unsigned_abs before ≤ i * 9223372036855775808000000000000 → IsWeight more → after ≡ before +ℤ more → unsigned_abs after ≤ (i + 1) * 9223372036855775808000000000000
bounded_more i before more after so_far here is =
    let both : unsigned_abs (before +ℤ more) ≤ unsigned_abs before + unsigned_abs more = grind (arith, ints) in
    let same = ap unsigned_abs is in
    omega arith

-- ---- sums

sum-push : (xs : List ℤ) (x : ℤ) → sum_of (xs ++ x ∷ []) ≡ sum_of xs +ℤ x
sum-push [] x = omega (arith, ints)
sum-push (y ∷ xs) x = let e = sum-push xs x in omega (arith, ints)

pub sum-more : (xs : List ℤ) (i : ℕ) (d : ℤ) → i < length xs → sum_of (take (i + 1) xs) ≡ sum_of (take i xs) +ℤ get_or xs i d
sum-more xs i d inside = ap sum_of (take_more xs i d inside) ∙ sum-push (take i xs) (get_or xs i d)
