-- The values of types and literals are within the limits.
use Rattle.std.proofs.Common.{◌≡◌, true, ◌&&◌, ℤ, pos, ◌≤ℤ◌, int_le, List, [], ◌∷◌, length, inl, inr, refl, sym, ◌∙◌, subst, arith, int_cmp}
use Rattle.std.specs.List.{All}
use Rattle.std.specs.Ordering.{int_eq}
use Rattle.std.specs.List.{list_any}
use Rattle.std.specs.Ordering.{eq_by_cmp}
use Rattle.std.proofs.lemmas.Bool.{cases_Bool, or_cases}
use Rattle.std.proofs.lemmas.Bool.Decides.{Decides-int_eq}
use Rattle.std.proofs.lemmas.Int.{ints}
use Rattle.std.proofs.lemmas.List.Elements.{All-nil, All-cons, All-head, All-tail}
use Rattle.fzn_domain.specs.IntSet.{contains, no_values, range}
use Rattle.fzn_domain.specs.Limits.{IsInLimits, IsLimited}
use Rattle.fzn_domain.proofs.AscendingLemmas.{contains-from_list}
use Rattle.fzn_domain.proofs.SetLemmas.{contains-range, contains-no_values}
use Rattle.fzn_meaning.specs.Meaning.{IsBit}
use Rattle.fzn_meaning.specs.Solutions.{declared_sets}
use Rattle.fzn_names.specs.Limits.{AreValuesWithin, IsBaseWithin, IsVarWithin}
use Rattle.fzn_names.specs.Values.{listed_set}
use Rattle.fzn_names.specs.Variables.{values_in, base_values, vars_of}
use Rattle.fzn_tree.specs.declared.tree.Base.{Base}
use Rattle.fzn_tree.specs.declared.tree.Base.TheVariants as bases
use Rattle.fzn_tree.specs.declared.tree.Values.{Values}
use Rattle.fzn_tree.specs.declared.tree.Values.TheVariants as values_are
use Rattle.fzn_tree.specs.declared.tree.Var.{Var}
use Rattle.fzn_tree.specs.declared.tree.Var.TheVariants as vars

between : (low high x : ℤ) → (int_le low x && int_le x high) ≡ true → (low ≤ℤ x) × (x ≤ℤ high)
between low high x h = (grind (arith, ints), grind (arith, ints))

bit : (x : ℤ) → pos 0 ≤ℤ x → x ≤ℤ pos 1 → IsBit x
bit x h k = elim (cases_Bool (int_eq x (pos 0))) [
  | inl e ↦ inl (grind (arith, ints))
  | inr e ↦ inr (grind (arith, ints))
]

pub bit_in_range : (x : ℤ) → contains (range (pos 0) (pos 1)) x ≡ true → IsBit x
bit_in_range x h = let parts = between (pos 0) (pos 1) x (sym (contains-range (pos 0) (pos 1) x) ∙ h) in bit x parts.0 parts.1

pub range-limited : (low high : ℤ) → IsInLimits low → IsInLimits high → IsLimited (range low high)
range-limited low high l h x inside =
    let parts = between low high x (sym (contains-range low high x) ∙ inside) in
    (omega (arith, ints), omega (arith, ints))

pub zero_in_limits : IsInLimits (pos 0)
zero_in_limits = (omega (arith, ints), omega (arith, ints))

pub one_in_limits : IsInLimits (pos 1)
one_in_limits = (omega (arith, ints), omega (arith, ints))

pub none_limited : IsLimited no_values
none_limited x inside = let none = contains-no_values x in cc

member-limited : (xs : List ℤ) (x : ℤ) → All IsInLimits xs → list_any (eq_by_cmp int_cmp x) xs ≡ true → IsInLimits x
member-limited [] x within h = cc
member-limited (y ∷ xs) x within h = elim (or_cases (eq_by_cmp int_cmp x y) (list_any (eq_by_cmp int_cmp x) xs) h) [
  | inl e ↦ let same : x ≡ y = (Decides-int_eq x y).0 e in subst IsInLimits (sym same) (All-head IsInLimits y xs within)
  | inr inside ↦ member-limited xs x (All-tail IsInLimits y xs within) inside
]

pub listed_set-limited : (xs : List ℤ) → All IsInLimits xs → IsLimited (listed_set xs)
listed_set-limited xs within x inside = member-limited xs x within (sym (contains-from_list xs x) ∙ inside)

pub values_in-limited : (values : Values) → AreValuesWithin values → IsLimited (values_in values)
values_in-limited (values_are.Range r) within = range-limited r.low.value r.high within.0 within.1
values_in-limited (values_are.Listed xs) within = listed_set-limited xs within

pub values-limited : (base : Base) → IsBaseWithin base → IsLimited (base_values base)
values-limited bases.Bool within = range-limited (pos 0) (pos 1) zero_in_limits one_in_limits
values-limited (bases.Int position) within = none_limited
values-limited (bases.Values values) within = values_in-limited values within
values-limited (bases.Set position values) within = none_limited

pub sets-limited : (all : List Var) → All IsVarWithin all → All IsLimited (declared_sets (vars_of all))
sets-limited [] within = All-nil IsLimited
sets-limited (vars.Single var ∷ more) within =
    All-cons IsLimited (base_values var.base) (declared_sets (vars_of more)) (values-limited var.base (All-head IsVarWithin (vars.Single var) more within).0) (sets-limited more (All-tail IsVarWithin (vars.Single var) more within))
sets-limited (vars.Array var ∷ more) within = sets-limited more (All-tail IsVarWithin (vars.Array var) more within)

pub length-declared_sets : (all : List Var) → length (declared_sets (vars_of all)) ≡ length (vars_of all)
length-declared_sets [] = refl
length-declared_sets (vars.Single var ∷ more) = let rest = length-declared_sets more in grind (arith, rest)
length-declared_sets (vars.Array var ∷ more) = length-declared_sets more
