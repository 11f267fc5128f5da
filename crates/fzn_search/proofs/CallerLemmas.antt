-- What a caller may cite of decisions and of fixed variables.
use Rattle.std.proofs.Common.{◌≡◌, ◌-◌, ◌<◌, ℤ, pos, List, length, get_or, ◌∙◌, arith, All}
use Rattle.std.proofs.lemmas.Bool.{ltb-true}
use Rattle.std.proofs.lemmas.List.Elements.{All-from_get_or}
use Rattle.fzn_domain.specs.declared.literal.Lit.{Lit}
use Rattle.fzn_domain.specs.Literal.{negated}
use Rattle.fzn_domain.specs.IntSet.{IntSet, size, kept, no_values}
use Rattle.fzn_domain.specs.Limits.{IsInLimits, IsLimited}
use Rattle.fzn_domain.specs.Narrow.{IsWithin, set_of}
use Rattle.fzn_domain.proofs.SetLemmas.{size-kept_parts}
use Rattle.fzn_trail.specs.Levels.{IsNarrower}
use Rattle.fzn_search.specs.Fixed.{AllFixed, Splits}

-- a literal that splits a set, and variables that are all fixed, exclude each other
pub Splits-not_fixed : (sets : List IntSet) (lit : Lit) → Splits sets lit → AllFixed sets → ⊥
Splits-not_fixed sets lit splits fixed =
    let s : IntSet = set_of sets lit.var in
    let var = splits.variable in
    let one : size s ≡ 1 = fixed (lit.var.0 - 1) no_values (omega arith) in
    let some_true : 0 < size (kept s lit) = ltb-true 0 (size (kept s lit)) splits.is_open.0 in
    let some_false : 0 < size (kept s (negated lit)) = ltb-true 0 (size (kept s (negated lit))) splits.is_open.1 in
    omega (arith, size-kept_parts s lit)

-- values within the present sets lie within the declared ones, and within the limits
pub IsWithin-narrower : (sets declared : List IntSet) (values : List ℤ) → IsNarrower sets declared → IsWithin sets values → IsWithin declared values
IsWithin-narrower sets declared values narrower within = record {
  one_each = within.one_each ∙ narrower.one_each;
  inside = λ k below. narrower.within k (get_or values k (pos 0)) (within.inside k (omega (arith, narrower.one_each)));
}

pub in_limits-within : (declared : List IntSet) (values : List ℤ) → All IsLimited declared → IsWithin declared values → All IsInLimits values
in_limits-within declared values limited within =
    All-from_get_or IsInLimits values (pos 0) (λ k below.
    let in_sets : k < length declared = omega (arith, within.one_each) in
    limited k no_values in_sets (get_or values k (pos 0)) (within.inside k in_sets))
