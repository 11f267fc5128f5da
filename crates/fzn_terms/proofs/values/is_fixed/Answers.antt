use Rattle.std.proofs.Common.{◌≡◌, arith, sym, ◌∙◌, ℤ, w64, of_z, nat_eq, IsTrue}
use Rattle.std.proofs.lemmas.Int.{ints}
use Rattle.fzn_domain.specs.Limits.{IsInLimits}
use Rattle.fzn_terms.proofs.values.is_fixed.Goals as goal

same_bits : (a b : ℤ) → IsInLimits a → IsInLimits b → IsTrue (nat_eq (of_z w64 a) (of_z w64 b)) → a ≡ b
same_bits a b h k told = grind (arith, ints)

bits_same : (a b : ℤ) → a ≡ b → IsTrue (nat_eq (of_z w64 a) (of_z w64 b))
bits_same a b e = grind (arith, ints)

pub returns : goal.returns
returns c = (
  λ told. sym c.least_of.ensures.value ∙ same_bits _ _ c.least_of.ensures.in_limits c.greatest_of.ensures.in_limits told ∙ c.greatest_of.ensures.value,
  λ one. bits_same _ _ (c.least_of.ensures.value ∙ one ∙ sym c.greatest_of.ensures.value),
)
