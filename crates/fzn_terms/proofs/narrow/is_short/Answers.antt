use Rattle.std.proofs.Common.{◌≡◌, ◌↔◌, ◌*◌, ◌≤◌, IsTrue, ℕ, ℤ, pos, ◌-ℤ◌, ◌≤ℤ◌, int_le, to_z, of_z, w64, min, sym, subst, arith}
use Rattle.std.proofs.lemmas.Int.{ints}
use Rattle.fzn_domain.specs.Limits.{IsInLimits}
use Rattle.fzn_domain.proofs.DomainLemmas.{real}
use Rattle.fzn_terms.specs.declared.narrow.TheConstants.{SPAN_OF_A_VALUE, LONGEST_SPAN}
use Rattle.fzn_terms.proofs.narrow.is_short.Goals as goal

-- as the machine reckons it
span_computed : (low high : ℤ) (longest : ℕ) → IsInLimits low → IsInLimits high → longest ≤ 4095 → IsTrue (int_le (to_z w64 (of_z w64 (high -ℤ low))) (to_z w64 longest)) ↔ ((high -ℤ low) ≤ℤ pos longest)
span_computed low high longest l h short = (λ told. grind (arith, ints, l.0, l.1, h.0, h.1), λ told. grind (arith, ints, l.0, l.1, h.0, h.1))

pub returns : goal.returns
returns c =
    let low = c.args.ends.low in
    let high = c.args.ends.high in
    let longest : c.min-longest.result ≡ min (c.args.count * SPAN_OF_A_VALUE) LONGEST_SPAN = omega (arith, c.saturating_mul.ensures, c.min-longest.ensures) in
    let computed = span_computed low high c.min-longest.result c.requires.0 c.requires.1 (omega (arith, c.min-longest.ensures)) in
    rw (real low c.requires.0, real high c.requires.1) (
      λ told. subst (λ (n : ℕ). (high -ℤ low) ≤ℤ pos n) longest (computed.0 told),
      λ told. computed.1 (subst (λ (n : ℕ). (high -ℤ low) ≤ℤ pos n) (sym longest) told),
    )
