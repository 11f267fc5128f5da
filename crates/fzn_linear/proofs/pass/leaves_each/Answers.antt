use Rattle.std.proofs.Common.{◌≡◌, ◌≤◌, rules, arith, ap, ◌∙◌, unsigned_abs, ℤ, pos, ◌-ℤ◌, w64, to_z, of_z, FitsSigned}
use Rattle.std.proofs.lemmas.Int.{ints, to_z-of_z, fits_signed_from_abs}
use Rattle.fzn_sum.specs.Opposite.{opposites}
use Rattle.fzn_linear.proofs.PassLemmas.{equal_left}
use Rattle.fzn_linear.proofs.pass.leaves_each.Goals as goal

-- as the code has it
negative : (a : ℤ) → unsigned_abs a ≤ 1000000001 → to_z w64 (of_z w64 (pos 0 -ℤ to_z w64 (of_z w64 a))) ≡ pos 0 -ℤ a
negative a small =
    let other : unsigned_abs (pos 0 -ℤ a) ≤ 1000000001 = grind (arith, ints) in
    ap (λ (z : ℤ). to_z w64 (of_z w64 (pos 0 -ℤ z))) (to_z-of_z w64 a (fits_signed_from_abs w64 a (omega arith)))
    ∙ to_z-of_z w64 (pos 0 -ℤ a) (fits_signed_from_abs w64 (pos 0 -ℤ a) (omega arith))

pub is_tight-requires-then-is_tight : goal.is_tight-requires-then-is_tight
is_tight-requires-then-is_tight c = (c.turned.ensures c.requires.ends.0 c.args.sum.now.places c.requires.ends.1).least_bounded

pub returns-then-is_tight : goal.returns-then-is_tight
returns-then-is_tight c = λ tight sets are.
    let sum = c.args.sum.now in
    let fits : FitsSigned w64 c.args.sum.now.bound = search rules in
    let above = c.is_tight-in-Equal.ensures c.if-is_tight.true sets sum.places are in
    let below = c.is_tight-then-is_tight.ensures tight sets (opposites sum.places) (c.turned.ensures sets sum.places are) in
    equal_left sets sum _ _ c.in-Equal.is (to_z-of_z w64 sum.bound fits) (negative sum.bound c.requires.bounded) above below
