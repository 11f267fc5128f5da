use mir.Syntax.{w128}
use Rattle.std.proofs.Common.{rules, arith, ◌≡◌, sym, subst, ℤ, ◌≤ℤ◌, Some, FitsSigned, w64, to_z, of_z}
use Rattle.std.proofs.lemmas.Int.{ints, to_z-of_z}
use Rattle.fzn_meaning.specs.Separable.{weight_at}
use Rattle.fzn_separable.proofs.values.find_beyond.Goals as goal

pub find_without-requires-clause-heavy : goal.find_without-requires-clause-heavy
find_without-requires-clause-heavy c = λ sets all weight at.
    let fits : FitsSigned w128 c.in-Some.weight = search rules in
    let near = c.requires.near in
    let bits : to_z w64 (of_z w64 c.args.claim.number) ≡ c.args.claim.number = omega (arith, ints, near.0, near.1) in
    let own : weight_at c.args.part.now c.args.claim.number ≡ Some c.in-Some.weight = cc (c.weight_at.ensures.value, c.in-Some.is) in
    subst (λ (x : ℤ). x ≤ℤ weight) (sym (to_z-of_z w128 c.in-Some.weight fits)) (c.requires.heavy c.in-Some.weight own sets all weight at)
