use Rattle.std.proofs.Common.{◌≡◌, ◌⊎◌, ℕ, ℤ, ◌<ℤ◌, ◌≤ℤ◌, to_z, of_z, w64, arith, sym, subst}
use Rattle.std.proofs.lemmas.Int.{ints}
use Rattle.std.proofs.lemmas.Option.{IfSome_then}
use Rattle.fzn_domain.specs.declared.literal.Op.TheVariants.{Equal}
use Rattle.fzn_domain.proofs.DomainLemmas.{real}
use Rattle.fzn_clauses.specs.Keys.{operator_at, IsStill}
use Rattle.fzn_clauses.proofs.FallenLemmas.{at_most_still, at_least_still, equation_still}
use Rattle.fzn_clauses.proofs.PlaceLemmas.{operator_of_equation}
use Rattle.fzn_clauses.proofs.state.fallen_numbers.Goals as goal

pub returns-then-place-eq0-clause-fallen : goal.returns-then-place-eq0-clause-fallen
returns-then-place-eq0-clause-fallen c = record {
  others = λ var v outside.
      subst (λ (p : ℕ). IsStill c.args.before.now c.args.entry c.args.domain.now (record { var = var; op = operator_at p; value = v })) (sym c.if-place-eq0.true)
      (at_most_still c.args.before.now c.args.domain.now c.args.entry var v c.min.result c.min-then-place-eq0.result c.min.ensures.first c.min-then-place-eq0.ensures.member
      (subst (λ (w : ℤ). (v <ℤ w) ⊎ (c.min-then-place-eq0.result ≤ℤ v)) (real _ c.min.ensures.in_limits)
      (subst (λ (w : ℤ). (v <ℤ to_z w64 (of_z w64 c.min.result)) ⊎ (w ≤ℤ v)) (real _ c.min-then-place-eq0.ensures.in_limits) outside)));
}

pub returns-then-place-eq1-clause-fallen : goal.returns-then-place-eq1-clause-fallen
returns-then-place-eq1-clause-fallen c = record {
  others = λ var v outside.
      subst (λ (p : ℕ). IsStill c.args.before.now c.args.entry c.args.domain.now (record { var = var; op = operator_at p; value = v })) (sym c.if-place-eq1.true)
      (at_least_still c.args.before.now c.args.domain.now c.args.entry var v c.max.result c.max-then-place-eq1.result _ _ c.max.ensures.member c.max-then-place-eq1.ensures.last
      (omega (arith, ints, c.max.ensures.in_limits)) (omega (arith, ints, c.max-then-place-eq1.ensures.in_limits)) outside);
}

pub returns-then-entry-lt9223372036854775807-clause-fallen : goal.returns-then-entry-lt9223372036854775807-clause-fallen
returns-then-entry-lt9223372036854775807-clause-fallen c =
    let equal : operator_at c.args.place ≡ Equal = operator_of_equation c.args.place (omega arith) (omega arith) in
    IfSome_then c.taken_out.result c.taken_out.ensures (λ fallen out. record {
      others = λ var v outside. equation_still c.args.before.now c.args.domain.now c.args.entry var v (operator_at c.args.place) equal (out v outside);
    })
