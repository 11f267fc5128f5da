use Rattle.std.proofs.Common.{arith, ◌≡◌, true, sym, ap, ◌∙◌, w64, to_z, of_z}
use Rattle.std.proofs.lemmas.Int.{ints}
use Rattle.std.proofs.lemmas.Bool.{true≢false}
use mir.Syntax.{w128}
use Rattle.fzn_domain.specs.IntSet.{contains}
use Rattle.fzn_meaning.specs.Separable.{weight_at}
use Rattle.fzn_weights.proofs.MoveLemmas.{weight-inside, weight-outside}
use Rattle.fzn_weights.proofs.moves.weight_within.Goals as goal

pub returns-then-is_empty-clause-value : goal.returns-then-is_empty-clause-value
returns-then-is_empty-clause-value c = weight-outside c.args.set.now c.args.part.now c.args.number (λ inside. true≢false (sym inside ∙ c.is_empty.ensures.none c.if-is_empty.true c.args.number))

pub returns-then-number-min-clause-value : goal.returns-then-number-min-clause-value
returns-then-number-min-clause-value c = weight-outside c.args.set.now c.args.part.now c.args.number (λ inside. let first = c.min.ensures.first c.args.number inside in omega (arith, ints))

pub returns-then-number-max-clause-value : goal.returns-then-number-max-clause-value
returns-then-number-max-clause-value c = weight-outside c.args.set.now c.args.part.now c.args.number (λ inside. let last = c.max.ensures.last c.args.number inside in omega (arith, ints))

pub returns-then-contains-clause-value : goal.returns-then-contains-clause-value
returns-then-contains-clause-value c =
    let passed : to_z w64 (of_z w64 (to_z w128 (of_z w128 c.args.number))) ≡ c.args.number = omega (arith, ints) in
    let inside : contains c.args.set.now c.args.number ≡ true = ap (contains c.args.set.now) (sym passed) ∙ sym c.contains.ensures ∙ c.if-contains.true in
    c.weight_at.ensures.value ∙ ap (weight_at c.args.part.now) passed ∙ sym (weight-inside c.args.set.now c.args.part.now c.args.number inside)

pub returns-else-contains-clause-value : goal.returns-else-contains-clause-value
returns-else-contains-clause-value c =
    let passed : to_z w64 (of_z w64 (to_z w128 (of_z w128 c.args.number))) ≡ c.args.number = omega (arith, ints) in
    weight-outside c.args.set.now c.args.part.now c.args.number (λ inside. true≢false (sym inside ∙ ap (contains c.args.set.now) (sym passed) ∙ sym c.contains.ensures ∙ c.if-contains.false))
