use Rattle.std.proofs.Common.{List, Option, ap, ◌∙◌, ℤ, pos, ◌-ℤ◌, w64, IfSome}
use Rattle.std.proofs.lemmas.Int.{to_z-of_z}
use Rattle.std.proofs.lemmas.Result.{IfOk-weaker}
use Rattle.std.proofs.lemmas.Option.{IfSome_then}
use Rattle.fzn_domain.specs.declared.literal.Lit.{Lit}
use Rattle.fzn_meaning.specs.declared.relation.Comparison.TheVariants.{AtMost, Equal}
use Rattle.fzn_sum.specs.Refuted.{IsRefutation}
use Rattle.fzn_sum.proofs.RefutedLemmas.{refutes_below}
use Rattle.fzn_sum.proofs.inequality.refute_equal.Goals as goal

pub returns-clause-found : goal.returns-clause-found
returns-clause-found c =
    let trail = c.args.trail.now in
    let places = c.args.places.now in
    let below = c.turned.result in
    IfOk-weaker c.refute-2.result (λ (found : Option (List Lit)). IfSome found (IsRefutation below.trail.now AtMost below.places.now below.bound)) (λ (found : Option (List Lit)). IfSome found (IsRefutation trail Equal places c.args.number))
    (λ found some. IfSome_then found some (λ clause refutes.
    refutes_below trail places c.args.number below clause (c.turned.ensures.trail ∙ c.new-above.ensures.trail) (c.turned.ensures.places ∙ c.requires.places.opposite_is) (c.turned.ensures.bound ∙ ap (λ (z : ℤ). pos 0 -ℤ z) (c.new-above.ensures.bound ∙ to_z-of_z w64 c.args.number c.ranges.number)) refutes))
    c.refute-2.ensures.found
